use Rattle.trees.proofs.Completing.{CountedSoFar, ahead}
use Rattle.trees.proofs.count.count.Given as goal

abbrev pub invariant-loop-next : goal.invariant-loop-next
invariant-loop-next g l = CountedSoFar (g.met.T.Tree.laws l.tree) l.count l.next

abbrev pub decreases-loop-next : goal.decreases-loop-next
decreases-loop-next g l = ahead (g.met.T.Tree.laws l.tree) l.next
