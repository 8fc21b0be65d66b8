use Rattle.trees.proofs.Passing.{Passed, remaining}
use Rattle.trees.proofs.walk.next_wanted.Given as goal

abbrev pub invariant-loop-next : goal.invariant-loop-next
invariant-loop-next g l = Passed (g.met.T.Tree.laws l.tree) l.initial.last l.last

abbrev pub decreases-loop-next : goal.decreases-loop-next
decreases-loop-next g l = remaining (g.met.T.Tree.laws l.tree) l.last
