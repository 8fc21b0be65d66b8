use Rattle.trees.proofs.Walking.{Climbed, depth}
use Rattle.trees.proofs.walk.next_node.Given as goal

abbrev pub invariant-loop-parent : goal.invariant-loop-parent
invariant-loop-parent g l = Climbed (g.met.T.Tree.laws l.tree) l.initial.done l.done

abbrev pub decreases-loop-parent : goal.decreases-loop-parent
decreases-loop-parent g l = depth (g.met.T.Tree.laws l.tree) l.done
