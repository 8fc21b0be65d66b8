use Rattle.trees.proofs.Walking.{NoneBelow}
use Rattle.trees.proofs.walk.first_child.Given as goal

abbrev pub invariant-loop-letter : goal.invariant-loop-letter
invariant-loop-letter g l = NoneBelow (g.T.Tree.shape l.tree) l.node l.least l.letter
