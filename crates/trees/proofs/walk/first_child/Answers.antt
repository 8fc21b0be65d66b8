use Rattle.trees.proofs.Walking.{none_below_more, none_found}
use Rattle.trees.proofs.walk.first_child.Goals as goal

pub loop-letter-preserved : goal.loop-letter-preserved
loop-letter-preserved g c = none_below_more c.loop-letter.invariant c.in_default.ensures

pub returns : goal.returns
returns g c = none_found c.loop-letter.invariant (g.met.T.Tree.laws c.args.tree.now) c.loop-letter-test.false
