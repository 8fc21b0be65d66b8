use Rattle.std.proofs.lemmas.Bool.Decides.{not_from_Decides}
use Rattle.trees.proofs.Passing.{root_due, after_root}
use Rattle.trees.proofs.walk.first_due.Goals as goal

pub returns-then-is_wanted : goal.returns-then-is_wanted
returns-then-is_wanted g c =
    root_due (g.met.T.Tree.laws c.args.tree.now) c.in-None.is c.root-root.ensures (c.is_wanted.ensures.0 c.if-is_wanted.true)

pub returns-else-is_wanted : goal.returns-else-is_wanted
returns-else-is_wanted g c =
    after_root (g.met.T.Tree.laws c.args.tree.now) _ c.in-None.is c.root-root.ensures (not_from_Decides _ c.is_wanted.ensures c.if-is_wanted.false) c.next_wanted-else-is_wanted.ensures
