use Rattle.std.proofs.lemmas.List.{set-get_or}
use Rattle.trees.proofs.Filling.{filling, filled_more, written_all}
use Rattle.trees.proofs.tray.fill.Goals as goal

pub loop-written-init : goal.loop-written-init
loop-written-init g c = filling (g.met.T.Tree.laws c.args.tree.now) c.first_due-next.ensures

pub loop-written-preserved : goal.loop-written-preserved
loop-written-preserved g c = filled_more c.loop-written.invariant c.in-Some.is c.loop-written-test.true c.next_wanted-next.ensures

pub returns-in_default : goal.returns-in_default
returns-in_default g c = rw set-get_or (written_all c.loop-written.invariant c.in_default.is)
