use Rattle.trees.proofs.Completing.{counting, counted_more, counted_all, ahead_falls}
use Rattle.trees.proofs.count.count.Goals as goal

pub loop-next-init : goal.loop-next-init
loop-next-init g c = counting (g.met.T.Tree.laws c.args.tree.now) c.first_due-next.ensures

pub loop-next-smaller : goal.loop-next-smaller
loop-next-smaller g c = ahead_falls (g.met.T.Tree.laws c.args.tree.now) _ c.in-Some.is c.next_wanted-next.ensures

pub loop-next-preserved : goal.loop-next-preserved
loop-next-preserved g c =
    counted_more c.loop-next.invariant c.in-Some.is c.next_wanted-next.ensures c.saturating_add-count.ensures

pub returns : goal.returns
returns g c = counted_all c.loop-next.invariant c.in_default.is
