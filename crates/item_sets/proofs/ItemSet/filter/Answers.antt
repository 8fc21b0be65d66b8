use Rattle.std.proofs.Common.{rules}
use Rattle.item_sets.proofs.Filtering.{none_filtered, all_filtered, kept_more, passed_over}
use Rattle.item_sets.proofs.ItemSet.filter.Goals as goal

pub loop-item-init : goal.loop-item-init
loop-item-init g c = none_filtered _ _ _ cc

pub loop-item-preserved-then-keep : goal.loop-item-preserved-then-keep
loop-item-preserved-then-keep g c =
    kept_more _ _ _ _ _ _ c.loop-item.invariant c.in-Some.ensures.steps _ (search rules) (search rules) (search rules)

pub loop-item-preserved : goal.loop-item-preserved
loop-item-preserved g c = passed_over _ _ _ _ _ _ c.loop-item.invariant c.in-Some.ensures.steps (search rules)

pub returns-clause-others : goal.returns-clause-others
returns-clause-others g c = all_filtered _ _ _ _ c.in-None.ensures.steps.0 c.loop-item.invariant
