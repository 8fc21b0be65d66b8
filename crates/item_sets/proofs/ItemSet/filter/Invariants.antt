use Rattle.item_sets.proofs.Filtering.{Filtered}
use Rattle.item_sets.proofs.ItemSet.filter.Given as goal

abbrev pub invariant-loop-item : goal.invariant-loop-item
invariant-loop-item g l = Filtered (λ i b. goal.F-post g l.keep i b) l.fn.self.number l.item-iterator.rest.number l.kept.number
