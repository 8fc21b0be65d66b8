use Rattle.std.proofs.Common.{refl}
use Rattle.item_sets.specs.Sets.{◌∪◌}
use Rattle.item_sets.proofs.Members.{∈-∪}
use Rattle.item_sets.proofs.ItemSet.union.Goals as goal

pub returns : goal.returns
unfolding ◌∪◌
returns c = record { members = ∈-∪ _ _; number = refl }
