use Rattle.std.proofs.Common.{arith}
use Rattle.item_sets.specs.Sets.{◌∈◌}
use Rattle.item_sets.proofs.Bits.{set_bits}
use Rattle.item_sets.proofs.ItemSet.intersection.Goals as goal

pub returns : goal.returns
unfolding ◌∈◌
returns c i = grind (arith, set_bits)
