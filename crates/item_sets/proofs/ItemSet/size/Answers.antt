use Rattle.std.proofs.Common.{rules}
use Rattle.item_sets.specs.Sets.{size}
use Rattle.item_sets.proofs.Members.{ones_below}
use Rattle.item_sets.proofs.ItemSet.size.Goals as goal

pub returns : goal.returns
unfolding size
returns c = ones_below 32 _ (search rules)
