use Rattle.std.proofs.Common.{rules}
use Rattle.item_sets.specs.Sets.{◌∖◌}
use Rattle.item_sets.proofs.Bits.{and_not}
use Rattle.item_sets.proofs.Members.{∈-∖}
use Rattle.item_sets.proofs.ItemSet.difference.Goals as goal

pub returns : goal.returns
unfolding ◌∖◌
returns c =
    let e = and_not 32 c.args.self.number c.args.other.number (search rules) (search rules) in
    record { members = rw e (∈-∖ _ _); number = e }
