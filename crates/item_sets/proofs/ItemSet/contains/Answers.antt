use Rattle.std.proofs.Common.{rules, arith}
use Rattle.std.proofs.lemmas.Bool.Decides.{nat_tests}
use Rattle.std.proofs.lemmas.Nat.Bits.{shr_and_one}
use Rattle.item_sets.specs.Sets.{◌∈◌}
use Rattle.item_sets.proofs.Members.{members_below}
use Rattle.item_sets.proofs.ItemSet.contains.Goals as goal

pub returns-then-item-lt32 : goal.returns-then-item-lt32
unfolding ◌∈◌
returns-then-item-lt32 c = grind (arith, nat_tests, shr_and_one)

pub returns-else-item-lt32 : goal.returns-else-item-lt32
returns-else-item-lt32 c = grind (arith, nat_tests, members_below c.args.self.number 32 (search rules))
