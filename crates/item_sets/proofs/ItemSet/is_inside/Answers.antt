use Rattle.std.proofs.Common.{rules, arith}
use Rattle.std.proofs.lemmas.Bool.Decides.{nat_tests}
use Rattle.item_sets.specs.Sets.{◌∖◌}
use Rattle.item_sets.proofs.Bits.{and_not}
use Rattle.item_sets.proofs.Members.{inside_iff_none}
use Rattle.item_sets.proofs.ItemSet.is_inside.Goals as goal

pub returns : goal.returns
unfolding ◌∖◌
returns c =
    let X = c.args.self.number in
    let Y = c.args.other.number in
    rw (and_not 32 X Y (search rules) (search rules)) (grind (arith, nat_tests, inside_iff_none X Y))
