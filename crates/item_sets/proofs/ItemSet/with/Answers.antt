use Rattle.std.proofs.Common.{refl, arith}
use Rattle.std.proofs.lemmas.Nat.{one_shl}
use Rattle.item_sets.specs.Sets.{◌⊕◌, ◌∪◌}
use Rattle.item_sets.proofs.Members.{∈-with}
use Rattle.item_sets.proofs.ItemSet.with.Goals as goal

pub returns-then-item-lt32 : goal.returns-then-item-lt32
unfolding ◌⊕◌ ◌∪◌
returns-then-item-lt32 c =
    let lt = c.if-item-lt32.true in
    rw one_shl record { members = λ j. grind (arith, lt, ∈-with c.args.self.number c.args.item j); number = λ _. refl }
