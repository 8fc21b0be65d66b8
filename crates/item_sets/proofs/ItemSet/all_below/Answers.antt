use Rattle.std.proofs.Common.{refl, arith}
use Rattle.std.proofs.lemmas.Nat.{one_shl}
use Rattle.item_sets.specs.Sets.{first}
use Rattle.item_sets.proofs.Members.{∈-first}
use Rattle.item_sets.proofs.ItemSet.all_below.Goals as goal

pub returns-then-n-lt32 : goal.returns-then-n-lt32
unfolding first
returns-then-n-lt32 c =
    let lt = c.if-n-lt32.true in
    rw one_shl record { members = λ i. grind (arith, lt, ∈-first c.args.n i); number = λ _. refl }

pub returns-else-n-lt32-clause-members : goal.returns-else-n-lt32-clause-members
unfolding first
returns-else-n-lt32-clause-members c i = grind (arith, ∈-first 32 i)
