-- Laws of unions, of single items beside them, and of the empty set.
-- Assumes nothing.
use Rattle.std.proofs.Common.{◌≡◌, ℕ, zero, suc, ◌^◌, sym, refl, arith}
use Rattle.std.proofs.lemmas.Nat.{or_comm}
use Rattle.std.proofs.lemmas.Nat.Bits.{bit_at-zero, bit_at_or, same_from_bits}
use lib.Bits.{or_zero_l, or_zero_r}
use Rattle.item_sets.specs.Sets.{◌⊆◌, ◌∪◌, ◌⊕◌, below}
use Rattle.item_sets.proofs.Members.{⊆_antisym, ⊆_refl, ∪-⊆, ⊆-∪_right, ∪_mono}

-- ---- unions

pub ∪_empty_left : (X : ℕ) → 0 ∪ X ≡ X
unfolding ◌∪◌
∪_empty_left = or_zero_l

pub ∪_empty_right : (X : ℕ) → X ∪ 0 ≡ X
unfolding ◌∪◌
∪_empty_right = or_zero_r

-- a part of the one adds nothing
pub ∪_part : (X Y : ℕ) → X ⊆ Y → X ∪ Y ≡ Y
∪_part X Y f = ⊆_antisym _ _ (∪-⊆ X Y Y f (⊆_refl Y)) (⊆-∪_right X Y)

pub ∪_comm : (X Y : ℕ) → X ∪ Y ≡ Y ∪ X
unfolding ◌∪◌
∪_comm = or_comm

pub ∪_assoc : (X Y Z : ℕ) → (X ∪ Y) ∪ Z ≡ X ∪ (Y ∪ Z)
unfolding ◌∪◌
∪_assoc X Y Z = same_from_bits _ _ (λ i. simp bit_at_or (omega arith))

∪_swap : (X Y Z : ℕ) → (X ∪ Y) ∪ Z ≡ (X ∪ Z) ∪ Y
unfolding ◌∪◌
∪_swap X Y Z = same_from_bits _ _ (λ i. simp bit_at_or (omega arith))

-- the union of two unions, taken the other way about
pub ∪_cross : (X Y Z W : ℕ) → (X ∪ Y) ∪ (Z ∪ W) ≡ (X ∪ Z) ∪ (Y ∪ W)
unfolding ◌∪◌
∪_cross X Y Z W = same_from_bits _ _ (λ i. simp bit_at_or (omega arith))

-- ---- single items

pub with_mono : (X Y i : ℕ) → X ⊆ Y → X ⊕ i ⊆ Y ⊕ i
unfolding ◌⊕◌
with_mono X Y i f = ∪_mono X (2 ^ i) Y (2 ^ i) f (⊆_refl (2 ^ i))

pub with_swap : (X i j : ℕ) → (X ⊕ i) ⊕ j ≡ (X ⊕ j) ⊕ i
unfolding ◌⊕◌
with_swap X i j = ∪_swap X (2 ^ i) (2 ^ j)

pub with-∪ : (X i Y : ℕ) → (X ⊕ i) ∪ Y ≡ (X ∪ Y) ⊕ i
unfolding ◌⊕◌
with-∪ X i Y = ∪_swap X (2 ^ i) Y

pub ∪-with : (X Y i : ℕ) → X ∪ (Y ⊕ i) ≡ (X ∪ Y) ⊕ i
unfolding ◌⊕◌
∪-with X Y i = sym (∪_assoc X Y (2 ^ i))

-- ---- how many items there are

pub below_empty : (k : ℕ) → below 0 k ≡ 0
unfolding below
below_empty zero = refl
below_empty (suc k) = omega (arith, below_empty k, bit_at-zero k)
