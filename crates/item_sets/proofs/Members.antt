-- What membership says of set numbers: unions, differences, single items, sizes, and that the members determine the number.
-- Assumes nothing.
use Rattle.std.proofs.Common.{◌≡◌, ℕ, zero, suc, ◌+◌, ◌/◌, ◌%◌, ◌^◌, ◌<◌, ◌≤◌, ◌≢◌, ◌⊎◌, ◌↔◌, refl, ap, pow-suc, arith, pow_pos}
use Rattle.std.specs.Int.{bit_at}
use Rattle.std.specs.Prelude.{bit_or}
use Rattle.std.proofs.lemmas.Nat.{le_or_l, shr-shr, shr_split, mod_below}
use Rattle.std.proofs.lemmas.Nat.Bits.{bit_at_lowest, bit_at-suc, bit_at_ones, bit_at_ones_above, bit_at_above, same_from_bits}
use native.Mathlib.Decide.{ℕ_discrete}
use lib.Count.{ones, ones_step, count_trailing_zeros}
use Rattle.item_sets.specs.Sets.{◌∈◌, ◌∉◌, ◌⊆◌, Members, ◌∪◌, ◌∖◌, ◌⊕◌, ◌⊖◌, first, below, Least}
use Rattle.item_sets.proofs.Bits.{bit_less, set_bits, trailing_set, trailing_clear}

pub ∈_dec : (i X : ℕ) → Dec (i ∈ X)
unfolding ◌∈◌
∈_dec i X = ℕ_discrete (bit_at X i) 1

-- ---- two set numbers with the same members are the same number

pub ⊆_antisym : (X Y : ℕ) → X ⊆ Y → Y ⊆ X → X ≡ Y
unfolding ◌∈◌
⊆_antisym X Y f g = same_from_bits X Y (λ i. grind (arith, set_bits, f i, g i))

pub same_members : (X Y : ℕ) (P : ℕ → Type 0) → Members X P → Members Y P → X ≡ Y
same_members X Y P f g = ⊆_antisym X Y (λ i h. (g i).1 ((f i).0 h)) (λ i h. (f i).1 ((g i).0 h))

pub ⊆_refl : (X : ℕ) → X ⊆ X
⊆_refl X i h = h

pub ⊆_trans : (X Y Z : ℕ) → X ⊆ Y → Y ⊆ Z → X ⊆ Z
⊆_trans X Y Z f g i h = g i (f i h)

-- ---- the empty set

pub ∉_empty : (i : ℕ) → i ∉ 0
unfolding ◌∈◌
∉_empty i h = grind (arith, set_bits)

pub empty_⊆ : (X : ℕ) → 0 ⊆ X
empty_⊆ X i h = absurd (∉_empty i h)

-- ---- unions and differences

pub ∈-∪ : (X Y : ℕ) → Members (X ∪ Y) (λ i. (i ∈ X) ⊎ (i ∈ Y))
unfolding ◌∪◌ ◌∈◌
∈-∪ X Y i = grind (arith, set_bits)

pub ∈-∖ : (X Y : ℕ) → Members (X ∖ Y) (λ i. (i ∈ X) × (i ∉ Y))
unfolding ◌∖◌ ◌∈◌
∈-∖ X Y i = grind (arith, set_bits)

pub ⊆-∪_left : (X Y : ℕ) → X ⊆ X ∪ Y
⊆-∪_left X Y i h = grind (arith, ∈-∪)

pub ⊆-∪_right : (X Y : ℕ) → Y ⊆ X ∪ Y
⊆-∪_right X Y i h = grind (arith, ∈-∪)

pub ∪-⊆ : (X Y Z : ℕ) → X ⊆ Z → Y ⊆ Z → X ∪ Y ⊆ Z
∪-⊆ X Y Z f g i h = grind (arith, ∈-∪ X Y i, f i, g i)

pub ∪_mono : (X Y Z W : ℕ) → X ⊆ Z → Y ⊆ W → X ∪ Y ⊆ Z ∪ W
∪_mono X Y Z W f g i h = grind (arith, ∈-∪ X Y i, ∈-∪ Z W i, f i, g i)

pub inside_iff_none : (X Y : ℕ) → (X ∖ Y ≡ 0) ↔ (X ⊆ Y)
unfolding ◌∖◌ ◌∈◌
inside_iff_none X Y = (λ z i h. grind (arith, set_bits, bit_less X Y i), λ f. same_from_bits _ 0 (λ i. grind (arith, set_bits, f i)))

pub ⊆_dec : (X Y : ℕ) → Dec (X ⊆ Y)
⊆_dec X Y =
    let both = inside_iff_none X Y in
    elim (ℕ_discrete (X ∖ Y) 0) [ yes z ↦ yes (both.0 z) | no n ↦ no (λ f. n (both.1 f)) ]

-- ---- single items

pub ∈-with : (X i : ℕ) → Members (X ⊕ i) (λ j. (j ∈ X) ⊎ (j ≡ i))
unfolding ◌⊕◌ ◌∪◌ ◌∈◌
∈-with X i j = grind (arith, set_bits)

pub ∈-without : (X i : ℕ) → Members (X ⊖ i) (λ j. (j ∈ X) × (j ≡ i → ⊥))
unfolding ◌⊖◌ ◌∖◌ ◌∈◌
∈-without X i j = grind (arith, set_bits)

pub with_has : (X i : ℕ) → i ∈ X ⊕ i
with_has X i = grind (arith, ∈-with)

pub ⊆-with : (X i : ℕ) → X ⊆ X ⊕ i
⊆-with X i j h = grind (arith, ∈-with)

pub with-⊆ : (X i Y : ℕ) → X ⊆ Y → i ∈ Y → X ⊕ i ⊆ Y
with-⊆ X i Y f h j k = grind (arith, ∈-with X i j, f j)

-- adding an item that is there, and taking away what was just added, change nothing
pub with_present : (X i : ℕ) → i ∈ X → X ⊕ i ≡ X
with_present X i h = same_members _ _ _ (∈-with X i) (λ j. grind arith)

pub without-with : (X i : ℕ) → i ∉ X → (X ⊕ i) ⊖ i ≡ X
without-with X i n = same_members _ _ _ (∈-without (X ⊕ i) i) (λ j. grind (arith, ∈-with X i j))

pub with-without : (X i : ℕ) → i ∈ X → (X ⊖ i) ⊕ i ≡ X
with-without X i h = same_members _ _ _ (∈-with (X ⊖ i) i) (λ j. grind (arith, ∈-without X i j))

-- the lowest bit that is set is the least item
pub trailing_least : (k X : ℕ) → X ≢ 0 → X < 2 ^ k → Least X (count_trailing_zeros k X)
unfolding ◌∈◌
trailing_least k X some fits = (trailing_set k X some fits, λ j m. grind (arith, trailing_clear k X j))

-- ---- bounds: the members are below k exactly when the number is below 2 ^ k

pub members_below : (X k : ℕ) → X < 2 ^ k → (i : ℕ) → i ∈ X → i < k
unfolding ◌∈◌
members_below X k h i m = grind (arith, bit_at_above)

pub number_below : (X k : ℕ) → ((i : ℕ) → i ∈ X → i < k) → X < 2 ^ k
unfolding ◌∈◌
number_below X k f =
    let none : X / 2 ^ k ≡ 0 = same_from_bits _ 0 (λ i. grind (arith, set_bits, f (k + i), shr-shr X k i)) in
    grind (arith, shr_split X k, mod_below X (2 ^ k), pow_pos k)

pub ∈-first : (n : ℕ) → Members (first n) (λ i. i < n)
unfolding first ◌∈◌
∈-first n i = grind (arith, bit_at_ones, bit_at_ones_above)

-- a part is the smaller number
pub ⊆_le : (X Y : ℕ) → X ⊆ Y → X ≤ Y
unfolding ◌∈◌
⊆_le X Y f =
    let whole : bit_or X Y ≡ Y = same_from_bits _ _ (λ i. grind (arith, set_bits, f i)) in
    omega (arith, le_or_l X Y)

-- and a smaller one where an item is missing
pub part_lt : (X Y i : ℕ) → X ⊆ Y → i ∈ Y → i ∉ X → X < Y
part_lt X Y i f h n = grind (arith, ⊆_le X Y f)

pub without_lt : (X i : ℕ) → i ∈ X → X ⊖ i < X
without_lt X i h = part_lt _ X i (λ j m. grind (arith, ∈-without X i j)) h (λ m. grind (arith, ∈-without X i i))

-- ---- how many items there are

pub below_le : (X k : ℕ) → below X k ≤ k
unfolding below
below_le X zero = omega arith
below_le X (suc k) = grind (arith, set_bits, below_le X k)

-- a part has no more of them, and as many only where nothing is missing
bit_le : (X Y : ℕ) → X ⊆ Y → (k : ℕ) → bit_at X k ≤ bit_at Y k
unfolding ◌∈◌
bit_le X Y f k = grind (arith, set_bits, f k)

pub below_mono : (X Y : ℕ) → X ⊆ Y → (k : ℕ) → below X k ≤ below Y k
unfolding below
below_mono X Y f zero = omega arith
below_mono X Y f (suc k) = omega (arith, below_mono X Y f k, bit_le X Y f k)

pub below_full : (X Y : ℕ) → X ⊆ Y → (k : ℕ) → below X k ≡ below Y k → (i : ℕ) → i < k → i ∈ Y → i ∈ X
unfolding below ◌∈◌
below_full X Y f zero e i h m = absurd (omega arith)
below_full X Y f (suc k) e i h m = grind (arith, below_full X Y f k, below_mono X Y f k, bit_le X Y f k)

-- one item more
below-with_past : (X i k : ℕ) → k ≤ i → below (X ⊕ i) k ≡ below X k
unfolding below ◌⊕◌ ◌∪◌
below-with_past X i zero h = refl
below-with_past X i (suc k) h = grind (arith, set_bits, below-with_past X i k)

pub below-with : (X i k : ℕ) → i ∉ X → i < k → below (X ⊕ i) k ≡ suc (below X k)
unfolding below ◌⊕◌ ◌∪◌ ◌∈◌
below-with X i zero n h = absurd (omega arith)
below-with X i (suc k) n h = grind (arith, set_bits, below-with X i k n, below-with_past X i k)

pub below-first : (n k : ℕ) → k ≤ n → below (first n) k ≡ k
unfolding below first
below-first n zero h = refl
below-first n (suc k) h = grind (arith, below-first n k, bit_at_ones)

-- `ones` counts from the lowest bit
below_half : (X k : ℕ) → below X (suc k) ≡ X % 2 + below (X / 2) k
unfolding below
below_half X zero = omega (arith, bit_at_lowest X)
below_half X (suc k) = omega (arith, below_half X k, bit_at-suc X k)

pub ones_below : (k X : ℕ) → X < 2 ^ k → ones X ≡ below X k
unfolding ones below
ones_below zero X h = let e : X ≡ 0 = omega arith in ap ones e
ones_below (suc k) X h = omega (arith, ones_step X, ones_below k (X / 2), pow-suc 2 k, below_half X k)
