-- The bits of set numbers: those of a difference, and the lemmas that the laws of sets follow from.
-- Assumes nothing.
use Rattle.std.proofs.Common.{◌≡◌, ℕ, zero, suc, ◌-◌, ◌/◌, ◌%◌, ◌^◌, ◌<◌, ◌≢◌, ◌⊎◌, sym, refl, ap, ◌∙◌, inl, inr, pow-suc, pow_pos, arith}
use Rattle.std.specs.Int.{bit_at}
use Rattle.std.specs.Prelude.{bit_and, bit_xor}
use Rattle.std.proofs.lemmas.Nat.{and_assoc, and_comm, and-not}
use Rattle.std.proofs.lemmas.Nat.Bits.{bit_at_lowest, bit_at-suc, bit_at_and, bit_at_or, bit_at_xor, bit_at-lt, bit_at-zero, bit_at-pow_same, bit_at-pow_other}
use lib.Bits.{and_self, xor_add_and}
use lib.Count.{count_trailing_zeros, under}

pub zero_or_one : (b : ℕ) → b < 2 → (b ≡ 0) ⊎ (b ≡ 1)
zero_or_one zero lt = inl refl
zero_or_one (suc zero) lt = inr refl
zero_or_one (suc (suc b)) lt = absurd (omega arith)

-- nothing is borrowed, so the number that is left has the bits that X has and Y has not
pub bit_less : (X Y i : ℕ) → bit_at (X - bit_and X Y) i ≡ bit_at X i - bit_at Y i
bit_less X Y i =
    let twice : bit_and X (bit_and X Y) ≡ bit_and X Y = rw (← and_assoc Y X X, and_self) in
    let left : X - bit_and X Y ≡ bit_xor X (bit_and X Y) = omega (arith, xor_add_and X (bit_and X Y)) in
    rw (left, bit_at_xor, bit_at_and) (omega (arith, bit_at-lt X i, bit_at-lt Y i))

-- the bits that Y lacks, of k
pub bit_not : (k Y i : ℕ) → Y < 2 ^ k → i < k → bit_at ((2 ^ k - 1) - Y) i ≡ 1 - bit_at Y i
bit_not zero Y i h lt = absurd (omega arith)
bit_not (suc k) Y zero h lt = omega (arith, bit_at_lowest ((2 ^ suc k - 1) - Y), bit_at_lowest Y, pow-suc 2 k, pow_pos k)
bit_not (suc k) Y (suc i) h lt =
    let half : ((2 ^ suc k - 1) - Y) / 2 ≡ (2 ^ k - 1) - Y / 2 = omega (arith, pow-suc 2 k, pow_pos k) in
    bit_at-suc ((2 ^ suc k - 1) - Y) i ∙ ap (λ (n : ℕ). bit_at n i) half
    ∙ bit_not k (Y / 2) i (omega (arith, pow-suc 2 k)) (omega arith)
    ∙ ap (λ (n : ℕ). 1 - n) (sym (bit_at-suc Y i))

-- `x & !y` at k bits is what x has and y has not
pub and_not : (k X Y : ℕ) → X < 2 ^ k → Y < 2 ^ k → bit_and X ((2 ^ k - 1) - Y) ≡ X - bit_and X Y
and_not k X Y hx hy = omega (arith, and-not k Y X hy hx, and_comm X ((2 ^ k - 1) - Y), and_comm X Y)

-- a bit of an intersection, a union, a difference, the empty set and a single item
pub ruleset set_bits = (bit_at_and, bit_at_or, bit_less, bit_at-lt, bit_at-zero, bit_at-pow_same, bit_at-pow_other)

-- ---- the lowest of k bits that is set: the first bit of an odd number, and that of the half of an even one

set_by_half : (X t d : ℕ) → X ≢ 0 → X % 2 ≡ d → (X / 2 ≢ 0 → bit_at (X / 2) t ≡ 1) → bit_at X (under d t) ≡ 1
set_by_half X t zero some even half = bit_at-suc X t ∙ half (λ e. some (omega arith))
set_by_half X t (suc d) some odd half = omega (arith, bit_at_lowest X, odd)

pub trailing_set : (k X : ℕ) → X ≢ 0 → X < 2 ^ k → bit_at X (count_trailing_zeros k X) ≡ 1
unfolding count_trailing_zeros
trailing_set zero X some fits = absurd (omega arith)
trailing_set (suc k) X some fits =
    set_by_half X (count_trailing_zeros k (X / 2)) (X % 2) some refl (λ rest. trailing_set k (X / 2) rest (omega (arith, pow-suc 2 k)))

clear_by_half : (X t d : ℕ) → X % 2 ≡ d → ((i : ℕ) → i < t → bit_at (X / 2) i ≡ 0) → (i : ℕ) → i < under d t → bit_at X i ≡ 0
clear_by_half X t zero even below zero lt = bit_at_lowest X ∙ even
clear_by_half X t zero even below (suc i) lt = bit_at-suc X i ∙ below i (omega arith)
clear_by_half X t (suc d) odd below i lt = absurd (omega arith)

pub trailing_clear : (k X i : ℕ) → i < count_trailing_zeros k X → bit_at X i ≡ 0
unfolding count_trailing_zeros
trailing_clear zero X i lt = absurd (omega arith)
trailing_clear (suc k) X i lt = clear_by_half X (count_trailing_zeros k (X / 2)) (X % 2) refl (trailing_clear k (X / 2)) i lt
