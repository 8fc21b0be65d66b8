-- Sets of items as set numbers: the sum of 2 ^ i over the items i of the set.
-- Assumes nothing.
use Rattle.std.specs.Prelude.{◌≡◌, ℕ, zero, suc, ◌+◌, ◌-◌, ◌^◌, ◌≤◌, ◌↔◌, bit_and, bit_or}
use Rattle.std.specs.Int.{bit_at}

infix 50 ◌∈◌ ◌∉◌ ◌⊆◌
infixl 65 ◌∪◌ ◌∖◌ ◌⊕◌ ◌⊖◌
-- bit i of the number X is 1 where item i is in the set, and 0 where it is not
unfoldable pub ◌∈◌ : ℕ → ℕ → Type 0
i ∈ X = bit_at X i ≡ 1

abbrev pub ◌∉◌ : ℕ → ℕ → Type 0
i ∉ X = i ∈ X → ⊥

-- X lies wholly inside Y
abbrev pub ◌⊆◌ : ℕ → ℕ → Type 0
X ⊆ Y = (i : ℕ) → i ∈ X → i ∈ Y

-- the items of X are exactly those with P
abbrev pub Members : ℕ → (ℕ → Type 0) → Type 0
Members X P = (i : ℕ) → (i ∈ X) ↔ P i

-- the union and the difference
unfoldable pub ◌∪◌ : ℕ → ℕ → ℕ
X ∪ Y = bit_or X Y

unfoldable pub ◌∖◌ : ℕ → ℕ → ℕ
X ∖ Y = X - bit_and X Y

-- X with item i, and X without it
unfoldable pub ◌⊕◌ : ℕ → ℕ → ℕ
X ⊕ i = X ∪ 2 ^ i

unfoldable pub ◌⊖◌ : ℕ → ℕ → ℕ
X ⊖ i = X ∖ 2 ^ i

-- the set of the items below n
unfoldable pub first : ℕ → ℕ
first n = 2 ^ n - 1

-- how many of the items below k are in X
unfoldable pub below : ℕ → ℕ → ℕ
below X zero = 0
below X (suc k) = below X k + bit_at X k

-- how many items X has, of those that a number below 2 ^ 32 can hold
unfoldable pub size : ℕ → ℕ
size X = below X 32

-- item i is the least of X
abbrev pub Least : ℕ → ℕ → Type 0
Least X i = (i ∈ X) × ((j : ℕ) → j ∈ X → i ≤ j)
