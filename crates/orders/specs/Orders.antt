-- Teaching orders: rows of items, the beginnings of a row, and the states that the beginnings of several rows make.
-- Assumes nothing.
use Rattle.std.specs.Prelude.{◌≡◌, ℕ, ◌<◌, ◌≤◌, List, [], ◌∷◌, length, take, ◌≢◌, slice_index}
use Rattle.item_sets.specs.Sets.{◌⊆◌, ◌∪◌, ◌⊕◌}

-- each entry of the row is an item below n
abbrev pub InRange : ℕ → List ℕ → Type 0
InRange n row = (p : ℕ) → p < length row → slice_index row p < n

-- no entry of the row stands twice
abbrev pub Apart : List ℕ → Type 0
Apart row = (p q : ℕ) → p < q → q < length row → slice_index row p ≢ slice_index row q

-- the row is all the n items, in some sequence
unfoldable pub Order : ℕ → List ℕ → Type 0
Order n row = (length row ≡ n) × InRange n row × Apart row

-- the set of the items of a list
unfoldable pub set_of : List ℕ → ℕ
set_of [] = 0
set_of (i ∷ is) = set_of is ⊕ i

-- K is a union of beginnings, one of each row: of its first k items, for some k
abbrev pub UnionOfBeginnings : List (List ℕ) → ℕ → Type 0
UnionOfBeginnings [] K = K ≡ 0
UnionOfBeginnings (row ∷ rows) K =
    (k : ℕ) × (k ≤ length row) × (J : ℕ) × UnionOfBeginnings rows J × (K ≡ set_of (take k row) ∪ J)

-- B is the longest beginning of the row inside the set S: its first k items, and no longer beginning lies inside S
unfoldable pub LongestBeginning : List ℕ → ℕ → ℕ → Type 0
LongestBeginning row S B =
    (k : ℕ) × (k ≤ length row) × (B ≡ set_of (take k row)) × (B ⊆ S)
    × ((j : ℕ) → j ≤ length row → set_of (take j row) ⊆ S → j ≤ k)
