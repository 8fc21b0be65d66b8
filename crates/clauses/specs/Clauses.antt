-- Clause tables: what is asked of the clauses, and which sets they build.
-- The clauses of a table are given as a function from their places, of which the first `len` count.
-- Assumes nothing.
use Rattle.std.specs.Prelude.{◌≡◌, ℕ, zero, suc, ◌+◌, ◌^◌, ◌<◌, ◌≤◌, cond, List, ◌==◌, slice_index_or}
use Rattle.item_sets.specs.Sets.{◌∈◌, ◌∉◌, ◌⊆◌, first}
use Rattle.clauses.specs.declared.clause.Clause.{Clause}
use Rattle.clauses.specs.Building.{Built}

-- what stands at a place of an array of clauses
abbrev pub at : List Clause → ℕ → Clause
at cs k = slice_index_or cs k (record { item = 0; alternative = record { number = 0 } })

-- how many of the clauses before place k are for item i
abbrev pub earlier : (ℕ → Clause) → ℕ → ℕ → ℕ
earlier f zero i = 0
earlier f (suc k) i = earlier f k i + cond ((f k).item == i) 1 0

-- clause c may stand after the first k clauses of f, in a table of n items
pub record Follows (n : ℕ) (f : ℕ → Clause) (k : ℕ) (c : Clause) : Type 0 where
  pub item_below : c.item < n
  pub in_order : (j : ℕ) → j + 1 ≡ k → (f j).item ≤ c.item
  pub at_most_four : earlier f k c.item < 4
  pub inside : c.alternative.number < 2 ^ n
  pub of_others : c.item ∉ c.alternative.number

-- the clause at place k is right, in a table of n items and after the clauses before it
abbrev pub Right : ℕ → (ℕ → Clause) → ℕ → Type 0
Right n f k = Follows n f k (f k)

-- item i can be added to the set X: one of its alternatives lies wholly inside X
abbrev pub Met : ℕ → (ℕ → Clause) → ℕ → ℕ → Type 0
Met len f i X = (k : ℕ) × (k < len) × ((f k).item ≡ i) × ((f k).alternative.number ⊆ X)

-- the states of a table of n items
abbrev pub State : ℕ → ℕ → (ℕ → Clause) → ℕ → Type 0
State n len f = Built (first n) (Met len f)

-- item i lies in some set that can be built
abbrev pub Reachable : ℕ → ℕ → (ℕ → Clause) → ℕ → Type 0
Reachable n len f i = (K : ℕ) × (i ∈ K) × State n len f K

-- item i lies in no set that can be built, and is the least such
pub record LeastUnreachable (n len : ℕ) (f : ℕ → Clause) (i : ℕ) : Type 0 where
  pub is_item : i < n
  pub unreachable : Reachable n len f i → ⊥
  pub least : (j : ℕ) → j < i → Reachable n len f j
