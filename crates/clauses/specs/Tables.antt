-- What a list of clauses builds.
-- Assumes nothing.
use Rattle.std.specs.Prelude.{◌≡◌, ℕ, ◌+◌, ◌<◌, ◌≤◌}
use Rattle.item_sets.specs.Sets.{◌∈◌, ◌⊆◌}
use Rattle.clauses.specs.declared.clause.Clause.{Clause}
use Rattle.clauses.specs.declared.list.ClauseList.{ClauseList}
use Rattle.clauses.specs.Clauses.{at, Follows, State, Reachable, LeastUnreachable}

-- the sets that the clauses build
abbrev pub Builds : ClauseList → ℕ → Type 0
Builds l = State l.items l.len (at l.clauses)

-- item i lies in some set that the clauses build
abbrev pub Reaches : ClauseList → ℕ → Type 0
Reaches l i = Reachable l.items l.len (at l.clauses) i

-- item i lies in none of them, and is the least such
abbrev pub Misses : ClauseList → ℕ → Type 0
Misses l i = LeastUnreachable l.items l.len (at l.clauses) i

-- the item is not below that of the last clause
abbrev pub NotBelowLast : ClauseList → ℕ → Type 0
NotBelowLast l i = (j : ℕ) → j + 1 ≡ l.len → (at l.clauses j).item ≤ i

-- the clause may come next
abbrev pub MayFollow : ClauseList → Clause → Type 0
MayFollow l c = Follows l.items (at l.clauses) l.len c

-- the list has one clause more than before, at its end
pub record Adds (before after : ClauseList) (c : Clause) : Type 0 where
  pub same_items : after.items ≡ before.items
  pub one_more : after.len ≡ before.len + 1
  pub kept : (k : ℕ) → k < before.len → at after.clauses k ≡ at before.clauses k
  pub added : at after.clauses before.len ≡ c

-- C is B with some items of X more, among them each that one of the first m clauses allows B to have
pub record Pass (l : ClauseList) (X B C m : ℕ) : Type 0 where
  pub built : Builds l C
  pub inside : C ⊆ X
  pub grows : B ⊆ C
  pub swept : (k : ℕ) → k < m → (at l.clauses k).item ∈ X → (at l.clauses k).alternative.number ⊆ B → (at l.clauses k).item ∈ C
