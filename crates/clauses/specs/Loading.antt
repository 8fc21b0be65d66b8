-- Clause records: what their rows spell, when they are refused, and what a table then holds.
-- Assumes nothing.
use Rattle.std.specs.Prelude.{◌≡◌, ℕ, ◌+◌, ◌*◌, ◌<◌, List}
use Rattle.refusals.specs.declared.Layer.TheVariants.{Record, Table}
use Rattle.refusals.specs.Report.{Report, says}
use Rattle.records.specs.declared.Kind.TheVariants.{Clauses}
use Rattle.records.specs.Format as format
use Rattle.records.specs.Format.{byte, four_bytes, items, rows}
use Rattle.clauses.specs.declared.clause.Clause.{Clause}
use Rattle.clauses.specs.declared.list.ClauseList.{ClauseList}
use Rattle.clauses.specs.declared.table.ClauseTable.{ClauseTable}
use Rattle.clauses.specs.Clauses.{at, Right, Reachable, LeastUnreachable}

-- a row has 5 bytes: the item, then its alternative as a set number of 4 bytes
abbrev pub row : List ℕ → ℕ → Clause
row b k = record { item = byte b (5 * k); alternative = record { number = four_bytes b (5 * k + 1) } }

abbrev pub RightRow : List ℕ → ℕ → Type 0
RightRow b = Right (items b) (row b)

-- row k is the first that is wrong
pub record FirstWrong (b : List ℕ) (k : ℕ) : Type 0 where
  pub is_row : k < rows b
  pub wrong : RightRow b k → ⊥
  pub first : (j : ℕ) → j < k → RightRow b j

-- the list has the items of the record, and the clauses that its rows spell, all right
pub record Spelled (b : List ℕ) (l : ClauseList) : Type 0 where
  pub same_items : l.items ≡ items b
  pub same_length : l.len ≡ rows b
  pub same_clauses : (k : ℕ) → k < rows b → at l.clauses k ≡ row b k
  pub right : (k : ℕ) → k < rows b → RightRow b k

-- a record that loads
pub record Lawful (b : List ℕ) : Type 0 where
  pub trailer : format.Right Clauses b
  pub right : (k : ℕ) → k < rows b → RightRow b k
  pub reachable : (i : ℕ) → i < items b → Reachable (items b) (rows b) (row b) i

-- a record that is refused, and what is told then
pub data Refused (b : List ℕ) : Report → Type 0 where
  by_trailer : {told : Report} → format.Refused Clauses b told → Refused b told
  by_row : format.Right Clauses b → (k : ℕ) → FirstWrong b k → Refused b (says 6 Record (5 * k))
  by_item : format.Right Clauses b → ((k : ℕ) → k < rows b → RightRow b k) → (i : ℕ) → LeastUnreachable (items b) (rows b) (row b) i → Refused b (says 8 Table i)

-- item 0 needs nothing: the one clause of a fresh table
abbrev pub free_clause : Clause
free_clause = record { item = 0; alternative = record { number = 0 } }

-- the table has the items below n, and its clauses are the first `len` of f, in their order
pub record Holds (t : ClauseTable) (n len : ℕ) (f : ℕ → Clause) : Type 0 where
  pub same_items : t.list.items ≡ n
  pub same_length : t.list.len ≡ len
  pub same_clauses : (k : ℕ) → k < len → at t.list.clauses k ≡ f k
