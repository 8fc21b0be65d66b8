-- A table record: the rows, then a trailer of 8 bytes, and the checks of the trailer in their order.
-- The trailer has the kind, the number of items, the number of rows in 2 bytes, and in 4 bytes the distance back from the
-- trailer to the first row. Numbers have their low byte first.
-- Assumes nothing.
use Rattle.std.specs.Prelude.{◌≡◌, ℕ, ◌+◌, ◌-◌, ◌*◌, ◌<◌, ◌≤◌, List, length, codes, slice_index}
use Rattle.refusals.specs.Report.{Report, says}
use Rattle.refusals.specs.declared.Layer.TheVariants.{Record}
use Rattle.records.specs.declared.Kind.{Kind}
use Rattle.records.specs.declared.Kind.TheVariants.{Clauses, Orders}
use Rattle.records.specs.declared.Trailer.{Trailer}

-- ---- what sets the kinds of table apart

abbrev pub code : Kind → ℕ
code Clauses = 67
code Orders = 79

-- the name of its tables
abbrev pub word : Kind → List ℕ
word Clauses = codes "clauses"
word Orders = codes "orders"

abbrev pub most_rows : Kind → ℕ
most_rows Clauses = 120
most_rows Orders = 16

-- how many bytes a row has, where there are n items
abbrev pub row_length : Kind → ℕ → ℕ
row_length Clauses n = 5
row_length Orders n = n

-- ---- the fields of a record

abbrev pub byte : List ℕ → ℕ → ℕ
byte b at = slice_index b at

abbrev pub two_bytes : List ℕ → ℕ → ℕ
two_bytes b at = byte b at + byte b (at + 1) * 256

abbrev pub four_bytes : List ℕ → ℕ → ℕ
four_bytes b at = byte b at + byte b (at + 1) * 256 + byte b (at + 2) * 65536 + byte b (at + 3) * 16777216

-- where the trailer begins
abbrev pub trailer : List ℕ → ℕ
trailer b = length b - 8

abbrev pub kind : List ℕ → ℕ
kind b = byte b (trailer b)

abbrev pub items : List ℕ → ℕ
items b = byte b (trailer b + 1)

abbrev pub rows : List ℕ → ℕ
rows b = two_bytes b (trailer b + 2)

abbrev pub distance : List ℕ → ℕ
distance b = four_bytes b (trailer b + 4)

-- ---- the checks of the trailer

pub data Check : Type 0 where
  of_length of_kind of_items of_rows of_distance : Check

abbrev pub number : Check → ℕ
number of_length = 1
number of_kind = 2
number of_items = 3
number of_rows = 4
number of_distance = 5

-- what a check asks of a record of this kind of table
abbrev pub Asks : Kind → List ℕ → Check → Type 0
Asks k b of_length = 8 ≤ length b
Asks k b of_kind = kind b ≡ code k
Asks k b of_items = (1 ≤ items b) × (items b ≤ 30)
Asks k b of_rows = (1 ≤ rows b) × (rows b ≤ most_rows k)
Asks k b of_distance = (distance b ≡ rows b * row_length k (items b)) × (distance b ≡ trailer b)

-- the place that is told where a check fails: the record's length, or the offset of the wrong field
abbrev pub place : List ℕ → Check → ℕ
place b of_length = length b
place b of_kind = trailer b
place b of_items = trailer b + 1
place b of_rows = trailer b + 2
place b of_distance = trailer b + 4

-- the trailer is right
abbrev pub Right : Kind → List ℕ → Type 0
Right k b = (c : Check) → Asks k b c

-- the record is long enough to have a kind, and its kind is k
abbrev pub OfKind : List ℕ → Kind → Type 0
OfKind b k = (8 ≤ length b) × (kind b ≡ code k)

-- t is what a right trailer says
pub record Says (k : Kind) (b : List ℕ) (t : Trailer) : Type 0 where
  pub right : Right k b
  pub same_items : t.items ≡ items b
  pub same_rows : t.rows ≡ rows b

-- the trailer is refused: for the first check that fails
pub record Refused (k : Kind) (b : List ℕ) (told : Report) : Type 0 where
  pub check : Check
  pub fails : Asks k b check → ⊥
  pub first : (c : Check) → number c < number check → Asks k b c
  pub says_so : told ≡ says (number check) Record (place b check)
