-- Order records: what their rows spell, and when they are refused.
-- Assumes nothing.
use Rattle.std.specs.Prelude.{◌≡◌, ℕ, ◌*◌, ◌<◌, ◌⊎◌, List, map, take, drop}
use Rattle.std.specs.List.{range_with_len}
use Rattle.refusals.specs.Report.{Report, says}
use Rattle.refusals.specs.declared.Layer.TheVariants.{Record}
use Rattle.records.specs.Format.{items, rows, Right}
use Rattle.records.specs.Format as trailer
use Rattle.records.specs.declared.Kind.TheVariants.{Orders}
use Rattle.orders.specs.Orders.{Order}
use Rattle.orders.specs.Tables.{orders}
use Rattle.orders.specs.declared.table.OrderTable.{OrderTable}

-- row r of the record b: as many bytes as there are items
abbrev pub row : List ℕ → ℕ → List ℕ
row b r = take (items b) (drop (r * items b) b)

abbrev pub RightRow : List ℕ → ℕ → Type 0
RightRow b r = Order (items b) (row b r)

-- the table holds what the record says
pub record Holds (b : List ℕ) (t : OrderTable) : Type 0 where
  pub right : (r : ℕ) → r < rows b → RightRow b r
  pub same_items : t.items ≡ items b
  pub same_rows : orders t ≡ map (row b) (range_with_len 0 (rows b))

-- a row is wrong, and this tells the first such
pub record WrongRow (b : List ℕ) (told : Report) : Type 0 where
  pub at : ℕ
  pub within : at < rows b
  pub wrong : RightRow b at → ⊥
  pub first : (r : ℕ) → r < at → RightRow b r
  pub says_so : told ≡ says 6 Record (at * items b)

-- the record is refused: for its trailer, or else for a row
abbrev pub Refused : List ℕ → Report → Type 0
Refused b told = trailer.Refused Orders b told ⊎ (Right Orders b × WrongRow b told)
