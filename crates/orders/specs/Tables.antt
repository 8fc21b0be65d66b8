-- What an order table holds.
-- Assumes nothing.
use Rattle.std.specs.Prelude.{ℕ, List}
use Rattle.orders.specs.Rows.{rows_of}
use Rattle.orders.specs.declared.table.OrderTable.{OrderTable}

-- its rows, each a list of all its items
abbrev pub orders : OrderTable → List (List ℕ)
orders t = rows_of t.items t.len t.rows
