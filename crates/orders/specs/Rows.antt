-- The rows of a table as lists of items, and what the table promises of them, as a test that computes.
-- Assumes nothing.
use Rattle.std.specs.Prelude.{◌≡◌, ℕ, Bool, true, false, not, ◌&&◌, ◌||◌, List, [], ◌∷◌, map, length, take, Some, None, Option, ◌==◌, nat_lt}
use Rattle.orders.specs.Orders.{Order}
use Rattle.orders.specs.declared.row.OrderRow.{OrderRow}

-- the first n entries
abbrev pub cut : ℕ → OrderRow → List ℕ
cut n row = take n row.entries

-- what is made of these items: a row of them, or nothing where they are no order
abbrev pub RowOf : List ℕ → Option OrderRow → Type 0
RowOf xs None = Order (length xs) xs → ⊥
RowOf xs (Some row) = Order (length xs) xs × (cut (length xs) row ≡ xs)

-- the first m rows, each cut to n entries: what lies past them means nothing
abbrev pub rows_of : ℕ → ℕ → List OrderRow → List (List ℕ)
rows_of n m rows = map (cut n) (take m rows)

-- ---- the promise: what `Order` says, as a test, so that it computes for the rows of a table that is written out

-- each of these items is below n
abbrev pub all_below : ℕ → List ℕ → Bool
all_below n [] = true
all_below n (x ∷ xs) = nat_lt x n && all_below n xs

-- item i is one of these
abbrev pub among : ℕ → List ℕ → Bool
among i [] = false
among i (x ∷ xs) = x == i || among i xs

-- none of these stands twice
abbrev pub all_apart : List ℕ → Bool
all_apart [] = true
all_apart (x ∷ xs) = not (among x xs) && all_apart xs

-- each of these rows is all the n items in some sequence
abbrev pub all_orders : ℕ → List (List ℕ) → Bool
all_orders n [] = true
all_orders n (row ∷ rows) = (length row == n && (all_below n row && all_apart row)) && all_orders n rows

-- they are m rows, and each is an order
abbrev pub are_orders : ℕ → ℕ → List (List ℕ) → Bool
are_orders n m rows = length rows == m && all_orders n rows
