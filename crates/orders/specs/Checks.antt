-- The test of a table's rows tells whether they are orders, so that every table has a row, and each row has all the items.
-- Assumes nothing.
use Rattle.std.specs.Prelude.{◌≡◌, ℕ, zero, suc, ◌<◌, ◌&&◌, List, [], ◌∷◌, length, Decides, ◌==◌, nat_eq, nat_lt, refl}
use Rattle.std.proofs.Common.{sym, subst, suc-le-suc, le_of_suc-le-suc, not-suc-le-zero, zero-lt-suc, arith}
use Rattle.std.specs.List.{ContainsAt as Has, AllByRecursion}
use Rattle.std.proofs.ByRecursion.{All-get_or, All-from_get_or, All-weaker, has_get_or, Decides-by_and}
use Rattle.std.proofs.lemmas.Bool.Decides.{Decides-eqb, Decides-ltb, Decides-like, Decides-not, Decides-and, Decides-by_or}
use Rattle.item_sets.specs.Sets.{first}
use Rattle.orders.specs.Orders.{InRange, Apart, Order, set_of}
use Rattle.orders.specs.Rows.{all_below, among, all_apart, all_orders, are_orders}
use Rattle.orders.specs.Tables.{orders}
use Rattle.orders.specs.declared.table.OrderTable.{OrderTable}
use Rattle.orders.specs.Beginnings.{order_has_all}

tells_in_range : (n : ℕ) (row : List ℕ) → Decides (all_below n row) (InRange n row)
tells_in_range n row =
    Decides-like (all_below n row)
    (λ a p h. All-get_or (λ x. x < n) row p 0 h a)
    (λ r. All-from_get_or (λ x. x < n) row 0 r)
    (Decides-by_and (λ x. nat_lt x n) (λ x. x < n) (all_below n) (λ x. Decides-ltb x n) refl (λ _ _. refl) row)

tells_among : (i : ℕ) (row : List ℕ) → Decides (among i row) (Has row i)
tells_among i row = Decides-by_or (λ x. nat_eq x i) (λ x. x ≡ i) (among i) (λ x. Decides-eqb x i) refl (λ _ _. refl) row

apart_first : (x : ℕ) (row : List ℕ) → (Has row x → ⊥) × Apart row → Apart (x ∷ row)
apart_first x row h p zero lt k e = not-suc-le-zero lt
apart_first x row h zero (suc q) lt k e = h.0 (subst (Has row) (sym e) (has_get_or row q 0 (le_of_suc-le-suc k)))
apart_first x row h (suc p) (suc q) lt k e = h.1 p q (le_of_suc-le-suc lt) (le_of_suc-le-suc k) e

apart_rest : (x : ℕ) (row : List ℕ) → Apart (x ∷ row) → (Has row x → ⊥) × Apart row
apart_rest x row a =
    (λ h. a 0 (suc h.0) (zero-lt-suc h.0) (suc-le-suc h.1) (sym (h.2 0)), λ p q lt k e. a (suc p) (suc q) (suc-le-suc lt) (suc-le-suc k) e)

tells_apart : (row : List ℕ) → Decides (all_apart row) (Apart row)
tells_apart [] = (λ t p q lt k e. not-suc-le-zero k, λ a. refl)
tells_apart (x ∷ row) =
    Decides-like (all_apart (x ∷ row)) (apart_first x row) (apart_rest x row)
    (Decides-and _ _ (Decides-not _ (tells_among x row)) (tells_apart row))

tells_order : (n : ℕ) (row : List ℕ) → Decides (length row == n && (all_below n row && all_apart row)) (Order n row)
unfolding Order
tells_order n row =
    Decides-like _ (λ h. (h.0, h.1.0, h.1.1)) (λ o. (o.0, (o.1, o.2)))
    (Decides-and _ _ (Decides-eqb (length row) n) (Decides-and _ _ (tells_in_range n row) (tells_apart row)))

pub tells_orders : (n m : ℕ) (rows : List (List ℕ)) → Decides (are_orders n m rows) ((length rows ≡ m) × AllByRecursion (Order n) rows)
tells_orders n m rows =
    Decides-and _ _ (Decides-eqb (length rows) m)
    (Decides-by_and (λ row. (length row == n) && (all_below n row && all_apart row)) (Order n) (all_orders n) (tells_order n) refl (λ _ _. refl) rows)

-- ---- the rows of a table

right_rows : (t : OrderTable) → (length (orders t) ≡ t.len) × AllByRecursion (Order t.items) (orders t)
right_rows t = (tells_orders t.items t.len (orders t)).0 t.right

-- there is one, and each has all the items
pub some_row : (t : OrderTable) → 0 < length (orders t)
some_row t = omega (arith, (right_rows t).0, t.row_range)

pub rows_have_all : (t : OrderTable) → AllByRecursion (λ xs. set_of xs ≡ first t.items) (orders t)
rows_have_all t = All-weaker (Order t.items) (λ xs. set_of xs ≡ first t.items) (order_has_all t.items) (orders t) (right_rows t).1
