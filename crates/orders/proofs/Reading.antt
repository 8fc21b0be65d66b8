-- The rows of a record, and the loop that reads them one by one.
-- Assumes nothing.
use Rattle.std.proofs.Common.{◌≡◌, ℕ, suc, ◌+◌, ◌*◌, ◌<◌, ◌≤◌, true, List, [], ◌∷◌, ◌++◌, map, length, take, drop, set, sym, refl, ap, ◌∙◌, subst, subst₂, append_assoc, length-append, mul-le-mul_right, suc-mul, zero-mul, arith, below_more}
use Rattle.std.proofs.Math.Decide.{dec_lt}
use Rattle.std.specs.List.{range_with_len, AllByRecursion}
use Rattle.std.proofs.lemmas.List.{length-take, length-set, take-append-drop, take_at, drop_at, drop-drop, take_more_set, map_push}
use Rattle.std.proofs.ByRecursion.{All-from_get_or}
use Rattle.std.proofs.lemmas.List.FromFn.{map-range_with_len_more, length-map-range_with_len, get_or-map-range_with_len}
use Rattle.refusals.specs.Report.{says}
use Rattle.refusals.specs.declared.Layer.TheVariants.{Record}
use Rattle.records.specs.Format.{items, rows, Right, Says, of_length, of_items, of_rows, of_distance}
use Rattle.records.specs.declared.Kind.TheVariants.{Orders}
use Rattle.records.specs.declared.Trailer.{Trailer}
use Rattle.orders.specs.Orders.{Order}
use Rattle.orders.specs.Rows.{cut, rows_of, are_orders}
use Rattle.orders.specs.Loading.{row, RightRow, WrongRow, Holds}
use Rattle.orders.specs.Tables.{orders}
use Rattle.orders.specs.declared.row.OrderRow.{OrderRow}
use Rattle.orders.specs.declared.table.OrderTable.{OrderTable}
use Rattle.orders.specs.Checks.{tells_orders}

-- the first r rows are right and are copied to xs, and `rest` is what is left of the rows
pub record ReadSoFar (b : List ℕ) (n m r : ℕ) (rest : List ℕ) (xs : List OrderRow) : Type 0 where
  pub rows_left : length rest + r * n ≡ m * n
  pub after : List ℕ
  pub here : drop (r * n) b ≡ rest ++ after
  pub room : length xs ≡ 16
  pub copied : map (cut n) (take r xs) ≡ map (row b) (range_with_len 0 r)
  pub right : (s : ℕ) → s < r → RightRow b s

-- the record has m rows of n items each, and its trailer is right
pub record Rows (b : List ℕ) (n m : ℕ) : Type 0 where
  pub right : Right Orders b
  pub same_items : n ≡ items b
  pub same_rows : m ≡ rows b

pub rows_said : (b : List ℕ) (t : Trailer) → Says Orders b t → (n m : ℕ) → n ≡ t.items → m ≡ t.rows → Rows b n m
rows_said b t s n m e f = record { right = s.right; same_items = e ∙ s.same_items; same_rows = f ∙ s.same_rows }

module _ {b : List ℕ} {n m : ℕ} (q : Rows b n m) where
  en : n ≡ items b
  en = q.same_items

  em : m ≡ rows b
  em = q.same_rows

  pub item_range : (1 ≤ n) × (n ≤ 30)
  item_range = subst (λ (k : ℕ). (1 ≤ k) × (k ≤ 30)) (sym en) (q.right of_items)

  pub row_range : (1 ≤ m) × (m ≤ 16)
  row_range = subst (λ (k : ℕ). (1 ≤ k) × (k ≤ 16)) (sym em) (q.right of_rows)

  pub rows_within : m * n ≤ length b
  rows_within = subst₂ (λ (x y : ℕ). x * y ≤ length b) (sym em) (sym en) (omega (arith, q.right of_distance, q.right of_length))

  pub few_bytes : m * n ≤ 480
  few_bytes = omega (arith, mul-le-mul_right n row_range.1, item_range)

  pub none_read : (xs : List OrderRow) → length xs ≡ 16 → ReadSoFar b n m 0 (take (m * n) b) xs
  none_read xs e =
      record {
        rows_left = omega (arith, length-take (m * n) b, rows_within, zero-mul n);
        after = drop (m * n) b;
        here = ap (λ (k : ℕ). drop k b) (zero-mul n) ∙ sym (take-append-drop (m * n) b);
        room = e;
        copied = refl;
        right = λ s h. absurd (omega arith);
      }

  -- the next n bytes are x
  module _ {r : ℕ} {rest : List ℕ} {xs : List OrderRow} (p : ReadSoFar b n m r rest xs) (x left : List ℕ) (e : rest ≡ x ++ left) (long : length x ≡ n) where
    next_length : length rest ≡ n + length left
    next_length = ap length e ∙ length-append x left ∙ ap (λ (k : ℕ). k + length left) long

    pub is_row : r < m
    is_row = elim (dec_lt r m) [
      | yes lt ↦ lt
      | no ge ↦ absurd (omega (arith, mul-le-mul_right {m = m} {n = r} n (omega arith), p.rows_left, next_length, item_range))
    ]

    here_next : drop (r * n) b ≡ x ++ (left ++ p.after)
    here_next = p.here ∙ ap (λ (ys : List ℕ). ys ++ p.after) e ∙ append_assoc x left p.after

    same_row : row b r ≡ x
    same_row = subst (λ (k : ℕ). take k (drop (r * k) b) ≡ x) en (ap (take n) here_next ∙ take_at x (left ++ p.after) n long)

    order_here : Order (length x) x → RightRow b r
    order_here o = subst₂ Order (long ∙ en) (sym same_row) o

    order_there : RightRow b r → Order (length x) x
    order_there o = subst₂ Order (sym (long ∙ en)) same_row o

    pub row_wrong : (Order (length x) x → ⊥) → WrongRow b (says 6 Record (r * n))
    row_wrong w =
        record {
          at = r;
          within = subst (λ (k : ℕ). r < k) em is_row;
          wrong = λ o. w (order_there o);
          first = p.right;
          says_so = ap (λ (k : ℕ). says 6 Record (r * k)) en;
        }

    pub row_read : (y : OrderRow) → Order (length x) x → cut (length x) y ≡ x → ReadSoFar b n m (r + 1) left (set xs r y)
    row_read y o c =
        record {
          rows_left = omega (arith, p.rows_left, next_length, suc-mul r n);
          after = p.after;
          here =
              ap (λ (k : ℕ). drop k b) (omega (arith, suc-mul r n)) ∙ sym (drop-drop n (r * n) b)
              ∙ ap (drop n) here_next ∙ drop_at x (left ++ p.after) n long;
          room = length-set xs r y ∙ p.room;
          copied =
              ap (map (cut n)) (take_more_set xs r y (omega (arith, p.room, is_row, row_range))) ∙ map_push (cut n) (take r xs) y
              ∙ ap (λ (ys : List (List ℕ)). ys ++ cut n y ∷ []) p.copied
              ∙ ap (λ (ys : List ℕ). map (row b) (range_with_len 0 r) ++ ys ∷ []) (ap (λ (k : ℕ). cut k y) (sym long) ∙ c ∙ sym same_row)
              ∙ sym (map-range_with_len_more (row b) 0 r r (omega arith));
          right = below_more (RightRow b) r p.right (order_here o);
        }

  -- no n bytes are left
  module _ {r : ℕ} {rest : List ℕ} {xs : List OrderRow} (p : ReadSoFar b n m r rest xs) (short : length rest < n) where
    every_row : r ≡ m
    every_row = elim (dec_lt r m) [
      | yes lt ↦ absurd (omega (arith, mul-le-mul_right {m = suc r} {n = m} n lt, suc-mul r n, p.rows_left))
      | no ge ↦ elim (dec_lt m r) [
        | yes gt ↦ absurd (omega (arith, mul-le-mul_right {m = suc m} {n = r} n gt, suc-mul m n, p.rows_left, item_range))
        | no le ↦ omega arith
      ]
    ]

    read_all : rows_of n m xs ≡ map (row b) (range_with_len 0 (rows b))
    read_all =
        ap (λ (k : ℕ). map (cut n) (take k xs)) (sym every_row) ∙ p.copied ∙ ap (λ (k : ℕ). map (row b) (range_with_len 0 k)) (every_row ∙ em)

    right_all : (s : ℕ) → s < rows b → RightRow b s
    right_all s h = let k : s < m = subst (λ (z : ℕ). s < z) (sym em) h in p.right s (omega (arith, every_row))

    pub tested : are_orders n m (rows_of n m xs) ≡ true
    tested =
        (tells_orders n m (rows_of n m xs)).1 (
          ap length read_all ∙ length-map-range_with_len (row b) 0 (rows b) ∙ sym em,
          subst (AllByRecursion (Order n)) (sym read_all)
              (All-from_get_or (Order n) _ [] (λ s h.
              let k : s < rows b = subst (λ (z : ℕ). s < z) (length-map-range_with_len (row b) 0 (rows b)) h in
              subst₂ Order (sym en) (sym (get_or-map-range_with_len (row b) 0 (rows b) s s [] k (omega arith))) (right_all s k))),
        )

    pub holds : (u : OrderTable) → u.items ≡ n → orders u ≡ rows_of n m xs → Holds b u
    holds u e f = record { right = right_all; same_items = e ∙ en; same_rows = f ∙ read_all }
