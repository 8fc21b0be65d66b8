-- What each loop keeps, and how it goes on and ends. The invariants hold these steps beside what is kept, so that a search
-- finds them where the loop's body needs one.
-- Assumes nothing.
use Rattle.std.proofs.Common.{◌≡◌, ℕ, ◌+◌, ◌^◌, ◌<◌, ◌≤◌, List, [], map, length, get_or, take, sym, refl, ap, ◌∙◌, subst, subst₂, add-one, arith, below_more}
use Rattle.std.proofs.lemmas.List.{map_more, take_all}
use Rattle.item_sets.specs.Sets.{◌∈◌, ◌∉◌, ◌⊆◌, ◌∪◌, ◌⊕◌}
use Rattle.item_sets.proofs.Members.{empty_⊆, members_below, with-⊆, ⊆_antisym, ⊆_refl}
use Rattle.spaces.specs.Largest.{Largest}
use Rattle.orders.specs.Orders.{Order, set_of, UnionOfBeginnings, LongestBeginning}
use Rattle.orders.specs.Rows.{cut}
use Rattle.orders.specs.Tables.{orders}
use Rattle.orders.specs.declared.row.OrderRow.{OrderRow}
use Rattle.orders.specs.declared.table.OrderTable.{OrderTable}
use Rattle.orders.specs.Beginnings.{set_of_more, in_entry, apart_more, longest_stops, longest_all}
use Rattle.orders.specs.Unions.{largest_none, largest_more}

set_of_next : (row : List ℕ) (i : ℕ) → i < length row → set_of (take i row) ⊕ get_or row i 0 ≡ set_of (take (i + 1) row)
set_of_next row i h = sym (ap (λ (n : ℕ). set_of (take n row)) (add-one i) ∙ set_of_more row i h)

-- ---- the longest beginning inside a set

-- B is what the first i entries make, and lies inside S
pub Begun : List ℕ → ℕ → ℕ → ℕ → Type 0
Begun row S i B = (B ≡ set_of (take i row)) × (B ⊆ S)

pub record Beginning (row : List ℕ) (S : ℕ) : Type 0 where
  pub more : (i B C : ℕ) → Begun row S i B → i < length row → get_or row i 0 ∈ S → (get_or row i 0 < 32 → C ≡ B ⊕ get_or row i 0) → Begun row S (i + 1) C
  pub stops : (i B : ℕ) → Begun row S i B → i < length row → get_or row i 0 ∉ S → LongestBeginning row S B
  pub ends : (i B : ℕ) → Begun row S i B → i ≤ length row → length row ≤ i → LongestBeginning row S B

pub begun : (row : List ℕ) (S : ℕ) → Begun row S 0 0
unfolding Begun set_of
begun row S = (refl, empty_⊆ S)

-- what lies in the set fits its 32 bits, so that the beginning can take it too
pub beginning : (row : List ℕ) (S : ℕ) → S < 2 ^ 32 → Beginning row S
unfolding Begun
beginning row S fits =
    record {
      more = λ i B C h within here next.
          let e : C ≡ B ⊕ get_or row i 0 = next (members_below S 32 fits (get_or row i 0) here) in
          (e ∙ ap (λ (X : ℕ). X ⊕ get_or row i 0) h.0 ∙ set_of_next row i within, subst (λ (X : ℕ). X ⊆ S) (sym e) (with-⊆ B (get_or row i 0) S h.1 here));
      stops = λ i B h within out.
          subst (LongestBeginning row S) (sym h.0) (longest_stops row S i within (subst (λ (X : ℕ). X ⊆ S) h.0 h.1) out);
      ends = λ i B h le ge.
          subst (LongestBeginning row S) (sym h.0) (longest_all row S i (omega arith) (subst (λ (X : ℕ). X ⊆ S) h.0 h.1));
    }

-- ---- whether a row is an order

-- the first i entries are below the row's length, none stands twice, and X is the set of them
pub Seen : List ℕ → ℕ → ℕ → Type 0
Seen row i X =
    (X ≡ set_of (take i row))
    × ((p : ℕ) → p < i → get_or row p 0 < length row)
    × ((p q : ℕ) → p < q → q < i → get_or row p 0 ≡ get_or row q 0 → ⊥)

pub record Judging (row : List ℕ) : Type 0 where
  pub more : (i X Y : ℕ) → Seen row i X → i < length row → get_or row i 0 < length row → get_or row i 0 ∉ X → (get_or row i 0 < 32 → Y ≡ X ⊕ get_or row i 0) → Seen row (i + 1) Y
  pub large : (i : ℕ) → i < length row → length row ≤ get_or row i 0 → Order (length row) row → ⊥
  pub twice : (i X : ℕ) → Seen row i X → i < length row → get_or row i 0 ∈ X → Order (length row) row → ⊥
  pub ends : (i X : ℕ) → Seen row i X → length row ≤ i → Order (length row) row

pub none_seen : (row : List ℕ) → Seen row 0 0
unfolding Seen set_of
none_seen row = (refl, λ p h. absurd (omega arith), λ p q h k. absurd (omega arith))

pub judging : (row : List ℕ) → length row ≤ 30 → Judging row
unfolding Seen Order
judging row few =
    record {
      more = λ i X Y h within low new next. (
        next (omega arith) ∙ ap (λ (Z : ℕ). Z ⊕ get_or row i 0) h.0 ∙ set_of_next row i within,
        below_more _ i h.1 low,
        apart_more row i within h.2 (subst (λ (Z : ℕ). get_or row i 0 ∉ Z) h.0 new),
      );
      large = λ i within high o. let low : get_or row i 0 < length row = o.1 i within in omega arith;
      twice = λ i X h within old o.
          let e = in_entry row i (get_or row i 0) (omega arith) (subst (λ (Z : ℕ). get_or row i 0 ∈ Z) h.0 old) in
          o.2 e.0 i e.1 within e.2;
      ends = λ i X h all. (refl, λ p k. h.1 p (omega arith), λ p q lt k. h.2 p q lt (omega arith));
    }

-- ---- the largest union of beginnings inside a set

-- U is it for the first i rows, of n entries each
pub Joined : ℕ → List OrderRow → ℕ → ℕ → ℕ → Type 0
Joined n rows S i U = Largest (UnionOfBeginnings (map (cut n) (take i rows))) S U

pub record Joining (t : OrderTable) (rows : List OrderRow) (S : ℕ) : Type 0 where
  pub more : (i U V B : ℕ) → Joined t.items rows S i U → i < length rows → LongestBeginning (cut t.items (get_or rows i (record { entries = [] }))) S B → V ≡ U ∪ B → Joined t.items rows S (i + 1) V
  pub ends : (i U : ℕ) → Joined t.items rows S i U → length rows ≤ i → rows ≡ take t.len t.rows → Largest (UnionOfBeginnings (orders t)) S U
  pub is_one : (i U : ℕ) → Joined t.items rows S i U → length rows ≤ i → rows ≡ take t.len t.rows → U ≡ S → UnionOfBeginnings (orders t) S
  pub one_is : (i U : ℕ) → Joined t.items rows S i U → length rows ≤ i → rows ≡ take t.len t.rows → UnionOfBeginnings (orders t) S → U ≡ S

pub none_joined : (n : ℕ) (rows : List OrderRow) (S : ℕ) → Joined n rows S 0 0
unfolding Joined
none_joined n rows S = largest_none S

pub joining : (t : OrderTable) (rows : List OrderRow) (S : ℕ) → Joining t rows S
unfolding Joined
joining t rows S =
    record {
      more = λ i U V B u within b v.
          subst₂ (λ (xs : List (List ℕ)) (X : ℕ). Largest (UnionOfBeginnings xs) S X) (sym (map_more (cut t.items) rows i (record { entries = [] }) within)) (sym v)
          (largest_more _ _ S U B u b);
      ends = at_end;
      is_one = λ i U u all e same. subst (UnionOfBeginnings (orders t)) same (at_end i U u all e).is_state;
      one_is = λ i U u all e k. let g = at_end i U u all e in ⊆_antisym U S g.inside (g.holds S k (⊆_refl S));
    }
  where
    at_end : (i U : ℕ) → Largest (UnionOfBeginnings (map (cut t.items) (take i rows))) S U → length rows ≤ i → rows ≡ take t.len t.rows → Largest (UnionOfBeginnings (orders t)) S U
    at_end i U u all e = subst (λ (xs : List OrderRow). Largest (UnionOfBeginnings (map (cut t.items) xs)) S U) (take_all i rows all ∙ e) u
