-- Reading the rows of a clause record, one after the other.
-- Assumes nothing.
use Rattle.std.proofs.Common.{◌≡◌, ℕ, zero, suc, ◌+◌, ◌*◌, ◌/◌, ◌<◌, List, [], length, take, drop, sym, ap, ap₂, ◌∙◌, subst, subst₂, arith, below_more, lit<, mul-zero}
use Rattle.std.specs.Simd.{first_chunks}
use Rattle.std.proofs.lemmas.List.{get_or-take, get_or-drop, length-take}
use Rattle.std.proofs.Math.Nat.{mul-suc}
use Rattle.std.proofs.Math.ListN.{get_or}
use Rattle.records.specs.declared.Kind.TheVariants.{Clauses}
use Rattle.records.specs.declared.Trailer.{Trailer}
use Rattle.records.specs.Format.{byte, items, rows, Says, of_length, of_distance}
use Rattle.clauses.specs.declared.clause.Clause.{Clause}
use Rattle.clauses.specs.declared.list.ClauseList.{ClauseList}
use Rattle.clauses.specs.Clauses.{at, Follows}
use Rattle.clauses.specs.Tables.{Adds}
use Rattle.clauses.specs.Loading.{row, RightRow, FirstWrong, Spelled}
use Rattle.clauses.proofs.RightRows.{follows_agree}

-- the byte at a place of a chunk is one of the whole
chunk_byte : (n k q : ℕ) (b d : List ℕ) (j : ℕ) → k < q → j < n → byte (get_or (first_chunks n q b) k d) j ≡ byte b (n * k + j)
chunk_byte n k zero b d j h l = absurd (omega arith)
chunk_byte n zero (suc q) b d j h l = get_or-take n b j 0 l ∙ ap (byte b) (omega (arith, mul-zero n))
chunk_byte n (suc k) (suc q) b d j h l =
    chunk_byte n k q (drop n b) d j (omega arith) l ∙ get_or-drop n b (n * k + j) 0 ∙ ap (byte b) (omega (arith, mul-suc n k))

-- a chunk of five bytes is a row
pub chunk_row : (b d : List ℕ) (k q : ℕ) → k < q → row (get_or (first_chunks 5 q b) k d) 0 ≡ row b k
chunk_row b d k q h =
    let row_bytes = get_or (first_chunks 5 q b) k d in
    let at = λ (j : ℕ) (l : j < 5). chunk_byte 5 k q b d j h l in
    let e1 : byte row_bytes (5 * 0 + 1) ≡ byte b (5 * k + 1) = at 1 (lit< tt) in
    let e2 : byte row_bytes (5 * 0 + 1 + 1) ≡ byte b (5 * k + 1 + 1) = at 2 (lit< tt) ∙ ap (byte b) (omega arith) in
    let e3 : byte row_bytes (5 * 0 + 1 + 2) ≡ byte b (5 * k + 1 + 2) = at 3 (lit< tt) ∙ ap (byte b) (omega arith) in
    let e4 : byte row_bytes (5 * 0 + 1 + 3) ≡ byte b (5 * k + 1 + 3) = at 4 (lit< tt) ∙ ap (byte b) (omega arith) in
    ap₂ (λ (i a : ℕ). record { item = i; alternative = record { number = a } }) (at 0 (lit< tt) ∙ ap (byte b) (omega arith)) (omega (arith, e1, e2, e3, e4))

-- xs are the rows of the record, five bytes each
pub record RowsOf (b : List ℕ) (xs : List (List ℕ)) : Type 0 where
  pub as_many : length xs ≡ rows b
  pub each : (k : ℕ) → k < length xs → row (get_or xs k []) 0 ≡ row b k

pub rows_of_chunks : (b : List ℕ) (t : Trailer) → Says Clauses b t → (chunks : List (List ℕ)) → chunks ≡ first_chunks 5 (length b / 5) b → length chunks ≡ length b / 5
    → (n : ℕ) → n ≡ t.rows → RowsOf b (take n chunks)
rows_of_chunks b t s chunks e many n en = record {
  as_many = omega (arith, length-take n chunks, many, en, s.right of_distance, s.right of_length, s.same_rows);
  each = λ k h.
      ap (λ (x : List ℕ). row x 0) (get_or-take n chunks k [] (omega (arith, length-take n chunks, h)) ∙ ap (λ (xs : List (List ℕ)). get_or xs k []) e)
      ∙ chunk_row b [] k (length b / 5) (omega (arith, length-take n chunks, h, many));
}

-- what is read of the first k rows, all of them right
pub record ReadSoFar (b : List ℕ) (l : ClauseList) (k : ℕ) : Type 0 where
  pub same_items : l.items ≡ items b
  pub count : l.len ≡ k
  pub same : (j : ℕ) → j < k → at l.clauses j ≡ row b j
  pub right : (j : ℕ) → j < k → RightRow b j

pub none_read : (b : List ℕ) (l : ClauseList) → l.items ≡ items b → l.len ≡ 0 → ReadSoFar b l 0
none_read b l e f = record { same_items = e; count = f; same = λ j h. absurd (omega arith); right = λ j h. absurd (omega arith) }

module _ (b : List ℕ) (l : ClauseList) (k : ℕ) (r : ReadSoFar b l k) (c : Clause) (e : c ≡ row b k) where
  -- what the list asks of the next clause is what is asked of the row
  right_here : Follows l.items (at l.clauses) l.len c → RightRow b k
  right_here f =
      subst (Follows (items b) (row b) k) e (follows_agree (at l.clauses) (row b) (items b) k c r.same
      (subst₂ (λ (n m : ℕ). Follows n (at l.clauses) m c) r.same_items r.count f))

  follows_here : RightRow b k → Follows l.items (at l.clauses) l.len c
  follows_here f =
      subst₂ (λ (n m : ℕ). Follows n (at l.clauses) m c) (sym r.same_items) (sym r.count)
      (follows_agree (row b) (at l.clauses) (items b) k c (λ j h. sym (r.same j h)) (subst (Follows (items b) (row b) k) (sym e) f))

  pub read_more : (m : ClauseList) → Follows l.items (at l.clauses) l.len c → Adds l m c → ReadSoFar b m (k + 1)
  read_more m f a = record {
    same_items = a.same_items ∙ r.same_items;
    count = omega (arith, a.one_more, r.count);
    same = below_more (λ j. at m.clauses j ≡ row b j) k
        (λ j h. a.kept j (omega (arith, r.count)) ∙ r.same j h) (subst (λ (i : ℕ). at m.clauses i ≡ row b k) r.count (a.added ∙ e));
    right = below_more (RightRow b) k r.right (right_here f);
  }

  pub wrong_here : k < rows b → (Follows l.items (at l.clauses) l.len c → ⊥) → FirstWrong b k
  wrong_here h n = record { is_row = h; wrong = λ f. n (follows_here f); first = r.right }

pub all_read : (b : List ℕ) (l : ClauseList) (k : ℕ) → ReadSoFar b l k → k ≡ rows b → Spelled b l
all_read b l k r e = record {
  same_items = r.same_items;
  same_length = r.count ∙ e;
  same_clauses = λ j h. r.same j (subst (λ (n : ℕ). j < n) (sym e) h);
  right = λ j h. r.right j (subst (λ (n : ℕ). j < n) (sym e) h);
}
