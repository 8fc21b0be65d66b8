-- A list that a record spells builds what the record's rows build.
-- Assumes nothing.
use Rattle.std.proofs.Common.{◌≡◌, ℕ, ◌<◌, List, Ok, Err, Result, MatchResult, sym, ap, ◌∙◌, subst, subst₂}
use Rattle.refusals.specs.declared.Layer.TheVariants.{Table}
use Rattle.refusals.specs.declared.Refusal.{Refusal}
use Rattle.refusals.specs.Report.{report, says}
use Rattle.records.specs.declared.Kind.TheVariants.{Clauses}
use Rattle.records.specs.Format as format
use Rattle.item_sets.specs.Sets.{◌⊆◌, first}
use Rattle.records.specs.Format.{items, rows}
use Rattle.clauses.specs.declared.clause.Clause.{Clause}
use Rattle.clauses.specs.declared.list.ClauseList.{ClauseList}
use Rattle.clauses.specs.declared.table.ClauseTable.{ClauseTable}
use Rattle.clauses.specs.Clauses.{at, Met, Reachable, LeastUnreachable}
use Rattle.clauses.specs.Tables.{Reaches, Misses}
use Rattle.clauses.specs.Loading.{row, Spelled, Lawful, Holds, Refused, by_item}
use Rattle.clauses.specs.BuildingLemmas.{built_weaker}

met_agree : (len : ℕ) (f g : ℕ → Clause) → ((k : ℕ) → k < len → f k ≡ g k) → (i X : ℕ) → Met len f i X → Met len g i X
met_agree len f g same i X (k, h, e, a) =
    (k, h, subst (λ (q : Clause). q.item ≡ i) (same k h) e, subst (λ (q : Clause). q.alternative.number ⊆ X) (same k h) a)

reach_agree : (n len : ℕ) (f g : ℕ → Clause) → ((k : ℕ) → k < len → f k ≡ g k) → (i : ℕ) → Reachable n len f i → Reachable n len g i
reach_agree n len f g same i r =
    (r.0, r.1, built_weaker (first n) (Met len f) (Met len g) (met_agree len f g same) r.0 r.2)

module _ (b : List ℕ) (l : ClauseList) (s : Spelled b l) where
  pub reach_spelled : (i : ℕ) → Reaches l i → Reachable (items b) (rows b) (row b) i
  reach_spelled i r =
      reach_agree (items b) (rows b) (at l.clauses) (row b) s.same_clauses i
      (subst₂ (λ (n len : ℕ). Reachable n len (at l.clauses) i) s.same_items s.same_length r)

  reach_listed : (i : ℕ) → Reachable (items b) (rows b) (row b) i → Reaches l i
  reach_listed i r =
      subst₂ (λ (n len : ℕ). Reachable n len (at l.clauses) i) (sym s.same_items) (sym s.same_length)
      (reach_agree (items b) (rows b) (row b) (at l.clauses) (λ k h. sym (s.same_clauses k h)) i r)

  pub least_spelled : (i : ℕ) → Misses l i → LeastUnreachable (items b) (rows b) (row b) i
  least_spelled i u = record {
    is_item = subst (λ (n : ℕ). i < n) s.same_items u.is_item;
    unreachable = λ r. u.unreachable (reach_listed i r);
    least = λ j h. reach_spelled j (u.least j h);
  }

  -- the table that is made of the list is the record's, and so is the refusal
  pub table_spelled : format.Right Clauses b → (r : Result ClauseTable Refusal)
      → MatchResult r (λ t. (t.list ≡ l) × ((i : ℕ) → i < l.items → Reaches l i)) (λ e. (i : ℕ) × Misses l i × (report e ≡ says 8 Table i))
      → MatchResult r (λ t. Lawful b × Holds t (items b) (rows b) (row b)) (λ e. Refused b (report e))
  table_spelled right (Ok t) made = (
    record {
      trailer = right;
      right = s.right;
      reachable = λ i h. reach_spelled i (made.1 i (subst (λ (n : ℕ). i < n) (sym s.same_items) h));
    },
    record {
      same_items = ap (λ (m : ClauseList). m.items) made.0 ∙ s.same_items;
      same_length = ap (λ (m : ClauseList). m.len) made.0 ∙ s.same_length;
      same_clauses = λ k h. ap (λ (m : ClauseList). at m.clauses k) made.0 ∙ s.same_clauses k h;
    },
  )
  table_spelled right (Err e) u = subst (Refused b) (sym u.2) (by_item right s.right u.0 (least_spelled u.0 u.1))
