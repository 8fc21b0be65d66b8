-- Clause tables are learning spaces; and what the largest set that their clauses build says of each item.
-- Assumes nothing.
use Rattle.std.specs.Prelude.{◌≡◌, ℕ, ◌<◌, ◌≤◌, ◌↔◌}
use Rattle.std.proofs.Common.{sym, subst, inl, inr, arith}
use Rattle.std.proofs.Math.Decide.{ℕ_discrete}
use mathlib.Core.Logic.Dec
use Rattle.item_sets.specs.Sets.{◌∈◌, ◌∉◌, ◌⊆◌, first, Members, Least}
use Rattle.item_sets.proofs.Members.{∈_dec, ∈-first, ∉_empty, ⊆_dec}
use Rattle.spaces.specs.Largest.{Largest}
use Rattle.spaces.specs.Laws.{LearningSpace}
use Rattle.clauses.specs.declared.clause.Clause.{Clause}
use Rattle.clauses.specs.declared.list.ClauseList.{ClauseList}
use Rattle.clauses.specs.declared.table.ClauseTable.{ClauseTable}
use Rattle.clauses.specs.Clauses.{at, Met}
use Rattle.clauses.specs.Tables.{Builds, Reaches, Misses}
use Rattle.clauses.specs.BuildingLemmas.{some_below, whole_from_items, built_space, built_inside}
use Rattle.clauses.specs.Passes.{met_stays}

-- whether an item can be added is decided: there are finitely many clauses
met_dec : (len : ℕ) (f : ℕ → Clause) (i X : ℕ) → Dec (Met len f i X)
met_dec len f i X =
    elim (some_below (λ k. ((f k).item ≡ i) × ((f k).alternative.number ⊆ X))
    (λ k. Dec.and (ℕ_discrete (f k).item i) (⊆_dec (f k).alternative.number X)) len) [
      | inl found ↦ yes (found.0, found.1, found.2.0, found.2.1)
      | inr rest ↦ no (λ m. rest m.0 m.1 (m.2, m.3))
    ]

pub table_laws : (t : ClauseTable) → LearningSpace (first t.list.items) (Builds t.list)
table_laws t =
    let l = t.list in
    let n = l.items in
    let stays = met_stays l.len (at l.clauses) in
    let below : (i : ℕ) → i ∈ first n → i < 30 = λ i h. omega (arith, (∈-first n i).0 h, l.bounds) in
    built_space (first n) (Met l.len (at l.clauses))
    (λ e. ∉_empty 0 (subst (λ (X : ℕ). 0 ∈ X) e ((∈-first n 0).1 (omega (arith, l.bounds)))))
    below
    (record {
      stays = stays;
      whole = whole_from_items (first n) (Met l.len (at l.clauses)) stays 30 below (met_dec l.len (at l.clauses))
          (λ i h. t.reachable i ((∈-first n i).0 h));
    })

-- the items that can be reached are those of the largest buildable set B, and D holds the others
module _ (l : ClauseList) (A B D : ℕ) (whole : A ≡ first l.items) (p : Largest (Builds l) A B) (rest : Members D (λ i. (i ∈ A) × (i ∉ B))) where
  is_item : (i : ℕ) → (i ∈ A) ↔ (i < l.items)
  is_item i = subst (λ (X : ℕ). (i ∈ X) ↔ (i < l.items)) (sym whole) (∈-first l.items i)

  not_left : (i : ℕ) → i < l.items → (i ∈ D → ⊥) → Reaches l i
  not_left i h n =
      elim (∈_dec i B) [ yes b ↦ (B, b, p.is_state) | no nb ↦ absurd (n ((rest i).1 ((is_item i).1 h, nb))) ]

  pub all_reached : D ≡ 0 → (i : ℕ) → i < l.items → Reaches l i
  all_reached e i h = not_left i h (λ m. ∉_empty i (subst (λ (X : ℕ). i ∈ X) e m))

  pub least_left : (i : ℕ) → Least D i → Misses l i
  least_left i least =
      let left = (rest i).0 least.0 in
      let item : i < l.items = (is_item i).0 left.0 in
      record {
        is_item = item;
        unreachable = λ r.
            let inside = built_inside (first l.items) (Met l.len (at l.clauses)) r.0 r.2 in
            left.1 (p.holds r.0 r.2 (subst (λ (X : ℕ). r.0 ⊆ X) (sym whole) inside) i r.1);
        least = λ j h. not_left j (omega arith) (λ m. let le : i ≤ j = least.1 j m in omega arith);
      }
