-- The fresh table is lawful: its one clause is right, and its one item can be reached.
-- Assumes nothing.
use Rattle.std.proofs.Common.{◌≡◌, ℕ, ◌<◌, sym, ap, subst, arith, lit<}
use Rattle.item_sets.specs.Sets.{◌⊆◌, ◌⊕◌}
use Rattle.item_sets.proofs.Members.{∈-first, ∉_empty, empty_⊆, with_has}
use Rattle.clauses.specs.declared.clause.Clause.{Clause}
use Rattle.clauses.specs.Building.{none, add}
use Rattle.clauses.specs.Clauses.{Follows, Reachable}
use Rattle.clauses.specs.Loading.{free_clause}

-- the clause may come first
pub free_follows : (f : ℕ → Clause) → Follows 1 f 0 free_clause
free_follows f = record {
  item_below = lit< tt;
  in_order = λ j e. absurd (omega arith);
  at_most_four = lit< tt;
  inside = lit< tt;
  of_others = ∉_empty 0;
}

module _ (f : ℕ → Clause) (free : f 0 ≡ free_clause) where
  reach_first : Reachable 1 1 f 0
  reach_first = (
    0 ⊕ 0,
    with_has 0 0,
    add none 0 ((∈-first 1 0).1 (lit< tt)) (∉_empty 0)
        (0, lit< tt, ap (λ (q : Clause). q.item) free, subst (λ (q : Clause). q.alternative.number ⊆ 0) (sym free) (empty_⊆ 0)),
  )

  pub fresh_reachable : (i : ℕ) → i < 1 → Reachable 1 1 f i
  fresh_reachable i h = let e : 0 ≡ i = omega arith in subst (Reachable 1 1 f) e reach_first
