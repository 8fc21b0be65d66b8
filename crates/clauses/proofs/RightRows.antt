-- When a row is right.
-- Assumes nothing.
use Rattle.std.proofs.Common.{◌≡◌, ℕ, zero, suc, ◌+◌, ◌^◌, ◌<◌, ◌≤◌, cond, eqb, ◌↔◌, List, refl, subst, ap₂, le_refl, arith}
use Rattle.item_sets.specs.Sets.{◌∈◌, ◌∉◌, ◌⊆◌, Members}
use Rattle.records.specs.declared.Kind.TheVariants.{Clauses}
use Rattle.records.specs.declared.Trailer.{Trailer}
use Rattle.records.specs.Format.{Says, of_items, of_rows}
use Rattle.clauses.specs.declared.clause.Clause.{Clause}
use Rattle.clauses.specs.Clauses.{earlier, Follows, Right}
use Rattle.item_sets.proofs.Members.{members_below, number_below}

-- an alternative that lies inside the other items below n
pub inside_others : (n i A B O : ℕ) → n ≤ 30 → Members B (λ j. (j < n) × (j < 32)) → Members O (λ j. (j ∈ B) × (j ≡ i → ⊥))
    → (A ⊆ O) ↔ ((A < 2 ^ n) × (i ∉ A))
inside_others n i A B O few all others = (
  λ f. (number_below A n (λ j h. ((all j).0 ((others j).0 (f j h)).0).0), λ h. ((others i).0 (f i h)).1 refl),
  λ p j h.
      let lt : j < n = members_below A n p.0 j h in
      (others j).1 ((all j).1 (lt, omega arith), λ e. p.1 (subst (λ (m : ℕ). m ∈ A) e h)),
)

-- whether a clause is right depends on it and on those before it
module _ (f g : ℕ → Clause) where
  earlier_agree : (k i : ℕ) → ((j : ℕ) → j < k → f j ≡ g j) → earlier f k i ≡ earlier g k i
  earlier_agree zero i h = refl
  earlier_agree (suc k) i h =
      ap₂ (λ (m : ℕ) (q : Clause). m + cond (eqb q.item i) 1 0) (earlier_agree k i (λ j l. h j (omega arith))) (h k (omega arith))

  pub follows_agree : (n k : ℕ) (c : Clause) → ((j : ℕ) → j < k → f j ≡ g j) → Follows n f k c → Follows n g k c
  follows_agree n k c h r = record {
    item_below = r.item_below;
    in_order = λ j s. subst (λ (p : Clause). p.item ≤ c.item) (h j (omega arith)) (r.in_order j s);
    at_most_four = subst (λ (m : ℕ). m < 4) (earlier_agree k c.item h) r.at_most_four;
    inside = r.inside;
    of_others = r.of_others;
  }

  pub right_agree : (n k : ℕ) → ((j : ℕ) → j ≤ k → f j ≡ g j) → Right n f k → Right n g k
  right_agree n k h r = subst (Follows n g k) (h k (le_refl k)) (follows_agree n k (f k) (λ j l. h j (omega arith)) r)

-- what a right trailer says of the rows' places
module _ (b : List ℕ) (t : Trailer) (s : Says Clauses b t) where
  pub few_rows : t.rows ≤ 120
  few_rows = omega (arith, s.right of_rows, s.same_rows)

  pub few_items : (1 ≤ t.items) × (t.items ≤ 30)
  few_items = omega (arith, s.right of_items, s.same_items)
