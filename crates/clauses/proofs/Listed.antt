-- A list of clauses that grows: its type keeps each clause right, and the next one may come where it follows them.
-- Assumes nothing.
use Rattle.std.proofs.Common.{◌≡◌, ℕ, ◌+◌, ◌<◌, ◌≤◌, List, sym, refl, subst, arith, below_more}
use Rattle.std.proofs.Math.Logic.{∥∥₁_elim, ∥∥₁_map}
use Rattle.std.proofs.Math.Bridge.{le_prop}
use Rattle.clauses.specs.declared.clause.Clause.{Clause}
use Rattle.clauses.specs.declared.list.ClauseList.{ClauseList}
use Rattle.clauses.specs.Clauses.{at, Follows, Right}
use Rattle.clauses.proofs.RightRows.{follows_agree, right_agree}

module _ (l : ClauseList) where
  pub items_rise : (j : ℕ) → j + 1 < l.len → (at l.clauses j).item ≤ (at l.clauses (j + 1)).item
  items_rise j h = ∥∥₁_elim (l.alternatives (j + 1) h) le_prop (λ r. r.in_order j refl)

  -- the clauses cs are those of the list and one more
  pub still_right : (c : Clause) (cs : List Clause) → Follows l.items (at l.clauses) l.len c → ((j : ℕ) → j < l.len → at cs j ≡ at l.clauses j) → at cs l.len ≡ c
      → (k : ℕ) → k < l.len + 1 → ∥ Right l.items (at cs) k ∥₁
  still_right c cs f same new =
      below_more (λ (k : ℕ). ∥ Right l.items (at cs) k ∥₁) l.len
      (λ k h. ∥∥₁_map (l.alternatives k h) (right_agree (at l.clauses) (at cs) l.items k (λ j le. sym (same j (omega arith)))))
      ∣ subst (Follows l.items (at cs) l.len) (sym new) (follows_agree (at l.clauses) (at cs) l.items l.len c (λ j h. sym (same j h)) f) ∣₁
