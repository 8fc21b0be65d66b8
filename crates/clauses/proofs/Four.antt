-- Where the items of the rows rise, fewer than four of the first k rows have an item exactly when the fourth row back has another.
-- Assumes nothing.
use Rattle.std.proofs.Common.{◌≡◌, ℕ, zero, suc, ◌+◌, ◌-◌, ◌<◌, ◌≤◌, Bool, cond, not, eqb, Decides, refl, ap, ◌∙◌, le_refl, add-zero, arith}
use native.Mathlib.Decide.{ℕ_discrete}
use Rattle.std.proofs.lemmas.Bool.{ne_eqb}
use Rattle.std.proofs.lemmas.Bool.Decides.{Decides-eqb, Decides-not, Decides-like}
use Rattle.clauses.specs.declared.clause.Clause.{Clause}
use Rattle.clauses.specs.Clauses.{earlier}

module _ (f : ℕ → Clause) (i : ℕ) where
  -- whether a row has the item, as 1 or 0
  has : ℕ → ℕ
  has k = cond (eqb (f k).item i) 1 0

  has_one : (k : ℕ) → (f k).item ≡ i → has k ≡ 1
  unfolding has
  has_one k e = ap (λ (b : Bool). cond b 1 0) ((Decides-eqb (f k).item i).1 e)

  has_none : (k : ℕ) → ((f k).item ≡ i → ⊥) → has k ≡ 0
  unfolding has
  has_none k ne = ap (λ (b : Bool). cond b 1 0) (ne_eqb (f k).item i ne)

  has_le : (k : ℕ) → has k ≤ 1
  has_le k = elim (ℕ_discrete (f k).item i) [ yes e ↦ omega (arith, has_one k e) | no ne ↦ omega (arith, has_none k ne) ]

  earlier_suc : (k : ℕ) → earlier f (suc k) i ≡ earlier f k i + has k
  unfolding has
  earlier_suc k = refl

  earlier_le : (k : ℕ) → earlier f k i ≤ k
  earlier_le zero = le_refl 0
  earlier_le (suc k) = omega (arith, earlier_le k, has_le k, earlier_suc k)

  earlier_none : (k : ℕ) → ((j : ℕ) → j < k → (f j).item ≡ i → ⊥) → earlier f k i ≡ 0
  earlier_none zero h = refl
  earlier_none (suc k) h =
      omega (arith, earlier_none k (λ j l. h j (omega arith)), has_none k (h k (omega arith)), earlier_suc k)

-- where the items of the first k rows rise, and up to item i
module _ (f : ℕ → Clause) (k i : ℕ) (rises : (j : ℕ) → j + 1 < k → (f j).item ≤ (f (j + 1)).item) (last : (j : ℕ) → j + 1 ≡ k → (f j).item ≤ i) where
  rises_by : (j d : ℕ) → j + d < k → (f j).item ≤ (f (j + d)).item
  rises_by j zero h = omega (arith, ap (λ (m : ℕ). (f m).item) (add-zero j))
  rises_by j (suc d) h =
      let e : j + suc d ≡ (j + d) + 1 = omega arith in
      omega (arith, rises_by j d (omega arith), rises (j + d) (omega arith), ap (λ (m : ℕ). (f m).item) e)

  rises_to : (j m : ℕ) → j ≤ m → m < k → (f j).item ≤ (f m).item
  rises_to j m h l =
      let e : j + (m - j) ≡ m = omega arith in
      omega (arith, rises_by j (m - j) (omega arith), ap (λ (n : ℕ). (f n).item) e)

  to_item : (j : ℕ) → j < k → (f j).item ≤ i
  to_item j h = omega (arith, rises_to j (k - 1) (omega arith) (omega arith), last (k - 1) (omega arith))

  module _ (m : ℕ) (back : m + 4 ≡ k) where
    -- the last four rows, one by one
    last_four : earlier f k i ≡ earlier f m i + has f i m + has f i (suc m) + has f i (suc (suc m)) + has f i (suc (suc (suc m)))
    last_four =
        let e : k ≡ suc (suc (suc (suc m))) = omega arith in
        ap (λ (n : ℕ). earlier f n i) e
        ∙ omega (arith, earlier_suc f i m, earlier_suc f i (suc m), earlier_suc f i (suc (suc m)), earlier_suc f i (suc (suc (suc m))))

    four_from_same : (f m).item ≡ i → 4 ≤ earlier f k i
    four_from_same e =
        let same : (j : ℕ) → m ≤ j → j < k → has f i j ≡ 1 =
        λ j low high. has_one f i j (omega (arith, rises_to m j low high, to_item j high)) in
        omega (
          arith,
          last_four,
          same m (omega arith) (omega arith),
          same (suc m) (omega arith) (omega arith),
          same (suc (suc m)) (omega arith) (omega arith),
          same (suc (suc (suc m))) (omega arith) (omega arith),
        )

    three_from_other : ((f m).item ≡ i → ⊥) → earlier f k i < 4
    three_from_other ne =
        let less : (f m).item < i = omega (arith, to_item m (omega arith), ne) in
        omega (
          arith,
          last_four,
          earlier_none f i m (λ j l e. let le : (f j).item ≤ (f m).item = rises_to j m (omega arith) (omega arith) in omega arith),
          has_none f i m ne,
          has_le f i (suc m),
          has_le f i (suc (suc m)),
          has_le f i (suc (suc (suc m))),
        )

  pub few_decides : 4 ≤ k → Decides (not (eqb (f (k - 4)).item i)) (earlier f k i < 4)
  few_decides h =
      Decides-like _ (three_from_other (k - 4) (omega arith))
      (λ few same. let four : 4 ≤ earlier f k i = four_from_same (k - 4) (omega arith) same in omega arith)
      (Decides-not _ (Decides-eqb (f (k - 4)).item i))
