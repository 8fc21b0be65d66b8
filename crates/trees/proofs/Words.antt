-- The listing order is a total order; what lies between two words with a common beginning has that beginning; and words of at
-- most 30 letters have ranks that rise with it.
-- Assumes nothing.
use Rattle.std.proofs.Common.{◌≡◌, ℕ, zero, suc, ◌+◌, ◌*◌, ◌^◌, ◌<◌, ◌≤◌, ◌⊎◌, List, [], ◌∷◌, ◌++◌, length, sym, refl, ap, ◌∙◌, ap₂, inl, inr, ⊎_elim, suc-le-suc, zero-le, le_of_suc-le-suc, not-suc-le-zero, mul-le-mul_right, suc-mul, pow-suc, arith, lit≤}
use native.Mathlib.Decide.{ℕ_discrete, dec_lt}
use native.Mathlib.Nat.{one-le-pow}
use Rattle.std.specs.List.{All}
use Rattle.std.proofs.lemmas.List.Elements.{All-head, All-tail}
use Rattle.trees.specs.Words.{◌≺◌}

pub ≺_irrefl : (w : List ℕ) → w ≺ w → ⊥
unfolding ◌≺◌
≺_irrefl [] h = h
≺_irrefl (i ∷ w) h = ⊎_elim (λ (lt : i < i). omega arith) (λ e. ≺_irrefl w e.1) h

pub ≺_trans : (u v w : List ℕ) → u ≺ v → v ≺ w → u ≺ w
unfolding ◌≺◌
≺_trans [] [] w h k = absurd h
≺_trans [] (j ∷ v) [] h k = absurd k
≺_trans [] (j ∷ v) (k ∷ w) h l = tt
≺_trans (i ∷ u) [] w h k = absurd h
≺_trans (i ∷ u) (j ∷ v) [] h k = absurd k
≺_trans (i ∷ u) (j ∷ v) (k ∷ w) h l =
    ⊎_elim
    (λ (a : i < j). ⊎_elim (λ (b : j < k). inl (omega arith)) (λ (b : (j ≡ k) × (v ≺ w)). let e : j ≡ k = b.0 in inl (omega arith)) l)
    (λ (a : (i ≡ j) × (u ≺ v)). let e : i ≡ j = a.0 in
    ⊎_elim (λ (b : j < k). inl (omega arith)) (λ (b : (j ≡ k) × (v ≺ w)). inr (a.0 ∙ b.0, ≺_trans u v w a.1 b.1)) l)
    h

-- of two words one comes first, unless they are the same
pub ≺_cases : (w v : List ℕ) → (w ≺ v) ⊎ ((w ≡ v) ⊎ (v ≺ w))
unfolding ◌≺◌
≺_cases [] [] = inr (inl refl)
≺_cases [] (j ∷ v) = inl tt
≺_cases (i ∷ w) [] = inr (inr tt)
≺_cases (i ∷ w) (j ∷ v) =
    elim (ℕ_discrete i j) [
      | yes e ↦ ⊎_elim (λ l. inl (inr (e, l))) (⊎_elim (λ s. inr (inl (ap₂ ◌∷◌ e s))) (λ g. inr (inr (inr (sym e, g))))) (≺_cases w v)
      | no ne ↦ elim (dec_lt i j) [ yes l ↦ inl (inl l) | no n ↦ inr (inr (inl (omega arith))) ]
    ]

-- a common beginning does not matter
pub ≺_along : (u a b : List ℕ) → a ≺ b → u ++ a ≺ u ++ b
unfolding ◌≺◌
≺_along [] a b h = h
≺_along (i ∷ u) a b h = inr (refl, ≺_along u a b h)

pub ≺_rest : (u a b : List ℕ) → u ++ a ≺ u ++ b → a ≺ b
unfolding ◌≺◌
≺_rest [] a b h = h
≺_rest (i ∷ u) a b h = ⊎_elim (λ (l : i < i). absurd (omega arith)) (λ e. ≺_rest u a b e.1) h

-- a word between two that begin with u begins with u
pub ≺_between : (u a b z : List ℕ) → u ++ a ≺ z → z ≺ u ++ b → (r : List ℕ) × (z ≡ u ++ r)
unfolding ◌≺◌
≺_between [] a b z h k = (z, refl)
≺_between (i ∷ u) a b [] h k = absurd h
≺_between (i ∷ u) a b (j ∷ z) h k =
    let same : i ≡ j = ⊎_elim (λ (l : i < j). ⊎_elim (λ (m : j < i). absurd (omega arith)) (λ m. sym m.0) k) (λ l. l.0) h in
    let lower : u ++ a ≺ z = ⊎_elim (λ (l : i < j). absurd (omega arith)) (λ l. l.1) h in
    let upper : z ≺ u ++ b = ⊎_elim (λ (l : j < i). absurd (omega arith)) (λ l. l.1) k in
    let found = ≺_between u a b z lower upper in
    (found.0, ap₂ ◌∷◌ (sym same) found.1)

-- ---- last letters

pub snoc_cases : (w : List ℕ) → (w ≡ []) ⊎ ((u : List ℕ) × (i : ℕ) × (w ≡ u ++ (i ∷ [])))
snoc_cases [] = inl refl
snoc_cases (i ∷ w) =
    inr (⊎_elim (λ e. ([], i, ap (λ (v : List ℕ). i ∷ v) e)) (λ s. (i ∷ s.0, s.1, ap (λ (v : List ℕ). i ∷ v) s.2)) (snoc_cases w))

-- ---- ranks

-- letters are digits from 1 to 30 of a number to the base 31, and what is missing at the end is 0
pub rank : ℕ → List ℕ → ℕ
rank zero w = 0
rank (suc d) [] = 0
rank (suc d) (i ∷ w) = suc i * 31 ^ d + rank d w

power : (d : ℕ) → 0 < 31 ^ d
power d = one-le-pow d 31 (lit≤ tt)

pub rank_bound : (d : ℕ) (w : List ℕ) → length w ≤ d → All (λ i. i < 30) w → rank d w < 31 ^ d
unfolding rank
rank_bound zero w h a = power 0
rank_bound (suc d) [] h a = power (suc d)
rank_bound (suc d) (i ∷ w) h a =
    let low : suc i * 31 ^ d ≤ 30 * 31 ^ d = mul-le-mul_right (31 ^ d) (All-head (λ i. i < 30) i w a) in
    let rest : rank d w < 31 ^ d = rank_bound d w (le_of_suc-le-suc h) (All-tail (λ i. i < 30) i w a) in
    omega (arith, pow-suc 31 d)

pub rank_rises : (d : ℕ) (w v : List ℕ) → length w ≤ d → length v ≤ d → All (λ i. i < 30) w → All (λ i. i < 30) v → w ≺ v → rank d w < rank d v
unfolding rank ◌≺◌
rank_rises zero [] [] hw hv a b l = absurd l
rank_rises zero [] (j ∷ v) hw hv a b l = absurd (not-suc-le-zero hv)
rank_rises zero (i ∷ w) v hw hv a b l = absurd (not-suc-le-zero hw)
rank_rises (suc d) [] [] hw hv a b l = absurd l
rank_rises (suc d) [] (j ∷ v) hw hv a b l =
    let high : 1 * 31 ^ d ≤ suc j * 31 ^ d = mul-le-mul_right (31 ^ d) (suc-le-suc zero-le) in
    omega (arith, power d)
rank_rises (suc d) (i ∷ w) [] hw hv a b l = absurd l
rank_rises (suc d) (i ∷ w) (j ∷ v) hw hv a b l =
    ⊎_elim
    (λ (lt : i < j). let high : suc (suc i) * 31 ^ d ≤ suc j * 31 ^ d = mul-le-mul_right (31 ^ d) (suc-le-suc lt) in
    let rest : rank d w < 31 ^ d = rank_bound d w (le_of_suc-le-suc hw) (All-tail (λ i. i < 30) i w a) in
    omega (arith, suc-mul (suc i) (31 ^ d)))
    (λ (e : (i ≡ j) × (w ≺ v)). let same : suc i * 31 ^ d ≡ suc j * 31 ^ d = ap (λ (k : ℕ). suc k * 31 ^ d) e.0 in
    let rest : rank d w < rank d v = rank_rises d w v (le_of_suc-le-suc hw) (le_of_suc-le-suc hv) (All-tail (λ i. i < 30) i w a) (All-tail (λ i. i < 30) j v b) e.1 in
    omega arith)
    l
