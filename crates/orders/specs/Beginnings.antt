-- The sets that the beginnings of a row make, and that an order of n items makes all of them.
-- Assumes nothing.
use Rattle.std.specs.Prelude.{◌≡◌, ℕ, zero, suc, ◌+◌, ◌<◌, ◌≤◌, List, [], ◌∷◌, length, take, ◌≢◌, slice_index, slice_index_or, refl}
use Rattle.std.proofs.Common.{sym, ap, subst, ◌∙◌, ⊎_elim, le_refl, le_of_eq, le_of_suc-le-suc, not-suc-le-zero, arith}
use Rattle.std.proofs.Math.Decide.{dec_lt, ℕ_discrete}
use Rattle.std.proofs.lemmas.List.{take_all}
use Rattle.item_sets.specs.Sets.{◌∈◌, ◌∉◌, ◌⊆◌, ◌⊕◌, first, below}
use Rattle.item_sets.proofs.Members.{∈_dec, ⊆_antisym, ⊆_refl, empty_⊆, ∉_empty, ∈-with, with_has, with-⊆, below-with, below_full, below-first, ∈-first}
use Rattle.orders.specs.Orders.{Order, set_of, LongestBeginning}
use Rattle.item_sets.proofs.Unions.{with_mono, with_swap, below_empty}

-- ---- one item more, and more of them

pub set_of_more : (row : List ℕ) (k : ℕ) → k < length row → set_of (take (suc k) row) ≡ set_of (take k row) ⊕ slice_index_or row k 0
unfolding set_of
set_of_more [] k h = absurd (not-suc-le-zero h)
set_of_more (x ∷ row) zero h = refl
set_of_more (x ∷ row) (suc k) h =
    ap (λ (n : ℕ). n ⊕ x) (set_of_more row k (le_of_suc-le-suc h)) ∙ with_swap (set_of (take k row)) (slice_index row k) x

pub set_of_mono : (row : List ℕ) (j k : ℕ) → j ≤ k → set_of (take j row) ⊆ set_of (take k row)
unfolding set_of
set_of_mono row zero k h = empty_⊆ (set_of (take k row))
set_of_mono row (suc j) zero h = absurd (not-suc-le-zero h)
set_of_mono [] (suc j) (suc k) h = ⊆_refl 0
set_of_mono (x ∷ row) (suc j) (suc k) h =
    with_mono (set_of (take j row)) (set_of (take k row)) x (set_of_mono row j k (le_of_suc-le-suc h))

-- ---- the items of a beginning are its entries

pub entry_in : (row : List ℕ) (p k : ℕ) → p < k → k ≤ length row → slice_index_or row p 0 ∈ set_of (take k row)
entry_in row p k h le =
    let i = slice_index_or row p 0 in
    set_of_mono row (suc p) k h i
    (subst (λ (n : ℕ). i ∈ n) (sym (set_of_more row p (omega arith))) (with_has (set_of (take p row)) i))

pub in_entry : (row : List ℕ) (k i : ℕ) → k ≤ length row → i ∈ set_of (take k row) → (p : ℕ) × (p < k) × (slice_index row p ≡ i)
unfolding set_of
in_entry row zero i le m = absurd (∉_empty i m)
in_entry row (suc k) i le m =
    ⊎_elim
    (λ h. let e = in_entry row k i (omega arith) h in (e.0, omega arith, e.2))
    (λ h. (k, le_refl (suc k), sym h))
    ((∈-with (set_of (take k row)) (slice_index row k) i).0 (subst (λ (n : ℕ). i ∈ n) (set_of_more row k le) m))

-- the next entry stands once if it is none of those before it
pub apart_more : (row : List ℕ) (i : ℕ) → i < length row → ((p q : ℕ) → p < q → q < i → slice_index row p ≢ slice_index row q) → slice_index_or row i 0 ∉ set_of (take i row) → (p q : ℕ) → p < q → q < i + 1 → slice_index row p ≢ slice_index row q
apart_more row i h apart new p q lt k e =
    elim (ℕ_discrete q i) [
      | yes same ↦
          let at : p < i = omega arith in
          new (subst (λ (x : ℕ). x ∈ set_of (take i row)) (e ∙ ap (λ (n : ℕ). slice_index row n) same) (entry_in row p i at (omega arith)))
      | no ne ↦ apart p q lt (omega arith) e
    ]

-- ---- an order has all the items: as many as there are, each below n

-- the k entries of a beginning are k items, since none stands twice
order_counts : (n : ℕ) (row : List ℕ) → Order n row → (k : ℕ) → k ≤ n → below (set_of (take k row)) n ≡ k
unfolding Order set_of
order_counts n row o zero h = below_empty n
order_counts n row o (suc k) h =
    let within : k < length row = omega (arith, o.0) in
    let i = slice_index_or row k 0 in
    let new : i ∉ set_of (take k row) = λ m. let e = in_entry row k i (omega arith) m in o.2 e.0 k e.1 within e.2 in
    ap (λ (X : ℕ). below X n) (set_of_more row k within)
    ∙ below-with (set_of (take k row)) i n new (o.1 k within)
    ∙ ap suc (order_counts n row o k (omega arith))

pub order_has_all : (n : ℕ) (row : List ℕ) → Order n row → set_of row ≡ first n
unfolding Order
order_has_all n row o = ⊆_antisym _ _ part (λ i m. below_full (set_of row) (first n) part n all i ((∈-first n i).0 m) m)
  where
    whole : take n row ≡ row
    whole = take_all n row (le_of_eq o.0)

    part : set_of row ⊆ first n
    part i m =
        let e = in_entry row n i (le_of_eq (sym o.0)) (subst (λ (xs : List ℕ). i ∈ set_of xs) (sym whole) m) in
        (∈-first n i).1 (subst (λ (j : ℕ). j < n) e.2 (o.1 e.0 (omega (arith, o.0, e.1))))

    all : below (set_of row) n ≡ below (first n) n
    all =
        ap (λ (xs : List ℕ). below (set_of xs) n) (sym whole)
        ∙ order_counts n row o n (le_refl n) ∙ sym (below-first n n (le_refl n))

-- ---- the longest beginning inside a set: up to the first item outside, or the whole row

pub longest_stops : (row : List ℕ) (S k : ℕ) → k < length row → set_of (take k row) ⊆ S → slice_index_or row k 0 ∉ S → LongestBeginning row S (set_of (take k row))
unfolding LongestBeginning
longest_stops row S k h f n =
    (k, omega arith, refl, f, λ j le g. elim (dec_lt k j) [ yes lt ↦ absurd (n (g (slice_index row k) (entry_in row k j lt le))) | no ge ↦ omega arith ])

pub longest_all : (row : List ℕ) (S k : ℕ) → k ≡ length row → set_of (take k row) ⊆ S → LongestBeginning row S (set_of (take k row))
unfolding LongestBeginning
longest_all row S k e f = (k, le_of_eq e, refl, f, λ j le g. omega arith)

-- there is one, found by going on as long as the next item lies inside
longest_from : (row : List ℕ) (S left k : ℕ) → k + left ≡ length row → set_of (take k row) ⊆ S → (B : ℕ) × LongestBeginning row S B
longest_from row S zero k e f = (set_of (take k row), longest_all row S k (omega arith) f)
longest_from row S (suc left) k e f =
    let h : k < length row = omega arith in
    elim (∈_dec (slice_index row k) S) [
      | yes m ↦
          longest_from row S left (suc k) (omega arith)
          (subst (λ (X : ℕ). X ⊆ S) (sym (set_of_more row k h)) (with-⊆ (set_of (take k row)) (slice_index row k) S f m))
      | no n ↦ (set_of (take k row), longest_stops row S k h f n)
    ]

pub longest_in : (row : List ℕ) (S : ℕ) → (B : ℕ) × LongestBeginning row S B
unfolding set_of
longest_in row S = longest_from row S (length row) 0 (omega arith) (empty_⊆ S)
