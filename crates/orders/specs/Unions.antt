-- Unions of beginnings, one of each row: they are the states of a learning space, and one is the largest inside a set.
-- Assumes nothing.
use Rattle.std.specs.Prelude.{◌≡◌, ℕ, zero, suc, ◌<◌, ◌≤◌, max, List, [], ◌∷◌, ◌++◌, length, take, ◌≢◌, slice_index_or, refl}
use Rattle.std.proofs.Common.{sym, ap, ap₂, subst, ◌∙◌, append-nil, append_assoc, zero-le, le_refl, not-suc-le-zero, arith}
use Rattle.std.proofs.Math.Decide.{dec_le}
use Rattle.std.specs.List.{AllByRecursion}
use Rattle.std.proofs.lemmas.List.{take_all}
use Rattle.item_sets.specs.Sets.{◌∈◌, ◌⊆◌, ◌∪◌, ◌⊕◌, ◌⊖◌, first}
use Rattle.item_sets.proofs.Members.{∈_dec, ⊆_refl, ⊆_trans, empty_⊆, ∪-⊆, ∪_mono, ⊆-∪_left, ⊆-∪_right, ∈-first, ∉_empty, with_has, with_present, without-with}
use Rattle.spaces.specs.Largest.{Largest}
use Rattle.spaces.specs.Laws.{LearningSpace}
use Rattle.spaces.proofs.Theory.{largest_of}
use Rattle.orders.specs.Orders.{set_of, UnionOfBeginnings, LongestBeginning}
use Rattle.item_sets.proofs.Unions.{∪_empty_left, ∪_empty_right, ∪_part, ∪_comm, ∪_assoc, ∪_cross, with-∪}
use Rattle.orders.specs.Beginnings.{set_of_more, set_of_mono, longest_in}

-- ---- the laws of a learning space

union_empty : (rows : List (List ℕ)) → UnionOfBeginnings rows 0
unfolding set_of
union_empty [] = refl
union_empty (row ∷ rows) = (0, zero-le, 0, union_empty rows, sym (∪_empty_left 0))

-- the whole of the first row is enough
union_whole : (n : ℕ) (rows : List (List ℕ)) → 0 < length rows → AllByRecursion (λ row. set_of row ≡ first n) rows → UnionOfBeginnings rows (first n)
union_whole n [] h a = absurd (not-suc-le-zero h)
union_whole n (row ∷ rows) h a = (
  length row,
  le_refl (length row),
  0,
  union_empty rows,
  sym a.0 ∙ ap set_of (sym (take_all (length row) row (le_refl (length row)))) ∙ sym (∪_empty_right (set_of (take (length row) row))),
)

union_inside : (n : ℕ) (rows : List (List ℕ)) → AllByRecursion (λ row. set_of row ≡ first n) rows → (K : ℕ) → UnionOfBeginnings rows K → K ⊆ first n
union_inside n [] a K e = subst (λ (X : ℕ). X ⊆ first n) (sym e) (empty_⊆ (first n))
union_inside n (row ∷ rows) a K u =
    let k = u.0 in
    let all : take (length row) row ≡ row = take_all (length row) row (le_refl (length row)) in
    let part : set_of (take k row) ⊆ first n =
    subst (λ (X : ℕ). set_of (take k row) ⊆ X) (ap set_of all ∙ a.0) (set_of_mono row k (length row) u.1) in
    subst (λ (X : ℕ). X ⊆ first n) (sym u.4) (∪-⊆ (set_of (take k row)) u.2 (first n) part (union_inside n rows a.1 u.2 u.3))

-- a union of two beginnings of a row is the longer of them
longer : (row : List ℕ) (j k : ℕ) → set_of (take j row) ∪ set_of (take k row) ≡ set_of (take (max j k) row)
longer row j k =
    elim (dec_le j k) [
      | yes le ↦
          ∪_part _ _ (set_of_mono row j k le) ∙ ap (λ (m : ℕ). set_of (take m row)) (omega arith)
      | no gt ↦
          ∪_comm (set_of (take j row)) (set_of (take k row)) ∙ ∪_part _ _ (set_of_mono row k j (omega arith))
          ∙ ap (λ (m : ℕ). set_of (take m row)) (omega arith)
    ]

union_joins : (rows : List (List ℕ)) (K M : ℕ) → UnionOfBeginnings rows K → UnionOfBeginnings rows M → UnionOfBeginnings rows (K ∪ M)
union_joins [] K M e f = ap₂ ◌∪◌ e f ∙ ∪_empty_left 0
union_joins (row ∷ rows) K M u v = (
  max u.0 v.0,
  omega (arith, u.1, v.1),
  u.2 ∪ v.2,
  union_joins rows u.2 v.2 u.3 v.3,
  ap₂ ◌∪◌ u.4 v.4 ∙ ∪_cross (set_of (take u.0 row)) u.2 (set_of (take v.0 row)) v.2
      ∙ ap (λ (X : ℕ). X ∪ (u.2 ∪ v.2)) (longer row u.0 v.0),
)

-- an item whose removal leaves a union
Shrinks : List (List ℕ) → ℕ → Type 0
Shrinks rows K = (i : ℕ) × (i ∈ K) × UnionOfBeginnings rows (K ⊖ i)

-- Off the beginning of the first row, the last item is taken: either it is gone then, or the union is what it was, and the
-- beginning is shorter. Where nothing is left of it, an item goes from the other rows.
shrinks_row : (row : List ℕ) (rows : List (List ℕ)) (J : ℕ) → UnionOfBeginnings rows J → ((J ≢ 0) → Shrinks rows J) → (k : ℕ) → k ≤ length row → (K : ℕ) → K ≡ set_of (take k row) ∪ J → (K ≢ 0) → Shrinks (row ∷ rows) K
unfolding Shrinks set_of
shrinks_row row rows J u ih zero le K e ne =
    let same : K ≡ J = e ∙ ∪_empty_left J in
    let less = ih (λ z. ne (same ∙ z)) in (
      less.0,
      subst (λ (X : ℕ). less.0 ∈ X) (sym same) less.1,
      (0, zero-le, J ⊖ less.0, less.2, ap (λ (X : ℕ). X ⊖ less.0) same ∙ sym (∪_empty_left (J ⊖ less.0))),
    )
shrinks_row row rows J u ih (suc k) le K e ne =
    let B = set_of (take k row) in
    let i = slice_index_or row k 0 in
    let more : K ≡ (B ∪ J) ⊕ i = e ∙ ap (λ (X : ℕ). X ∪ J) (set_of_more row k le) ∙ with-∪ B i J in
    elim (∈_dec i (B ∪ J)) [
      | yes m ↦ shrinks_row row rows J u ih k (omega arith) K (more ∙ with_present (B ∪ J) i m) ne
      | no n ↦ (
        i,
        subst (λ (X : ℕ). i ∈ X) (sym more) (with_has (B ∪ J) i),
        (k, omega arith, J, u, ap (λ (X : ℕ). X ⊖ i) more ∙ without-with (B ∪ J) i n),
      )
    ]

union_shrinks : (rows : List (List ℕ)) (K : ℕ) → UnionOfBeginnings rows K → (K ≢ 0) → Shrinks rows K
union_shrinks [] K e ne = absurd (ne e)
union_shrinks (row ∷ rows) K u ne =
    shrinks_row row rows u.2 u.3 (union_shrinks rows u.2 u.3) u.0 u.1 K u.4 ne

-- ---- the largest union inside a set, row by row

-- with one row more at the end
union_push : (rows : List (List ℕ)) (row : List ℕ) (J k : ℕ) → UnionOfBeginnings rows J → k ≤ length row → UnionOfBeginnings (rows ++ row ∷ []) (J ∪ set_of (take k row))
union_push [] row J k e le = (k, le, 0, refl, ap (λ (X : ℕ). X ∪ set_of (take k row)) e ∙ ∪_comm 0 (set_of (take k row)))
union_push (x ∷ rows) row J k u le = (
  u.0,
  u.1,
  u.2 ∪ set_of (take k row),
  union_push rows row u.2 k u.3 le,
  ap (λ (X : ℕ). X ∪ set_of (take k row)) u.4 ∙ ∪_assoc (set_of (take u.0 x)) u.2 (set_of (take k row)),
)

union_pop : (rows : List (List ℕ)) (row : List ℕ) (K : ℕ) → UnionOfBeginnings (rows ++ row ∷ []) K → (J : ℕ) × (k : ℕ) × UnionOfBeginnings rows J × (k ≤ length row) × (K ≡ J ∪ set_of (take k row))
union_pop [] row K u =
    (0, u.0, refl, u.1, u.4 ∙ ap (λ (X : ℕ). set_of (take u.0 row) ∪ X) u.3 ∙ ∪_comm (set_of (take u.0 row)) 0)
union_pop (x ∷ rows) row K u =
    let r = union_pop rows row u.2 u.3 in
    let B = set_of (take u.0 x) in (
      B ∪ r.0,
      r.1,
      (u.0, u.1, r.0, r.2, refl),
      r.3,
      u.4 ∙ ap (λ (X : ℕ). B ∪ X) r.4 ∙ sym (∪_assoc B r.0 (set_of (take r.1 row))),
    )

pub largest_none : (S : ℕ) → Largest (UnionOfBeginnings []) S 0
largest_none S = largest_of (UnionOfBeginnings []) S 0 refl (empty_⊆ S) (λ K e f. subst (λ (X : ℕ). X ⊆ 0) (sym e) (⊆_refl 0))

pub largest_more : (rows : List (List ℕ)) (row : List ℕ) (S U B : ℕ) → Largest (UnionOfBeginnings rows) S U → LongestBeginning row S B → Largest (UnionOfBeginnings (rows ++ row ∷ [])) S (U ∪ B)
unfolding LongestBeginning
largest_more rows row S U B g l =
    largest_of (UnionOfBeginnings (rows ++ row ∷ [])) S (U ∪ B)
    (subst (λ (X : ℕ). UnionOfBeginnings (rows ++ row ∷ []) (U ∪ X)) (sym l.2) (union_push rows row U l.0 g.is_state l.1))
    (∪-⊆ U B S g.inside l.3)
    (λ K u f.
    let r = union_pop rows row K u in
    let J = r.0 in
    let C = set_of (take r.1 row) in
    let sub : J ∪ C ⊆ S = subst (λ (X : ℕ). X ⊆ S) r.4 f in
    let in_j : J ⊆ U = g.holds J r.2 (⊆_trans J (J ∪ C) S (⊆-∪_left J C) sub) in
    let le = l.4 r.1 r.3 (⊆_trans C (J ∪ C) S (⊆-∪_right J C) sub) in
    let in_c : C ⊆ B = subst (λ (X : ℕ). C ⊆ X) (sym l.2) (set_of_mono row r.1 l.0 le) in
    subst (λ (X : ℕ). X ⊆ U ∪ B) (sym r.4) (∪_mono J C U B in_j in_c))

-- rows to come, each with its longest beginning
largest_rest : (S : ℕ) (rows rest : List (List ℕ)) (U : ℕ) → Largest (UnionOfBeginnings rows) S U → (L : ℕ) × Largest (UnionOfBeginnings (rows ++ rest)) S L
largest_rest S rows [] U g = (U, subst (λ (rs : List (List ℕ)). Largest (UnionOfBeginnings rs) S U) (sym (append-nil rows)) g)
largest_rest S rows (row ∷ rest) U g =
    let B = longest_in row S in
    let L = largest_rest S (rows ++ row ∷ []) rest (U ∪ B.0) (largest_more rows row S U B.0 g B.1) in
    (L.0, subst (λ (rs : List (List ℕ)). Largest (UnionOfBeginnings rs) S L.0) (append_assoc rows (row ∷ []) rest) L.1)

largest_union : (rows : List (List ℕ)) (S : ℕ) → (L : ℕ) × Largest (UnionOfBeginnings rows) S L
largest_union rows S = largest_rest S [] rows 0 (largest_none S)

-- ---- all the laws together

pub orders_laws : (n : ℕ) (rows : List (List ℕ)) → 1 ≤ n → n ≤ 30 → 0 < length rows → AllByRecursion (λ row. set_of row ≡ first n) rows → LearningSpace (first n) (UnionOfBeginnings rows)
unfolding Shrinks
orders_laws n rows low high some all =
    record {
      some_item = λ z. ∉_empty 0 (subst (λ (X : ℕ). 0 ∈ X) z ((∈-first n 0).1 low));
      items_below = λ i m. let lt : i < n = (∈-first n i).0 m in omega arith;
      inside = union_inside n rows all;
      empty = union_empty rows;
      whole = union_whole n rows some all;
      shrinks = union_shrinks rows;
      joins = union_joins rows;
    }
