-- What can be built makes a learning space, whatever the conditions are, as long as they stay met and the whole can be built.
-- Assumes nothing.
use Rattle.std.specs.Prelude.{ℕ, zero, suc, ◌-◌, ◌<◌, ◌≤◌, ◌⊎◌, ◌≢◌, refl}
use Rattle.std.proofs.Common.{sym, subst, ◌∙◌, inl, inr, le_refl, not-suc-le-zero, arith}
use mathlib.Core.HLevel.{⊥_prop}
use Rattle.std.proofs.Math.Logic.{∥∥₁_elim}
use Rattle.std.proofs.Math.Decide.{ℕ_discrete}
use mathlib.Core.Logic.Dec
use Rattle.item_sets.specs.Sets.{◌∈◌, ◌∉◌, ◌⊆◌, ◌∪◌, ◌⊕◌, ◌⊖◌}
use Rattle.item_sets.proofs.Members.{∈_dec, ⊆_antisym, ⊆_trans, ⊆-∪_right, empty_⊆, with_has, ⊆-with, with-⊆, with_present, without-with, part_lt, ⊆_le}
use Rattle.item_sets.proofs.Unions.{∪-with, ∪_empty_right}
use Rattle.spaces.specs.Largest.{Largest}
use Rattle.spaces.specs.Laws.{LearningSpace}
use Rattle.spaces.proofs.Theory.{largest_of}
use Rattle.clauses.specs.Building.{Built, none, add, Buildable}

-- a decided property holds of some number below N, or of none
pub some_below : (P : ℕ → Type 0) → ((i : ℕ) → Dec (P i)) → (N : ℕ) → ((i : ℕ) × (i < N) × P i) ⊎ ((i : ℕ) → i < N → P i → ⊥)
some_below P dec zero = inr (λ i h p. not-suc-le-zero h)
some_below P dec (suc N) =
    elim (dec N) [
      | yes p ↦ inl (N, le_refl (suc N), p)
      | no n ↦ elim (some_below P dec N) [
        | inl found ↦ inl (found.0, omega arith, found.2)
        | inr rest ↦ inr (λ i h p. elim (ℕ_discrete i N) [
          | yes e ↦ n (subst P e p)
          | no ne ↦ rest i (omega arith) p
        ])
      ]
    ]

-- what can be built under some conditions can be built under weaker ones
pub built_weaker : (G : ℕ) (met weaker : ℕ → ℕ → Type 0) → ((i X : ℕ) → met i X → weaker i X) → (K : ℕ) → Built G met K → Built G weaker K
built_weaker G met weaker w K none = none
built_weaker G met weaker w K (add {K = J} b i g n m) = add (built_weaker G met weaker w J b) i g n (w i J m)

module _ (G : ℕ) (met : ℕ → ℕ → Type 0) where
  pub built_inside : (K : ℕ) → Built G met K → K ⊆ G
  built_inside K none = empty_⊆ G
  built_inside K (add {K = J} b i g n m) = with-⊆ J i G (built_inside J b) g

  built_shrinks : (K : ℕ) → Built G met K → (K ≢ 0) → (i : ℕ) × (i ∈ K) × Built G met (K ⊖ i)
  built_shrinks K none ne = absurd (ne refl)
  built_shrinks K (add {K = J} b i g n m) ne = (i, with_has J i, subst (Built G met) (sym (without-with J i n)) b)

  module _ (stays : (i X Y : ℕ) → X ⊆ Y → met i X → met i Y) where
    pub built_joins : (K M : ℕ) → Built G met K → Built G met M → Built G met (K ∪ M)
    built_joins K M k none = subst (Built G met) (sym (∪_empty_right K)) k
    built_joins K M k (add {K = J} b i g n m) =
        let joined = built_joins K J k b in
        elim (∈_dec i (K ∪ J)) [
          | yes there ↦ subst (Built G met) (sym (∪-with K J i ∙ with_present (K ∪ J) i there)) joined
          | no fresh ↦ subst (Built G met) (sym (∪-with K J i)) (add joined i g fresh (stays i J (K ∪ J) (⊆-∪_right K J) m))
        ]

    -- a set to which nothing of X can be added holds all that can be built inside X
    pub closed_holds : (X B : ℕ) → ((i : ℕ) → i ∈ G → i ∈ X → met i B → i ∈ B) → (K : ℕ) → Built G met K → K ⊆ X → K ⊆ B
    closed_holds X B closed K none f = empty_⊆ B
    closed_holds X B closed K (add {K = J} b i g n m) f =
        let before = closed_holds X B closed J b (⊆_trans J (J ⊕ i) X (⊆-with J i) f) in
        with-⊆ J i B before (closed i g (f i (with_has J i)) (stays i J B before m))

    -- growing until nothing can be added, where it is decided what can be
    module _ (N : ℕ) (small : (i : ℕ) → i ∈ G → i < N) (met_dec : (i X : ℕ) → Dec (met i X)) where
      can_add : (B : ℕ) (i : ℕ) → Dec ((i ∈ G) × (i ∉ B) × met i B)
      can_add B i =
          elim (Dec.and (∈_dec i G) (Dec.and (Dec.not (∈_dec i B)) (met_dec i B))) [
            | yes p ↦ yes (p.0, p.1.0, p.1.1)
            | no n ↦ no (λ p. n (p.0, (p.1, p.2)))
          ]

      -- inside X: what is grown from B can be built, and nothing of X can be added to it
      grow_to : (X fuel B : ℕ) → Built G met B → B ⊆ X → X - B < fuel → (C : ℕ) × Built G met C × (C ⊆ X) × ((i : ℕ) → i ∈ G → i ∈ X → met i C → i ∈ C)
      grow_to X zero B b f h = absurd (not-suc-le-zero h)
      grow_to X (suc fuel) B b f h =
          elim (some_below (λ i. (i ∈ X) × ((i ∈ G) × (i ∉ B) × met i B)) (λ i. Dec.and (∈_dec i X) (can_add B i)) N) [
            | inl found ↦
                let i = found.0 in
                let item : i ∈ G = found.2.1.0 in
                let new : i ∉ B = found.2.1.1 in
                let still : B ⊕ i ⊆ X = with-⊆ B i X f found.2.0 in
                let up : B < B ⊕ i = part_lt B (B ⊕ i) i (⊆-with B i) (with_has B i) new in
                let most : B ⊕ i ≤ X = ⊆_le (B ⊕ i) X still in
                grow_to X fuel (B ⊕ i) (add b i item new found.2.1.2) still (omega arith)
            | inr none_left ↦
                (B, b, f, λ i g x m. elim (∈_dec i B) [ yes there ↦ there | no n ↦ absurd (none_left i (small i g) (x, (g, n, m))) ])
          ]

      grow : (fuel B : ℕ) → Built G met B → G - B < fuel → (C : ℕ) × Built G met C × ((i : ℕ) → i ∈ G → met i C → i ∈ C)
      grow fuel B b h = let C = grow_to G fuel B b (built_inside B b) h in (C.0, C.1, λ i g m. C.3 i g g m)

      -- where each item of G lies in some buildable set, G can be built
      pub whole_from_items : ((i : ℕ) → i ∈ G → ∥ ((K : ℕ) × (i ∈ K) × Built G met K) ∥₁) → Built G met G
      whole_from_items reach =
          let C = grow (suc G) 0 none (omega arith) in
          let all : G ⊆ C.0 =
          λ i g. elim (∈_dec i C.0) [
            | yes there ↦ there
            | no n ↦ absurd (∥∥₁_elim (reach i g) ⊥_prop
                (λ r. n (closed_holds G C.0 (λ j g' x. C.2 j g') r.0 r.2 (built_inside r.0 r.2) i r.1)))
          ] in
          subst (Built G met) (⊆_antisym C.0 G (built_inside C.0 C.1) all) C.1

      -- what is grown inside X is the largest set inside X that can be built
      grow_inside : (X fuel B : ℕ) → Built G met B → B ⊆ X → X - B < fuel → (L : ℕ) × Largest (Built G met) X L
      grow_inside X fuel B b f h = let C = grow_to X fuel B b f h in (C.0, largest_of (Built G met) X C.0 C.1 C.2 (closed_holds X C.0 C.3))

      pub largest_built : (X : ℕ) → (L : ℕ) × Largest (Built G met) X L
      largest_built X = grow_inside X (suc X) 0 none (empty_⊆ X) (omega arith)

  pub built_space : (G ≢ 0) → ((i : ℕ) → i ∈ G → i < 30) → Buildable G met → LearningSpace G (Built G met)
  built_space ne thirty r = record {
    some_item = ne;
    items_below = thirty;
    inside = built_inside;
    empty = none;
    whole = r.whole;
    shrinks = built_shrinks;
    joins = built_joins r.stays;
  }
