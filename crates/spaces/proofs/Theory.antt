-- What follows from the laws of a learning space alone.
-- Assumes nothing.
use Rattle.std.proofs.Common.{◌≡◌, ℕ, zero, suc, ◌-◌, ◌<◌, ◌≤◌, Bool, ◌↔◌, List, [], ◌∷◌, Decides, sym, subst, le_refl, not-suc-le-zero, arith}
use mathlib.Core.Logic.Dec
use native.Mathlib.Decide.{ℕ_discrete}
use Rattle.std.specs.List.{AllByRecursion}
use Rattle.item_sets.specs.Sets.{◌∈◌, ◌∉◌, ◌⊆◌, ◌∪◌, ◌⊕◌, ◌⊖◌, Members}
use Rattle.item_sets.proofs.Members.{⊆_dec, ⊆_antisym, same_members, ⊆_refl, ⊆_trans, empty_⊆, ∈-without, ∪-⊆, ⊆-∪_left, ⊆-∪_right, with_has, ⊆-with, with-⊆, with-without, without_lt, part_lt, ⊆_le}
use Rattle.spaces.specs.Laws.{LearningSpace}
use Rattle.spaces.specs.Largest.{Largest, Outer, SameFringes}

-- states one above the other, each with one item more
pub data Chain (state : ℕ → Type 0) : ℕ → ℕ → Type 0 where
  reached : {K : ℕ} → state K → Chain state K K
  rises : {K M : ℕ} → state K → (i : ℕ) → i ∉ K → Chain state (K ⊕ i) M → Chain state K M

abbrev pub union_of : List ℕ → ℕ
union_of [] = 0
union_of (K ∷ Ks) = K ∪ union_of Ks

-- a state inside X that holds every other such state is the union of them
pub largest_of : (state : ℕ → Type 0) (X L : ℕ) → state L → L ⊆ X → ((K : ℕ) → state K → K ⊆ X → K ⊆ L) → Largest state X L
largest_of state X L l f all = record {
  union = λ i. (λ h. (L, l, f, h), λ p. all p.0 p.1 p.2 i p.3);
  is_state = l;
  inside = f;
  holds = all;
}

module _ (G : ℕ) (state : ℕ → Type 0) (laws : LearningSpace G state) where
  -- a state L that does not hold the state M can be grown by an item of M
  grow_by_fuel : (fuel L M : ℕ) → M < fuel → state L → state M → (M ⊆ L → ⊥) → (i : ℕ) × (i ∈ M) × (i ∉ L) × state (L ⊕ i)
  grow_by_fuel zero L M h l m out = absurd (not-suc-le-zero h)
  grow_by_fuel (suc fuel) L M h l m out =
      let last = laws.shrinks M m (λ e. out (subst (λ (X : ℕ). X ⊆ L) (sym e) (empty_⊆ L))) in
      let j = last.0 in
      elim (⊆_dec (M ⊖ j) L) [
        | yes rest ↦
            let new : j ∉ L = λ there. out (λ i k. elim (ℕ_discrete i j) [
              | yes e ↦ subst (λ (n : ℕ). n ∈ L) (sym e) there
              | no ne ↦ rest i ((∈-without M j i).1 (k, ne))
            ]) in
            let same : L ∪ M ≡ L ⊕ j =
            ⊆_antisym _ _
            (∪-⊆ L M (L ⊕ j) (⊆-with L j) (subst (λ (X : ℕ). X ⊆ L ⊕ j) (with-without M j last.1)
            (with-⊆ (M ⊖ j) j (L ⊕ j) (⊆_trans (M ⊖ j) L (L ⊕ j) rest (⊆-with L j)) (with_has L j))))
            (with-⊆ L j (L ∪ M) (⊆-∪_left L M) (⊆-∪_right L M j last.1)) in
            (j, last.1, new, subst state same (laws.joins L M l m))
        | no more ↦
            let less : M ⊖ j < M = without_lt M j last.1 in
            let found = grow_by_fuel fuel L (M ⊖ j) (omega arith) l last.2 more in
            (found.0, ((∈-without M j found.0).0 found.1).0, found.2, found.3)
      ]

  pub grow_by : (L M : ℕ) → state L → state M → (M ⊆ L → ⊥) → (i : ℕ) × (i ∈ M) × (i ∉ L) × state (L ⊕ i)
  grow_by L M = grow_by_fuel (suc M) L M (le_refl (suc M))

  -- a state inside M that is not M has an item of M in its outer fringe
  pub outer_inside : (K M : ℕ) → state K → state M → K ⊆ M → (K ≡ M → ⊥) → (i : ℕ) × (i ∈ M) × Outer G state K i
  outer_inside K M k m f ne =
      let found = grow_by K M k m (λ g. ne (⊆_antisym K M f g)) in
      (found.0, found.1, (laws.inside M m found.0 found.1, found.2, found.3))

  -- from any state inside another, a chain up to it that adds one item at a time through states
  chain_by_fuel : (fuel K M : ℕ) → M - K < fuel → state K → state M → K ⊆ M → Chain state K M
  chain_by_fuel zero K M h k m f = absurd (not-suc-le-zero h)
  chain_by_fuel (suc fuel) K M h k m f =
      elim (ℕ_discrete K M) [
        | yes e ↦ subst (Chain state K) e (reached k)
        | no ne ↦
            let found = outer_inside K M k m f ne in
            let i = found.0 in
            let up : K < K ⊕ i = part_lt K (K ⊕ i) i (⊆-with K i) (with_has K i) found.2.1 in
            let still : K ⊕ i ⊆ M = with-⊆ K i M f found.1 in
            let most : K ⊕ i ≤ M = ⊆_le (K ⊕ i) M still in
            rises k i found.2.1 (chain_by_fuel fuel (K ⊕ i) M (omega arith) found.2.2 m still)
      ]

  pub chain_up : (K M : ℕ) → state K → state M → K ⊆ M → Chain state K M
  chain_up K M = chain_by_fuel (suc (M - K)) K M (le_refl (suc (M - K)))

  -- the union of a list of states is a state
  pub union_state : (Ks : List ℕ) → AllByRecursion state Ks → state (union_of Ks)
  union_state [] a = laws.empty
  union_state (K ∷ Ks) a = laws.joins K (union_of Ks) a.0 (union_state Ks a.1)

  -- a state to which no item of X can be added holds every state inside X
  pub largest_closed : (X L : ℕ) → state L → L ⊆ X → ((i : ℕ) → i ∈ G → i ∈ X → i ∉ L → state (L ⊕ i) → ⊥) → Largest state X L
  largest_closed X L l f closed =
      let all : (K : ℕ) → state K → K ⊆ X → K ⊆ L =
      λ K k g. elim (⊆_dec K L) [
        | yes h ↦ h
        | no out ↦
            let found = grow_by L K l k out in
            absurd (closed found.0 (laws.inside K k found.0 found.1) (g found.0 found.1) found.2 found.3)
      ] in
      largest_of state X L l f all

  -- two states with the same outer fringe are the same state
  half_by_fringe : (K M : ℕ) → state K → state M → ((i : ℕ) → Outer G state K i → Outer G state M i) → M ⊆ K
  half_by_fringe K M k m f =
      elim (⊆_dec M K) [
        | yes h ↦ h
        | no out ↦
            let found = grow_by K M k m out in
            absurd ((f found.0 (laws.inside M m found.0 found.1, found.2, found.3)).1 found.1)
      ]

  pub same_by_outer : (K M F H : ℕ) → state K → state M → Members F (Outer G state K) → Members H (Outer G state M) → F ≡ H → K ≡ M
  same_by_outer K M F H k m in_f in_h e =
      let there : (i : ℕ) → Outer G state K i → Outer G state M i = λ i o. (in_h i).0 (subst (λ (X : ℕ). i ∈ X) e ((in_f i).1 o)) in
      let back : (i : ℕ) → Outer G state M i → Outer G state K i = λ i o. (in_f i).0 (subst (λ (X : ℕ). i ∈ X) (sym e) ((in_h i).1 o)) in
      ⊆_antisym K M (half_by_fringe M K m k back) (half_by_fringe K M k m there)

-- states are the same exactly where their fringes are
module _ (G : ℕ) (state : ℕ → Type 0) (laws : LearningSpace G state) where
  pub decides_fringes : (b : Bool) (K M : ℕ) → state K → state M → Decides b (K ≡ M) → Decides b (SameFringes G state K M)
  decides_fringes b K M k m d = (
    λ t. subst (λ (X : ℕ). SameFringes G state K X) (d.0 t) (λ i. ((λ h. h, λ h. h), (λ h. h, λ h. h))),
    λ s. d.1 (⊆_antisym K M (half_by_fringe G state laws M K m k (λ i. (s i).1.1)) (half_by_fringe G state laws K M k m (λ i. (s i).1.0))),
  )

-- and one state has one fringe
pub same_fringe : (P : ℕ → ℕ → Type 0) (K M F H : ℕ) → Members F (P K) → Members H (P M) → K ≡ M → F ≡ H
same_fringe P K M F H in_f in_h e = same_members F H (P M) (subst (λ (X : ℕ). Members F (P X)) e in_f) in_h

-- there is one largest state inside a set
pub largest_unique : (state : ℕ → Type 0) (X L M : ℕ) → Largest state X L → Largest state X M → L ≡ M
largest_unique state X L M p q = ⊆_antisym L M (q.holds L p.is_state p.inside) (p.holds M q.is_state q.inside)

-- a set is a state exactly when it is the largest inside itself
pub state_from_largest : (state : ℕ → Type 0) (X L : ℕ) → Largest state X L → (L ≡ X) ↔ state X
state_from_largest state X L p =
    (λ e. subst state e p.is_state, λ s. ⊆_antisym L X p.inside (p.holds X s (⊆_refl X)))

-- so it is settled of each set whether it is a state, where the largest inside each is given
pub settled_by_largest : (state : ℕ → Type 0) → ((X : ℕ) → (L : ℕ) × Largest state X L) → (K : ℕ) → Dec (state K)
settled_by_largest state largest K =
    let L = largest K in
    Dec.of_iff (state_from_largest state K L.0 L.1) (ℕ_discrete L.0 K)
