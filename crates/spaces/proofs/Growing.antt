-- Growing a state item by item.
-- Assumes nothing.
use Rattle.std.proofs.Common.{◌≡◌, ℕ, ◌+◌, ◌-◌, ◌*◌, ◌^◌, ◌<◌, ◌≤◌, Bool, true, false, Some, None, Decides, sym, ◌∙◌, subst, arith}
use native.Mathlib.Decide.{ℕ_discrete}
use Rattle.std.proofs.lemmas.Bool.Decides.{not_from_Decides}
use Rattle.item_sets.specs.Iteration.{Steps}
use Rattle.item_sets.specs.Sets.{◌∈◌, ◌∉◌, ◌⊆◌, ◌⊕◌, ◌⊖◌, Members}
use Rattle.item_sets.proofs.Members.{∉_empty, ∈-without, ⊆_refl, ⊆-with, with_has, with-⊆, part_lt, ⊆_le, empty_⊆, members_below}
use Rattle.spaces.specs.Laws.{LearningSpace}
use Rattle.spaces.specs.Largest.{Largest}
use Rattle.spaces.proofs.Theory.{largest_closed}

-- L is a state inside W, and of the other items of W only those of U may still fit
pub record Growing (state : ℕ → Type 0) (W L U : ℕ) : Type 0 where
  pub is_state : state L
  pub inside : L ⊆ W
  pub of_within : U ⊆ W
  pub apart : (i : ℕ) → i ∈ U → i ∉ L
  pub tried : (i : ℕ) → i ∈ W → i ∉ L → i ∉ U → state (L ⊕ i) → ⊥

module _ (state : ℕ → Type 0) (W : ℕ) where
  pub begun : state 0 → Growing state W 0 W
  begun s = record { is_state = s; inside = empty_⊆ W; of_within = ⊆_refl W; apart = λ i h. ∉_empty i; tried = λ i h n out. absurd (out h) }

  module _ (L U i : ℕ) (p : Growing state W L U) (here : i ∈ U) where
    -- item i fits
    pub added : (M V : ℕ) → M ≡ L ⊕ i → state M → Members V (λ j. (j ∈ W) × (j ∉ M)) → Growing state W M V
    added M V e s left = record {
      is_state = s;
      inside = subst (λ (X : ℕ). X ⊆ W) (sym e) (with-⊆ L i W p.inside (p.of_within i here));
      of_within = λ j h. ((left j).0 h).0;
      apart = λ j h. ((left j).0 h).1;
      tried = λ j h n out. absurd (out ((left j).1 (h, n)));
    }

    -- item i does not fit
    pub passed : (V : ℕ) → V ≡ U ⊖ i → (state (L ⊕ i) → ⊥) → Growing state W L V
    passed V e no_state = subst (Growing state W L) (sym e) (record {
      is_state = p.is_state;
      inside = p.inside;
      of_within = λ j h. p.of_within j ((∈-without U i j).0 h).0;
      apart = λ j h. p.apart j ((∈-without U i j).0 h).0;
      tried = λ j h n out s. elim (ℕ_discrete j i) [
        | yes same ↦ no_state (subst (λ (k : ℕ). state (L ⊕ k)) same s)
        | no ne ↦ p.tried j h n (λ u. out ((∈-without U i j).1 (u, ne))) s
      ];
    })

    -- what an added item leaves to do is less
    pub fewer : (M V : ℕ) → M ≡ L ⊕ i → Growing state W M V → V < 2 ^ 32 → (W - M) * 2 ^ 32 + V < (W - L) * 2 ^ 32 + U
    fewer M V e q small =
        let up : L < M = subst (λ (X : ℕ). L < X) (sym e) (part_lt L (L ⊕ i) i (⊆-with L i) (with_has L i) (p.apart i here)) in
        let most : M ≤ W = ⊆_le M W q.inside in
        omega arith

  pub done : (G X L U : ℕ) → LearningSpace G state → Members W (λ i. (i ∈ G) × (i ∈ X)) → U ≡ 0 → Growing state W L U → Largest state X L
  done G X L U laws both none p =
      largest_closed G state laws X L p.is_state (λ i h. ((both i).0 (p.inside i h)).1)
      (λ i g x n s. p.tried i ((both i).1 (g, x)) n (λ u. ∉_empty i (subst (λ (V : ℕ). i ∈ V) none u)) s)

-- What the loop keeps, as a search sees it, and the steps that keep it.
pub GrowingSoFar : (ℕ → Type 0) → ℕ → ℕ → ℕ → Type 0
GrowingSoFar state W L U = Growing state W L U

pub record GrowingSteps (state : ℕ → Type 0) (W : ℕ) : Type 0 where
  pub adds : (L U R i S M V : ℕ) (b : Bool) → GrowingSoFar state W L U → Steps R (Some i) S → R ≡ U → (i < 32 → M ≡ L ⊕ i)
      → Decides b (state M) → b ≡ true → Members V (λ j. (j ∈ W) × (j ∉ M)) → GrowingSoFar state W M V
  pub passes : (L U R i S M V : ℕ) (b : Bool) → GrowingSoFar state W L U → Steps R (Some i) S → R ≡ U → (i < 32 → M ≡ L ⊕ i)
      → Decides b (state M) → b ≡ false → V ≡ U ⊖ i → GrowingSoFar state W L V
  pub falls : (L U R i S M V : ℕ) (b : Bool) → GrowingSoFar state W L U → Steps R (Some i) S → R ≡ U → (i < 32 → M ≡ L ⊕ i)
      → Decides b (state M) → b ≡ true → Members V (λ j. (j ∈ W) × (j ∉ M)) → V < 2 ^ 32 → (W - M) * 2 ^ 32 + V < (W - L) * 2 ^ 32 + U
  pub ends : (G X L U R S : ℕ) → LearningSpace G state → GrowingSoFar state W L U → Steps R None S → R ≡ U
      → Members W (λ i. (i ∈ G) × (i ∈ X)) → Largest state X L

pub growing_begins : (state : ℕ → Type 0) (W : ℕ) → state 0 → GrowingSoFar state W 0 W
unfolding GrowingSoFar
growing_begins = begun

pub growing_steps : (state : ℕ → Type 0) (W : ℕ) → W < 2 ^ 32 → GrowingSteps state W
unfolding GrowingSoFar
growing_steps state W small = record {
  adds = λ L U R i S M V b p step same grown told yes_state left.
      let here = at_hand U R i same step.0.0 in
      added state W L U i p here M V (grown (low L U i p here)) (told.0 yes_state) left;
  passes = λ L U R i S M V b p step same grown told no_state left.
      let here = at_hand U R i same step.0.0 in
      passed state W L U i p here V left (λ s. not_from_Decides b told no_state (subst state (sym (grown (low L U i p here))) s));
  falls = λ L U R i S M V b p step same grown told yes_state left fits.
      let here = at_hand U R i same step.0.0 in
      let e = grown (low L U i p here) in
      fewer state W L U i p here M V e (added state W L U i p here M V e (told.0 yes_state) left) fits;
  ends = λ G X L U R S laws p step same both. done state W G X L U laws both (sym same ∙ step.0) p;
}
  where
    at_hand : (U R i : ℕ) → R ≡ U → i ∈ R → i ∈ U
    at_hand U R i same h = subst (λ (X : ℕ). i ∈ X) same h

    low : (L U i : ℕ) → Growing state W L U → i ∈ U → i < 32
    low L U i p here = members_below W 32 small i (p.of_within i here)
