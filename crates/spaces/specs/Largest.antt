-- Largest states inside sets, and the fringes of states, in a family of states.
-- Assumes nothing.
use Rattle.std.specs.Prelude.{◌≡◌, ℕ, Bool, ◌⊎◌, ◌↔◌, Ok, Err, IsTrue, Result}
use Rattle.refusals.specs.declared.Layer.TheVariants.{Listing}
use Rattle.refusals.specs.declared.Refusal.{Refusal}
use Rattle.refusals.specs.Report.{report, says}
use Rattle.item_sets.specs.declared.ItemSet.{ItemSet}
use Rattle.item_sets.specs.Sets.{◌∈◌, ◌∉◌, ◌⊆◌, ◌⊕◌, ◌⊖◌, Members}

module _ (state : ℕ → Type 0) where
  -- item i lies in some state inside X
  abbrev pub InStatesInside : ℕ → ℕ → Type 0
  InStatesInside X i = (K : ℕ) × state K × (K ⊆ X) × (i ∈ K)

  -- L is the largest state inside X: the union of all states inside X
  pub record Largest (X L : ℕ) : Type 0 where
    pub union : Members L (InStatesInside X)
    pub is_state : state L
    pub inside : L ⊆ X
    pub holds : (K : ℕ) → state K → K ⊆ X → K ⊆ L

  -- item i is in the inner fringe of K: it is an item of K, and K without it is a state
  abbrev pub Inner : ℕ → ℕ → Type 0
  Inner K i = (i ∈ K) × state (K ⊖ i)

-- item i is in the outer fringe of K: it is an item of G outside K, and K with it is a state
abbrev pub Outer : ℕ → (ℕ → Type 0) → ℕ → ℕ → Type 0
Outer G state K i = (i ∈ G) × (i ∉ K) × state (K ⊕ i)

-- K is no state, and the refusal says so
abbrev pub NotAState : (ℕ → Type 0) → ℕ → Refusal → Type 0
NotAState state K e = (state K → ⊥) × (report e ≡ says 16 Listing K)

-- what a call gives that is asked for the items with P of a state K
abbrev pub Fringe : (ℕ → Type 0) → (ℕ → Type 0) → ℕ → Result ItemSet Refusal → Type 0
Fringe state P K (Ok f) = state K × Members f.number P
Fringe state P K (Err e) = NotAState state K e

-- the states K and M have the same inner and the same outer fringe
abbrev pub SameFringes : ℕ → (ℕ → Type 0) → ℕ → ℕ → Type 0
SameFringes G state K M = (i : ℕ) → (Inner state K i ↔ Inner state M i) × (Outer G state K i ↔ Outer G state M i)

-- what a call gives that is asked whether the states K and M are the same: they are so exactly where their fringes are the same.
-- Of two that are no states, K is told
abbrev pub Compared : ℕ → (ℕ → Type 0) → ℕ → ℕ → Result Bool Refusal → Type 0
Compared G state K M (Ok same) = state K × state M × (IsTrue same ↔ SameFringes G state K M) × (IsTrue same ↔ (K ≡ M))
Compared G state K M (Err e) = NotAState state K e ⊎ (state K × NotAState state M e)
