-- What a learning space is: a set of items, and the family of its subsets that a person's skills can be.
-- Assumes nothing.
use Rattle.std.specs.Prelude.{◌≡◌, ℕ, ◌<◌, ◌≢◌}
use Rattle.item_sets.specs.Sets.{◌∈◌, ◌⊆◌, ◌∪◌, ◌⊖◌}

-- G is the set of the items, and `state` the family of the states, all by their set numbers
pub record LearningSpace (G : ℕ) (state : ℕ → Type 0) : Type 0 where
  pub some_item : G ≡ 0 → ⊥
  pub items_below : (i : ℕ) → i ∈ G → i < 30
  pub inside : (K : ℕ) → state K → K ⊆ G
  pub empty : state 0
  pub whole : state G
  -- a state that is not empty has an item whose removal leaves a state
  pub shrinks : (K : ℕ) → state K → (K ≢ 0) → (i : ℕ) × (i ∈ K) × state (K ⊖ i)
  pub joins : (K M : ℕ) → state K → state M → state (K ∪ M)
