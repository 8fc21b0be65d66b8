-- Sets that can be built from the empty set, one item at a time.
-- Assumes nothing.
use Rattle.std.specs.Prelude.{ℕ}
use Rattle.item_sets.specs.Sets.{◌∈◌, ◌∉◌, ◌⊆◌, ◌⊕◌}

-- G is the set of all items, and `met i X` says that item i can be added to the set X.
-- A building sequence, step by step: it begins with the empty set, and each step adds an item that can be added then.
pub data Built (G : ℕ) (met : ℕ → ℕ → Type 0) : ℕ → Type 0 where
  none : Built G met 0
  add : {K : ℕ} → Built G met K → (i : ℕ) → i ∈ G → i ∉ K → met i K → Built G met (K ⊕ i)

-- all that the laws of a learning space need of the conditions
pub record Buildable (G : ℕ) (met : ℕ → ℕ → Type 0) : Type 0 where
  -- what can be added to a set can be added to a larger one
  pub stays : (i X Y : ℕ) → X ⊆ Y → met i X → met i Y
  pub whole : Built G met G
