-- What the iterator over a set gives: the least item that is left, until none is.
-- Assumes nothing.
use Rattle.std.specs.Prelude.{◌≡◌, ℕ, Some, None, Option}
use Rattle.item_sets.specs.Sets.{Least, ◌⊖◌}

-- from the set X that is left, one call gives r and leaves the set Y
abbrev pub Steps : ℕ → Option ℕ → ℕ → Type 0
Steps X None Y = (X ≡ 0) × (Y ≡ 0)
Steps X (Some i) Y = Least X i × (Y ≡ X ⊖ i)
