-- The steps of a walk through a tree.
-- Assumes nothing.
use Rattle.std.specs.Prelude.{◌≡◌, ℕ, ◌<◌, ◌≤◌, ◌⊎◌, Option, MatchOption}
use Rattle.trees.specs.Trees.{Shape, Node, Further}
use Rattle.trees.specs.Listings.{Before}

module _ {N : Type 0} (tree : Shape N) where
  -- of the nodes one letter further than n, with a letter not below `least`, the one with the least letter
  abbrev pub FirstChild : N → ℕ → Option N → Type 0
  FirstChild n least r =
      MatchOption r ((i : ℕ) (m : N) → least ≤ i → Further tree n i m → ⊥)
      (λ m. (i : ℕ) × (least ≤ i) × Further tree n i m × ((j : ℕ) (k : N) → least ≤ j → j < i → Further tree n j k → ⊥))

  -- m is a node after n
  abbrev pub After : N → N → Type 0
  After n m = Node tree m × Before tree n m

  -- of the nodes with P, the first in listing order
  abbrev pub FirstOf : (N → Type 0) → Option N → Type 0
  FirstOf P r = MatchOption r ((m : N) → P m → ⊥) (λ m. P m × ((k : N) → P k → (k ≡ m) ⊎ Before tree m k))
