-- Words, and the order in which they are listed. A word is a list of letters, and a letter is an item.
-- Assumes nothing.
use Rattle.std.specs.Prelude.{◌≡◌, ℕ, ◌<◌, ◌⊎◌, List, [], ◌∷◌}

infix 50 ◌≺◌
-- listing order: a word comes before its continuations, and otherwise the smaller letter at the first difference decides
unfoldable pub ◌≺◌ : List ℕ → List ℕ → Type 0
[] ≺ [] = ⊥
[] ≺ (j ∷ v) = Unit {0}
(i ∷ w) ≺ [] = ⊥
(i ∷ w) ≺ (j ∷ v) = (i < j) ⊎ ((i ≡ j) × (w ≺ v))
