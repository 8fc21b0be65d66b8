-- Which answer or refusal a command gets of a space with the items G and the family `state`, and the line that is printed of it.
-- Assumes nothing.
use Rattle.std.specs.Prelude.{◌≡◌, ℕ, ◌⊎◌, Ok, Err, Result, List, ◌++◌, codes, decimal, ◌≢◌}
use Rattle.refusals.specs.declared.Refusal.{Refusal}
use Rattle.item_sets.specs.declared.ItemSet.{ItemSet}
use Rattle.item_sets.specs.Sets.{Members}
use Rattle.spaces.specs.Largest as space
use Rattle.jandifety.specs.declared.answer.Answer.{Answer}
use Rattle.jandifety.specs.declared.answer.Answer.TheVariants.{Items, State, NoState, Largest, Fringes, SameState, DifferentStates}
use Rattle.jandifety.specs.declared.command.Command.{Command}
use Rattle.jandifety.specs.declared.command.Command.TheVariants as command

module _ (G : ℕ) (state : ℕ → Type 0) where
  abbrev pub Answers : Command → Result Answer Refusal → Type 0
  Answers command.Items r = (s : ItemSet) × (s.number ≡ G) × (r ≡ Ok (Items s))
  Answers (command.Tell t) r = (state t.number × (r ≡ Ok (State t))) ⊎ ((state t.number → ⊥) × (r ≡ Ok (NoState t)))
  Answers (command.Largest t) r = (l : ItemSet) × space.Largest state t.number l.number × (r ≡ Ok (Largest t l))
  Answers (command.Fringes t) r =
      (state t.number × (i : ItemSet) × (o : ItemSet) × Members i.number (space.Inner state t.number) × Members o.number (space.Outer G state t.number) × (r ≡ Ok (Fringes t i o)))
      ⊎ ((e : Refusal) × space.NotAState state t.number e × (r ≡ Err e))
  Answers (command.Compare s t) r =
      (state s.number × state t.number × (s.number ≡ t.number) × (r ≡ Ok (SameState s t)))
      ⊎ (state s.number × state t.number × (s.number ≢ t.number) × (r ≡ Ok (DifferentStates s t)))
      ⊎ ((e : Refusal) × (space.NotAState state s.number e ⊎ (state s.number × space.NotAState state t.number e)) × (r ≡ Err e))

abbrev number : ItemSet → List ℕ
number s = decimal s.number

abbrev pub line : Answer → List ℕ
line (Items s) = codes "items: " ++ number s
line (State s) = number s ++ codes ": state"
line (NoState s) = number s ++ codes ": no state"
line (Largest s l) = codes "largest inside " ++ (number s ++ (codes ": " ++ number l))
line (Fringes s i o) = codes "fringes of " ++ (number s ++ (codes ": inner " ++ (number i ++ (codes ", outer " ++ number o))))
line (SameState s t) = number s ++ (codes " and " ++ (number t ++ codes ": same state"))
line (DifferentStates s t) = number s ++ (codes " and " ++ (number t ++ codes ": different states"))
