-- Listings of the wanted nodes of a tree, and what they leave in a tray.
-- Assumes nothing.
use Rattle.std.specs.Prelude.{◌≡◌, ℕ, ◌-◌, ◌^◌, ◌≤◌, min, ◌⊎◌, ◌↔◌, List, ◌++◌, length, drop, IfSome, Some, Ok, Err, IsTrue, Option, Result}
use Rattle.std.specs.List.{All, AllPairs, Contains}
use Rattle.refusals.specs.declared.Layer.TheVariants.{Listing as listing}
use Rattle.refusals.specs.declared.Refusal.{Refusal}
use Rattle.refusals.specs.Report.{report, says}
use Rattle.trees.specs.declared.listed.Listed.{Listed}
use Rattle.trees.specs.Trees.{Shape}
use Rattle.trees.specs.Words.{◌≺◌}

-- a tray has 1 to 65,536 places
abbrev pub RightSize : ℕ → Type 0
RightSize k = (1 ≤ k) × (k ≤ 65536)

-- the tray is refused for its size
abbrev pub WrongSize : ℕ → Refusal → Type 0
WrongSize k e = (RightSize k → ⊥) × (report e ≡ says 20 listing 0)

-- the node to go on after is refused: it is not wanted, and its number is told
abbrev pub NotWanted : {N : Type 0} → Shape N → (N → ℕ) → Option N → Refusal → Type 0
NotWanted {N} tree number from e = (n : N) × (from ≡ Some n) × (tree.wanted n → ⊥) × (report e ≡ says 21 listing (number n))

module _ {N : Type 0} (tree : Shape N) where
  -- the node n comes before the node m in listing order
  abbrev pub Before : N → N → Type 0
  Before n m = (w : List ℕ) × (v : List ℕ) × tree.stands n w × tree.stands m v × (w ≺ v)

  -- the node m is to be listed: it is wanted, and comes after the node from which the listing goes on, if there is one
  abbrev pub Due : Option N → N → Type 0
  Due from m = tree.wanted m × IfSome from (λ n. Before n m)

  -- ns are the first nodes that are due, in listing order, and none is left out
  pub record Listing (from : Option N) (ns : List N) : Type 0 where
    pub rising : AllPairs Before ns
    pub due : All (Due from) ns
    pub none_left_out : (m : N) → Due from m → Contains ns m ⊎ All (λ n. Before n m) ns

  -- a node that is due comes after all of ns
  abbrev pub Left : Option N → List N → Type 0
  Left from ns = (m : N) × Due from m × All (λ n. Before n m) ns

  -- what a listing has written: the first nodes that are due, as many as there are places or as are due; all other places are as they were
  pub record Written (from : Option N) (before : List N) (told : Listed) (after : List N) : Type 0 where
    pub entries : List N
    pub first : Listing from entries
    pub count : told.written ≡ length entries
    pub fits : length entries ≤ length before
    pub places : after ≡ entries ++ drop (length entries) before
    pub until : Left from entries → length entries ≡ length before
    pub more : IsTrue told.more ↔ Left from entries

  -- what a listing gives, and the places of its tray before and after; a node's number is told where the node is refused
  abbrev pub ListedInto : (N → ℕ) → Option N → List N → Result Listed Refusal → List N → Type 0
  ListedInto number from before (Ok told) after =
      RightSize (length before) × IfSome from tree.wanted × Written from before told after
  ListedInto number from before (Err e) after =
      (after ≡ before)
      × (WrongSize (length before) e ⊎ (RightSize (length before) × NotWanted tree number from e))

  -- all wanted nodes, each once, in listing order, and nothing else
  pub record FullListing (ns : List N) : Type 0 where
    pub rising : AllPairs Before ns
    pub exactly : (n : N) → Contains ns n ↔ tree.wanted n

  -- the number of the wanted nodes, or the largest that 64 bits can hold where there are more
  abbrev pub Counted : ℕ → Type 0
  Counted count = (ns : List N) × FullListing ns × (count ≡ min (length ns) (2 ^ 64 - 1))
