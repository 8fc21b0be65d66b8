-- Full listings: tray after tray, handed to a sink.
-- Assumes nothing.
use Rattle.std.specs.Prelude.{◌≡◌, ℕ, ◌≤◌, List, [], ◌∷◌, ◌++◌, length, Ok, Err, Option, Result, MatchOption}
use Rattle.std.specs.List.{All}
use Rattle.refusals.specs.declared.Layer.TheVariants.{Listing as listing}
use Rattle.refusals.specs.Report.{report, says}
use Rattle.trees.specs.declared.stopped.Stopped.{Stopped}
use Rattle.trees.specs.declared.stopped.Stopped.TheVariants.{Refused, Memory, Sink}
use Rattle.trees.specs.Listings.{RightSize, Listing, Left, FullListing}
use Rattle.trees.specs.Trees.{Shape}

-- the sizes of the trays are right: there is one, and each is allowed
abbrev pub RightSizes : List ℕ → Type 0
RightSizes sizes = (1 ≤ length sizes) × All RightSize sizes

-- the sink goes from s to t by taking ns, some of them at a time; `takes` says what taking once does
pub data Handed {S N : Type 0} (takes : S → List N → S → Type 0) : S → List N → S → Type 0 where
  nothing : {s : S} → Handed takes s [] s
  some : {s t u : S} {ns ms : List N} → Handed takes s ns t → takes t ms u → Handed takes s (ns ++ ms) u

module _ {N S : Type 0} (tree : Shape N) (takes : S → List N → S → Type 0) where
  -- one tray is listed and handed over; where more are left, the last entry is told
  abbrev pub OneTray : Option N → S → S → Option N → Type 0
  OneTray from s t last =
      (ns : List N) × Listing tree from ns × takes s ns t
      × MatchOption last (Left tree from ns → ⊥) (λ n. (ms : List N) × (ns ≡ ms ++ n ∷ []))

  -- what a full listing gives, and the sink before and after: all wanted nodes are handed over, or the sizes are refused.
  -- For want of memory nothing is handed over, and what a sink does that stops the listing is its own affair
  abbrev pub FullyListed : {E : Type 0} → List ℕ → S → Result (Unit {0}) (Stopped E) → S → Type 0
  FullyListed sizes before (Ok _) after =
      RightSizes sizes × (ns : List N) × FullListing tree ns × Handed takes before ns after
  FullyListed sizes before (Err (Refused e)) after = (RightSizes sizes → ⊥) × (report e ≡ says 20 listing 0) × (after ≡ before)
  FullyListed sizes before (Err Memory) after = RightSizes sizes × (after ≡ before)
  FullyListed sizes before (Err (Sink e)) after = RightSizes sizes
