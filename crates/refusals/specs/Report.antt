-- What a refusal says: its number, its layer and its place, for every case.
-- Assumes nothing.
use Rattle.std.specs.Prelude.{ℕ, List, ◌++◌, codes, decimal}
use Rattle.refusals.specs.declared.Layer.{Layer}
use Rattle.refusals.specs.declared.Layer.TheVariants.{Record, Table, Listing}
use Rattle.refusals.specs.declared.Refusal.{Refusal}
use Rattle.refusals.specs.declared.Refusal.TheVariants.{ShortRecord, WrongKind, WrongItemCount, WrongRowCount, WrongDistance, WrongRow, UnbuildableItem, NoState, NoRoute, WrongTraySize, NotWanted}

pub record Report : Type 0 where
  pub number : ℕ
  pub layer : Layer
  pub place : ℕ

abbrev pub says : ℕ → Layer → ℕ → Report
says n l p = record { number = n; layer = l; place = p }

abbrev pub report : Refusal → Report
report (ShortRecord p) = says 1 Record p
report (WrongKind p) = says 2 Record p
report (WrongItemCount p) = says 3 Record p
report (WrongRowCount p) = says 4 Record p
report (WrongDistance p) = says 5 Record p
report (WrongRow p) = says 6 Record p
report (UnbuildableItem p) = says 8 Table p
report (NoState p) = says 16 Listing p
report (NoRoute p) = says 18 Listing p
report WrongTraySize = says 20 Listing 0
report (NotWanted p) = says 21 Listing p

-- the layer's word
abbrev pub word : Layer → List ℕ
word Record = codes "record"
word Table = codes "table"
word Listing = codes "listing"

-- the line that is printed
abbrev pub line : Report → List ℕ
line r = codes "refused: " ++ (decimal r.number ++ (codes " " ++ (word r.layer ++ (codes " " ++ decimal r.place))))
