-- What loading a record does to a table, whatever the sort of table.
-- Assumes nothing.
use Rattle.std.specs.Prelude.{◌≡◌, ℕ, List, Ok, Err, Result}
use Rattle.refusals.specs.declared.Refusal.{Refusal}
use Rattle.refusals.specs.Report.{Report, report}

-- `spelled b t` says that the record b spells the table t, and `refused b told` that b is refused and what is told then.
-- Loading b replaces what the table was, or refuses b and leaves it as it was
abbrev pub Loaded : {T : Type 0} → (List ℕ → T → Type 0) → (List ℕ → Report → Type 0) → List ℕ → T → Result (Unit {0}) Refusal → T → Type 0
Loaded spelled refused b before (Ok _) after = spelled b after
Loaded spelled refused b before (Err e) after = refused b (report e) × (after ≡ before)
