-- What is told of a refusal.
-- Assumes nothing.
use Rattle.std.specs.Prelude.{◌≡◌}
use Rattle.refusals.specs.declared.Refusal.{Refusal}
use Rattle.refusals.specs.Report.{report}
use Rattle.exhaustive.specs.declared.answer.Told.{Told}

-- what is told is the number, the layer and the place of the refusal
abbrev pub Tells : Refusal → Told → Type 0
Tells refusal told =
    (told.number ≡ (report refusal).number) × (told.layer ≡ (report refusal).layer) × (told.place ≡ (report refusal).place)
