use Rattle.std.proofs.Common.{◌∙◌}
use Rattle.trees.proofs.Handing.{on_ok, told_listed, none_more, last_told}
use Rattle.trees.proofs.full.one_tray.Goals as goal

pub returns-then-told : goal.returns-then-told
returns-then-told g c =
    let written = c.in_ok-told.ensures.2 in
    let shown = c.places.ensures in
    let took = on_ok c.take.result c.in_ok-map_err.ensures.variant c.take.ensures in
    let last = c.copied.ensures ∙ c.last.ensures.value in
    record { ok = (_, told_listed written shown, took, last_told written shown c.if-told.true c.in_ok-told.ensures.0.0 last); err = tt }

pub returns-else-told : goal.returns-else-told
returns-else-told g c =
    let written = c.in_ok-told.ensures.2 in
    let shown = c.places.ensures in
    let took = on_ok c.take.result c.in_ok-map_err.ensures.variant c.take.ensures in
    record { ok = (_, told_listed written shown, took, none_more written shown c.if-told.false); err = tt }
