use Rattle.std.proofs.Common.{ℕ, ◌*◌, ◌<◌, ap, ◌∙◌, arith}
use Rattle.std.proofs.lemmas.Bool.Decides.{not_from_Decides}
use Rattle.refusals.specs.Report.{says}
use Rattle.refusals.specs.declared.Layer.TheVariants.{Record}
use Rattle.records.specs.Format.{rows}
use Rattle.clauses.proofs.RightRows.{few_items, few_rows}
use Rattle.clauses.proofs.Reading.{rows_of_chunks, none_read, read_more, wrong_here, all_read}
use Rattle.clauses.proofs.list.ClauseList.read.Goals as goal

pub new-list-requires : goal.new-list-requires
new-list-requires c = few_items _ _ c.requires

pub slice_bounds-row-items-end : goal.slice_bounds-row-items-end
slice_bounds-row-items-end c =
    let r = rows_of_chunks _ _ c.requires _ c.as_chunks.ensures.front c.as_chunks.ensures.front_len _ c.from.ensures in
    omega (arith, r.as_many, c.from.ensures, c.requires.same_rows)

pub loop-row-init : goal.loop-row-init
loop-row-init c = record {
  rows = rows_of_chunks _ _ c.requires _ c.as_chunks.ensures.front c.as_chunks.ensures.front_len _ c.from.ensures;
  so_far = none_read _ _ (c.new-list.ensures.0 ∙ c.requires.same_items) c.new-list.ensures.1;
}

pub returns-then-not-allows : goal.returns-then-not-allows
returns-then-not-allows c =
    let inv = c.loop-row.invariant in
    let k = c.loop-row.row-index in
    let e = c.from-clause.ensures ∙ inv.rows.each k c.loop-row-test.true in
    let here : k < rows c.args.bytes.now = omega (arith, c.loop-row-test.true, inv.rows.as_many) in (
      k,
      wrong_here _ _ _ inv.so_far _ e here (not_from_Decides _ c.allows.ensures c.if-not-allows.true),
      ap (λ (n : ℕ). says 6 Record (5 * n)) inv.so_far.count,
    )

pub push-requires-clause-room : goal.push-requires-clause-room
push-requires-clause-room c =
    let inv = c.loop-row.invariant in
    omega (arith, c.loop-row-test.true, inv.rows.as_many, c.requires.same_rows, few_rows _ _ c.requires, inv.so_far.count)

pub loop-row-preserved : goal.loop-row-preserved
loop-row-preserved c =
    let inv = c.loop-row.invariant in
    let e = c.from-clause.ensures ∙ inv.rows.each c.loop-row.row-index c.loop-row-test.true in
    record { rows = inv.rows; so_far = read_more _ _ _ inv.so_far _ e _ (c.allows.ensures.0 c.if-not-allows.false) c.push.ensures }

pub returns : goal.returns
returns c =
    let inv = c.loop-row.invariant in
    all_read _ _ _ inv.so_far (omega (arith, inv.rows.as_many, c.loop-row.auto.row-index-end, c.loop-row-test.false))
