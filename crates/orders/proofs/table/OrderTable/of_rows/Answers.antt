use Rattle.std.proofs.Common.{◌≡◌, ℕ, ◌*◌, ◌<◌, true, length, take, sym, refl, ap, subst, ◌∙◌, inl, arith, rules}
use Rattle.std.proofs.lemmas.List.{length-take}
use Rattle.std.proofs.Math.Nat.{div-le_self}
use Rattle.orders.specs.Rows.{rows_of, are_orders}
use Rattle.orders.proofs.Reading.{rows_said, item_range, row_range, rows_within, few_bytes, none_read, is_row, row_wrong, row_read, tested, holds}
use Rattle.orders.proofs.table.OrderTable.of_rows.Goals as goal

pub slice_bounds-chunks_exact-end : goal.slice_bounds-chunks_exact-end
slice_bounds-chunks_exact-end c =
    let q = rows_said _ _ c.requires _ _ c.from-n.ensures c.from-len.ensures in
    omega (arith, length-take (c.from-len.result * c.from-n.result) c.args.bytes.now, rows_within q)

pub chunks_exact-requires : goal.chunks_exact-requires
chunks_exact-requires c = (item_range (rows_said _ _ c.requires _ _ c.from-n.ensures c.from-len.ensures)).0

pub loop-r-init-derived : goal.loop-r-init-derived
loop-r-init-derived c =
    let n = c.from-n.result in
    let m = c.from-len.result in
    let b = c.args.bytes.now in
    let q = rows_said _ _ c.requires _ _ c.from-n.ensures c.from-len.ensures in
    let e : c.into_iter-r-iterator.result ≡ c.enumerate-r-items.result = c.into_iter-r-iterator.ensures.into_iter_gives in
    rw (e, c.enumerate-r-items.ensures.source, c.enumerate-r-items.ensures.count, c.chunks_exact.ensures.size, c.chunks_exact.ensures.rest) (
      ((item_range q).0, tt, inl (omega (arith, div-le_self (length (take (m * n) b)) n, length-take (m * n) b, few_bytes q))),
      tt,
    )

pub loop-r-init : goal.loop-r-init
loop-r-init c =
    let q = rows_said _ _ c.requires _ _ c.from-n.ensures c.from-len.ensures in
    let e : c.into_iter-r-iterator.result ≡ c.enumerate-r-items.result = c.into_iter-r-iterator.ensures.into_iter_gives in
    rw (e, c.enumerate-r-items.ensures.source, c.enumerate-r-items.ensures.count, c.chunks_exact.ensures.size, c.chunks_exact.ensures.rest)
    (record { size = refl; rows = q; so_far = none_read q _ refl })

pub from_items-requires : goal.from_items-requires
from_items-requires c =
    let inv = c.loop-r.invariant in
    omega (arith, c.in-Some.ensures.steps.0.1.1, inv.size, item_range inv.rows)

pub returns-in_default : goal.returns-in_default
returns-in_default c =
    let s = c.in-Some.ensures.steps in
    let inv = c.loop-r.invariant in
    rw s.1 (row_wrong inv.rows inv.so_far _ _ s.0.1.0 (s.0.1.1 ∙ inv.size) (search rules))

pub offset_bounds-rows-r : goal.offset_bounds-rows-r
offset_bounds-rows-r c =
    let s = c.in-Some.ensures.steps in
    let inv = c.loop-r.invariant in
    omega (arith, is_row inv.rows inv.so_far _ _ s.0.1.0 (s.0.1.1 ∙ inv.size), s.1, row_range inv.rows)

pub bounds-rows-r : goal.bounds-rows-r
bounds-rows-r c =
    let s = c.in-Some.ensures.steps in
    let inv = c.loop-r.invariant in
    omega (arith, is_row inv.rows inv.so_far _ _ s.0.1.0 (s.0.1.1 ∙ inv.size), s.1, row_range inv.rows)

pub loop-r-preserved : goal.loop-r-preserved
loop-r-preserved c =
    let s = c.in-Some.ensures.steps in
    let inv = c.loop-r.invariant in
    record {
      size = s.0.0 ∙ inv.size;
      rows = inv.rows;
      so_far = rw (s.2, s.1) (row_read inv.rows inv.so_far _ _ s.0.1.0 (s.0.1.1 ∙ inv.size) _ (search rules) (search rules));
    }

pub invariant_of-result : goal.invariant_of-result
invariant_of-result c =
    let m = c.from-len.result in
    let inv = c.loop-r.invariant in
    let short = subst (λ (k : ℕ). length c.loop-r.r-iterator.iter.rest.now < k) inv.size c.in-None.ensures.steps.0.1.0 in
    let said = rows_said _ _ c.requires c.args.trailer.items m refl c.from-len.ensures in
    record {
      item_range = item_range said;
      row_range = row_range said;
      right = subst (λ (n : ℕ). are_orders n m (rows_of n m c.loop-r.rows) ≡ true) c.from-n.ensures (tested inv.rows inv.so_far short);
    }

pub returns : goal.returns
returns c =
    let inv = c.loop-r.invariant in
    let short = subst (λ (k : ℕ). length c.loop-r.r-iterator.iter.rest.now < k) inv.size c.in-None.ensures.steps.0.1.0 in
    holds inv.rows inv.so_far short _ (sym c.from-n.ensures) (ap (λ (n : ℕ). rows_of n c.from-len.result c.loop-r.rows) (sym c.from-n.ensures))
