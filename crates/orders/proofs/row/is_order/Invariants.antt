use Rattle.orders.proofs.Loops.{Seen, Judging}
use Rattle.orders.proofs.row.is_order.Given as goal

-- what is kept, and the steps that keep it
abbrev pub invariant-loop-item : goal.invariant-loop-item
invariant-loop-item l = Seen l.items l.item-index l.seen.number × Judging l.items
