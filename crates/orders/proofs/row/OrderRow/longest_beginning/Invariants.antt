use Rattle.orders.proofs.Loops.{Begun, Beginning}
use Rattle.orders.proofs.row.OrderRow.longest_beginning.Given as goal

-- what is kept, and the steps that keep it
abbrev pub invariant-loop-item : goal.invariant-loop-item
invariant-loop-item l =
    Begun l.item-items l.set.number l.item-index l.beginning.number × Beginning l.item-items l.set.number
