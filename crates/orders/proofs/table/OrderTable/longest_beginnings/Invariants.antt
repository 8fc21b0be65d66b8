use Rattle.orders.proofs.Loops.{Joined, Joining}
use Rattle.orders.proofs.table.OrderTable.longest_beginnings.Given as goal

-- what is kept, and the steps that keep it
abbrev pub invariant-loop-row : goal.invariant-loop-row
invariant-loop-row l =
    Joined l.self.items l.row-items l.set.number l.row-index l.largest.number × Joining l.self l.row-items l.set.number
