use Rattle.std.proofs.Common.{rules}
use Rattle.orders.proofs.Loops.{begun, beginning}
use Rattle.orders.proofs.row.OrderRow.longest_beginning.Goals as goal

pub loop-item-init : goal.loop-item-init
loop-item-init c = (begun _ c.args.set.number, beginning _ c.args.set.number (search rules))
