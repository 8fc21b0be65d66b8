use Rattle.orders.proofs.Loops.{none_joined, joining}
use Rattle.orders.proofs.table.OrderTable.longest_beginnings.Goals as goal

pub loop-row-init : goal.loop-row-init
loop-row-init c = (none_joined c.args.self.now.items _ c.args.set.number, joining c.args.self.now _ c.args.set.number)
