use Rattle.orders.proofs.Loops.{none_seen, judging}
use Rattle.orders.proofs.row.is_order.Goals as goal

pub loop-item-init : goal.loop-item-init
loop-item-init c = (none_seen c.args.items.now, judging c.args.items.now c.requires)
