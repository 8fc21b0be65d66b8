use Rattle.clauses.specs.Clauses.{at}
use Rattle.clauses.proofs.Four.{few_decides}
use Rattle.clauses.proofs.Listed.{items_rise}
use Rattle.clauses.proofs.list.ClauseList.has_room_for.Goals as goal

pub returns-else-self-lt4 : goal.returns-else-self-lt4
returns-else-self-lt4 c =
    let l = c.args.self.now in
    few_decides (at l.clauses) l.len c.args.item (items_rise l) c.requires c.if-self-lt4.false
