use Rattle.std.proofs.Common.{rules}
use Rattle.item_sets.proofs.Members.{trailing_least, without_lt}
use Rattle.item_sets.proofs.ItemsIterator.next.Goals as goal
use Rattle.std.proofs.iter.Next.{firm}

pub returns : goal.returns
returns c =
    let least = trailing_least 32 c.args.self.now.rest.number c.if-self-eq0.false (search rules) in
    let rest = c.without-self.ensures.number in
    record { steps = (least, rest); goes = firm ((tt, tt, rw rest (without_lt _ _ least.0))) (λ h. search rules) }
