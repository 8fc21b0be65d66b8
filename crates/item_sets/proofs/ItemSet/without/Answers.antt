use Rattle.std.proofs.Common.{rules, arith}
use Rattle.item_sets.proofs.Members.{∈-without, same_members, members_below, ∉_empty}
use Rattle.item_sets.proofs.ItemSet.without.Goals as goal

-- Of an item past the number's bits there is nothing to take away.
pub returns-clause-members : goal.returns-clause-members
returns-clause-members c j =
    grind (arith, c.with.ensures.members j, c.difference.ensures.members j, members_below c.args.self.number 32 (search rules) j, ∉_empty j)

pub returns-clause-number : goal.returns-clause-number
returns-clause-number c = same_members _ _ _ (returns-clause-members c) (∈-without c.args.self.number c.args.item)
