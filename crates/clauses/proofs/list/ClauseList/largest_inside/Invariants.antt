use Rattle.std.proofs.Common.{◌-◌}
use Rattle.item_sets.specs.Sets.{◌⊆◌}
use Rattle.clauses.specs.Tables.{Builds}
use Rattle.clauses.proofs.list.ClauseList.largest_inside.Given as goal

abbrev pub invariant-loop-within : goal.invariant-loop-within
invariant-loop-within l = Builds l.self l.built.number × (l.built.number ⊆ l.within.number)

abbrev pub decreases-loop-within : goal.decreases-loop-within
decreases-loop-within l = l.within.number - l.built.number
