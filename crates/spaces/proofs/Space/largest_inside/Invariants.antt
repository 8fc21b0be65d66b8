use Rattle.std.proofs.Common.{◌+◌, ◌-◌, ◌*◌, ◌^◌}
use Rattle.spaces.proofs.Growing.{GrowingSoFar, GrowingSteps}
use Rattle.spaces.proofs.Space.largest_inside.Given as goal

abbrev pub invariant-loop-item : goal.invariant-loop-item
invariant-loop-item g l =
    let state = g.Self.Space.state l.self in
    GrowingSoFar state l.within.number l.largest.number l.untried.number × GrowingSteps state l.within.number

abbrev pub decreases-loop-item : goal.decreases-loop-item
decreases-loop-item g l = (l.within.number - l.largest.number) * 2 ^ 32 + l.untried.number
