use Rattle.trees.proofs.Passing.{passed_to, passed_over, passed_all, passing_ends}
use Rattle.trees.proofs.walk.next_wanted.Goals as goal

pub returns-then-is_wanted : goal.returns-then-is_wanted
returns-then-is_wanted g c = passed_to c.loop-next.invariant c.in-Some.ensures c.is_wanted.ensures c.if-is_wanted.true

pub loop-next-smaller : goal.loop-next-smaller
loop-next-smaller g c = passing_ends c.loop-next.invariant c.in-Some.ensures

pub loop-next-preserved : goal.loop-next-preserved
loop-next-preserved g c = passed_over c.loop-next.invariant c.in-Some.ensures c.is_wanted.ensures c.if-is_wanted.false

pub returns : goal.returns
returns g c = passed_all c.loop-next.invariant c.in_default.ensures
