use Rattle.std.proofs.Common.{rules}
use Rattle.trees.proofs.Walking.{child_next, climbing, climbed_on, climbed_all, sibling_next, depth_falls, letter_low}
use Rattle.trees.proofs.walk.next_node.Goals as goal

pub returns-in-Some : goal.returns-in-Some
returns-in-Some g c =
    child_next (g.met.T.Tree.laws c.args.tree.now) c.args.node c.in-Some.child c.requires.node.0 c.requires.node.1 c.in-Some.ensures

pub loop-parent-init : goal.loop-parent-init
loop-parent-init g c = climbing (g.met.T.Tree.laws c.args.tree.now) c.requires.node c.in_default.ensures

pub overflow_add-letter : goal.overflow_add-letter
overflow_add-letter g c =
    let low = letter_low (g.met.T.Tree.laws c.args.tree.now) c.in-Some-parent.ensures in
    search rules

pub returns-in-Some-first_child : goal.returns-in-Some-first_child
returns-in-Some-first_child g c = sibling_next c.loop-parent.invariant c.in-Some-parent.ensures c.in-Some-first_child.ensures

pub loop-parent-smaller : goal.loop-parent-smaller
loop-parent-smaller g c = depth_falls (g.met.T.Tree.laws c.args.tree.now) c.in-Some-parent.ensures

pub loop-parent-preserved : goal.loop-parent-preserved
loop-parent-preserved g c = climbed_on c.loop-parent.invariant c.in-Some-parent.ensures c.in_default-first_child.ensures

pub returns : goal.returns
returns g c = climbed_all c.loop-parent.invariant c.in_default-parent.ensures
