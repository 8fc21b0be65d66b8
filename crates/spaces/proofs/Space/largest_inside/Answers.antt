use Rattle.std.proofs.Common.{ℕ, subst, rules}
use Rattle.item_sets.specs.Sets.{◌∈◌, Members}
use Rattle.spaces.proofs.Growing.{growing_begins, growing_steps}
use Rattle.spaces.proofs.Space.largest_inside.Goals as goal

pub loop-item-init : goal.loop-item-init
loop-item-init g c =
    let state = g.Self.Space.state c.args.self.now in
    let W = c.intersection-within.result.number in
    (growing_begins state W (g.met.Self.Space.laws c.args.self.now).empty, growing_steps state W (search rules))

pub returns : goal.returns
returns g c =
    let W = c.intersection-within.result.number in
    let X = c.args.set.number in
    let both : Members W (λ i. (i ∈ g.Self.Space.ground_set c.args.self.now) × (i ∈ X)) =
    subst (λ (G : ℕ). Members W (λ i. (i ∈ G) × (i ∈ X))) c.items.ensures c.intersection-within.ensures in
    c.loop-item.invariant.1.ends _ X _ _ _ _ (g.met.Self.Space.laws c.args.self.now) c.loop-item.invariant.0 c.in_default.ensures.steps
    c.items-in-loop-item.ensures both

pub loop-item-smaller-then-is_state : goal.loop-item-smaller-then-is_state
loop-item-smaller-then-is_state g c =
    c.loop-item.invariant.1.falls _ _ _ _ _ _ _ _ c.loop-item.invariant.0 c.in-Some.ensures.steps c.items-in-loop-item.ensures
    c.with-grown.ensures.number c.is_state.ensures c.if-is_state.true c.difference-untried.ensures.members (search rules)

pub loop-item-preserved : goal.loop-item-preserved
loop-item-preserved g c = (
  c.loop-item.invariant.1.passes _ _ _ _ _ _ _ _ c.loop-item.invariant.0 c.in-Some.ensures.steps c.items-in-loop-item.ensures
      c.with-grown.ensures.number c.is_state.ensures c.if-is_state.false c.without-untried.ensures.number,
  c.loop-item.invariant.1,
)
