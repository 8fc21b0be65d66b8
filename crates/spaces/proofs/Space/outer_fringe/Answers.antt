use Rattle.std.proofs.Common.{ℕ, ◌<◌, subst, rules}
use Rattle.item_sets.specs.Sets.{◌∈◌, ◌∉◌, ◌⊕◌, Members}
use Rattle.item_sets.proofs.Members.{members_below}
use Rattle.item_sets.proofs.Filtering.{members_filtered}
use Rattle.spaces.proofs.Space.outer_fringe.Goals as goal

pub returns : goal.returns
returns g c =
    let K = c.args.set.number in
    let G = g.Self.Space.ground_set c.args.self.now in
    let state = g.Self.Space.state c.args.self.now in
    let O = c.difference-outside.result.number in
    let low : (i : ℕ) → i ∈ O → i < 32 = members_below O 32 (search rules) in
    let outside : Members O (λ i. (i ∈ G) × (i ∉ K)) =
    subst (λ (X : ℕ). Members O (λ i. (i ∈ X) × (i ∉ K))) c.items.ensures c.difference-outside.ensures.members in
    let found : Members c.filter.result.number (λ i. (i ∈ O) × state (K ⊕ i)) =
    members_filtered (λ (i : ℕ). state (K ⊕ i)) _ _ c.filter.ensures.inside
    (λ i h. let lt = low i (c.filter.ensures.inside i h) in let k = c.filter.ensures.kept i h in search rules)
    (λ i h n s. let lt = low i h in let k = c.filter.ensures.others i h n in search rules) in (
      c.is_state.ensures.0 c.if-not-is_state.false,
      λ i. (
        λ h. let q = (found i).0 h in let o = (outside i).0 q.0 in (o.0, o.1, q.1),
        λ q. (found i).1 ((outside i).1 (q.0, q.1), q.2),
      ),
    )
