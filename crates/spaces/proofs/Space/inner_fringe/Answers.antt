use Rattle.std.proofs.Common.{ℕ, rules}
use Rattle.item_sets.specs.Sets.{◌⊖◌}
use Rattle.item_sets.proofs.Filtering.{members_filtered}
use Rattle.spaces.proofs.Space.inner_fringe.Goals as goal

pub returns : goal.returns
returns g c =
    let K = c.args.set.number in
    let state = g.Self.Space.state c.args.self.now in (
      c.is_state.ensures.0 c.if-not-is_state.false,
      members_filtered (λ (i : ℕ). state (K ⊖ i)) _ _ c.filter.ensures.inside (λ i h. let k = c.filter.ensures.kept i h in search rules) (λ i h n s. let k = c.filter.ensures.others i h n in search rules),
    )
