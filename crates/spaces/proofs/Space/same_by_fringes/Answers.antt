use Rattle.std.proofs.Common.{Decides}
use Rattle.std.proofs.lemmas.Bool.Decides.{not_from_Decides, Decides-at, Decides-eqb, Decides-like}
use Rattle.spaces.specs.Largest.{Inner, Outer}
use Rattle.spaces.proofs.Theory.{same_by_outer, same_fringe, decides_fringes}
use Rattle.spaces.proofs.Space.same_by_fringes.Goals as goal

pub returns-then-eq : goal.returns-then-eq
returns-then-eq g c =
    let G = g.Self.Space.ground_set c.args.self.now in
    let state = g.Self.Space.state c.args.self.now in
    let a = c.in_ok-outer_a.ensures in
    let b = c.in_ok-outer_b.ensures in
    let same = Decides-like _
    (same_by_outer G state (g.met.Self.Space.laws c.args.self.now) _ _ _ _ a.0 b.0 a.1 b.1)
    (same_fringe (Outer G state) _ _ _ _ a.1 b.1)
    (Decides-at _ _ c.eq-then-eq.ensures (Decides-eqb _ _)) in
    (a.0, b.0, decides_fringes G state (g.met.Self.Space.laws c.args.self.now) _ _ _ a.0 b.0 same, same)

pub returns-else-eq : goal.returns-else-eq
returns-else-eq g c =
    let state = g.Self.Space.state c.args.self.now in
    let a = c.in_ok-inner_a.ensures in
    let b = c.in_ok-inner_b.ensures in
    let G = g.Self.Space.ground_set c.args.self.now in
    let told = Decides-at _ _ c.eq.ensures (Decides-eqb _ _) in
    let differ = not_from_Decides _ told c.if-eq.false in
    let same : Decides _ _ = (
      λ t. absurd (differ (told.0 t)),
      λ e. absurd (differ (same_fringe (Inner state) _ _ _ _ a.1 b.1 e)),
    ) in
    (a.0, b.0, decides_fringes G state (g.met.Self.Space.laws c.args.self.now) _ _ _ a.0 b.0 same, same)
