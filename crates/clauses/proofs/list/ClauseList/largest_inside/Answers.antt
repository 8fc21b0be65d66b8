use Rattle.std.proofs.Common.{◌≡◌, ℕ, ◌<◌, ◌≤◌, sym, subst, arith}
use lib.Arith.{lt_of_le-ne}
use Rattle.std.proofs.lemmas.Bool.Decides.{not_from_Decides, Decides-at, Decides-eqb}
use Rattle.item_sets.proofs.Members.{empty_⊆, ⊆_le}
use Rattle.clauses.specs.Building.{none}
use Rattle.spaces.proofs.Theory.{state_from_largest}
use Rattle.clauses.specs.Tables.{Builds, Pass}
use Rattle.clauses.specs.Passes.{pass_ends}
use Rattle.clauses.proofs.list.ClauseList.largest_inside.Goals as goal

pub loop-within-init : goal.loop-within-init
loop-within-init c = (none, empty_⊆ c.args.within.number)

pub returns-then-eq : goal.returns-then-eq
returns-then-eq c =
    let l = c.args.self.now in
    let X = c.args.within.number in
    let B = c.loop-within.built.number in
    let same : c.pass-next.result.number ≡ B = (Decides-at _ _ c.eq.ensures (Decides-eqb _ _)).0 c.if-eq.true in
    let largest = pass_ends l X B (subst (λ (C : ℕ). Pass l X B C l.len) same c.pass-next.ensures) in
    record { largest = largest; exact = state_from_largest (Builds l) X B largest }

pub loop-within-smaller : goal.loop-within-smaller
loop-within-smaller c =
    let B = c.loop-within.built.number in
    let C = c.pass-next.result.number in
    let more : B < C = lt_of_le-ne (⊆_le B C c.pass-next.ensures.grows) (λ e. not_from_Decides _ (Decides-at _ _ c.eq.ensures (Decides-eqb _ _)) c.if-eq.false (sym e)) in
    let most : C ≤ c.args.within.number = ⊆_le _ _ c.pass-next.ensures.inside in
    omega arith
