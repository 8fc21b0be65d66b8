use Rattle.std.proofs.Common.{ℕ, ◌<◌, sym, refl, ap, ◌∙◌, subst, arith}
use Rattle.refusals.specs.Report.{says}
use Rattle.refusals.specs.declared.Layer.TheVariants.{Table}
use Rattle.item_sets.specs.Sets.{Least}
use Rattle.clauses.specs.Reaching.{all_reached, least_left}
use Rattle.clauses.proofs.table.ClauseTable.of.Goals as goal

pub invariant_of-result : goal.invariant_of-result
invariant_of-result c =
    let l = c.args.list in
    let few : l.items < 32 = omega (arith, l.bounds) in
    let none = sym c.items.ensures ∙ c.in-None.ensures.steps.0 in
    record { reachable = λ i h. ∣ all_reached l _ _ _ (c.all_below-all.ensures.number few) c.largest_inside-reached.ensures.largest c.difference.ensures.members none i h ∣₁ }

pub returns-in-Some : goal.returns-in-Some
returns-in-Some c =
    let l = c.args.list in
    let few : l.items < 32 = omega (arith, l.bounds) in
    let i = c.in-Some.item in
    let least : Least c.difference.result.number i =
    subst (λ (D : ℕ). Least D i) c.items.ensures c.in-Some.ensures.steps.0 in (
      i,
      least_left l _ _ _ (c.all_below-all.ensures.number few) c.largest_inside-reached.ensures.largest c.difference.ensures.members i least,
      ap (says 8 Table) c.from.ensures,
    )

pub returns-in-None : goal.returns-in-None
returns-in-None c =
    let l = c.args.list in
    let few : l.items < 32 = omega (arith, l.bounds) in
    let none = sym c.items.ensures ∙ c.in-None.ensures.steps.0 in
    (refl, all_reached l _ _ _ (c.all_below-all.ensures.number few) c.largest_inside-reached.ensures.largest c.difference.ensures.members none)
