use Rattle.std.proofs.Common.{◌≡◌, ◌+◌, ◌<◌, Decides, sym, ap, ◌∙◌, subst, arith, get_or-take, rules}
use Rattle.std.proofs.lemmas.Bool.Decides.{not_from_Decides}
use Rattle.item_sets.specs.declared.ItemSet.{ItemSet}
use Rattle.item_sets.specs.Sets.{◌∈◌, ◌⊆◌, ◌⊕◌}
use Rattle.clauses.specs.declared.clause.Clause.{Clause}
use Rattle.clauses.specs.Clauses.{at}
use Rattle.clauses.specs.Tables.{Pass}
use Rattle.clauses.specs.Passes.{item_known, pass_over, pass_adds}
use Rattle.clauses.proofs.list.ClauseList.pass.Goals as goal
use Rattle.clauses.proofs.list.ClauseList.pass.Goals.{then-adds, else-adds}

pub loop-clause-preserved : goal.loop-clause-preserved
loop-clause-preserved c =
    let l = c.args.self.now in
    let k = c.loop-clause.clause-index in
    let X = c.args.within.number in
    let C = c.loop-clause.built.number in
    let p = c.loop-clause.invariant in
    let lt : k < l.len = search rules in
    let read : at _ k ≡ at l.clauses k = get_or-take l.len l.clauses k _ (omega arith) in
    let adds : Decides c.adds.result (((at l.clauses k).item ∈ X) × ((at l.clauses k).alternative.number ⊆ C)) =
    subst (λ (q : Clause). Decides c.adds.result ((q.item ∈ X) × (q.alternative.number ⊆ C))) read c.adds.ensures in
    elim c.if-adds.branch [
      | then-adds w ↦
          let met = adds.0 w.if-adds.true in
          let known : (at l.clauses k).item < 32 = omega (arith, item_known l k lt, l.bounds) in
          let added : w.with-built.result.number ≡ C ⊕ (at l.clauses k).item =
          subst (λ (q : Clause). q.item < 32 → w.with-built.result.number ≡ C ⊕ q.item) read w.with-built.ensures.number known in
          pass_adds l X _ C k p _ lt met.0 met.1 (ap (λ (q : ItemSet). q.number) w.built-is ∙ added)
      | else-adds w ↦
          let left = not_from_Decides _ adds w.if-adds.false in
          subst (λ (q : ItemSet). Pass l X c.args.start.number q.number (k + 1)) (sym w.built-is) (pass_over l X _ C k p (λ x a. left (x, a)))
    ]
