use Rattle.std.proofs.Common.{◌≡◌, ℕ, ◌<◌, ◌∙◌, sym, subst, subst₂, arith}
use Rattle.clauses.specs.Clauses.{at, Follows, Reachable}
use Rattle.clauses.specs.Loading.{free_clause}
use Rattle.clauses.proofs.Fresh.{free_follows, fresh_reachable}
use Rattle.clauses.proofs.table.ClauseTableTable.fresh.Goals as goal

pub push-requires-clause-follows : goal.push-requires-clause-follows
push-requires-clause-follows c =
    let l = c.new-list.result in
    let e = c.new-list.ensures in
    subst₂ (λ (n k : ℕ). Follows n (at l.clauses) k free_clause) (sym e.0) (sym e.1) (free_follows (at l.clauses))

pub invariant_of-result : goal.invariant_of-result
invariant_of-result c =
    let m = c.push.new.self in
    let a = c.push.ensures in
    let e = c.new-list.ensures in
    let items : m.items ≡ 1 = a.same_items ∙ e.0 in
    let one : m.len ≡ 1 = omega (arith, a.one_more, e.1) in
    let free : at m.clauses 0 ≡ free_clause = subst (λ (k : ℕ). at m.clauses k ≡ free_clause) e.1 a.added in
    record {
      reachable = λ i h. ∣ subst₂ (λ (n k : ℕ). Reachable n k (at m.clauses) i) (sym items) (sym one)
          (fresh_reachable (at m.clauses) free i (subst (λ (n : ℕ). i < n) items h)) ∣₁;
    }
