use Rattle.std.proofs.Common.{◌≡◌, length, get_or-set_other, get_or-set_same, arith, rules}
use Rattle.clauses.proofs.Listed.{still_right}
use Rattle.clauses.proofs.list.ClauseList.push.Goals as goal

pub invariant_of-self : goal.invariant_of-self
invariant_of-self c =
    let l = c.args.self.now in
    let size : length l.clauses ≡ 120 = search rules in
    record {
      bounds = (l.bounds.0, l.bounds.1, omega (arith, c.requires.room));
      alternatives = still_right l c.args.clause _ c.requires.follows
          (λ j h. get_or-set_other l.clauses l.len j _ _ (omega arith)) (get_or-set_same l.clauses l.len _ _ (omega (arith, size, c.requires.room)));
    }
