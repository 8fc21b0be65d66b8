use Rattle.clauses.specs.Tables.{Pass}
use Rattle.clauses.proofs.list.ClauseList.pass.Given as goal

abbrev pub invariant-loop-clause : goal.invariant-loop-clause
invariant-loop-clause l = Pass l.self l.within.number l.initial.built.number l.built.number l.clause-index
