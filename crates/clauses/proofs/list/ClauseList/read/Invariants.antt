use Rattle.clauses.proofs.Reading.{RowsOf, ReadSoFar}
use Rattle.clauses.proofs.list.ClauseList.read.Given as goal

abbrev pub invariant-loop-row : goal.invariant-loop-row
invariant-loop-row l = record { rows : RowsOf l.bytes l.row-items; so_far : ReadSoFar l.bytes l.list l.row-index }
