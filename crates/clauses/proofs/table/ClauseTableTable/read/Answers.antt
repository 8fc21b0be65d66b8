use Rattle.std.proofs.Common.{sym, subst}
use Rattle.std.proofs.lemmas.Result.{err_from_is_err_and}
use Rattle.clauses.specs.Loading.{Refused, by_trailer, by_row}
use Rattle.clauses.proofs.Spelling.{table_spelled}
use Rattle.clauses.proofs.table.ClauseTableTable.read.Goals as goal

pub returns-in_err-trailer : goal.returns-in_err-trailer
returns-in_err-trailer c =
    let p = err_from_is_err_and c.from_residual.result c.from_residual.ensures.1 in
    rw (p.1, p.2) (by_trailer c.in_err-trailer.ensures)

pub returns-in_err-list : goal.returns-in_err-list
returns-in_err-list c =
    let p = err_from_is_err_and c.from_residual-in_err-list.result c.from_residual-in_err-list.ensures.1 in
    let w = c.in_err-list.ensures in
    rw (p.1, p.2) (subst (Refused c.args.bytes.now) (sym w.2) (by_row c.in_ok-trailer.ensures.right w.0 w.1))

pub returns : goal.returns
returns c = table_spelled _ _ c.in_ok-list.ensures c.in_ok-trailer.ensures.right c.of.result c.of.ensures
