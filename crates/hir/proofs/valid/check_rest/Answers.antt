use Rattle.std.proofs.lemmas.Result.{err_from_is_err_and}
use Rattle.hir.proofs.SheetLaws.{rest-binds, rest-clauses, rest-fine}
use Rattle.hir.proofs.valid.check_rest.Goals as goal

pub returns-in_err-next : goal.returns-in_err-next
returns-in_err-next c =
    let p = err_from_is_err_and c.from_residual.result c.from_residual.ensures.1 in
    rw (p.1, p.2) (rest-binds c.args.depth c.args.sheet.now c.args.from _ c.in_err-next.ensures)

pub returns-in_err-check_clauses : goal.returns-in_err-check_clauses
returns-in_err-check_clauses c =
    let p = err_from_is_err_and c.from_residual-in_err-check_clauses.result c.from_residual-in_err-check_clauses.ensures.1 in
    rw (p.1, p.2) (rest-clauses c.args.depth c.args.sheet.now c.args.from _ c.in_ok-next.ensures _ c.in_err-check_clauses.ensures)

pub returns : goal.returns
returns c = rest-fine c.args.depth c.args.sheet.now c.args.from _ c.in_ok-next.ensures c.in_ok-check_clauses.ensures
