use native.Mathlib.Omega.{arith}
use Rattle.std.proofs.lemmas.Result.{err_from_is_err_and}
use Rattle.typing.proofs.CheckLaws.{long, accepted, refused-at}
use Rattle.typing.proofs.checking.check_sheet.Goals as goal

pub returns-then-sheet-gt-SHEET_LIMIT : goal.returns-then-sheet-gt-SHEET_LIMIT
returns-then-sheet-gt-SHEET_LIMIT c = rw c.into.ensures (long _ c.if-sheet-gt-SHEET_LIMIT.true)

pub returns-in_err-check_sheet : goal.returns-in_err-check_sheet
returns-in_err-check_sheet c =
    let p = err_from_is_err_and c.from_residual.result c.from_residual.ensures.1 in
    rw (p.1, p.2) (refused-at _ _ _ c.if-sheet-gt-SHEET_LIMIT.false c.in_err-check_sheet.ensures)

pub returns : goal.returns
returns c = accepted _ _ c.if-sheet-gt-SHEET_LIMIT.false c.in_ok-check_sheet.ensures

pub check_sheet-requires : goal.check_sheet-requires
check_sheet-requires c = omega arith
