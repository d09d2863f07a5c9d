use native.Mathlib.Omega.{arith}
use Rattle.std.proofs.lemmas.Result.{err_from_is_err_and}
use Rattle.typing.proofs.SheetLaws.{types-refused, statement-ask, types-short, types-made, types-large}
use Rattle.typing.proofs.type_sheet.Goals as goal

pub returns-in_err-o : goal.returns-in_err-o
returns-in_err-o c =
    let p = err_from_is_err_and c.from_residual.result c.from_residual.ensures.1 in
    rw (p.1, p.2) (types-refused _ _ _ (c.requires, c.told-work) c.args.out.now _ c.in_err-o.ensures)

pub check_statement-requires : goal.check_statement-requires
check_statement-requires c = statement-ask _ _ (c.requires, c.told-work) _ c.in_ok-o.ensures

pub returns-in_err-len : goal.returns-in_err-len
returns-in_err-len c =
    let p = err_from_is_err_and c.from_residual-in_err-len.result c.from_residual-in_err-len.ensures.1 in
    rw (p.1, p.2) (types-large _ _ _ (c.requires, c.told-work) _ c.in_ok-o.ensures _ _ _ c.check_statement.ensures _ c.in_err-len.was)

pub returns-then-len-out : goal.returns-then-len-out
returns-then-len-out c = rw c.into.ensures (types-short _ _ _ (c.requires, c.told-work) _ c.in_ok-o.ensures _ _ _ c.check_statement.ensures _ c.in_ok-len.was c.if-len-out.true)

pub returns : goal.returns
returns c = types-made _ _ _ (c.requires, c.told-work) _ c.in_ok-o.ensures _ _ _ c.check_statement.ensures _ c.in_ok-len.was c.if-len-out.false

pub check_sheet-requires : goal.check_sheet-requires
check_sheet-requires c = omega (arith, c.requires)
