use Rattle.std.proofs.lemmas.Result.{err_from_is_err_and}
use Rattle.line.proofs.ValueLaws.{decimal-read, decimal-refused}
use Rattle.line.proofs.field.decimal.Goals as goal

pub returns-in_err-decimal : goal.returns-in_err-decimal
returns-in_err-decimal c = let p = err_from_is_err_and c.from_residual.result c.from_residual.ensures.1 in rw (p.1, p.2) (decimal-refused _ _ c.in_err-decimal.ensures)

pub returns : goal.returns
returns c = decimal-read _ _ c.in_ok-decimal.ensures
