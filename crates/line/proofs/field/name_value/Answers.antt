use Rattle.std.proofs.lemmas.Result.{err_from_is_err_and}
use Rattle.line.proofs.ValueLaws.{name-ok, name-err}
use Rattle.line.proofs.field.name_value.Goals as goal

pub returns-in_err-check_name : goal.returns-in_err-check_name
returns-in_err-check_name c = let p = err_from_is_err_and c.from_residual.result c.from_residual.ensures.1 in rw (p.1, p.2) (name-err _ _ _ c.in_err-check_name.ensures)

pub returns : goal.returns
returns c = name-ok _ _ _ c.in_ok-check_name.ensures
