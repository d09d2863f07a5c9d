use Rattle.std.proofs.Common.{rules, arith}
use Rattle.line.proofs.ValueLaws.{within-err, positive-small, positive-in}
use Rattle.line.proofs.field.positive_value.Goals as goal

pub returns-in_err-n : goal.returns-in_err-n
returns-in_err-n c = search (rules, within-err)

pub overflow_add-result : goal.overflow_add-result
overflow_add-result c = omega (arith, positive-small _ _ c.in_ok-n.ensures)

pub returns : goal.returns
returns c = positive-in _ _ c.in_ok-n.ensures
