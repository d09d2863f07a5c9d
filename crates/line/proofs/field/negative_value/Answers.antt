use Rattle.std.proofs.Common.{rules, arith}
use Rattle.line.proofs.ValueLaws.{within-err, negative-small, negative-zero, negative-in}
use Rattle.line.proofs.field.negative_value.Goals as goal

pub returns-in_err-n : goal.returns-in_err-n
returns-in_err-n c = search (rules, within-err)

pub returns-then-n-eq0 : goal.returns-then-n-eq0
returns-then-n-eq0 c = negative-zero _ _ c.in_ok-n.ensures c.if-n-eq0.true

pub overflow_sub-result : goal.overflow_sub-result
overflow_sub-result c = omega (arith, negative-small _ _ c.in_ok-n.ensures)

pub returns : goal.returns
returns c = negative-in _ _ c.in_ok-n.ensures c.if-n-eq0.false
