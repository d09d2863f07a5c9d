use Rattle.std.proofs.Common.{rules, arith}
use Rattle.line.proofs.ValueLaws.{decimal-err, decimal-out, decimal-number}
use Rattle.line.proofs.field.ranged.Goals as goal

pub returns-in_err-n : goal.returns-in_err-n
returns-in_err-n c = search (rules, decimal-err)

pub returns-then-n-least : goal.returns-then-n-least
returns-then-n-least c = decimal-out _ _ _ _ _ c.in_ok-n.ensures (λ p q. omega arith)

pub returns : goal.returns
returns c = decimal-number _ _ _ _ c.in_ok-n.ensures c.if-n-least.false c.if-n-most.false
