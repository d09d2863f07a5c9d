use native.Mathlib.Omega.{arith}
use Rattle.operators.proofs.OpLaws.{op-arithmetic, op-equality, op-comparison, op-boolean, op-string, op-concat}
use Rattle.operators.proofs.operators.OpKindFromU64.from.Goals as goal

pub returns-in-0-to-5 : goal.returns-in-0-to-5
returns-in-0-to-5 c = op-arithmetic c.args.num (omega arith)

pub returns-in-6-to-7 : goal.returns-in-6-to-7
returns-in-6-to-7 c = op-equality c.args.num (omega arith) (omega arith)

pub returns-in-8-to-11 : goal.returns-in-8-to-11
returns-in-8-to-11 c = op-comparison c.args.num (omega arith) (omega arith)

pub returns-in-12-to-14 : goal.returns-in-12-to-14
returns-in-12-to-14 c = op-boolean c.args.num (omega arith) (omega arith)

pub returns-in-15-to-18 : goal.returns-in-15-to-18
returns-in-15-to-18 c = op-string c.args.num (omega arith) (omega arith)

pub returns-in_default : goal.returns-in_default
returns-in_default c = op-concat c.args.num (omega arith)
