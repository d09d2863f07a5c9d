use Rattle.exprs.proofs.StateLaws.{first-stays, first-new}
use native.Mathlib.Omega.{arith}
use Rattle.exprs.proofs.state.keep_first.Goals as goal

pub returns-then-st-gt0 : goal.returns-then-st-gt0
returns-then-st-gt0 c = first-stays (omega arith)

pub returns : goal.returns
returns c = first-new (omega arith) c.state.ensures
