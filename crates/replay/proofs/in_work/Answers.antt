use Rattle.std.proofs.Common.{arith}
use Rattle.replay.proofs.Cases.{work-lent, work-low, work-high}
use Rattle.replay.proofs.in_work.Goals as goal

pub returns-in-1 : goal.returns-in-1
returns-in-1 c = work-lent _ (omega arith) (omega arith)

pub returns-in_default : goal.returns-in_default
returns-in_default c = work-low _ (omega arith)

pub returns-in_default-2 : goal.returns-in_default-2
returns-in_default-2 c = work-high _ (omega arith)
