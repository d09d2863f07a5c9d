use Rattle.std.proofs.Common.{arith}
use Rattle.line.proofs.QuickFields.{ranged-got}
use Rattle.line.proofs.in_place.ranged_at.Goals as goal

pub returns : goal.returns
returns c = λ l. ranged-got _ _ _ _ l _ c.in_ok-got.ensures (omega arith) (omega arith) (omega arith)
