use Rattle.std.proofs.Common.{arith}
use Rattle.line.proofs.QuickFields.{float-got}
use Rattle.line.proofs.in_place.float_at.Goals as goal

pub returns : goal.returns
returns c = λ l. float-got _ _ _ c.hex_end-end.ensures (omega arith) (omega arith) l
