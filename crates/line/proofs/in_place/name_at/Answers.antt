use Rattle.std.proofs.Common.{arith}
use Rattle.line.proofs.QuickFields.{name-got}
use Rattle.line.proofs.in_place.name_at.Goals as goal

pub returns : goal.returns
returns c = λ l. name-got _ _ _ c.hex_end-end.ensures (omega arith) (omega arith) (omega arith) l
