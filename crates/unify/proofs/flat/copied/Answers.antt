use mathlib.Core.Path.{refl}
use native.Mathlib.Omega.{arith}
use Rattle.unify.proofs.FlatLaws.{operand-room, copied-answer}
use Rattle.unify.proofs.flat.copied.Goals as goal

pub copy_in-requires : goal.copy_in-requires
copy_in-requires c = let r = operand-room c.requires in (omega arith, omega arith)

pub returns : goal.returns
returns c = copied-answer c.requires refl c.copy_in.ensures
