use Rattle.std.proofs.Common.{refl}
use Rattle.std.specs.Prelude.{Err}
use Rattle.line.proofs.OpeningLaws.{opened-read}
use Rattle.line.proofs.opening.opening_of.Goals as goal

pub returns-in-Err : goal.returns-in-Err
returns-in-Err c = opened-read _ _ c.requires (Err c.in-Err.bad) c.in-Err.ensures _ refl
