use Rattle.exprs.proofs.Fronts.{settle-bool}
use native.Mathlib.Omega.{arith}
use Rattle.exprs.proofs.front.is_bool.Goals as goal

pub returns : goal.returns
returns c = settle-bool (omega (arith, c.requires)) c.put_letter.ensures
