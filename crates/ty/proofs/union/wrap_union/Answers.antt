use mathlib.Core.Path.{refl}
use Rattle.ty.proofs.UnionEnds.{wrap-law}
use Rattle.ty.proofs.union.wrap_union.Goals as goal

pub returns : goal.returns
returns c = (refl, wrap-law _ _ _ c.requires c.slide_up.ensures)
