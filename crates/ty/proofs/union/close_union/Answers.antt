use Rattle.ty.proofs.UnionEnds.{closing-line}
use Rattle.ty.proofs.union.close_union.Goals as goal

pub fits-requires : goal.fits-requires
fits-requires c = closing-line c.requires c.union_line-n.ensures
