use Rattle.std.proofs.Common.{arith}
use Rattle.hir.proofs.KidLaws.{ones-bits}
use Rattle.hir.proofs.valid.kids_of.Goals as goal

pub hung-requires : goal.hung-requires
hung-requires c = (c.requires.0, rw (ones-bits c.args.h.flag c.requires.1) (omega (arith, c.requires.1)))

pub returns : goal.returns
returns c = rw (c.row_of.ensures.under, ones-bits c.args.h.flag c.requires.1) at c.hung.ensures
