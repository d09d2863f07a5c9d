use Rattle.exprs.proofs.States.{last-inside, last_line, last-ends}
use lib.Seq.{length-take-le}
use mathlib.Core.Path.{sym}
use native.Mathlib.Omega.{arith}
use Rattle.exprs.proofs.comprehension.end_comprehension.Goals as goal

pub overflow_add-n : goal.overflow_add-n
overflow_add-n c = omega (arith, last-inside c.requires)

pub slice_bounds-fits-end : goal.slice_bounds-fits-end
slice_bounds-fits-end c = sym (length-take-le _ _ (last-inside c.requires))

pub fits-requires : goal.fits-requires
fits-requires c = last_line c.requires

pub returns : goal.returns
returns c = λ t k r. rw c.then_some.ensures (last-ends _ c.fits.ensures t k)
