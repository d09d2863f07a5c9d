use Rattle.unify.proofs.FlatLaws.{made-line, tested-fits, tested-large}
use Rattle.unify.proofs.flat.tested.Goals as goal

pub fits-requires : goal.fits-requires
fits-requires c = made-line c.requires

pub returns-then-fits : goal.returns-then-fits
returns-then-fits c = tested-fits _ c.fits.ensures c.if-fits.true

pub returns-else-fits : goal.returns-else-fits
returns-else-fits c = tested-large _ c.fits.ensures c.if-fits.false
