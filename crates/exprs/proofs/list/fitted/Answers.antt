use Rattle.exprs.proofs.ItemLaws.{list-from, fitted-kept}
use Rattle.exprs.proofs.list.fitted.Goals as goal

pub fits-requires : goal.fits-requires
fits-requires c = list-from c.requires

pub returns : goal.returns
returns c = rw c.then_some.ensures (fitted-kept _ c.fits.ensures c.state.ensures)
