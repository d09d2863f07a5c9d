use Rattle.old.proofs.MakeParts.{list-from}
use Rattle.old.proofs.making.finish.Goals as goal

pub fits-requires : goal.fits-requires
fits-requires c = list-from _ _ _ c.in-74.is c.requires
