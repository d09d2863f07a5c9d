use Rattle.ty.proofs.EntryLaws.{front-from}
use Rattle.ty.proofs.map.tested.Goals as goal

pub fits-requires : goal.fits-requires
fits-requires c = front-from c.args.part.now _ (rw c.in_ok-n.was at c.requires)
