use Rattle.std.proofs.Common.{refl}
use Rattle.catalogue.proofs.NumberLaws.{put-part}
use Rattle.catalogue.proofs.number.write.Goals as goal

pub returns : goal.returns
returns c = put-part _ _ _ _ _ c.requires refl c.copy_from_slice.ensures.after
