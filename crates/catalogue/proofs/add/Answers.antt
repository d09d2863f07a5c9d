use Rattle.catalogue.proofs.NumberLaws.{put_two, put_four}
use Rattle.catalogue.proofs.WriteLaws.{added_is}
use Rattle.catalogue.proofs.add.Goals as goal

pub returns : goal.returns
returns c =
    let n = c.to_le_bytes-given.ensures in
    added_is _ _ _ _ _ _ _ _ _ (put_two _ _ _ _ _ n c.write.ensures) (put_two _ _ _ _ _ n c.write-2.ensures) (put_two _ _ _ _ _ c.to_le_bytes.ensures c.write-3.ensures) (put_four _ _ _ _ _ c.to_le_bytes-2.ensures c.write-4.ensures) c.write-5.ensures
