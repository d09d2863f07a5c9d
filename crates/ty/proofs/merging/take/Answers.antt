use Rattle.ty.proofs.MergeLaws.{taken-below}
use Rattle.ty.proofs.merging.take.Goals as goal

pub keep-n-requires : goal.keep-n-requires
keep-n-requires c =
    let a = c.args in
    let p = c.requires in
    (rw c.taken-from.ensures (taken-below a.s.now a.m a.side a.k a.to p), p.room, p.few)
