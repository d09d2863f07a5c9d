use Rattle.std.proofs.Common.{◌≡◌, rules, replicate, subst}
use Rattle.replaying.specs.Judged.{Judges}
use Rattle.replaying.proofs.Laws.{judges}
use Rattle.replay.specs.Stored.{Agrees}
use Rattle.replay.proofs.Fills.{take-replicate}
use Rattle.replay.proofs.lend.Goals as goal

pub returns : goal.returns
returns c =
    let a = c.args in
    let w = c.in-Ok-Ok.w in
    let o = c.in-Ok-Ok.o in
    let v = c.judged.result in
    let p : w ≡ a.w = search rules in
    let q : o ≡ a.o = search rules in
    let j = judges c.agrees.result v _ c.judged.ensures c.agrees.ensures in
    let k : Judges v (Agrees a.call (replicate w 170) (replicate o 187) a.want.answer a.want.text.now) = rw (take-replicate w 65537 170 c.if-w-gt-WORK_ROOM.false, take-replicate o 65536 187 c.if-o-gt-OUT_ROOM.false) at j in
    subst (λ n. Judges v (Agrees a.call (replicate n 170) (replicate a.o 187) a.want.answer a.want.text.now)) p
    (subst (λ n. Judges v (Agrees a.call (replicate w 170) (replicate n 187) a.want.answer a.want.text.now)) q k)
