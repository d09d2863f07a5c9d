-- `lend`: the two fronts lie inside the arrays, and zeros follow them.
use Rattle.std.proofs.Common.{◌≡◌, rules, subst}
use Rattle.replaying.specs.Judged.{Judges}
use Rattle.replaying.proofs.Laws.{judges}
use Rattle.replay_store.specs.Agrees.{padded, Agrees}
use Rattle.replay_store.proofs.Laws.{lent}
use Rattle.replay_store.proofs.lend.Goals as goal

pub returns : goal.returns
returns c =
    let a = c.args in
    let same : c.in-Ok.size ≡ a.size = search rules in
    subst (λ n. Judges c.judged.result (Agrees a.call (padded a.front.now n) a.want.answer (padded a.want.text.now n))) same
    (lent _ a.call a.front.now a.want.text.now _ _ c.in-Ok.size a.want.answer c.if-front-size.false c.if-after-size.false c.if-size-gt-STORE_ROOM.false c.append.ensures.1 c.append-2.ensures.1
    (judges c.agrees.result _ _ c.judged.ensures c.agrees.ensures))
