use Rattle.std.proofs.Common.{◌∙◌}
use Rattle.replay.proofs.Agreed.{told}
use Rattle.replay.proofs.unify.Goals as goal

pub returns : goal.returns
returns c =
    let a = c.args in
    let t = c.unify_types in
    told a.work.now a.out.now a.want.text.now _ _ (c.of_unified-answer.ensures _ _ ∙ t.ensures) t.auto.work t.auto.out c.is_stored.ensures
