use Rattle.std.proofs.Common.{◌∙◌}
use Rattle.replay.proofs.Agreed.{told}
use Rattle.replay.proofs.infer.Goals as goal

pub returns : goal.returns
returns c =
    let a = c.args in
    let t = c.infer_types in
    told a.work.now a.out.now a.want.text.now _ _ (c.of_length-answer.ensures _ _ ∙ t.ensures) t.auto.work t.auto.out c.is_stored.ensures
