use Rattle.semantics.proofs.Refusing.{above_none}
use Rattle.typing.proofs.SheetLaws.{call-prints}
use Rattle.std.proofs.Common.{refl, rules}
use Rattle.typesheet.proofs.PrintLaws.{refusal-printed}
use Rattle.typesheet.proofs.print_sheet.Goals as goal

pub returns-in-Ok : goal.returns-in-Ok
returns-in-Ok c =
    let p = call-prints _ _ _ _ _ _ _ _ (search rules) c.in-Ok.ensures in
    (p.inside refl, p.report refl)

pub returns-in-Err : goal.returns-in-Err
returns-in-Err c =
    let p = call-prints _ _ _ _ _ _ _ _ (search rules) c.in-Err.ensures in
    refusal-printed _ _ _ _ _ _ _ c.say_refused.ensures c.requires (search rules) (p.refusal (above_none c.in-Err.refused.why))
