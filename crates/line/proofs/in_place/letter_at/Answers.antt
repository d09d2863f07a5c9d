use Rattle.line.proofs.QuickFields.{kind-got}
use Rattle.line.proofs.in_place.letter_at.Goals as goal

pub returns-in-Ok : goal.returns-in-Ok
returns-in-Ok c = λ l. rw c.from.ensures (kind-got _ _ l _ c.if-end-sheet.false c.in-Ok.ensures)
