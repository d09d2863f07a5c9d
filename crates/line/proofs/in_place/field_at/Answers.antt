use mathlib.Core.Logic.{⊎_elim}
use Rattle.line.proofs.QuickFields.{variable-got, dashed-optional, dashed-alias, dashed-bound}
use Rattle.line.proofs.in_place.field_at.Goals as goal

pub dash_or-requires : goal.dash_or-requires
dash_or-requires c = (c.requires, λ l t e. ⊎_elim (λ i. rw i (dashed-optional l t e)) (⊎_elim (λ i. rw i (dashed-alias l t e)) (λ i. rw i (dashed-bound l t e))) c.in-Optional.is)

pub returns-in-Range : goal.returns-in-Range
returns-in-Range c = rw c.in-Range.is (c.ranged_at.ensures _)

pub returns-in-Variable : goal.returns-in-Variable
returns-in-Variable c = rw c.in-Variable.is (variable-got _ _ _ _ (c.ranged_at-in-Variable.ensures _))

pub returns-in-Name : goal.returns-in-Name
returns-in-Name c = rw c.in-Name.is (c.name_at.ensures _)

pub returns-in-Letter : goal.returns-in-Letter
returns-in-Letter c = rw c.in-Letter.is (c.letter_at.ensures _)

pub returns-in-Float : goal.returns-in-Float
returns-in-Float c = rw c.in-Float.is (c.float_at.ensures _)

pub returns-in-Signed : goal.returns-in-Signed
returns-in-Signed c = rw c.in-Signed.is (c.signed_at.ensures _)
