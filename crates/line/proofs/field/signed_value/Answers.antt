use Rattle.std.proofs.Common.{arith, ◌∙◌}
use Rattle.line.proofs.ValueLaws.{signed-empty, signed-minus, signed-plain}
use Rattle.line.proofs.field.signed_value.Goals as goal

pub returns-in-empty : goal.returns-in-empty
returns-in-empty c = signed-empty _ (omega arith)

pub returns-in-45 : goal.returns-in-45
returns-in-45 c = c.negative_value.ensures ∙ signed-minus _ c.in-45.len_at_least (omega arith)

pub returns-in_default : goal.returns-in_default
returns-in_default c = c.positive_value.ensures ∙ signed-plain _ c.in_default.len_at_least (λ e. omega arith)
