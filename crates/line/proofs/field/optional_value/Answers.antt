use Rattle.std.proofs.Common.{◌∙◌, sym}
use Rattle.line.proofs.ValueLaws.{optional-dash, optional-some}
use Rattle.line.proofs.field.optional_value.Goals as goal

pub returns-then-is_dash : goal.returns-then-is_dash
returns-then-is_dash c = optional-dash _ 0 (sym c.if-is_dash.true ∙ c.is_dash.ensures)

pub returns : goal.returns
returns c = c.ranged.ensures ∙ optional-some _ 0 (sym c.if-is_dash.false ∙ c.is_dash.ensures)
