use Rattle.std.proofs.Common.{◌∙◌, sym, arith, rules}
use Rattle.line.proofs.ValueLaws.{bound-dash, bound-none, bound-err, bound-in}
use Rattle.line.proofs.field.bound_value.Goals as goal

pub returns-then-is_dash : goal.returns-then-is_dash
returns-then-is_dash c = bound-dash _ _ (sym c.if-is_dash.true ∙ c.is_dash.ensures)

pub returns-then-l-eq0 : goal.returns-then-l-eq0
returns-then-l-eq0 c = bound-none _ _ (sym c.if-is_dash.false ∙ c.is_dash.ensures) c.if-l-eq0.true

pub returns-in_err-n : goal.returns-in_err-n
returns-in_err-n c =
    let no_dash = sym c.if-is_dash.false ∙ c.is_dash.ensures in
    search (rules, bound-err)

pub returns : goal.returns
returns c = bound-in _ _ _ _ (sym c.if-is_dash.false ∙ c.is_dash.ensures) c.if-l-eq0.false c.in_ok-n.ensures (omega arith)
