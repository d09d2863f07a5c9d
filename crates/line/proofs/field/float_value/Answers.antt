use Rattle.std.proofs.Common.{◌∙◌, sym}
use Rattle.line.proofs.ValueLaws.{float-length, float-bad, float-fine}
use Rattle.line.proofs.field.float_value.Goals as goal
use Rattle.line.proofs.field.float_value.Goals.{then-text-ne-FLOAT_DIGITS-via-then-text-ne-FLOAT_DIGITS, then-text-ne-FLOAT_DIGITS-via-else-text-ne-FLOAT_DIGITS+then-not-all_hex}

pub returns-then-text-ne-FLOAT_DIGITS : goal.returns-then-text-ne-FLOAT_DIGITS
returns-then-text-ne-FLOAT_DIGITS c =
    elim c.then-text-ne-FLOAT_DIGITS.branch [
      | then-text-ne-FLOAT_DIGITS-via-then-text-ne-FLOAT_DIGITS w ↦ float-length _ w.if-text-ne-FLOAT_DIGITS.true
      | then-text-ne-FLOAT_DIGITS-via-else-text-ne-FLOAT_DIGITS+then-not-all_hex w ↦ float-bad _ (sym w.if-not-all_hex.true ∙ w.all_hex.ensures)
    ]

pub returns : goal.returns
returns c = float-fine _ (sym c.if-not-all_hex.false ∙ c.all_hex.ensures) c.if-text-ne-FLOAT_DIGITS.false
