use mathlib.Core.Path.{sym}
use mathlib.Core.Logic.{inr}
use Rattle.exprs.proofs.RoleLaws.{around-role, around-condition}
use Rattle.exprs.proofs.comprehension.comprehension_role.Goals as goal

pub returns-then-j-bit : goal.returns-then-j-bit
returns-then-j-bit c p e h = sym (around-role p _ _ e h (inr c.if-j-bit.true))

pub returns-else-j-bit : goal.returns-else-j-bit
returns-else-j-bit c p e h = sym (around-condition p _ _ h c.if-j-eq0.false c.if-j-bit.false)
