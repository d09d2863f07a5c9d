use mathlib.Core.Path.{sym, ◌∙◌}
use Rattle.operators.proofs.RequireLaws.{adds-met, adds-unmet}
use Rattle.operators.proofs.need.require.Goals as goal

pub returns-then-meets-clause-adds : goal.returns-then-meets-clause-adds
returns-then-meets-clause-adds c u e = adds-met _ u (sym (c.meets.ensures u e) ∙ c.if-meets.true)

pub returns-clause-adds : goal.returns-clause-adds
returns-clause-adds c u e = adds-unmet _ u (sym (c.meets.ensures u e) ∙ c.if-meets.false) (rw (c.fault_code.ensures u) at (c.fault.ensures.adds u e))
