use mathlib.Core.Path.{sym, ◌∙◌}
use Rattle.operators.proofs.InLaws.{parted-first, parted-second, parted-fault}
use Rattle.operators.proofs.membership.mismatch_in.Goals as goal
use Rattle.operators.proofs.membership.mismatch_in.Goals.{then-is_open-via-then-is_open, then-is_open-via-else-is_open+then-is_open-2}

pub returns-then-is_open-clause-adds : goal.returns-then-is_open-clause-adds
returns-then-is_open-clause-adds c u v e f =
    let first = c.is_open.ensures u e in
    elim c.then-is_open.branch [
      | then-is_open-via-then-is_open w ↦ parted-first u v (sym first ∙ w.if-is_open.true)
      | then-is_open-via-else-is_open+then-is_open-2 w ↦ parted-second u v (sym first ∙ w.if-is_open.false) (sym (w.is_open-else-is_open.ensures v f) ∙ w.if-is_open-2.true)
    ]

pub returns-clause-adds : goal.returns-clause-adds
returns-clause-adds c u v e f =
    parted-fault u v (sym (c.is_open.ensures u e) ∙ c.if-is_open.false) (sym (c.is_open-else-is_open.ensures v f) ∙ c.if-is_open-2.false) (c.fault_in.ensures.adds u v e f)
