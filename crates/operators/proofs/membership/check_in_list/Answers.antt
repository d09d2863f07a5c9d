use Rattle.operators.proofs.InLaws.{in-free, in-fault}
use Rattle.operators.proofs.Meets.{two-inside}
use native.Mathlib.Omega.{arith}
use Rattle.operators.proofs.membership.check_in_list.Goals as goal
use Rattle.operators.proofs.membership.check_in_list.Goals.{then-not-lets_in, else-not-lets_in}

pub bounds-work-k : goal.bounds-work-k
bounds-work-k c = let (l, m, n) = two-inside c.requires.0 in omega arith

pub returns-clause-ends : goal.returns-clause-ends
returns-clause-ends c = λ a b h.
    elim c.if-not-lets_in.branch [
      | then-not-lets_in w ↦ rw w.report-is (in-fault h c.if-b-eq-LIST.false _ c.lets_in.ensures w.if-not-lets_in.true w.fault.ensures.adds c.is_bool.ensures)
      | else-not-lets_in w ↦ rw w.report-is (in-free h c.if-b-eq-LIST.false _ c.lets_in.ensures w.if-not-lets_in.false c.is_bool.ensures)
    ]
