use Prim.Native.Nat.{◌-◌}
use lib.ListN.{length}
use Rattle.hir.proofs.TopLaws.{ClausesInv}
use Rattle.hir.proofs.valid.check_clauses.Given as goal

abbrev pub invariant-loop-next : goal.invariant-loop-next
invariant-loop-next l = ClausesInv l.depth l.sheet l.initial.next.at l.initial.next.line.0 l.next.at l.next.line.0

abbrev pub decreases-loop-next : goal.decreases-loop-next
decreases-loop-next l = length l.sheet - l.next.at
