use Prim.Native.Nat.{◌-◌}
use lib.ListN.{length}
use Rattle.hir.proofs.TopLaws.{BindsInv}
use Rattle.hir.proofs.valid.check_binds.Given as goal

abbrev pub invariant-loop-line : goal.invariant-loop-line
invariant-loop-line l = BindsInv l.sheet l.initial.next.at l.initial.next.line.0 l.next.at l.next.line.0 l.least

abbrev pub decreases-loop-line : goal.decreases-loop-line
decreases-loop-line l = length l.sheet - l.next.at
