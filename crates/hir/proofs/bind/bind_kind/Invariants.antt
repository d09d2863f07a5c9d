use Prim.Native.Nat.{◌-◌}
use Rattle.hir.proofs.BindLaws.{FindInv}
use Rattle.hir.proofs.bind.bind_kind.Given as goal

abbrev pub invariant-loop-lo : goal.invariant-loop-lo
invariant-loop-lo l = FindInv l.sheet l.from l.to l.var.0 l.lo l.hi

abbrev pub decreases-loop-lo : goal.decreases-loop-lo
decreases-loop-lo l = l.hi - l.lo
