use Prim.Native.Nat.{◌-◌}
use lib.ListN.{length}
use Rattle.ty.proofs.Loops.{Nested}
use Rattle.ty.proofs.end.+nesting_end.Given as goal

abbrev pub decreases-nesting_end : goal.decreases-nesting_end
decreases-nesting_end l = l.left

abbrev pub invariant-loop-v : goal.invariant-loop-v
invariant-loop-v l = Nested l.s l.at l.left l.k l.q l.n

abbrev pub decreases-loop-v : goal.decreases-loop-v
decreases-loop-v l = length l.s - l.q
