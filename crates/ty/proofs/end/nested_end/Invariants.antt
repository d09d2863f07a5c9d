use Prim.Native.Nat.{◌-◌}
use lib.ListN.{length}
use mathlib.Core.Bool.{true}
use Rattle.ty.proofs.Skips.{Skipping}
use Rattle.ty.proofs.end.nested_end.Given as goal

abbrev pub invariant-loop-at : goal.invariant-loop-at
invariant-loop-at l = Skipping l.s l.at l.q l.depth true

abbrev pub decreases-loop-at : goal.decreases-loop-at
decreases-loop-at l = length l.s - l.q
