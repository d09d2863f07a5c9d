use Prim.Native.Nat.{◌+◌, ◌-◌}
use Rattle.unify.proofs.MapLaws.{LoneInv}
use Rattle.unify.proofs.maps.keep_lone.Given as goal

abbrev pub invariant-loop-side : goal.invariant-loop-side
invariant-loop-side l = LoneInv l.initial.s l.initial.m l.to l.s l.m

abbrev pub decreases-loop-side : goal.decreases-loop-side
decreases-loop-side l = (l.to - l.m.p) + (l.to - l.m.q)
