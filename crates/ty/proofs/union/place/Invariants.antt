use Prim.Native.Nat.{◌-◌}
use Rattle.ty.proofs.UnionLaws.{PlaceInv}
use Rattle.ty.proofs.union.place.Given as goal

abbrev pub invariant-loop-q : goal.invariant-loop-q
invariant-loop-q l = PlaceInv l.part l.n l.m l.q

abbrev pub decreases-loop-q : goal.decreases-loop-q
decreases-loop-q l = l.n - l.q
