use Prim.Native.Nat.{◌-◌}
use Rattle.ty.proofs.UnionLaws.{AddInv}
use Rattle.ty.proofs.union.add_members.Given as goal

abbrev pub invariant-loop-rest : goal.invariant-loop-rest
invariant-loop-rest l = AddInv l.initial.part l.len l.end l.part l.rest.from l.rest.to

abbrev pub decreases-loop-rest : goal.decreases-loop-rest
decreases-loop-rest l = l.rest.to - l.rest.from
