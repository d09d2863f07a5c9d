use Prim.Native.Nat.{◌-◌}
use lib.ListN.{length}
use Rattle.ty.proofs.Loops.{Parts}
use Rattle.ty.proofs.reader.+read_type.Given as goal

abbrev pub decreases-read_type : goal.decreases-read_type
decreases-read_type g l = l.left

abbrev pub invariant-loop-v : goal.invariant-loop-v
invariant-loop-v g l = Parts g.F.Form.Fine g.F.Form.may g.F.Form.enough l.s l.at l.left l.k l.before

abbrev pub decreases-loop-v : goal.decreases-loop-v
decreases-loop-v g l = length l.s - l.before.to
