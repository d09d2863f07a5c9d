use Prim.Native.Nat.{◌+◌, ◌-◌}
use Rattle.ty.proofs.LabelLaws.{LabelsInv}
use Rattle.ty.proofs.label_sets.merge_labels.Given as goal

abbrev pub invariant-loop-side : goal.invariant-loop-side
invariant-loop-side l = LabelsInv l.initial.s l.a l.b l.to l.s l.m

abbrev pub decreases-loop-side : goal.decreases-loop-side
decreases-loop-side l = (l.to - l.m.p) + (l.to - l.m.q)
