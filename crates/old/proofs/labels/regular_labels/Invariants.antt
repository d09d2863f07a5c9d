use Prim.Native.Nat.{◌-◌}
use lib.ListN.{length}
use Rattle.old.proofs.LabelsLoop.{Labels}
use Rattle.old.proofs.labels.regular_labels.Given as goal

abbrev pub invariant-loop-e : goal.invariant-loop-e
invariant-loop-e l = Labels l.s l.initial.work l.work l.at l.q l.n

abbrev pub decreases-loop-e : goal.decreases-loop-e
decreases-loop-e l = length l.s - l.q
