use Prim.Native.Nat.{◌-◌}
use lib.ListN.{length}
use denote.Param.{number}
use Rattle.ty.specs.contracts.reader.read_labels.{ORDERED-type}
use Rattle.ty.proofs.Labels.{Naming}
use Rattle.ty.proofs.reader.read_labels.Given as goal

abbrev pub invariant-loop-at : goal.invariant-loop-at
invariant-loop-at g l = Naming (ORDERED-type (number g.row.ORDERED)) l.s l.at l.prev l.q l.n

abbrev pub decreases-loop-at : goal.decreases-loop-at
decreases-loop-at g l = length l.s - l.q
