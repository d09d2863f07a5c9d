use Prim.Native.Nat.{◌+◌, ◌-◌, ◌≤◌}
use lib.ListN.{drop}
use Rattle.text.specs.Text.{index_of}
use Rattle.ty.proofs.end.next_field.Given as goal

abbrev pub invariant-loop-i : goal.invariant-loop-i
invariant-loop-i l = (l.q ≤ l.i) × (l.i ≤ l.q + index_of 44 (drop l.q l.s))

abbrev pub decreases-loop-i : goal.decreases-loop-i
decreases-loop-i l = l.q + index_of 44 (drop l.q l.s) - l.i
