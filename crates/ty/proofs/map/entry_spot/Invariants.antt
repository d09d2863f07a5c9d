use Prim.Native.Nat.{◌-◌}
use Rattle.semantics.specs.Bytes.{Bytes}
use Rattle.semantics.specs.Ty.{Fields}
use Rattle.ty.specs.Entry.{MapFront}
use Rattle.ty.proofs.EntryLaws.{Looking}
use Rattle.ty.proofs.map.entry_spot.Given as goal

abbrev pub invariant-loop-q : goal.invariant-loop-q
invariant-loop-q l = (fs : Fields) (n : Bytes) → MapFront l.part l.len l.name fs n → Looking fs n l.q

abbrev pub decreases-loop-q : goal.decreases-loop-q
decreases-loop-q l = l.len - l.q
