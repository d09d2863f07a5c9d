use Prim.Native.Nat.{◌+◌, ◌-◌, ◌≤◌}
use mathlib.Core.Path.{◌≡◌}
use mathlib.Core.List.{List, map}
use Rattle.semantics.specs.Bytes.{Bytes, hex}
use Rattle.old.specs.Make.{LabelsFront}
use Rattle.old.proofs.LabelSeek.{Seeking}
use Rattle.old.proofs.labels.label_spot.Given as goal

abbrev pub invariant-loop-lo : goal.invariant-loop-lo
invariant-loop-lo l = (l.hi + 2 ≤ l.n) × ((ls : List Bytes) (m : Bytes) → LabelsFront l.work l.n ls → l.name ≡ map hex m → Seeking ls m l.lo l.hi)

abbrev pub decreases-loop-lo : goal.decreases-loop-lo
decreases-loop-lo l = l.hi - l.lo
