use mathlib.Core.Path.{◌≡◌}
use mathlib.Core.Bool.{false}
use Rattle.old.specs.Read.{NoneAlike}
use Rattle.old.proofs.reader.alike_before.Given as goal

abbrev pub invariant-loop-i : goal.invariant-loop-i
invariant-loop-i l = l.hit ≡ false → NoneAlike l.s l.from l.i l.e l.g
