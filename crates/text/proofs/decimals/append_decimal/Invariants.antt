use Prim.Native.Nat.{suc, ◌+◌, ◌<◌, ◌^◌}
use mathlib.Core.Path.{◌≡◌}
use lib.ListN.{length}
use lib.Seq.{sets}
use Rattle.semantics.specs.Bytes.{shown}
use Rattle.text.specs.Text.{tens}
use Rattle.text.proofs.decimals.append_decimal.Given as goal

abbrev pub invariant-loop-i : goal.invariant-loop-i
invariant-loop-i l = (l.m < 10 ^ (l.i + 1)) × (l.at + suc l.i ≡ l.fill + length (shown l.n)) × (sets l.out l.at (tens l.i l.m) ≡ sets l.initial.out l.fill (shown l.n))
