use Rattle.std.proofs.Common.{◌≡◌, ◌*◌, drop, map}
use Rattle.semantics.specs.Builtins.{lower, folded}
use Rattle.semantics.specs.Bytes.{same}
use Rattle.text.specs.Text.{digit_of}
use Rattle.text.proofs.same_hex_fold.Given as goal

abbrev pub invariant-loop-i : goal.invariant-loop-i
invariant-loop-i l = same (folded (map digit_of l.hex)) (map lower l.name) ≡ same (folded (map digit_of (drop (l.i * 2) l.hex))) (map lower (drop l.i l.name))
