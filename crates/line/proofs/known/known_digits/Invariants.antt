use Prim.Native.Nat.{◌-◌}
use lib.ListN.{length}
use Rattle.line.specs.Known.{DigitsAt}
use Rattle.line.proofs.KnownLaws.{DigitsFrom}
use Rattle.line.proofs.known.known_digits.Given as goal

abbrev pub invariant-loop-end : goal.invariant-loop-end
invariant-loop-end l = DigitsAt l.sheet l.at × DigitsFrom l.sheet l.at l.n l.end

abbrev pub decreases-loop-end : goal.decreases-loop-end
decreases-loop-end l = length l.sheet - l.end
