use Rattle.line.specs.Quick.{DigitsTo}
use Rattle.line.proofs.in_place.more_digits.Given as goal

abbrev pub invariant-loop-i : goal.invariant-loop-i
invariant-loop-i l = DigitsTo l.sheet l.at l.i l.n
