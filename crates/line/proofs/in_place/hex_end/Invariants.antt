use Rattle.line.specs.Quick.{HexTo}
use Rattle.line.proofs.in_place.hex_end.Given as goal

abbrev pub invariant-loop-i : goal.invariant-loop-i
invariant-loop-i l = HexTo l.sheet l.at l.i
