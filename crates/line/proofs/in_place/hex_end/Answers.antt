use Rattle.std.proofs.Common.{arith}
use mathlib.Core.Logic.{inl, inr}
use Rattle.line.proofs.QuickFields.{hex-more}
use Rattle.line.proofs.in_place.hex_end.Goals.{then-b-le57+else-b-lt48, else-b-le57+else-b-lt97+else-b-gt102}
use Rattle.line.proofs.in_place.hex_end.Goals as goal

pub loop-i-preserved : goal.loop-i-preserved
loop-i-preserved c = hex-more _ _ _ c.loop-i.invariant c.loop-i-test.true (elim c.if-b-le57.branch [
  | then-b-le57+else-b-lt48 w ↦ inl (omega (arith, w.if-b-lt48.false), omega (arith, w.if-b-le57.true))
  | else-b-le57+else-b-lt97+else-b-gt102 w ↦ inr (omega (arith, w.if-b-lt97.false), omega (arith, w.if-b-gt102.false))
])
