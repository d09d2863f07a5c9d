use Rattle.std.proofs.Common.{arith}
use Rattle.line.proofs.KnownFields.{high-more, high-over}
use Rattle.line.proofs.known.known_end.Goals as goal

pub loop-end-preserved : goal.loop-end-preserved
loop-end-preserved c = (c.loop-end.invariant.0, omega (arith, c.loop-end.invariant.1), λ d. high-more _ _ _ d (c.loop-end.invariant.2 d) (omega arith))

pub returns : goal.returns
returns c = λ d. high-over _ _ _ d (c.loop-end.invariant.2 d) c.loop-end.invariant.1 (omega arith)
