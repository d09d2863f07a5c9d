use Rattle.std.proofs.Common.{arith}
use Rattle.line.proofs.KnownLaws.{digits-next, digits_more, digits-over}
use Rattle.line.proofs.known.known_digits.Goals as goal

pub overflow_mul-n : goal.overflow_mul-n
overflow_mul-n c = let x = digits-next _ _ _ _ c.loop-end.invariant.1 c.loop-end.invariant.0 (omega arith) in record { fits = omega (arith, x.fits, c.loop-end.invariant.0.small) }

pub overflow_add-n : goal.overflow_add-n
overflow_add-n c = let x = digits-next _ _ _ _ c.loop-end.invariant.1 c.loop-end.invariant.0 (omega arith) in record { fits = omega (arith, x.fits, c.loop-end.invariant.0.small) }

pub loop-end-preserved : goal.loop-end-preserved
loop-end-preserved c = (c.loop-end.invariant.0, λ d. rw c.from.ensures (digits_more _ _ _ _ c.loop-end.invariant.1 d (omega arith)))

pub returns : goal.returns
returns c = λ d. digits-over _ _ _ _ c.loop-end.invariant.1 d (omega arith)
