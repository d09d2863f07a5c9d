-- `say_refused` is safe: the line of a refusal lies inside its 64 bytes.
use Rattle.std.proofs.Common.{sym, arith, length-take-le}
use Rattle.semantics.specs.Bytes.{text}
use Rattle.regular.proofs.say_refused.Goals as goal

pub slice_bounds-line-end : goal.slice_bounds-line-end
unfolding text
slice_bounds-line-end g c = omega (arith, c.refused_line.ensures.line.short)

pub slice_bounds-write_all-end : goal.slice_bounds-write_all-end
unfolding text
slice_bounds-write_all-end g c = sym (length-take-le _ _ (omega (arith, c.refused_line.ensures.line.short)))
