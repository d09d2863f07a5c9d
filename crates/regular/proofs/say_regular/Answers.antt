-- `say_regular` is safe: a regular line lies inside the output.
use Rattle.std.proofs.Common.{sym, arith, length-take-le}
use Rattle.regular.proofs.Fits.{call_fits}
use Rattle.regular.proofs.say_regular.Goals as goal

pub slice_bounds-write_all-end : goal.slice_bounds-write_all-end
slice_bounds-write_all-end g c = omega (arith, call_fits _ _ _ _ _ _ c.in-Ok.ensures)

pub slice_bounds-write_all-end-in-Ok : goal.slice_bounds-write_all-end-in-Ok
slice_bounds-write_all-end-in-Ok g c = sym (length-take-le _ _ (omega (arith, call_fits _ _ _ _ _ _ c.in-Ok.ensures)))
