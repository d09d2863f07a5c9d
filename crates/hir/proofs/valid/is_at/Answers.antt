use Rattle.std.proofs.Common.{sym, ap}
use Rattle.semantics.specs.Sheet.{rank}
use Rattle.hir.specs.Check.{word_class}
use Rattle.hir.proofs.PlaceLaws.{is-at, no-place}
use Rattle.hir.proofs.valid.is_at.Goals as goal

pub returns-in-Ok : goal.returns-in-Ok
returns-in-Ok c = is-at _ _ _ (rw c.in-Ok.is (ap rank (sym c.place_of.ensures))) _ c.eq.ensures

pub returns-in-Some : goal.returns-in-Some
returns-in-Some c = is-at _ _ _ (rw (c.in-Err.is, c.in-Some.is) (ap rank (sym c.place_of-in-Some.ensures))) _ c.eq-in-Some.ensures

pub returns-in-None : goal.returns-in-None
returns-in-None c = no-place _ _ (rw c.in-Err.is (ap word_class c.in-None.is))
