use Rattle.std.proofs.Common.{arith, refl}
use Rattle.std.proofs.lemmas.Result.{err_from_is_err_and}
use Rattle.semantics.specs.Sheet.{rank}
use Rattle.hir.proofs.PlaceLaws.{not-at}
use Rattle.hir.proofs.TopLaws.{binds-start, bound-done, bound-wrong, bound-low, bound-on}
use Rattle.hir.proofs.valid.check_binds.Goals as goal

pub loop-line-init : goal.loop-line-init
loop-line-init c = binds-start _ _ _ c.requires

pub returns-then-not-is_at : goal.returns-then-not-is_at
unfolding rank
returns-then-not-is_at c = bound-done _ _ _ _ _ _ c.loop-line.invariant _ c.read_line-line.ensures (not-at c.is_at.ensures.1 c.if-not-is_at.true)

pub returns-in_err-head : goal.returns-in_err-head
unfolding rank
returns-in_err-head c =
    let p = err_from_is_err_and c.from_residual.result c.from_residual.ensures.1 in
    rw (p.1, p.2) (bound-wrong _ _ _ _ _ _ c.loop-line.invariant _ c.read_line-line.ensures (c.is_at.ensures.0 c.if-not-is_at.false) c.loop-line.next.line refl _ c.in_err-head.ensures)

pub returns-then-var-least : goal.returns-then-var-least
unfolding rank
returns-then-var-least c =
    let m = c.in_ok-head.ensures in
    λ d. rw (c.refused.ensures.0, c.refused.ensures.1) (bound-low _ _ _ _ _ _ c.loop-line.invariant c.in_ok-head.head (rw m at c.read_line-line.ensures) (rw m at (c.is_at.ensures.0 c.if-not-is_at.false)) (omega (arith, c.from-var.ensures)) d)

pub loop-line-preserved : goal.loop-line-preserved
unfolding rank
loop-line-preserved c =
    let m = c.in_ok-head.ensures in
    rw (c.past-next.ensures.0, c.from-var.ensures)
    (bound-on _ _ _ _ _ _ c.loop-line.invariant c.in_ok-head.head (rw m at c.read_line-line.ensures) (rw m at (c.is_at.ensures.0 c.if-not-is_at.false)) (omega (arith, c.from-var.ensures)) _ c.past-next.ensures.1)
