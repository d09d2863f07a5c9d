use Rattle.std.proofs.Common.{refl, ◌∙◌, sym, ap}
use Rattle.std.proofs.lemmas.Result.{err_from_is_err_and}
use Rattle.semantics.specs.Refusals.{number_of}
use Rattle.semantics.specs.Sheet.{rank, refused}
use Rattle.hir.proofs.PlaceLaws.{not-at}
use Rattle.hir.proofs.TopLaws.{clauses-start, clause-end, clause-stop, clause-small, clause-refused, clause-on}
use Rattle.hir.proofs.valid.check_clauses.Goals as goal

pub loop-next-init : goal.loop-next-init
loop-next-init c = clauses-start _ _ _ _ c.requires

pub returns-then-is_at : goal.returns-then-is_at
unfolding rank
returns-then-is_at c = clause-end _ _ _ _ _ _ c.loop-next.invariant _ c.read_line-line.ensures (c.is_at.ensures.0 c.if-is_at.true) c.loop-next.next.line refl _ c.check_end.ensures

pub returns-in_err-clause : goal.returns-in_err-clause
unfolding rank
returns-in_err-clause c =
    let p = err_from_is_err_and c.from_residual.result c.from_residual.ensures.1 in
    let f = c.in_err-clause.ensures in
    rw (p.1, p.2)
    (clause-stop _ _ _ _ _ _ c.loop-next.invariant _ c.read_line-line.ensures (not-at c.is_at.ensures.1 c.if-is_at.false) _ f.0 ∙ ap (refused (number_of c.in_err-clause.field-0.0.why)) (sym f.1))

pub kids_of-requires : goal.kids_of-requires
unfolding rank
kids_of-requires c = let m = c.in_ok-clause.ensures in clause-small _ _ _ _ _ _ c.loop-next.invariant c.in_ok-clause.clause (rw m.0 at c.read_line-line.ensures) (rw m.0 at m.1)

pub returns-in_err-next : goal.returns-in_err-next
unfolding rank
returns-in_err-next c =
    let p = err_from_is_err_and c.from_residual-in_err-next.result c.from_residual-in_err-next.ensures.1 in
    let m = c.in_ok-clause.ensures in
    rw (p.1, p.2)
    (clause-refused _ _ _ _ _ _ c.loop-next.invariant c.in_ok-clause.clause (rw m.0 at c.read_line-line.ensures) (rw m.0 at m.1) _ c.kids_of.ensures _ _ c.past.ensures.0 c.past.ensures.1 _ c.in_err-next.ensures)

pub loop-next-preserved : goal.loop-next-preserved
unfolding rank
loop-next-preserved c =
    let m = c.in_ok-clause.ensures in
    clause-on _ _ _ _ _ _ c.loop-next.invariant c.in_ok-clause.clause (rw m.0 at c.read_line-line.ensures) (rw m.0 at m.1) _ c.kids_of.ensures _ _ c.past.ensures.0 c.past.ensures.1 _ c.in_ok-next.ensures
