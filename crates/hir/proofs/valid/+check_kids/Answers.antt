use Rattle.std.proofs.Common.{arith, ◌∙◌, sym, ap}
use Rattle.std.proofs.lemmas.Result.{err_from_is_err_and}
use Rattle.semantics.specs.Refusals.{number_of}
use Rattle.hir.specs.Run.{stopped}
use Rattle.hir.proofs.CheckLaws.{kids-start, step-stop, step-small, step_falls, step-ask, step-leaf, step-refused, step-on, step_end}
use Rattle.hir.proofs.valid.+check_kids.Goals.{then-is_leaf, else-is_leaf+in_ok-next}
use Rattle.hir.proofs.valid.+check_kids.Goals as goal

pub loop-j-init : goal.loop-j-init
loop-j-init t c = kids-start _ _ _ _ _ c.requires

pub returns-in_err-kid : goal.returns-in_err-kid
returns-in_err-kid t c =
    let p = err_from_is_err_and c.from_residual.result c.from_residual.ensures.1 in
    let f = c.in_err-kid.ensures in
    rw (p.1, p.2) (step-stop _ _ _ _ _ c.requires _ _ _ _ c.loop-j.invariant c.loop-j-test.true _ c.kid_place-place.ensures _ c.read_line-line.ensures _ f.0 ∙ ap (stopped (number_of c.in_err-kid.field-0.0.why)) (sym f.1))

pub kids_of-requires : goal.kids_of-requires
kids_of-requires t c =
    let m = c.in_ok-kid.ensures in
    step-small _ _ _ _ _ c.requires _ _ _ _ c.loop-j.invariant c.loop-j-test.true _ c.kid_place-place.ensures c.in_ok-kid.kid (rw m.0 at c.read_line-line.ensures) (rw m.0 at m.1) m.2

pub check_kids-requires : goal.check_kids-requires
check_kids-requires t c =
    let m = c.in_ok-kid.ensures in
    (omega (arith, c.decreases, step_falls _ _ _ _ _ c.requires _ _ _ _ c.loop-j.invariant c.loop-j-test.true _ c.kid_place-place.ensures c.in_ok-kid.kid (rw m.0 at c.read_line-line.ensures) (rw m.0 at m.1) m.2 _ c.kids_of.ensures _ _ _ c.past-under.ensures.0 c.past-under.ensures.1 c.below.ensures), step-ask _ _ _ _ _ c.requires _ _ _ _ c.loop-j.invariant c.loop-j-test.true _ c.kid_place-place.ensures c.in_ok-kid.kid (rw m.0 at c.read_line-line.ensures) (rw m.0 at m.1) m.2 _ c.kids_of.ensures _ _ _ c.past-under.ensures.0 c.past-under.ensures.1 c.below.ensures)

pub returns-in_err-next : goal.returns-in_err-next
returns-in_err-next t c =
    let p = err_from_is_err_and c.from_residual-in_err-next.result c.from_residual-in_err-next.ensures.1 in
    let m = c.in_ok-kid.ensures in
    rw (p.1, p.2) (step-refused _ _ _ _ _ c.requires _ _ _ _ c.loop-j.invariant c.loop-j-test.true _ c.kid_place-place.ensures c.in_ok-kid.kid (rw m.0 at c.read_line-line.ensures) (rw m.0 at m.1) m.2 _ c.kids_of.ensures _ _ _ c.past-under.ensures.0 c.past-under.ensures.1 c.below.ensures _ c.in_err-next.ensures)

pub loop-j-preserved : goal.loop-j-preserved
loop-j-preserved t c =
    let m = c.in_ok-kid.ensures in
    elim c.if-is_leaf.branch [
      | then-is_leaf w ↦ rw (w.next-is, c.past-under.ensures.0) (step-leaf _ _ _ _ _ c.requires _ _ _ _ c.loop-j.invariant c.loop-j-test.true _ c.kid_place-place.ensures c.in_ok-kid.kid (rw m.0 at c.read_line-line.ensures) (rw m.0 at m.1) m.2 _ c.past-under.ensures.1 (c.is_leaf.ensures w.if-is_leaf.true))
      | else-is_leaf+in_ok-next w ↦ rw w.next-is (step-on _ _ _ _ _ c.requires _ _ _ _ c.loop-j.invariant c.loop-j-test.true _ c.kid_place-place.ensures c.in_ok-kid.kid (rw m.0 at c.read_line-line.ensures) (rw m.0 at m.1) m.2 _ w.kids_of.ensures _ _ _ c.past-under.ensures.0 c.past-under.ensures.1 w.below.ensures _ w.in_ok-next.ensures)
    ]

pub returns : goal.returns
returns t c = step_end _ _ _ _ _ c.requires _ _ _ _ c.loop-j.invariant c.loop-j-test.false
