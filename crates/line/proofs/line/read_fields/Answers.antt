use Rattle.std.proofs.Common.{refl}
use Rattle.std.proofs.lemmas.Result.{err_from_is_err_and}
use Rattle.line.proofs.FillLaws.{store-small}
use Rattle.line.proofs.LineLaws.{fill_start, fill-inside, fill-room, fill_stop, fill_on, fill_end}
use Rattle.line.proofs.line.read_fields.Goals as goal

pub loop-shape-init : goal.loop-shape-init
loop-shape-init c = fill_start _ _ _ _ c.none-fields.ensures c.requires.0 c.requires.1

pub field_end-end-requires : goal.field_end-end-requires
field_end-end-requires c = fill-inside _ _ _ _ _ _ c.loop-shape.invariant c.loop-shape-test.true

pub returns-in_err-n : goal.returns-in_err-n
returns-in_err-n c =
    let p = err_from_is_err_and c.from_residual.result c.from_residual.ensures.1 in
    rw (p.1, p.2) (fill_stop _ _ _ _ _ _ c.loop-shape.invariant c.loop-shape-test.true _ refl _ c.field_end-end.ensures _ (rw c.number-second.ensures at c.in_err-n.ensures))

pub store-requires : goal.store-requires
store-requires c = let b = store-small _ _ _ _ c.in_ok-n.ensures in (fill-room _ _ _ _ _ _ c.loop-shape.invariant c.loop-shape-test.true, b.0, b.1)

pub loop-shape-preserved : goal.loop-shape-preserved
loop-shape-preserved c = fill_on _ _ _ _ _ _ c.loop-shape.invariant c.loop-shape-test.true _ refl _ c.field_end-end.ensures _ (rw c.number-second.ensures at c.in_ok-n.ensures) _ c.store.ensures

pub returns : goal.returns
returns c = fill_end _ _ _ _ _ _ c.loop-shape.invariant c.loop-shape-test.false
