use Rattle.std.proofs.Common.{refl, arith}
use Rattle.line.proofs.FillLaws.{store-small}
use Rattle.line.proofs.QuickLaws.{quick-start, quick-on, quick-end}
use Rattle.line.proofs.KnownFields.{next-fine}
use Rattle.line.proofs.quick.quick_fields.Goals as goal

pub loop-shape-init : goal.loop-shape-init
loop-shape-init g c = quick-start _ _ _ _ c.none-fields.ensures c.row_of-row.ensures.few c.requires.0

pub quick_field-requires : goal.quick_field-requires
quick_field-requires g c = (
  omega (arith, c.loop-shape.invariant.inside),
  λ fine. rw c.number-second.ensures (next-fine _ _ _ _ c.row_of-row.ensures (λ x. omega (arith, c.type_inv.sheet x)) (c.requires.1 fine) _ _ _ c.loop-shape.invariant c.loop-shape-test.true c.if-sheet-at-ne-COMMA.false _ refl),
)

pub store-requires : goal.store-requires
store-requires g c = let b = store-small _ _ _ _ c.in_ok-got.ensures.1 in (omega (arith, c.loop-shape.invariant.put, c.loop-shape.invariant.small), b.0, b.1)

pub loop-shape-preserved : goal.loop-shape-preserved
loop-shape-preserved g c =
    let q = c.in_ok-got.ensures in
    quick-on _ _ _ _ _ _ c.loop-shape.invariant c.loop-shape-test.true c.if-sheet-at-ne-COMMA.false _ refl _ _ q.0 (rw c.number-second.ensures at q.1) _ c.store.ensures

pub returns : goal.returns
returns g c = λ at w. rw c.head_of.ensures (quick-end _ _ _ _ c.row_of-row.ensures _ _ _ c.loop-shape.invariant c.loop-shape-test.false c.if-sheet-at-ne-LINE_END.false (λ x. omega (arith, c.type_inv.sheet x)) at w)
