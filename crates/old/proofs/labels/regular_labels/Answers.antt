use mathlib.Core.Path.{sym, ◌∙◌}
use native.Mathlib.Omega.{arith}
use Rattle.text.proofs.Laws.{part_slice}
use Rattle.ty.proofs.Fields.{field-yes}
use Rattle.old.proofs.LabelsLoop.{made-long, start-long, labelling, labels-inside, label-ready, label_inside, label-long, label-on, label-large, labels-done}
use Rattle.old.proofs.labels.regular_labels.Goals as goal

pub loop-e-init : goal.loop-e-init
loop-e-init c = labelling _ c.args.work.now _ _ _ c.requires.1 c.append-n.ensures

pub field_end-e-requires : goal.field_end-e-requires
field_end-e-requires c = let p = c.requires.0 in let i = c.loop-e.invariant.1 p.labels p.rest p.is p.good in labels-inside _ _ _ _ _ _ _ i

pub add_label-requires : goal.add_label-requires
add_label-requires c = let p = c.requires.0 in let i = c.loop-e.invariant.1 p.labels p.rest p.is p.good in let l = (c.loop-e.invariant.0 ∙ start-long c.args.work.now _ _ c.append-n.ensures) in label-ready _ _ _ _ _ _ _ i (sym c.is_field.ensures ∙ c.loop-e-test.true) _ c.field_end-e.ensures.place _ (part_slice c.loop-e.q c.field_end-e.result c.args.s.now) (omega (arith, l, c.requires.1))

pub returns-in_err-n : goal.returns-in_err-n
returns-in_err-n c ls rest e g = rw c.from_residual.ensures (made-long (c.loop-e.invariant.0 ∙ start-long c.args.work.now _ _ c.append-n.ensures) (label-large _ _ _ _ _ _ _ (c.loop-e.invariant.1 ls rest e g) (sym c.is_field.ensures ∙ c.loop-e-test.true) _ c.field_end-e.ensures.place _ (part_slice c.loop-e.q c.field_end-e.result c.args.s.now) _ _ c.add_label.ensures c.in_err-n.was))

pub loop-e-smaller : goal.loop-e-smaller
loop-e-smaller c = let p = c.requires.0 in let i = c.loop-e.invariant.1 p.labels p.rest p.is p.good in omega (arith, label_inside _ _ _ _ _ _ _ i (sym c.is_field.ensures ∙ c.loop-e-test.true) _ c.field_end-e.ensures.place, c.field_end-e.ensures.from)

pub loop-e-preserved : goal.loop-e-preserved
loop-e-preserved c = let p = c.requires.0 in let i = c.loop-e.invariant.1 p.labels p.rest p.is p.good in (label-long _ _ _ _ _ _ _ i (sym c.is_field.ensures ∙ c.loop-e-test.true) _ c.field_end-e.ensures.place _ (part_slice c.loop-e.q c.field_end-e.result c.args.s.now) _ _ c.add_label.ensures ∙ c.loop-e.invariant.0, λ ls rest e g. label-on _ _ _ _ _ _ _ (c.loop-e.invariant.1 ls rest e g) (sym c.is_field.ensures ∙ c.loop-e-test.true) _ c.field_end-e.ensures.place _ (part_slice c.loop-e.q c.field_end-e.result c.args.s.now) _ _ c.add_label.ensures _ c.in_ok-n.was)

pub overflow_add-result : goal.overflow_add-result
overflow_add-result c = omega (arith, (field-yes _ _ _ (sym c.is_field.ensures ∙ c.loop-e-test.false)).1)

pub returns : goal.returns
returns c ls rest e g = made-long (c.loop-e.invariant.0 ∙ start-long c.args.work.now _ _ c.append-n.ensures) (labels-done _ _ _ _ _ _ _ (c.loop-e.invariant.1 ls rest e g) (sym c.is_field.ensures ∙ c.loop-e-test.false))
