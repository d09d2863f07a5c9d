use mathlib.Core.Path.{sym, ◌∙◌}
use native.Mathlib.Omega.{arith}
use Rattle.ty.proofs.Fields.{field-yes}
use Rattle.ty.proofs.Labels.{node-none, node-some, node-bad}
use Rattle.ty.proofs.reader.read_node.Goals as goal

pub overflow_add-result : goal.overflow_add-result
overflow_add-result g c = omega (arith, (field-yes c.args.s.now c.args.at 33 (sym c.is_field.ensures ∙ c.if-is_field.true)).1)

pub returns-then-is_field : goal.returns-then-is_field
returns-then-is_field g c = node-none _ _ _ (sym c.is_field.ensures ∙ c.if-is_field.true)

pub overflow_add-at : goal.overflow_add-at
overflow_add-at g c = let a = c in omega (arith, (field-yes a.args.s.now a.args.at 43 (sym c.is_field-2.ensures ∙ c.if-is_field-2.true)).1)

pub read_labels-requires : goal.read_labels-requires
read_labels-requires g c = let a = c in (field-yes a.args.s.now a.args.at 43 (sym c.is_field-2.ensures ∙ c.if-is_field-2.true)).1

pub returns-then-is_field-2 : goal.returns-then-is_field-2
returns-then-is_field-2 g c = node-some _ _ _ (sym c.is_field.ensures ∙ c.if-is_field.false) (sym c.is_field-2.ensures ∙ c.if-is_field-2.true) c.read_labels.result c.read_labels.ensures

pub returns : goal.returns
returns g c = node-bad _ _ _ (sym c.is_field.ensures ∙ c.if-is_field.false) (sym c.is_field-2.ensures ∙ c.if-is_field-2.false)
