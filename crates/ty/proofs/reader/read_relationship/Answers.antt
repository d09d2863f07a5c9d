use mathlib.Core.Path.{sym, ◌∙◌}
use native.Mathlib.Omega.{arith}
use Rattle.ty.proofs.Fields.{field-yes}
use Rattle.ty.proofs.Labels.{rel-none, rel-bad, rel-some, rel-unnamed}
use Rattle.ty.proofs.reader.read_relationship.Goals as goal

pub overflow_add-result : goal.overflow_add-result
overflow_add-result c = omega (arith, (rel-none _ _ (sym c.is_field.ensures ∙ c.if-is_field.true)).4)

pub returns-then-is_field : goal.returns-then-is_field
returns-then-is_field c = rel-none _ _ (sym c.is_field.ensures ∙ c.if-is_field.true)

pub returns-then-not-is_field : goal.returns-then-not-is_field
returns-then-not-is_field c = rel-bad _ _ (sym c.is_field.ensures ∙ c.if-is_field.false) (sym c.is_field-2.ensures ∙ c.if-not-is_field.true)

pub overflow_add-at : goal.overflow_add-at
overflow_add-at c = let a = c in omega (arith, (field-yes a.args.s.now a.args.at 43 (sym c.is_field-2.ensures ∙ c.if-not-is_field.false)).1)

pub field_end-e-requires : goal.field_end-e-requires
field_end-e-requires c = let a = c in (field-yes a.args.s.now a.args.at 43 (sym c.is_field-2.ensures ∙ c.if-not-is_field.false)).1

pub returns-then-is_name : goal.returns-then-is_name
returns-then-is_name c = rel-some _ _ (sym c.is_field-2.ensures ∙ c.if-not-is_field.false) _ c.field_end-e.ensures.place (sym c.is_name.ensures ∙ c.if-is_name.true)

pub returns : goal.returns
returns c = rel-unnamed _ _ (sym c.is_field.ensures ∙ c.if-is_field.false) (sym c.is_field-2.ensures ∙ c.if-not-is_field.false) _ c.field_end-e.ensures.place (sym c.is_name.ensures ∙ c.if-is_name.false)
