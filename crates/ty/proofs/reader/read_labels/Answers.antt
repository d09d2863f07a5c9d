use mathlib.Core.Path.{sym, ◌∙◌}
use native.Mathlib.Omega.{arith}
use Rattle.ty.proofs.Labels.{naming, name-refused, name-comma, name-on, names-end}
use Rattle.ty.proofs.reader.read_labels.Goals as goal

pub loop-at-init : goal.loop-at-init
loop-at-init g c = naming _ _ _ c.requires

pub returns-then-not-name_allowed : goal.returns-then-not-name_allowed
returns-then-not-name_allowed g c = name-refused _ _ _ _ _ _ c.loop-at.invariant (sym c.is_field.ensures ∙ c.loop-at-test.true) (sym c.name_allowed.ensures ∙ c.if-not-name_allowed.true)

pub next_field-q-requires : goal.next_field-q-requires
next_field-q-requires g c = name-comma _ _ _ _ _ _ c.loop-at.invariant (sym c.is_field.ensures ∙ c.loop-at-test.true) (sym c.name_allowed.ensures ∙ c.if-not-name_allowed.false)

pub loop-at-smaller : goal.loop-at-smaller
loop-at-smaller g c = let h = name-comma _ _ _ _ _ _ c.loop-at.invariant (sym c.is_field.ensures ∙ c.loop-at-test.true) (sym c.name_allowed.ensures ∙ c.if-not-name_allowed.false) in omega (arith, c.next_field-q.ensures)

pub loop-at-preserved : goal.loop-at-preserved
loop-at-preserved g c = name-on _ _ _ _ _ _ c.loop-at.invariant (sym c.is_field.ensures ∙ c.loop-at-test.true) (sym c.name_allowed.ensures ∙ c.if-not-name_allowed.false) _ c.next_field-q.ensures

pub returns : goal.returns
returns g c = names-end _ _ _ _ _ _ c.loop-at.invariant (sym c.is_field.ensures ∙ c.loop-at-test.false)
