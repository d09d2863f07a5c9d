use mathlib.Core.Path.{sym, ap, ◌∙◌}
use Rattle.std.proofs.Common.{rules}
use Rattle.std.specs.Prelude.{Some}
use native.Mathlib.Omega.{arith}
use Rattle.ty.proofs.Fields.{type-two}
use Rattle.ty.proofs.Loops.{nested, nested-none, nested-flat, nested-from, nested-bad, nested-on, nested-less, nested-end}
use Rattle.ty.proofs.end.+nesting_end.Goals.{in_default-via-in-Some+in_default, in_default-via-in_default}
use Rattle.ty.proofs.end.+nesting_end.Goals as goal

pub returns-then-left-eq0 : goal.returns-then-left-eq0
returns-then-left-eq0 t c = nested-none _ _ _ c.if-left-eq0.true

pub bounds-s-at : goal.bounds-s-at
bounds-s-at t c = let a = c in omega (arith, (type-two a.args.s.now a.args.at a.requires).1)

pub returns-in_default : goal.returns-in_default
returns-in_default t c =
    nested-flat _ _ _ _ c.if-left-eq0.false (λ e. elim c.in_default.branch [ in_default-via-in-Some+in_default w ↦ search rules | in_default-via-in_default w ↦ cc ]) c.type_end.ensures

pub overflow_add-q : goal.overflow_add-q
overflow_add-q t c = let a = c in omega (arith, (type-two a.args.s.now a.args.at a.requires).1)

pub loop-v-init : goal.loop-v-init
loop-v-init t c = nested _ _ _ _ c.if-left-eq0.false c.requires (type-two _ _ c.requires) (sym c.of.ensures ∙ c.in-Some-Types.is ∙ ap Some c.in-Some-Types.field-0-is)

pub nesting_end-requires : goal.nesting_end-requires
nesting_end-requires t c = let a = c in (omega (arith, c.loop-v.invariant.reads.deep), rw c.value_at-v.ensures (nested-from _ _ _ _ _ _ c.loop-v.invariant (sym c.part_follows.ensures ∙ c.loop-v-test.true)))

pub returns-in_err-q : goal.returns-in_err-q
returns-in_err-q t c = rw c.from_residual.ensures (nested-bad _ _ _ _ _ _ c.loop-v.invariant (sym c.part_follows.ensures ∙ c.loop-v-test.true) _ (rw c.value_at-v.ensures at c.nesting_end.ensures) c.in_err-q.was)

pub loop-v-smaller : goal.loop-v-smaller
loop-v-smaller t c = omega (arith, nested-less _ _ _ _ _ _ c.loop-v.invariant (sym c.part_follows.ensures ∙ c.loop-v-test.true) _ _ (rw c.value_at-v.ensures at c.nesting_end.ensures) c.in_ok-q.was)

pub loop-v-preserved : goal.loop-v-preserved
loop-v-preserved t c = nested-on _ _ _ _ _ _ c.loop-v.invariant (sym c.part_follows.ensures ∙ c.loop-v-test.true) _ _ (rw c.value_at-v.ensures at c.nesting_end.ensures) c.in_ok-q.was

pub returns : goal.returns
returns t c = rw c.parts_end.ensures (nested-end _ _ _ _ _ _ c.loop-v.invariant (sym c.part_follows.ensures ∙ c.loop-v-test.false))
