use mathlib.Core.Path.{◌≡◌, refl, sym, ap, ◌∙◌}
use Rattle.std.proofs.Common.{rules}
use Rattle.std.specs.Prelude.{Some}
use Rattle.ty.specs.declared.end.Content.TheVariants.{Types}
use native.Mathlib.Omega.{arith}
use lib.ListN.{get_or}
use Rattle.ty.specs.Read.{content_of}
use Rattle.ty.proofs.Fields.{type-two}
use Rattle.old.proofs.MakeParts.{old-from}
use Rattle.ty.proofs.Lent.{part-long, put-long}
use Rattle.old.proofs.MakeLoop.{old-deep, making, flat-old, flat-makes, child-old, child-large, child-bounds, join-ready, step-long, step-on, step-large, too_large_lem, at_end, end-ready, finished}
use Prim.Native.Nat.{ℕ}
use Rattle.std.specs.Option.{option_map}
use Rattle.ty.specs.Read.{parts_end}
use Rattle.old.proofs.making.+regular.Goals.{in_default-via-in-Some+in_default, in_default-via-in_default}
use Rattle.old.proofs.making.+regular.Goals as goal

pub bounds-s-at : goal.bounds-s-at
bounds-s-at t c = omega (arith, (type-two c.args.s.now c.args.at (old-from c.args.s.now c.args.at c.requires.0)).1)

pub regular_flat-requires : goal.regular_flat-requires
regular_flat-requires t c =
    let h : content_of (get_or c.args.s.now c.args.at 0) ≡ Some Types → ⊥ = λ e. elim c.in_default.branch [ in_default-via-in-Some+in_default w ↦ search rules | in_default-via-in_default w ↦ cc ] in
    (flat-old _ _ _ h c.requires.0, h, omega (arith, c.requires.1, old-deep c.requires.0))

pub returns-in_default : goal.returns-in_default
returns-in_default t c = flat-makes _ _ _ (λ e. elim c.in_default.branch [ in_default-via-in-Some+in_default w ↦ search rules | in_default-via-in_default w ↦ cc ]) _ _ _ c.regular_flat.ensures

pub overflow_add-q : goal.overflow_add-q
overflow_add-q t c = omega (arith, (type-two c.args.s.now c.args.at (old-from c.args.s.now c.args.at c.requires.0)).1)

pub loop-v-init : goal.loop-v-init
loop-v-init t c = (refl, old-deep c.requires.0, making _ c.args.work.now _ _ _ _ _ refl (sym c.of.ensures ∙ c.in-Some-Types.is ∙ ap Some c.in-Some-Types.field-0-is) c.start-n.ensures)

pub regular-requires : goal.regular-requires
regular-requires t c = (omega (arith, c.loop-v.invariant.1), (rw c.value_at-v.ensures (child-old _ _ _ _ _ _ _ _ _ _ (c.loop-v.invariant.2 c.requires.0.ty c.requires.0.rest c.requires.0.is c.requires.0.within) (sym c.part_follows.ensures ∙ c.loop-v-test.true)), omega (arith, (c.loop-v.invariant.2 c.requires.0.ty c.requires.0.rest c.requires.0.is c.requires.0.within).few, (c.loop-v.invariant.0 ∙ c.start-n.ensures.long), c.requires.1, c.loop-v.invariant.1, part-long c.loop-v.work c.loop-v.n)))

pub overflow_add-n : goal.overflow_add-n
overflow_add-n t c = omega (arith, (c.loop-v.invariant.2 c.requires.0.ty c.requires.0.rest c.requires.0.is c.requires.0.within).few, child-bounds _ _ _ _ _ _ _ _ _ _ (c.loop-v.invariant.2 c.requires.0.ty c.requires.0.rest c.requires.0.is c.requires.0.within) (sym c.part_follows.ensures ∙ c.loop-v-test.true) _ _ _ c.value_at-v.ensures _ c.regular.ensures _ c.in_ok-part.was)

pub step-requires : goal.step-requires
step-requires t c = (join-ready _ _ _ _ _ _ _ _ _ _ (c.loop-v.invariant.2 c.requires.0.ty c.requires.0.rest c.requires.0.is c.requires.0.within) (sym c.part_follows.ensures ∙ c.loop-v-test.true) _ _ _ c.value_at-v.ensures _ c.regular.ensures _ c.in_ok-part.was (omega (arith, (c.loop-v.invariant.2 c.requires.0.ty c.requires.0.rest c.requires.0.is c.requires.0.within).few, (c.loop-v.invariant.0 ∙ c.start-n.ensures.long), c.requires.1, c.loop-v.invariant.1)) c.regular.auto.work (omega (arith, (c.loop-v.invariant.0 ∙ c.start-n.ensures.long), c.requires.1, c.loop-v.invariant.1)), (c.loop-v.invariant.2 c.requires.0.ty c.requires.0.rest c.requires.0.is c.requires.0.within).inside)

pub returns-in_err-n : goal.returns-in_err-n
returns-in_err-n t c = rw c.from_residual-in_err-n.ensures (λ u rest d v. too_large_lem (step-long _ _ _ _ _ _ _ _ _ _ (c.loop-v.invariant.2 u rest d v) (sym c.part_follows.ensures ∙ c.loop-v-test.true) _ _ _ c.value_at-v.ensures _ c.regular.ensures _ c.in_ok-part.was (omega (arith, (c.loop-v.invariant.2 c.requires.0.ty c.requires.0.rest c.requires.0.is c.requires.0.within).few, (c.loop-v.invariant.0 ∙ c.start-n.ensures.long), c.requires.1, c.loop-v.invariant.1)) c.regular.auto.work (omega (arith, (c.loop-v.invariant.0 ∙ c.start-n.ensures.long), c.requires.1, c.loop-v.invariant.1)) _ _ c.step.ensures ∙ (c.loop-v.invariant.0 ∙ c.start-n.ensures.long)) (step-large _ _ _ _ _ _ _ _ _ _ (c.loop-v.invariant.2 u rest d v) (sym c.part_follows.ensures ∙ c.loop-v-test.true) _ _ _ c.value_at-v.ensures _ c.regular.ensures _ c.in_ok-part.was (omega (arith, (c.loop-v.invariant.2 c.requires.0.ty c.requires.0.rest c.requires.0.is c.requires.0.within).few, (c.loop-v.invariant.0 ∙ c.start-n.ensures.long), c.requires.1, c.loop-v.invariant.1)) c.regular.auto.work (omega (arith, (c.loop-v.invariant.0 ∙ c.start-n.ensures.long), c.requires.1, c.loop-v.invariant.1)) _ _ c.step.ensures c.in_err-n.was))

pub returns-in_err-part : goal.returns-in_err-part
returns-in_err-part t c = rw c.from_residual.ensures (λ u rest d v. too_large_lem (put-long c.loop-v.work c.regular.new.work c.loop-v.n (omega (arith, (c.loop-v.invariant.2 c.requires.0.ty c.requires.0.rest c.requires.0.is c.requires.0.within).few, (c.loop-v.invariant.0 ∙ c.start-n.ensures.long), c.requires.1, c.loop-v.invariant.1)) c.regular.auto.work ∙ (c.loop-v.invariant.0 ∙ c.start-n.ensures.long)) (child-large _ _ _ _ _ _ _ _ _ _ (c.loop-v.invariant.2 u rest d v) (sym c.part_follows.ensures ∙ c.loop-v-test.true) _ _ _ c.value_at-v.ensures _ c.regular.ensures c.in_err-part.was))

pub loop-v-smaller : goal.loop-v-smaller
loop-v-smaller t c = omega (arith, child-bounds _ _ _ _ _ _ _ _ _ _ (c.loop-v.invariant.2 c.requires.0.ty c.requires.0.rest c.requires.0.is c.requires.0.within) (sym c.part_follows.ensures ∙ c.loop-v-test.true) _ _ _ c.value_at-v.ensures _ c.regular.ensures _ c.in_ok-part.was)

pub loop-v-preserved : goal.loop-v-preserved
loop-v-preserved t c = (step-long _ _ _ _ _ _ _ _ _ _ (c.loop-v.invariant.2 c.requires.0.ty c.requires.0.rest c.requires.0.is c.requires.0.within) (sym c.part_follows.ensures ∙ c.loop-v-test.true) _ _ _ c.value_at-v.ensures _ c.regular.ensures _ c.in_ok-part.was (omega (arith, (c.loop-v.invariant.2 c.requires.0.ty c.requires.0.rest c.requires.0.is c.requires.0.within).few, (c.loop-v.invariant.0 ∙ c.start-n.ensures.long), c.requires.1, c.loop-v.invariant.1)) c.regular.auto.work (omega (arith, (c.loop-v.invariant.0 ∙ c.start-n.ensures.long), c.requires.1, c.loop-v.invariant.1)) _ _ c.step.ensures ∙ c.loop-v.invariant.0, c.loop-v.invariant.1, λ u rest d v. step-on _ _ _ _ _ _ _ _ _ _ (c.loop-v.invariant.2 u rest d v) (sym c.part_follows.ensures ∙ c.loop-v-test.true) _ _ _ c.value_at-v.ensures _ c.regular.ensures _ c.in_ok-part.was (omega (arith, (c.loop-v.invariant.2 c.requires.0.ty c.requires.0.rest c.requires.0.is c.requires.0.within).few, (c.loop-v.invariant.0 ∙ c.start-n.ensures.long), c.requires.1, c.loop-v.invariant.1)) c.regular.auto.work (omega (arith, (c.loop-v.invariant.0 ∙ c.start-n.ensures.long), c.requires.1, c.loop-v.invariant.1)) _ _ c.step.ensures _ c.in_ok-n.was)

pub finish-requires : goal.finish-requires
finish-requires t c = end-ready _ _ _ _ _ _ _ _ _ _ (c.loop-v.invariant.2 c.requires.0.ty c.requires.0.rest c.requires.0.is c.requires.0.within) (sym c.part_follows.ensures ∙ c.loop-v-test.false) (omega (arith, (c.loop-v.invariant.0 ∙ c.start-n.ensures.long), c.requires.1, c.loop-v.invariant.1))

pub returns-in_err-len : goal.returns-in_err-len
returns-in_err-len t c u rest d v = finished _ _ _ _ _ _ _ _ _ _ (c.loop-v.invariant.2 u rest d v) (sym c.part_follows.ensures ∙ c.loop-v-test.false) (omega (arith, (c.loop-v.invariant.0 ∙ c.start-n.ensures.long), c.requires.1, c.loop-v.invariant.1)) d _ _ (c.loop-v.invariant.0 ∙ c.start-n.ensures.long) _ c.finish.ensures _ (c.from_residual-in_err-len.ensures ∙ sym (ap (option_map (at_end (parts_end (get_or c.args.s.now c.args.at 0) c.loop-v.q))) c.in_err-len.was))

pub returns : goal.returns
returns t c u rest d v = finished _ _ _ _ _ _ _ _ _ _ (c.loop-v.invariant.2 u rest d v) (sym c.part_follows.ensures ∙ c.loop-v-test.false) (omega (arith, (c.loop-v.invariant.0 ∙ c.start-n.ensures.long), c.requires.1, c.loop-v.invariant.1)) d _ _ (c.loop-v.invariant.0 ∙ c.start-n.ensures.long) _ c.finish.ensures _ (ap (λ (e : ℕ). Some (at_end e c.in_ok-len.len)) c.parts_end.ensures ∙ sym (ap (option_map (at_end _)) c.in_ok-len.was))
