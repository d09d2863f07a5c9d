use mathlib.Core.Path.{refl, sym, ◌∙◌}
use native.Mathlib.Omega.{arith}
use Rattle.ty.proofs.Skips.{skipping, skip-depth, skip-on, skipped}
use Rattle.ty.proofs.end.nested_end.Goals as goal

pub loop-at-init : goal.loop-at-init
loop-at-init c = skipping _ _ c.requires

pub bounds-s-q : goal.bounds-s-q
bounds-s-q c = let i = c.loop-at.invariant in (skip-depth _ _ _ _ _ i refl).2

pub opened-depth-requires : goal.opened-depth-requires
opened-depth-requires c = let i = c.loop-at.invariant in ((skip-depth _ _ _ _ _ i refl).0, omega (arith, (skip-depth _ _ _ _ _ i refl).1, (skip-depth _ _ _ _ _ i refl).2))

pub loop-at-preserved : goal.loop-at-preserved
loop-at-preserved c = skip-on _ _ _ _ _ c.loop-at.invariant refl _ _ _ c.skip_field-q.ensures c.opened-depth.ensures (sym (sym c.goes_on.ensures ∙ c.if-not-goes_on.false))

pub returns-then-not-goes_on : goal.returns-then-not-goes_on
returns-then-not-goes_on c = skipped _ _ _ _ _ (skip-on _ _ _ _ _ c.loop-at.invariant refl _ _ _ c.skip_field-q.ensures c.opened-depth.ensures (sym (sym c.goes_on.ensures ∙ c.if-not-goes_on.true))) refl
