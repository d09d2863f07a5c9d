use native.Mathlib.Omega.{arith}
use Rattle.ty.proofs.Fields.{type-two}
use Rattle.old.proofs.MakeParts.{old-from, same_place, flat-copied, flat-three, label-names, labels-made}
use Rattle.old.proofs.making.regular_flat.Goals as goal

pub bounds-s-at : goal.bounds-s-at
bounds-s-at c = omega (arith, (type-two c.args.s.now c.args.at (old-from c.args.s.now c.args.at c.requires.0)).1)

pub copied-requires : goal.copied-requires
copied-requires c = (same_place _ _ c.requires.1 (λ h. c.if-s-at-ne-NODE.true h.0) c.requires.0, omega (arith, c.requires.2))

pub returns-then-s-at-ne-NODE : goal.returns-then-s-at-ne-NODE
returns-then-s-at-ne-NODE c = flat-copied _ _ c.requires.1 (λ h. c.if-s-at-ne-NODE.true h.0) _ _ _ c.copied.ensures

pub bounds-s-at-2 : goal.bounds-s-at-2
bounds-s-at-2 c = flat-three c.args.s.now c.args.at c.if-s-at-ne-NODE.false c.requires.0

pub copied-requires-then-s-at-ne-OPEN : goal.copied-requires-then-s-at-ne-OPEN
copied-requires-then-s-at-ne-OPEN c = (same_place _ _ c.requires.1 (λ h. c.if-s-at-ne-OPEN.true h.1) c.requires.0, omega (arith, c.requires.2))

pub returns-then-s-at-ne-OPEN : goal.returns-then-s-at-ne-OPEN
returns-then-s-at-ne-OPEN c = flat-copied _ _ c.requires.1 (λ h. c.if-s-at-ne-OPEN.true h.1) _ _ _ c.copied-then-s-at-ne-OPEN.ensures

pub regular_labels-requires : goal.regular_labels-requires
regular_labels-requires c = (label-names _ _ c.requires.1 c.if-s-at-ne-NODE.false c.if-s-at-ne-OPEN.false c.requires.0, c.requires.2)

pub returns : goal.returns
returns c = labels-made _ _ c.requires.1 c.if-s-at-ne-NODE.false c.if-s-at-ne-OPEN.false _ _ _ c.regular_labels.ensures
