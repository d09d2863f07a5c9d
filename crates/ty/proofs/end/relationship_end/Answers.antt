use native.Mathlib.Omega.{arith}
use Rattle.ty.proofs.Skips.{rel-inside, bare_step, spelt-comma, spelt-step}
use Rattle.ty.proofs.end.relationship_end.Goals as goal

pub bounds-s-q : goal.bounds-s-q
bounds-s-q c = let a = c in omega (arith, rel-inside a.args.s.now a.args.q a.requires.0 a.requires.1)

pub returns-then-s-q-eq-CLOSE : goal.returns-then-s-q-eq-CLOSE
returns-then-s-q-eq-CLOSE c = let a = c in bare_step a.args.s.now a.args.q a.requires.0 a.requires.1 c.if-s-q-eq-CLOSE.true

pub next_field-requires : goal.next_field-requires
next_field-requires c = let a = c in spelt-comma a.args.s.now a.args.q a.requires.0 a.requires.1 c.if-s-q-eq-CLOSE.false

pub returns : goal.returns
returns c = let a = c in spelt-step a.args.s.now a.args.q a.requires.0 a.requires.1 c.if-s-q-eq-CLOSE.false c.next_field.result c.next_field.ensures
