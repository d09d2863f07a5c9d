use native.Mathlib.Omega.{arith}
use Rattle.semantics.specs.Bytes.{same}
use Rattle.ty.proofs.Lent.{lent_both}
use Rattle.old.proofs.Entered.{at-type, at_less, at-found, at_on, scan-end}
use Rattle.old.proofs.reader.is_new_name.Goals as goal

pub returns-then-same : goal.returns-then-same
returns-then-same c = at-found _ _ _ _ _ c.loop-p.invariant c.loop-p-test.true _ c.field_end-c.ensures.place _ (lent_both c.args.s.now c.args.q c.args.e c.loop-p.p c.field_end-c.result same c.same.ensures) c.if-same.true

pub type_end-p-requires : goal.type_end-p-requires
type_end-p-requires c = at-type _ _ _ _ _ c.loop-p.invariant c.loop-p-test.true _ c.field_end-c.ensures.place

pub loop-p-smaller : goal.loop-p-smaller
loop-p-smaller c = omega (arith, at_less _ _ _ _ _ c.loop-p.invariant c.loop-p-test.true _ c.field_end-c.ensures.place _ c.type_end-p.ensures)

pub loop-p-preserved : goal.loop-p-preserved
loop-p-preserved c = at_on _ _ _ _ _ c.loop-p.invariant c.loop-p-test.true _ c.field_end-c.ensures.place _ c.type_end-p.ensures _ (lent_both c.args.s.now c.args.q c.args.e c.loop-p.p c.field_end-c.result same c.same.ensures) c.if-same.false

pub returns : goal.returns
returns c = scan-end _ _ _ _ _ c.loop-p.invariant c.loop-p-test.false
