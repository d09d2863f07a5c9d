use Prim.Native.Nat.{◌+◌}
use native.Mathlib.Omega.{arith}
use mathlib.Core.Path.{ap}
use Rattle.ty.proofs.Skips.{comma-on, comma-here}
use Rattle.ty.proofs.end.next_field.Goals as goal

pub loop-i-smaller : goal.loop-i-smaller
loop-i-smaller c = let l = c in let st = l in let k = comma-on st.args.s.now st.args.q l.loop-i.i st.requires l.loop-i.invariant.0 l.loop-i.invariant.1 c.loop-i-test.true in omega (arith, k)

pub loop-i-preserved : goal.loop-i-preserved
loop-i-preserved c = let l = c in let st = l in let k = comma-on st.args.s.now st.args.q l.loop-i.i st.requires l.loop-i.invariant.0 l.loop-i.invariant.1 c.loop-i-test.true in (omega (arith, l.loop-i.invariant.0), omega (arith, k))

pub returns : goal.returns
returns c = let l = c in let st = l in ap (λ k. k + 1) (comma-here st.args.s.now st.args.q l.loop-i.i st.requires l.loop-i.invariant.0 l.loop-i.invariant.1 c.loop-i-test.false)
