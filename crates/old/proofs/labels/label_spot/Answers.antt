use native.Mathlib.Omega.{arith}
use Rattle.old.proofs.LabelSeek.{start-in, node-long, seeking, seek-up, seek-there, seek-down, seek-done}
use Rattle.old.proofs.labels.label_spot.Goals as goal

pub overflow_sub-hi : goal.overflow_sub-hi
overflow_sub-hi c = let st = c in let a = st.args in let w = st.requires in omega (arith, node-long a.work.now a.n a.name.now w.labels w.name w.front w.spelt)

pub loop-lo-init : goal.loop-lo-init
loop-lo-init c = let st = c in let a = st.args in let w = st.requires in (omega (arith, node-long a.work.now a.n a.name.now w.labels w.name w.front w.spelt), λ ls m f z. seeking a.work.now a.n a.name.now ls m f z)

pub loop-lo-preserved-in-Less : goal.loop-lo-preserved-in-Less
loop-lo-preserved-in-Less c = let a = c.args in (c.loop-lo.invariant.0, λ ls m f z. seek-up a.work.now a.n a.name.now ls m f z c.loop-lo.lo c.loop-lo.hi (c.loop-lo.invariant.1 ls m f z) c.loop-lo-test.true c.loop-lo.invariant.0 _ (start-in c.loop-lo.hi (omega (arith, c.loop-lo-test.true)) c.piece_start-a.ensures) _ c.field_end-c.ensures _ c.compare.ensures c.in-Less.is)

pub returns-in-Equal : goal.returns-in-Equal
returns-in-Equal c ls m f z = let a = c.args in seek-there a.work.now a.n a.name.now ls m f z c.loop-lo.lo c.loop-lo.hi (c.loop-lo.invariant.1 ls m f z) c.loop-lo-test.true c.loop-lo.invariant.0 _ (start-in c.loop-lo.hi (omega (arith, c.loop-lo-test.true)) c.piece_start-a.ensures) _ c.field_end-c.ensures _ c.compare.ensures c.in-Equal.is

pub loop-lo-preserved : goal.loop-lo-preserved
loop-lo-preserved c = let a = c.args in (omega (arith, c.loop-lo.invariant.0, (start-in c.loop-lo.hi (omega (arith, c.loop-lo-test.true)) c.piece_start-a.ensures).inside), λ ls m f z. seek-down a.work.now a.n a.name.now ls m f z c.loop-lo.lo c.loop-lo.hi (c.loop-lo.invariant.1 ls m f z) c.loop-lo-test.true c.loop-lo.invariant.0 _ (start-in c.loop-lo.hi (omega (arith, c.loop-lo-test.true)) c.piece_start-a.ensures) _ c.field_end-c.ensures _ c.compare.ensures c.in-Greater.is)

pub returns : goal.returns
returns c ls m f z = let a = c.args in seek-done a.work.now a.n a.name.now ls m f z c.loop-lo.lo c.loop-lo.hi (c.loop-lo.invariant.1 ls m f z) c.loop-lo-test.false
