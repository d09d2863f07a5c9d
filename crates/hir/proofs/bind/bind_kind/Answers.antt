use native.Mathlib.Omega.{arith}
use Rattle.std.proofs.Common.{Less, Equal, Greater}
use Rattle.std.proofs.lemmas.Cmp.{ranked}
use Rattle.hir.proofs.BindLaws.{found-binding, found-letter, found-hit, found-lower, found-higher, found-on, found_none}
use Rattle.hir.proofs.bind.bind_kind.Goals as goal

pub bound_at-g-requires : goal.bound_at-g-requires
bound_at-g-requires c = found-binding _ _ _ _ _ (c.loop-lo.invariant.each c.requires) _ _ c.piece_start-start.ensures c.probe-mid.ensures.1

pub overflow_add-letter : goal.overflow_add-letter
overflow_add-letter c = record { fits = omega (arith, found-letter _ _ _ _ _ (c.loop-lo.invariant.each c.requires) _ _ c.piece_start-start.ensures c.probe-mid.ensures.1 _ c.bound_at-g.ensures) }

pub bounds-sheet-letter : goal.bounds-sheet-letter
bounds-sheet-letter c = omega (arith, found-letter _ _ _ _ _ (c.loop-lo.invariant.each c.requires) _ _ c.piece_start-start.ensures c.probe-mid.ensures.1 _ c.bound_at-g.ensures)

pub returns-in-Equal : goal.returns-in-Equal
returns-in-Equal c = λ b. found-hit _ _ _ _ _ (c.loop-lo.invariant.each b) _ _ c.piece_start-start.ensures c.probe-mid.ensures.1 _ c.bound_at-g.ensures (ranked _ _ Equal (rw c.in-Equal.is at c.cmp.ensures)) _ c.kind_of.ensures

pub overflow_add-lo : goal.overflow_add-lo
overflow_add-lo c = record { fits = omega (arith, (found-on _ _ _ _ _ (c.loop-lo.invariant.each c.requires) _ _ c.piece_start-start.ensures c.probe-mid.ensures.1 _ c.bound_at-g.ensures).1, c.loop-lo.invariant.inside) }

pub loop-lo-smaller-in-Less : goal.loop-lo-smaller-in-Less
loop-lo-smaller-in-Less c = let o = found-on _ _ _ _ _ (c.loop-lo.invariant.each c.requires) _ _ c.piece_start-start.ensures c.probe-mid.ensures.1 _ c.bound_at-g.ensures in omega (arith, o.0, o.1)

pub loop-lo-preserved-in-Less : goal.loop-lo-preserved-in-Less
loop-lo-preserved-in-Less c = record { inside = c.loop-lo.invariant.inside; each = λ b. found-lower _ _ _ _ _ (c.loop-lo.invariant.each b) _ _ c.piece_start-start.ensures c.probe-mid.ensures.1 _ c.bound_at-g.ensures (ranked _ _ Less (rw c.in-Less.is at c.cmp.ensures)) }

pub loop-lo-preserved : goal.loop-lo-preserved
loop-lo-preserved c = record { inside = omega (arith, c.piece_start-start.ensures.upto, c.probe-mid.ensures.1, c.loop-lo.invariant.inside); each = λ b. found-higher _ _ _ _ _ (c.loop-lo.invariant.each b) _ _ c.piece_start-start.ensures c.probe-mid.ensures.1 _ c.bound_at-g.ensures (ranked _ _ Greater (rw c.in-Greater.is at c.cmp.ensures)) }

pub returns : goal.returns
returns c = λ b. found_none _ _ _ _ _ (c.loop-lo.invariant.each b) c.loop-lo-test.false
