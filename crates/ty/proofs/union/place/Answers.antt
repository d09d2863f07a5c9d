use mathlib.Core.Path.{sym, ◌∙◌, ap}
use native.Mathlib.Omega.{arith}
use Rattle.text.specs.Text.{order_of}
use Rattle.semantics.specs.Bytes.{lex}
use Rattle.ty.proofs.Lent.{lent_both}
use Rattle.ty.proofs.KindLaws.{two_at}
use Rattle.ty.proofs.UnionLaws.{place-from, place_end, reached-start, reached-more, more-on, more-below, more-there, more-here, reached-end}
use Rattle.ty.proofs.union.place.Goals as goal

pub head_of-x-requires : goal.head_of-x-requires
head_of-x-requires c = let p = c.requires in (two_at _ _ _ p.new.ty p.new.at, p.new.at.inside)

pub loop-q-init : goal.loop-q-init
loop-q-init c = record { below = omega arith; reached = λ ms x f g. reached-start ms x }

pub type_end-e-requires : goal.type_end-e-requires
type_end-e-requires c = place-from c.requires c.loop-q.invariant c.loop-q-test.true

pub is_below-requires : goal.is_below-requires
is_below-requires c = let p = c.requires in (c.loop-q-test.true, omega (arith, two_at _ _ _ p.new.ty p.new.at, p.new.at.inside))

pub loop-q-smaller-then-is_below : goal.loop-q-smaller-then-is_below
loop-q-smaller-then-is_below c = omega (arith, place_end c.requires c.loop-q.invariant c.loop-q-test.true c.type_end-e.ensures)

pub loop-q-preserved-then-is_below : goal.loop-q-preserved-then-is_below
loop-q-preserved-then-is_below c = record { below = (place_end c.requires c.loop-q.invariant c.loop-q-test.true c.type_end-e.ensures).1; reached = λ ms x f g. more-below (reached-more f (c.loop-q.invariant.reached ms x f g) c.loop-q-test.true) g c.type_end-e.ensures (c.is_below.ensures c.if-is_below.true _ c.head_of-x.ensures) }

pub slice_bounds-compare-count : goal.slice_bounds-compare-count
slice_bounds-compare-count c = let e = place_end c.requires c.loop-q.invariant c.loop-q-test.true c.type_end-e.ensures in omega (arith, e)

pub slice_bounds-compare-start : goal.slice_bounds-compare-start
slice_bounds-compare-start c = let e = place_end c.requires c.loop-q.invariant c.loop-q-test.true c.type_end-e.ensures in omega (arith, e)

pub slice_bounds-compare-end : goal.slice_bounds-compare-end
slice_bounds-compare-end c = let e = place_end c.requires c.loop-q.invariant c.loop-q-test.true c.type_end-e.ensures in omega (arith, e)

pub loop-q-smaller : goal.loop-q-smaller
loop-q-smaller c = omega (arith, place_end c.requires c.loop-q.invariant c.loop-q-test.true c.type_end-e.ensures)

pub loop-q-preserved : goal.loop-q-preserved
loop-q-preserved c = record { below = (place_end c.requires c.loop-q.invariant c.loop-q-test.true c.type_end-e.ensures).1; reached = λ ms x f g. more-on (reached-more f (c.loop-q.invariant.reached ms x f g) c.loop-q-test.true) g c.type_end-e.ensures (sym (lent_both c.args.part.now c.loop-q.q c.type_end-e.result c.args.n c.args.m lex c.compare.ensures) ∙ ap order_of c.in-Less.is) }

pub returns-in-Equal : goal.returns-in-Equal
returns-in-Equal c = λ ms x f g. more-there (reached-more f (c.loop-q.invariant.reached ms x f g) c.loop-q-test.true) g c.type_end-e.ensures (sym (lent_both c.args.part.now c.loop-q.q c.type_end-e.result c.args.n c.args.m lex c.compare.ensures) ∙ ap order_of c.in-Equal.is)

pub returns-in-Greater : goal.returns-in-Greater
returns-in-Greater c = λ ms x f g. more-here (reached-more f (c.loop-q.invariant.reached ms x f g) c.loop-q-test.true) g c.type_end-e.ensures (sym (lent_both c.args.part.now c.loop-q.q c.type_end-e.result c.args.n c.args.m lex c.compare.ensures) ∙ ap order_of c.in-Greater.is)

pub returns : goal.returns
returns c = λ ms x f g. reached-end f (c.loop-q.invariant.reached ms x f g) c.loop-q-test.false
