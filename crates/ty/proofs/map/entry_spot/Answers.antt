use native.Mathlib.Omega.{arith}
use Rattle.semantics.specs.Ty.{t_map}
use Rattle.ty.proofs.KindLaws.{two_at}
use Rattle.ty.proofs.EntryLaws.{looking, look, q_in, at_last, comma-known, value-from, value-past, value_room, value-below, value_on, value-old, value-new}
use Rattle.ty.proofs.map.entry_spot.Goals as goal

pub overflow_sub-last : goal.overflow_sub-last
overflow_sub-last c = let st = c in let w = st.requires in omega (arith, two_at st.args.part.now 0 st.args.len (t_map w.fields) w.front.at)

pub loop-q-init : goal.loop-q-init
loop-q-init c fs n f = looking fs n

pub next_field-v-requires : goal.next_field-v-requires
next_field-v-requires c = let st = c in let a = st.args in let w = st.requires in let l = c.loop-q in let m = look a.part.now a.name.now a.len w.fields w.name l.q w.front (l.invariant w.fields w.name w.front) c.loop-q-test.true in let i = q_in a.part.now a.name.now a.len w.fields w.name l.q w.front c.loop-q-test.true in comma-known a.part.now a.name.now a.len w.fields w.name l.q w.front m i

pub type_end-e-requires : goal.type_end-e-requires
type_end-e-requires c = let st = c in let a = st.args in let w = st.requires in let l = c.loop-q in let m = look a.part.now a.name.now a.len w.fields w.name l.q w.front (l.invariant w.fields w.name w.front) c.loop-q-test.true in let i = q_in a.part.now a.name.now a.len w.fields w.name l.q w.front c.loop-q-test.true in value-from a.part.now a.name.now a.len w.fields w.name l.q w.front m i _ c.next_field-v.ensures

pub is_name_below-requires : goal.is_name_below-requires
is_name_below-requires c = let st = c in let a = st.args in let w = st.requires in let l = c.loop-q in let m = look a.part.now a.name.now a.len w.fields w.name l.q w.front (l.invariant w.fields w.name w.front) c.loop-q-test.true in let i = q_in a.part.now a.name.now a.len w.fields w.name l.q w.front c.loop-q-test.true in (value_room a.part.now a.name.now a.len w.fields w.name l.q w.front m i _ c.next_field-v.ensures _ c.type_end-e.ensures, c.name_key-low.ensures)

pub loop-q-smaller-then-is_name_below : goal.loop-q-smaller-then-is_name_below
loop-q-smaller-then-is_name_below c = let st = c in let a = st.args in let w = st.requires in let l = c.loop-q in let m = look a.part.now a.name.now a.len w.fields w.name l.q w.front (l.invariant w.fields w.name w.front) c.loop-q-test.true in let i = q_in a.part.now a.name.now a.len w.fields w.name l.q w.front c.loop-q-test.true in let p = value-past a.part.now a.name.now a.len w.fields w.name l.q w.front m i _ c.next_field-v.ensures _ c.type_end-e.ensures in omega (arith, p.0, p.1)

pub loop-q-preserved-then-is_name_below : goal.loop-q-preserved-then-is_name_below
loop-q-preserved-then-is_name_below c fs n f = let st = c in let a = st.args in let l = c.loop-q in let m = look a.part.now a.name.now a.len fs n l.q f (l.invariant fs n f) c.loop-q-test.true in let i = q_in a.part.now a.name.now a.len fs n l.q f c.loop-q-test.true in value-below a.part.now a.name.now a.len fs n l.q f m i _ c.next_field-v.ensures _ c.type_end-e.ensures (c.is_name_below.ensures c.if-is_name_below.true)

pub loop-q-smaller : goal.loop-q-smaller
loop-q-smaller c = let st = c in let a = st.args in let w = st.requires in let l = c.loop-q in let m = look a.part.now a.name.now a.len w.fields w.name l.q w.front (l.invariant w.fields w.name w.front) c.loop-q-test.true in let i = q_in a.part.now a.name.now a.len w.fields w.name l.q w.front c.loop-q-test.true in let p = value-past a.part.now a.name.now a.len w.fields w.name l.q w.front m i _ c.next_field-v.ensures _ c.type_end-e.ensures in omega (arith, p.0, p.1)

pub loop-q-preserved : goal.loop-q-preserved
loop-q-preserved c fs n f = let st = c in let a = st.args in let l = c.loop-q in let m = look a.part.now a.name.now a.len fs n l.q f (l.invariant fs n f) c.loop-q-test.true in let i = q_in a.part.now a.name.now a.len fs n l.q f c.loop-q-test.true in value_on a.part.now a.name.now a.len fs n l.q f m i _ c.next_field-v.ensures _ c.type_end-e.ensures _ c.field_end-c.ensures _ c.compare.ensures c.in-Less.is

pub returns-in-Equal : goal.returns-in-Equal
returns-in-Equal c fs n f = let st = c in let a = st.args in let l = c.loop-q in let m = look a.part.now a.name.now a.len fs n l.q f (l.invariant fs n f) c.loop-q-test.true in let i = q_in a.part.now a.name.now a.len fs n l.q f c.loop-q-test.true in value-old a.part.now a.name.now a.len fs n l.q f m i _ c.next_field-v.ensures _ c.type_end-e.ensures _ c.field_end-c.ensures _ c.compare.ensures c.in-Equal.is

pub returns-in-Greater : goal.returns-in-Greater
returns-in-Greater c fs n f = let st = c in let a = st.args in let l = c.loop-q in let m = look a.part.now a.name.now a.len fs n l.q f (l.invariant fs n f) c.loop-q-test.true in let i = q_in a.part.now a.name.now a.len fs n l.q f c.loop-q-test.true in value-new a.part.now a.name.now a.len fs n l.q f m i _ c.next_field-v.ensures _ c.type_end-e.ensures _ c.field_end-c.ensures _ c.compare.ensures c.in-Greater.is

pub returns : goal.returns
returns c fs n f = let a = c.args in at_last a.part.now a.name.now a.len fs n c.loop-q.q f (c.loop-q.invariant fs n f) c.loop-q-test.false
