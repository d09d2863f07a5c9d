use native.Mathlib.Nat.{le_of_lt}
use Rattle.semantics.specs.Bytes.{lex}
use Rattle.ty.proofs.Lent.{lent_both}
use Rattle.ty.proofs.NameLaws.{head_in, next-end, next-second, next-first, next-compared}
use Rattle.ty.proofs.merging.next_name.Goals as goal

pub bounds-s-p : goal.bounds-s-p
bounds-s-p c = let st = c in head_in st.args.s.now st.args.p st.requires.0.head st.requires.0.at

pub bounds-s-q : goal.bounds-s-q
bounds-s-q c = let st = c in head_in st.args.s.now st.args.q st.requires.1.head st.requires.1.at

pub returns-then-s-q-eq-CLOSE : goal.returns-then-s-q-eq-CLOSE
returns-then-s-q-eq-CLOSE c o u h k = let st = c in next-end st.args.s.now st.args.p st.args.q o u h k c.if-s-p-eq-CLOSE.true c.if-s-q-eq-CLOSE.true

pub returns-then-s-p-eq-CLOSE : goal.returns-then-s-p-eq-CLOSE
returns-then-s-p-eq-CLOSE c o u h k = let st = c in next-second st.args.s.now st.args.p st.args.q o u h k c.if-s-p-eq-CLOSE.true c.if-s-q-eq-CLOSE.false

pub bounds-s-q-2 : goal.bounds-s-q-2
bounds-s-q-2 c = let st = c in head_in st.args.s.now st.args.q st.requires.1.head st.requires.1.at

pub returns-then-s-q-eq-CLOSE-2 : goal.returns-then-s-q-eq-CLOSE-2
returns-then-s-q-eq-CLOSE-2 c o u h k = let st = c in next-first st.args.s.now st.args.p st.args.q o u h k c.if-s-p-eq-CLOSE.false c.if-s-q-eq-CLOSE-2.true

pub field_end-pe-requires : goal.field_end-pe-requires
field_end-pe-requires c = let st = c in le_of_lt (head_in st.args.s.now st.args.p st.requires.0.head st.requires.0.at)

pub field_end-qe-requires : goal.field_end-qe-requires
field_end-qe-requires c = let st = c in le_of_lt (head_in st.args.s.now st.args.q st.requires.1.head st.requires.1.at)

pub returns-in-Less : goal.returns-in-Less
returns-in-Less c o u h k =
    let st = c in
    next-compared st.args.s.now st.args.p st.args.q _ _ o u _ _ h k c.if-s-p-eq-CLOSE.false c.if-s-q-eq-CLOSE-2.false c.field_end-pe.ensures c.field_end-qe.ensures (lent_both st.args.s.now st.args.p c.field_end-pe.result st.args.q c.field_end-qe.result lex c.compare.ensures) c.in-Less.is

pub returns-in-Equal : goal.returns-in-Equal
returns-in-Equal c o u h k =
    let st = c in
    next-compared st.args.s.now st.args.p st.args.q _ _ o u _ _ h k c.if-s-p-eq-CLOSE.false c.if-s-q-eq-CLOSE-2.false c.field_end-pe.ensures c.field_end-qe.ensures (lent_both st.args.s.now st.args.p c.field_end-pe.result st.args.q c.field_end-qe.result lex c.compare.ensures) c.in-Equal.is

pub returns-in-Greater : goal.returns-in-Greater
returns-in-Greater c o u h k =
    let st = c in
    next-compared st.args.s.now st.args.p st.args.q _ _ o u _ _ h k c.if-s-p-eq-CLOSE.false c.if-s-q-eq-CLOSE-2.false c.field_end-pe.ensures c.field_end-qe.ensures (lent_both st.args.s.now st.args.p c.field_end-pe.result st.args.q c.field_end-qe.result lex c.compare.ensures) c.in-Greater.is
