use mathlib.Core.Path.{refl}
use Rattle.ty.proofs.EntryLaws.{fronted-over, fronted-within, replaced-long, replaced-length, replaced-front}
use Rattle.ty.proofs.map.replace_value.Goals as goal

pub returns-then-n-gt-TYPE_LIMIT : goal.returns-then-n-gt-TYPE_LIMIT
returns-then-n-gt-TYPE_LIMIT c = let st = c in let a = st.args in fronted-over a.part.now _ _ _ (replaced-long a.part.now a.len a.end a.v a.e st.requires.0 st.requires.1 st.requires.2 st.requires.3) c.if-n-gt-TYPE_LIMIT.true refl

pub returns : goal.returns
returns c =
    let st = c in
    let a = st.args in
    fronted-within a.part.now _ _ _ (replaced-long a.part.now a.len a.end a.v a.e st.requires.0 st.requires.1 st.requires.2 st.requires.3) c.if-n-gt-TYPE_LIMIT.false
    (replaced-length a.part.now a.len a.end a.v a.e st.requires.0 st.requires.1 st.requires.2 st.requires.3 _ _ c.rotate.ensures c.copy_in.ensures) (replaced-front a.part.now a.len a.end a.v a.e st.requires.0 st.requires.1 st.requires.2 st.requires.3 _ _ c.rotate.ensures c.copy_in.ensures)
