use Rattle.semantics.specs.Ty.{t_map, set_field}
use Rattle.ty.proofs.EntryLaws.{new_line, old-line, fronted-some, fronted-made}
use Rattle.ty.proofs.map.put_entry.Goals as goal

pub tested-requires : goal.tested-requires
tested-requires c =
    let st = c in
    let a = st.args in
    let w = st.requires.map in
    let v = st.requires.value in
    let s = a.part.now in
    let x = a.name.now in
    let g = rw c.in-New.is at (c.entry_spot.ensures w.fields w.name w.front) in
    fronted-some s _ _ (t_map (set_field w.name v.ty w.fields)) _ (new_line s x a.len w.fields w.name w.front a.end _ v.ty v.at g) c.insert_entry-made.ensures

pub tested-requires-in-Old : goal.tested-requires-in-Old
tested-requires-in-Old c =
    let st = c in
    let a = st.args in
    let w = st.requires.map in
    let v = st.requires.value in
    let s = a.part.now in
    let x = a.name.now in
    let g = rw c.in-Old.is at (c.entry_spot.ensures w.fields w.name w.front) in
    fronted-some s _ _ (t_map (set_field w.name v.ty w.fields)) _ (old-line s x a.len w.fields w.name w.front a.end _ _ v.ty v.at g) c.replace_value-made.ensures

pub returns-in-New : goal.returns-in-New
returns-in-New c fs n t f v =
    let a = c.args in
    let s = a.part.now in
    let x = a.name.now in
    let g = rw c.in-New.is at (c.entry_spot.ensures fs n f) in
    fronted-made s _ _ (t_map (set_field n t fs)) _ (new_line s x a.len fs n f a.end _ t v g) c.insert_entry-made.ensures _ c.tested.ensures

pub returns-in-Old : goal.returns-in-Old
returns-in-Old c fs n t f v =
    let a = c.args in
    let s = a.part.now in
    let x = a.name.now in
    let g = rw c.in-Old.is at (c.entry_spot.ensures fs n f) in
    fronted-made s _ _ (t_map (set_field n t fs)) _ (old-line s x a.len fs n f a.end _ _ t v g) c.replace_value-made.ensures _ c.tested-in-Old.ensures
