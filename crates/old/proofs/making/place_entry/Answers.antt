use Rattle.old.proofs.EntryDepth.{placed}
use Rattle.old.proofs.making.place_entry.Goals as goal

pub returns-in-New : goal.returns-in-New
returns-in-New c fs n t f v =
    let st = c in
    let a = st.args in
    let g = rw c.in-New.is at (c.entry_spot.ensures fs n f) in
    placed a.work.now _ a.name.now a.n a.end _ _ st.requires fs n t f v g c.insert_entry.ensures
