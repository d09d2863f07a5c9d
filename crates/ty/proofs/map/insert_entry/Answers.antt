use native.Mathlib.Omega.{arith}
use Prim.Native.Nat.{◌+◌, ◌≤◌}
use mathlib.Core.Path.{◌≡◌, refl, sym, ap, ◌∙◌}
use lib.ListN.{length, set}
use Rattle.text.specs.Text.{rotated}
use Rattle.text.proofs.Laws.{rotated-none}
use Rattle.ty.proofs.EntryLaws.{fronted-over, fronted-within, inserted-long, inserted-length, inserted-front}
use Rattle.ty.proofs.map.insert_entry.Goals as goal
use Rattle.ty.proofs.map.insert_entry.Goals.{then-len-end, else-len-end}

pub returns-then-end-k-gt-TYPE_LIMIT : goal.returns-then-end-k-gt-TYPE_LIMIT
returns-then-end-k-gt-TYPE_LIMIT c = let st = c in let a = st.args in fronted-over a.part.now _ _ _ (inserted-long a.part.now a.name.now a.len a.end a.p st.requires.0 st.requires.1 st.requires.2) c.if-end-k-gt-TYPE_LIMIT.true refl

pub returns : goal.returns
returns c =
    let st = c in
    let a = st.args in
    let k = length a.name.now + 1 in
    let room : a.end + k ≤ length a.part.now = omega (arith, st.requires.3, c.if-end-k-gt-TYPE_LIMIT.false) in
    let named = set c.append-c.new.out c.append-c.result 44 in
    let ends : c.if-len-end.part ≡ rotated (a.p + k) (a.len + k) (a.end + k) named = elim c.if-len-end.branch [
      | then-len-end w ↦ w.part-is ∙ w.rotate.ensures
      | else-len-end w ↦
          let none : a.len + k ≡ a.end + k = omega (arith, st.requires.1, w.if-len-end.false) in
          w.part-is ∙ sym (ap (λ n. rotated (a.p + k) n (a.end + k) named) none ∙ rotated-none (a.p + k) (a.end + k) named (omega (arith, st.requires.0, st.requires.1)))
    ] in
    fronted-within a.part.now _ _ _ (inserted-long a.part.now a.name.now a.len a.end a.p st.requires.0 st.requires.1 st.requires.2) c.if-end-k-gt-TYPE_LIMIT.false
    (inserted-length a.part.now a.name.now a.len a.end a.p st.requires.0 st.requires.1 st.requires.2 _ _ _ _ room c.slide_up.ensures c.append-c.ensures.1 c.append-c.ensures.0 ends)
    (inserted-front a.part.now a.name.now a.len a.end a.p st.requires.0 st.requires.1 st.requires.2 _ _ _ _ room c.slide_up.ensures c.append-c.ensures.1 c.append-c.ensures.0 ends)
