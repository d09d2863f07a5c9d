-- Two node types: `unify_label_sets`. Assumes nothing.
use Rattle.std.specs.Prelude.{Option as StdOption, Some, None}
use mathlib.Core.Path.{◌≡◌, refl, sym, ◌∙◌, ap, ap₂, subst}
use mathlib.Core.List.{List, [], ◌∷◌}
use mathlib.Core.Option.{Option, none, some}
use mathlib.Core.Bool.{Bool, true, false}
use Prim.Native.Nat.{ℕ, ◌+◌, ◌≤◌}
use native.Mathlib.Omega.{arith}
use lib.ListN.{length, get_or}
use lib.Seq.{sets}
use Rattle.semantics.specs.Bytes.{Bytes}
use Rattle.semantics.specs.Ty.{Ty, t_node, labels_to, line_to, line, insert_names, regular, ascending_labels, too_large}
use Rattle.semantics.specs.Unify.{unify_label_sets}
use Rattle.semantics.proofs.Regular.{regular-sound}
use Rattle.text.proofs.Laws.{get_or-slice}
use Rattle.ty.specs.Parts.{TypeAt}
use Rattle.ty.specs.Made.{Made, made}
use Rattle.ty.specs.Merging.{LabelsAt, SomeLabels, MergedLabels}
use Rattle.ty.proofs.UnionEnds.{type-long}
use Rattle.unify_run.specs.Run.{done, unless, checked, run_nodes}
use Rattle.unify_run.proofs.Labels.{nodes-run}
use Rattle.unify.specs.declared.Span.{Span}
use Rattle.unify.specs.Work.{Unified, Operand, Answered, Below}
use Rattle.unify.specs.Flat.{SomeNodes, NodesAnswer}
use Rattle.std.specs.Prelude.{Ok, Err}
use Rattle.unify.specs.declared.UnifyError.TheVariants.{TooLarge}
use Rattle.unify.proofs.FlatLaws.{written_below, written-answer}

-- ## `unify_label_sets`

-- whether a node type has labels
abbrev label_mark : Option (List Bytes) → ℕ
label_mark none = 33
label_mark (some ls) = 43

label-mark : {s : Bytes} {a e : ℕ} (ls : Option (List Bytes)) → TypeAt s a e (t_node ls) → get_or s (a + 2) 0 ≡ label_mark ls
unfolding line line_to labels_to
label-mark {s} {a} {e} none f =
    let l = type-long f in
    sym (get_or-slice a e s 2 0 (omega arith)) ∙ ap (λ (x : Bytes). get_or x 2 0) f.is
label-mark {s} {a} {e} (some ls) f =
    let l = type-long f in
    sym (get_or-slice a e s 2 0 (omega arith)) ∙ ap (λ (x : Bytes). get_or x 2 0) f.is

no_labels : {s : Bytes} {a e : ℕ} (ls : Option (List Bytes)) → TypeAt s a e (t_node ls) → get_or s (a + 2) 0 ≡ 33 → ls ≡ none
no_labels none f h = refl
no_labels (some ls) f h = absurd (omega (arith, label-mark (some ls) f))

record Labels (ls : Option (List Bytes)) : Type 0 where
  labels : List Bytes
  is : ls ≡ some labels

some-labels : {s : Bytes} {a e : ℕ} (ls : Option (List Bytes)) → TypeAt s a e (t_node ls) → (get_or s (a + 2) 0 ≡ 33 → ⊥) → Labels ls
some-labels none f h = absurd (h (label-mark none f))
some-labels (some ls) f h = record { labels = ls; is = refl }

node-line : line (t_node none) ≡ 76 ∷ 44 ∷ 33 ∷ 44 ∷ []
unfolding line line_to labels_to
node-line = refl

-- one of them has none: so has the answer
module _ {s s' : Bytes} {a b : Span} {mark : ℕ} (p : SomeNodes s a b mark) (w : s' ≡ sets s mark (76 ∷ 44 ∷ 33 ∷ 44 ∷ [])) where
  any-node : TypeAt s' mark (mark + 4) (t_node none)
  any-node = written-answer s mark (76 ∷ 44 ∷ 33 ∷ 44 ∷ []) w (t_node none) node-line (omega (arith, p.room))

  pub first_any : get_or s (a.from + 2) 0 ≡ 33 → NodesAnswer s s' a b mark (Ok (mark + 4))
  unfolding run_nodes
  first_any h = record { below = written_below s mark (76 ∷ 44 ∷ 33 ∷ 44 ∷ []) w; answer = λ ls ks o q. go ls ks (no_labels ls o.at h) }
    where
      go : (ls ks : Option (List Bytes)) → ls ≡ none → Answered (run_nodes ls ks) s' mark (Ok (mark + 4))
      go ls ks e = rw e any-node

  pub second-any : get_or s (b.from + 2) 0 ≡ 33 → NodesAnswer s s' a b mark (Ok (mark + 4))
  unfolding run_nodes
  second-any h = record { below = written_below s mark (76 ∷ 44 ∷ 33 ∷ 44 ∷ []) w; answer = λ ls ks o q. go ls ks (no_labels ks q.at h) }
    where
      go : (ls ks : Option (List Bytes)) → ks ≡ none → Answered (run_nodes ls ks) s' mark (Ok (mark + 4))
      go none ks e = any-node
      go (some ls) ks e = rw e any-node

-- the two label sets
labels_at : {s : Bytes} {a : Span} {mark : ℕ} (ls : Option (List Bytes)) → Operand s a mark (t_node ls) → (h : Labels ls) → LabelsAt s a.from a.to mark h.labels
unfolding regular ascending_labels
labels_at {s} {a} {mark} ls o h =
    let i = h.is in
    let q : Operand s a mark (t_node (some h.labels)) = subst (λ (x : Option (List Bytes)). Operand s a mark (t_node x)) i o in
    record { at = q.at; below = q.below; ascends = q.regular }

module _ {s : Bytes} {a b : Span} {mark : ℕ} (p : SomeNodes s a b mark) (f : get_or s (a.from + 2) 0 ≡ 33 → ⊥) (g : get_or s (b.from + 2) 0 ≡ 33 → ⊥) where
  first-set : Labels p.first_labels
  first-set = some-labels p.first_labels p.first.at f

  second-set : Labels p.second_labels
  second-set = some-labels p.second_labels p.second.at g

  pub merge-ready : SomeLabels s a.from mark × SomeLabels s b.from mark × (mark + 1024 ≤ length s)
  merge-ready = (
    record { end = a.to; labels = first-set.labels; at = labels_at p.first_labels p.first first-set },
    record { end = b.to; labels = second-set.labels; at = labels_at p.second_labels p.second second-set },
    p.room,
  )

  module _ {s' : Bytes} {r : StdOption ℕ} (m : MergedLabels s s' a.from b.from mark r) where
    merged : Made s s' mark (t_node (some (insert_names second-set.labels (insert_names first-set.labels [])))) r
    merged = m a.to b.to first-set.labels second-set.labels (labels_at p.first_labels p.first first-set) (labels_at p.second_labels p.second second-set)

    merged-below : Below s s' mark
    merged-below = record { kept = merged.below; long = merged.long }

    -- whichever labels they are
    module _ {u : Unified}
        (each : (t : Ty) → Made s s' mark t r → Answered (checked t) s' mark u) where
      merged-answer : NodesAnswer s s' a b mark u
      unfolding unify_label_sets
      merged-answer =
          record {
            below = merged-below;
            answer = λ ls ks o q. go ls ks o q (some-labels ls o.at f) (some-labels ks q.at g);
          }
        where
          go : (ls ks : Option (List Bytes)) → Operand s a mark (t_node ls) → Operand s b mark (t_node ks) → Labels ls → Labels ks → Answered (run_nodes ls ks) s' mark u
          go ls ks o q x y =
              let i = x.is in
              let j = y.is in
              let n = nodes-run ls ks (regular-sound (t_node ls) o.regular) (regular-sound (t_node ks) q.regular) in
              let d = m a.to b.to x.labels y.labels (labels_at ls o x) (labels_at ks q y) in
              let e : run_nodes ls ks ≡ checked (t_node (some (insert_names y.labels (insert_names x.labels [])))) = n ∙ ap₂ (λ (v w : Option (List Bytes)). checked (t_node (unify_label_sets v w))) i j in
              rw e (each (t_node (some (insert_names y.labels (insert_names x.labels [])))) d)

    made-len : (t : Ty) {k : ℕ} → Made s s' mark t r → r ≡ Some k → (too_large t ≡ false) × (k ≡ length (line t))
    made-len t {k} d e = go (too_large t) (sym e ∙ d.answer)
      where
        go : (c : Bool) → Some k ≡ made c (length (line t)) → (c ≡ false) × (k ≡ length (line t))
        go true q = absurd (let z : ◌≡◌ {A = ℕ} 0 1 = cc in omega arith)
        go false q = (refl, cc)

    pub merged-short : {k : ℕ} → r ≡ Some k → mark + k ≤ length s
    merged-short {k} e =
        let t : Ty = t_node (some (insert_names second-set.labels (insert_names first-set.labels []))) in
        let d = made-len t merged e in
        let x = (merged.stands d.0).inside in
        omega (arith, merged.long, d.1)

    pub merged-done : {k : ℕ} → r ≡ Some k → NodesAnswer s s' a b mark (Ok (mark + k))
    unfolding checked
    merged-done {k} e = merged-answer (λ t d. let l = made-len t d e in let z = l.1 in rw (l.0, z) (d.stands l.0))

    pub merged-large : r ≡ None → NodesAnswer s s' a b mark (Err TooLarge)
    unfolding checked
    merged-large e = merged-answer (λ t d. go t (too_large t) (sym e ∙ d.answer))
      where
        go : (t : Ty) (c : Bool) → None ≡ made c (length (line t)) → Answered (unless c (done t)) s' mark (Err TooLarge)
        go t true q = tt
        go t false q = absurd (let z : ◌≡◌ {A = ℕ} 0 1 = cc in omega arith)
