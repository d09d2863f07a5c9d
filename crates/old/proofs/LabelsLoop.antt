-- The labels of an old node type, one after the other into the running set. Assumes nothing.
use mathlib.Core.Path.{◌≡◌, refl, sym, ◌∙◌, ap, subst}
use mathlib.Core.List.{List, [], ◌∷◌, map}
use mathlib.Core.Option.{some}
use mathlib.Core.Bool.{true, false, false≢true}
use Prim.Native.Nat.{ℕ, ◌+◌, ◌≤◌, ◌<◌}
use native.Mathlib.Nat.{zero-add}
use native.Mathlib.Omega.{arith}
use lib.ListN.{length, drop, length-drop, length-map}
use lib.Seq.{slice, sets, length-sets, length-slice}
use Rattle.std.specs.Prelude.{Option, Some, None}
use Rattle.text.specs.Text.{index_of}
use Rattle.semantics.specs.Bytes.{Bytes, hex, lex}
use Rattle.semantics.specs.Ty.{Ty, t_node, name_to, names_to, labels_to, line_to, line, nesting, too_large, insert_name, insert_names, ascending}
use Rattle.semantics.proofs.Order.{Tri, lt, eq, gt, tri, lex-lt, lex-gt, lex-eq}
use Rattle.semantics.proofs.Named.{Name, Names}
use Rattle.semantics.proofs.Regular.{ascends-true, ascends-sound, name-ascends}
use Rattle.unify_run.proofs.Size.{NoLarger, below-refl, below-trans, below-large, small-sound}
use Rattle.text.proofs.Laws.{slice-sets}
use Rattle.ty.specs.Parts.{TypeAt}
use Rattle.ty.specs.Read.{field_at}
use Rattle.ty.specs.Made.{Made as Stands}
use Rattle.ty.specs.Merging.{head_to, HeadAt}
use Rattle.ty.proofs.NameLaws.{name-long, head-name}
use Rattle.ty.proofs.Places.{byte_at}
use Rattle.ty.proofs.Skips.{name-past}
use Rattle.ty.proofs.Fields.{field-yes, field_is, name_part}
use Rattle.old.specs.declared.RegularType.{RegularType}
use Rattle.old.specs.Make.{MadeAs, LabelsFront, SomeLabel, LabelAdded}
use Rattle.old.proofs.Answers.{grown-len, grown-large, type-long}

-- ## A set of labels grows

names-grow : (n : Bytes) (ls : List Bytes) (r : Bytes) → length (names_to ls r) ≤ length (names_to (insert_name n ls) r)
unfolding names_to insert_name
names-grow n [] r = omega (arith, name-long n (33 ∷ 44 ∷ r))
names-grow n (m ∷ ls) r = go (names-grow n ls r) (tri n m)
  where
    go : length (names_to ls r) ≤ length (names_to (insert_name n ls) r) → Tri n m → length (names_to (m ∷ ls) r) ≤ length (names_to (insert_name n (m ∷ ls)) r)
    go h (lt l) = rw (lex-lt l, insert_name) (omega (arith, name-long n (name_to m (names_to ls r))))
    go h (eq l) = let z : lex n m ≡ lex m m = ap (λ (x : Bytes). lex x m) l in rw (z ∙ lex-eq m, insert_name) (omega arith)
    go h (gt l) = rw (lex-gt l, insert_name) (omega (arith, name-long m (names_to ls r), name-long m (names_to (insert_name n ls) r)))

label-grows : (n : Bytes) (ls : List Bytes) → NoLarger (t_node (some ls)) (t_node (some (insert_name n ls)))
unfolding line line_to labels_to nesting
label-grows n ls = record { size = omega (arith, names-grow n ls []); depth = omega arith }

labels-grow : (ns ls : List Bytes) → NoLarger (t_node (some ls)) (t_node (some (insert_names ns ls)))
unfolding insert_names
labels-grow [] ls = below-refl (t_node (some ls))
labels-grow (n ∷ ns) ls = below-trans (label-grows n ls) (labels-grow ns (insert_name n ls))

head_at : (s : Bytes) (q : ℕ) (m r : Bytes) → drop q s ≡ name_to m r → HeadAt s q (some m)
unfolding head_to
head_at s q m r h = record { rest = r; is = h }

pub made-long : {w w₀ w' : Bytes} {end : ℕ} {u : Ty} {r : Option RegularType} → length w ≡ length w₀ → MadeAs w w' end u r → MadeAs w₀ w' end u r
made-long l m = record { answer = m.answer; stands = m.stands; long = m.long ∙ l }

-- ## The loop

pub record Labelling (s w : Bytes) (at q n : ℕ) (ls : List Bytes) (rest : Bytes) : Type 0 where
  pub acc : List Bytes
  pub left : List Bytes
  pub here : drop q s ≡ names_to left rest
  pub good : Names left
  pub front : LabelsFront w n acc
  pub small : too_large (t_node (some acc)) ≡ false
  pub all : insert_names left acc ≡ insert_names ls []
  pub place : at + length (names_to ls []) ≡ q + length (names_to left [])

-- for whichever labels stand there
abbrev pub Labels : Bytes → Bytes → Bytes → ℕ → ℕ → ℕ → Type 0
Labels s w₀ w at q n = (length w ≡ length w₀) × ((ls : List Bytes) (rest : Bytes) → drop at s ≡ names_to ls rest → Names ls → Labelling s w at q n ls rest)

pub start-long : (w w₁ : Bytes) (n : ℕ) → (n ≡ 0 + 6) × (w₁ ≡ sets w 0 (76 ∷ 44 ∷ 43 ∷ 44 ∷ 33 ∷ 44 ∷ [])) → length w₁ ≡ length w
start-long w w₁ n p = ap length p.1 ∙ length-sets w 0 (76 ∷ 44 ∷ 43 ∷ 44 ∷ 33 ∷ 44 ∷ [])

pub labelling : (s w w₁ : Bytes) (at n : ℕ) → 3072 ≤ length w → (n ≡ 0 + 6) × (w₁ ≡ sets w 0 (76 ∷ 44 ∷ 43 ∷ 44 ∷ 33 ∷ 44 ∷ [])) → Labels s w₁ w₁ at at n
unfolding line line_to labels_to names_to nesting too_large ascending
labelling s w w₁ at n h p =
    let text : Bytes = 76 ∷ 44 ∷ 43 ∷ 44 ∷ 33 ∷ 44 ∷ [] in (
      refl,
      λ ls rest e g. record {
        acc = [];
        left = ls;
        here = e;
        good = g;
        front = record {
          at = record { ordered = omega arith; inside = rw p.1 (omega (arith, p.0, length-sets w 0 text)); is = rw (p.0, p.1) (slice-sets w 0 text (omega arith)) };
          ascends = refl;
        };
        small = refl;
        all = refl;
        place = refl;
      },
    )

names_more : (s : Bytes) (q : ℕ) (left : List Bytes) (rest : Bytes) → drop q s ≡ names_to left rest → q ≤ length s
unfolding names_to
names_more s q left rest e = go left e
  where
    pos : (l : List Bytes) → 0 < length (names_to l rest)
    pos [] = omega arith
    pos (m ∷ l) = omega (arith, name-long m (names_to l rest))

    go : (l : List Bytes) → drop q s ≡ names_to l rest → q ≤ length s
    go l e = omega (arith, length-drop q s, ap length e, pos l)

module _ (s w : Bytes) (at q n : ℕ) (ls : List Bytes) (rest : Bytes) (i : Labelling s w at q n ls rest) where
  pub labels-inside : q ≤ length s
  labels-inside = names_more s q i.left rest i.here

  pub labels-few : n ≤ 1024
  labels-few = omega (arith, type-long i.front.at, (small-sound (t_node (some i.acc)) i.small).0)

  record Next (e : ℕ) : Type 0 where
    name : Bytes
    others : List Bytes
    left : i.left ≡ name ∷ others
    spelt : slice q e s ≡ map hex name
    good : Name name
    on : drop (e + 1) s ≡ names_to others rest
    inside : e < length s

  module _ (g : field_at s q 33 ≡ false) (e : ℕ) (z : e ≡ q + index_of 44 (drop q s)) where
    next : Next e
    unfolding names_to
    next = go i.left refl i.here i.good
      where
        go : (l : List Bytes) → i.left ≡ l → drop q s ≡ names_to l rest → Names l → Next e
        go [] y h o = absurd (false≢true (sym g ∙ field_is s q 33 rest h))
        go (m ∷ l) y h o =
            let p = name-past s q m (names_to l rest) h in
            record { name = m; others = l; left = y; spelt = rw z (name_part s q m (names_to l rest) h); good = o.0; on = rw z p.1; inside = rw z p.0 }

    pub label-ready : (x : Bytes) → x ≡ slice q e s → 3072 ≤ length w → SomeLabel w n x
    label-ready x y h =
        let k = next in
        record { labels = i.acc; front = i.front; name = k.name; spelt = y ∙ k.spelt; short = k.good.2; few = labels-few; room = h }

    pub label_inside : e < length s
    label_inside = next.inside

    module _ (x : Bytes) (y : x ≡ slice q e s) (w' : Bytes) (r : Option ℕ) (a : LabelAdded w w' n x r) where
      added : Stands w w' 0 (t_node (some (insert_name next.name i.acc))) r
      added = a i.acc next.name i.front (y ∙ next.spelt)

      pub label-long : length w' ≡ length w
      label-long = added.long

      whole : insert_names next.others (insert_name next.name i.acc) ≡ insert_names ls []
      unfolding insert_names
      whole = sym (ap (λ (l : List Bytes). insert_names l i.acc) next.left) ∙ i.all

      pub label-on : (k : ℕ) → r ≡ Some k → Labelling s w' at (e + 1) k ls rest
      unfolding names_to
      label-on k f =
          let m = next.name in
          let u = t_node (some (insert_name m i.acc)) in
          let (b, l) = grown-len (too_large u) (length (line u)) k r added.answer f in
          let v = added.stands b in
          record {
            acc = insert_name m i.acc;
            left = next.others;
            here = next.on;
            good = (subst Names next.left i.good).1;
            front = record { at = subst (λ (j : ℕ). TypeAt w' 0 j u) (zero-add (length (line u)) ∙ l) v; ascends = ascends-true (insert_name m i.acc) (name-ascends m i.acc (ascends-sound i.acc i.front.ascends)) };
            small = b;
            all = whole;
            place = omega (arith, i.place, ap (λ (l : List Bytes). length (names_to l [])) next.left, name-long m (names_to next.others []), z, spelt-long);
          }
        where
          spelt-long : e ≡ q + length next.name
          spelt-long = omega (arith, ap length next.spelt, length-map next.name hex, length-slice q e s (omega (arith, next.inside)), z)

      pub label-large : r ≡ None → MadeAs w w' (at + length (names_to ls [])) (t_node (some (insert_names ls []))) None
      label-large f =
          let m = next.name in
          let u = t_node (some (insert_name m i.acc)) in
          let b = grown-large (too_large u) (length (line u)) r added.answer f in
          let o : too_large (t_node (some (insert_names ls []))) ≡ true = subst (λ (l : List Bytes). too_large (t_node (some l)) ≡ true) whole (below-large (labels-grow next.others (insert_name m i.acc)) b) in
          record { answer = rw o; stands = λ h. absurd (false≢true (sym h ∙ o)); long = added.long }

  -- no label is left
  pub labels-done : field_at s q 33 ≡ true → MadeAs w w (at + length (names_to ls [])) (t_node (some (insert_names ls []))) (Some (record { end = q + 2; len = n }))
  unfolding names_to insert_names
  labels-done g = go i.left i.here i.all i.place
    where
      go : (l : List Bytes) → drop q s ≡ names_to l rest → insert_names l i.acc ≡ insert_names ls [] → at + length (names_to ls []) ≡ q + length (names_to l [])
          → MadeAs w w (at + length (names_to ls [])) (t_node (some (insert_names ls []))) (Some (record { end = q + 2; len = n }))
      go [] h a p =
          let f : length (line (t_node (some i.acc))) ≡ n = omega (arith, type-long i.front.at) in
          rw (sym a, p) (record { answer = rw i.small (ap (λ (k : ℕ). Some (record { end = q + 2; len = k })) (sym f)); stands = λ _. subst (λ (j : ℕ). TypeAt w 0 j (t_node (some i.acc))) (sym f) i.front.at; long = refl })
      go (m ∷ l) h a p = absurd (head-name s q m (head_at s q m (names_to l rest) h) (byte_at s q (44 ∷ drop (q + 2) s) 33 (field-yes s q 33 g).0))
