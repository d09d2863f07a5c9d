-- The strict form: what it accepts, part by part, and the whole text. Assumes nothing.
use mathlib.Core.Path.{◌≡◌, refl, sym, ◌∙◌, ap}
use mathlib.Core.List.{List, [], ◌∷◌, ◌++◌, map}
use mathlib.Core.Option.{Option, none, some}
use mathlib.Core.Bool.{Bool, true, false, not, and-eq-true_iff}
use Prim.Native.Nat.{ℕ, ◌+◌, ◌≤◌, ◌<◌}
use native.Mathlib.Omega.{arith}
use lib.Dec.{eqb, leb}
use lib.ListN.{length, drop, get_or, length-drop, length-append, drop_of_length-le}
use lib.Seq.{slice, slice-cons}
use borrow.Author.Tests.{eqb-true, eqb-false, ne_eqb, not-true, leb-true, le-leb}
use Rattle.std.specs.Prelude.{Option as StdOption, Some, None}
use Rattle.std.specs.Option.{option_eq}
use Rattle.text.specs.Text.{is_found}
use Rattle.semantics.specs.Limits.{type_limit, nesting_limit}
use Rattle.semantics.specs.Bytes.{Bytes}
use Rattle.semantics.specs.Ty.{Ty, t_map, t_node, t_relationship, t_union, Tys, ∅, ◌⊕◌, Fields, ∅ᶠ, field, names, members, line_to, line, too_large, regular, type_line}
use Rattle.semantics.proofs.Order.{line-inj}
use Rattle.semantics.proofs.Named.{Named, NamedF, NamedS, Maybe}
use Rattle.semantics.proofs.Split.{name_f}
use Rattle.semantics.proofs.Regular.{RegularF, RegularS, regular-true, regular-sound}
use Rattle.semantics.proofs.Reader.{reads-back, read-sound}
use Rattle.ty.specs.declared.form.Before.{Before}
use Rattle.ty.specs.Read.{key_end, kind_of, LabelsIn, IsStrict, TypeRead, key_of, in_order}
use Rattle.ty.specs.Form.{NameOk, EachF, EachS, FormLaws, last_of, Seen, strict_may, strict_enough}
use Rattle.ty.proofs.Fields.{line-opens, union-letter, union-no-letter, names-ascend, ascend-names, After, after_on, after-back, after_none}
use Rattle.ty.proofs.Loops.{snoc-last}
use Rattle.ty.proofs.Sizes.{not-large, large-no}

-- ## What the form accepts

first-letter : (t : Ty) → get_or (line t) 0 0 ≡ kind_of t
unfolding line
first-letter t = rw (line-opens t []) refl

module _ (ks : List Bytes) (x : Bytes) where
  after-more : (xs : List Bytes) → After (length ks + 1) x xs → After (length (ks ++ (x ∷ []))) (last_of (ks ++ (x ∷ []))) xs
  after-more xs h = rw (length-append ks (x ∷ []), snoc-last ks x) h

  more-after : (xs : List Bytes) → After (length (ks ++ (x ∷ []))) (last_of (ks ++ (x ∷ []))) xs → After (length ks + 1) x xs
  more-after xs h = rw (length-append ks (x ∷ []), snoc-last ks x) at h

each-f : (ks : List Bytes) (fs : Fields) → NamedF fs → RegularF fs → After (length ks) (last_of ks) (map name_f (names fs)) → EachF IsStrict strict_may true ks fs
unfolding names
each-f ks ∅ᶠ f g a = tt
each-f ks (field m t fs) f g a =
    let (y, h) = after_on (length ks) (last_of ks) (name_f m) (map name_f (names fs)) a in
    (f.0, (f.1, g.0), y, each-f (ks ++ (name_f m ∷ [])) fs f.2 g.1 (after-more ks (name_f m) (map name_f (names fs)) h))

f-each : (ks : List Bytes) (fs : Fields) → EachF IsStrict strict_may true ks fs → NamedF fs × RegularF fs × After (length ks) (last_of ks) (map name_f (names fs))
unfolding names
f-each ks ∅ᶠ w = (tt, tt, after_none (length ks) (last_of ks))
f-each ks (field m t fs) (o, p, y, w) =
    let (f, g, h) = f-each (ks ++ (name_f m ∷ [])) fs w in
    ((o, p.0, f), (p.1, g), after-back (length ks) (last_of ks) (name_f m) (map name_f (names fs)) y (more-after ks (name_f m) (map name_f (names fs)) h))

each-s : (ks : List Bytes) (ts : Tys) → NamedS ts → RegularS ts → After (length ks) (last_of ks) (map line (members ts)) → EachS IsStrict strict_may ks ts
unfolding members
each-s ks ∅ f g a = tt
each-s ks (t ⊕ ts) f g a =
    let (y, h) = after_on (length ks) (last_of ks) (line t) (map line (members ts)) a in
    let u = ne_eqb (get_or (line t) 0 0) 79 (λ z. union-letter t g.0 (sym (first-letter t) ∙ z)) in
    ((f.0, g.1), rw u y, each-s (ks ++ (line t ∷ [])) ts f.1 g.2 (after-more ks (line t) (map line (members ts)) h))

s-each : (ks : List Bytes) (ts : Tys) → EachS IsStrict strict_may ks ts → NamedS ts × RegularS ts × After (length ks) (last_of ks) (map line (members ts))
unfolding members
s-each ks ∅ w = (tt, tt, after_none (length ks) (last_of ks))
s-each ks (t ⊕ ts) (p, y, w) =
    let (f, g, h) = s-each (ks ++ (line t ∷ [])) ts w in
    let z = (and-eq-true_iff (not (eqb (get_or (line t) 0 0) 79)) (in_order (length ks) (last_of ks) (line t))).0 y in
    let u = union-no-letter t (λ e. eqb-false (get_or (line t) 0 0) 79 (not-true (eqb (get_or (line t) 0 0) 79) z.0) (first-letter t ∙ e)) in
    ((p.0, f), (u, p.1, g), after-back (length ks) (last_of ks) (line t) (map line (members ts)) z.1 (more-after ks (line t) (map line (members ts)) h))

node-fine : (ls : Option (List Bytes)) → Maybe (LabelsIn true) ls → IsStrict (t_node ls)
node-fine none w = (tt, tt)
node-fine (some ls) w = w

node-labels : (ls : Option (List Bytes)) → IsStrict (t_node ls) → Maybe (LabelsIn true) ls
node-labels none w = tt
node-labels (some ls) w = w

name-fine : (n : Option Bytes) → Maybe (NameOk true) n → IsStrict (t_relationship n)
name-fine none w = (tt, tt)
name-fine (some n) w = (w, tt)

name-known : (n : Option Bytes) → IsStrict (t_relationship n) → Maybe (NameOk true) n
name-known none w = tt
name-known (some n) w = w.0

map-fine : (fs : Fields) → EachF IsStrict strict_may true [] fs → IsStrict (t_map fs)
unfolding last_of
map-fine fs w = let (f, g, a) = f-each [] fs w in (f, (ascend-names (names fs) a, g))

entries-fine : (fs : Fields) → IsStrict (t_map fs) → EachF IsStrict strict_may true [] fs
unfolding last_of
entries-fine fs h = each-f [] fs h.0 h.1.1 (names-ascend (names fs) h.1.0)

union-fine : (ts : Tys) → EachS IsStrict strict_may [] ts → leb 2 (length (members ts)) ≡ true → IsStrict (t_union ts)
unfolding last_of
union-fine ts w n = let (f, g, a) = s-each [] ts w in (f, (leb-true 2 (length (members ts)) n, a, g))

members-fine : (ts : Tys) → IsStrict (t_union ts) → EachS IsStrict strict_may [] ts × (leb 2 (length (members ts)) ≡ true)
unfolding last_of
members-fine ts h = (each-s [] ts h.0 h.1.2 h.1.1, le-leb 2 (length (members ts)) h.1.0)

pub strict_laws : FormLaws IsStrict (LabelsIn true) strict_may strict_enough true
strict_laws =
    record {
      base_fine = λ c. (tt, tt);
      node_fine = node-fine;
      node_labels = node-labels;
      relationship_fine = name-fine;
      relationship_name = name-known;
      list_fine = λ t w. w;
      element_fine = λ t w. w;
      map_fine = map-fine;
      entries_fine = entries-fine;
      union_fine = union-fine;
      members_fine = members-fine;
    }

-- ## What follows a part

pub told-order : (k : ℕ) (s : Bytes) (b : Before) (ks : List Bytes) (x : Bytes) → Seen k s b ks → in_order b.count (key_of k s b.last b.to) x ≡ in_order (length ks) (last_of ks) x
unfolding in_order
told-order k s b [] x h = rw (sym h.count) refl
told-order k s b (y ∷ ks) x h = rw (sym h.count, h.last (omega arith)) refl

pub told-member : (s : Bytes) (b : Before) (e : ℕ) (ks : List Bytes) → Seen 79 s b ks → b.to < e → e ≤ length s → (get_or s b.to 0 ≡ 79 → ⊥)
    → (r : Bool) → r ≡ in_order b.count (slice b.last b.to s) (slice b.to e s) → r ≡ strict_may 79 ks (slice b.to e s)
unfolding key_end
told-member s b e ks h i o u r f =
    let first : get_or (slice b.to e s) 0 0 ≡ get_or s b.to 0 = ap (λ (l : Bytes). get_or l 0 0) (slice-cons b.to e s 0 i o) in
    rw (ne_eqb (get_or (slice b.to e s) 0 0) 79 (λ y. u (sym first ∙ y))) (f ∙ told-order 79 s b ks (slice b.to e s) h)

-- ## The whole text

module _ (s : Bytes) where
  no_line : ((t : Ty) → line t ≡ s → (regular t ≡ true) × (too_large t ≡ false) × Named t → ⊥) → false ≡ is_found (type_line s)
  no_line h = go (type_line s) refl
    where
      go : (o : Option Ty) → type_line s ≡ o → false ≡ is_found o
      go none e = refl
      go (some t) e = let (x, g, l, n) = read-sound s t e in absurd (h t x (g, l, n))

  pub line-long : type_limit < length s → false ≡ is_found (type_line s)
  line-long h = no_line (λ t e w. omega (arith, (large-no t w.1).0, ap length e))

  pub line_read : (res : StdOption ℕ) → TypeRead IsStrict s 0 nesting_limit res → length s ≤ type_limit → option_eq eqb res (Some (length s)) ≡ is_found (type_line s)
  unfolding line
  line_read None h m = no_line (λ t e w. h t [] (sym e) ((w.2, regular-sound t w.0), (large-no t w.1).1))
  line_read (Some e) w m = go (eqb e (length s)) refl
    where
      go : (b : Bool) → eqb e (length s) ≡ b → b ≡ is_found (type_line s)
      go true x =
          let l = eqb-true e (length s) x in
          let y : drop e s ≡ [] = drop_of_length-le s {i = e} (omega arith) in
          let q : s ≡ line w.0 = w.1 ∙ ap (line_to w.0) y in
          let f = reads-back w.0 w.2.0.0 (regular-true w.0 w.2.0.1) (not-large w.0 (omega (arith, ap length q)) w.2.1) in
          sym (ap is_found (ap type_line q ∙ f))
      go false x = no_line (λ t d g. eqb-false e (length s) x (omega (arith, w.4, length-drop e s, ap length (line-inj w.0 t (drop e s) [] (sym w.1 ∙ sym d)).1)))
