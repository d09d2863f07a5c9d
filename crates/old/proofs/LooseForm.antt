-- The loose form: what it accepts, part by part. Assumes nothing.
use mathlib.Core.Path.{◌≡◌, refl, sym, ◌∙◌, ap, subst}
use mathlib.Core.List.{List, [], ◌∷◌, ◌++◌, map, append_assoc}
use mathlib.Core.Option.{Option, none, some}
use mathlib.Core.Bool.{Bool, true, false}
use Prim.Native.Nat.{ℕ}
use lib.Seq.{slice}
use Rattle.semantics.specs.Bytes.{Bytes}
use Rattle.semantics.specs.Ty.{Base, Ty, base, t_list, t_map, t_node, t_relationship, t_union, Tys, ∅, ◌⊕◌, Fields, ∅ᶠ, field, names, line}
use Rattle.semantics.proofs.Named.{NamedF, NamedS, Maybe}
use Rattle.semantics.proofs.Split.{name_f}
use Rattle.ty.specs.declared.form.Before.{Before}
use Rattle.ty.specs.Read.{LabelsIn}
use Rattle.ty.specs.Form.{NameOk, EachF, EachS, FormLaws, Seen, SomePassed, SomeSeen}
use Rattle.ty.proofs.Loops.{map-snoc}
use Rattle.old_lines.specs.Old.{without, distinct, distinct_names, distinct_names_s, distinct_names_f}
use Rattle.old_lines.specs.Good.{Good}
use Rattle.old.specs.Read.{loose_may, new_text, NewText}
use Rattle.old_lines.proofs.Alike.{first-true, second-true}
use Rattle.old.proofs.Entered.{both, distinct_snoc, distinct-mid, without-hex}

any : ℕ → Bool
any n = true

no_more : (l : List Bytes) → l ++ [] ≡ l
no_more [] = refl
no_more (x ∷ l) = ap (λ (y : List Bytes). x ∷ y) (no_more l)

each-f : (ns : List Bytes) (fs : Fields) → NamedF fs → distinct_names_f fs ≡ true → distinct (ns ++ names fs) ≡ true → EachF Good loose_may true (map name_f ns) fs
unfolding names distinct_names
each-f ns ∅ᶠ f d c = tt
each-f ns (field m t fs) f d c =
    let more = each-f (ns ++ (m ∷ [])) fs f.2 (second-true (distinct_names t) (distinct_names_f fs) d) (ap distinct (append_assoc ns (m ∷ []) (names fs)) ∙ c) in
    (f.0, (f.1, first-true (distinct_names t) (distinct_names_f fs) d), without-hex m ns ∙ distinct-mid ns m (names fs) c, subst (λ (ks : List Bytes). EachF Good loose_may true ks fs) (map-snoc ns m) more)

f-each : (ns : List Bytes) (fs : Fields) → distinct ns ≡ true → EachF Good loose_may true (map name_f ns) fs → NamedF fs × (distinct_names_f fs ≡ true) × (distinct (ns ++ names fs) ≡ true)
unfolding names distinct_names
f-each ns ∅ᶠ d w = (tt, refl, ap distinct (no_more ns) ∙ d)
f-each ns (field m t fs) d (o, p, y, w) =
    let r = f-each (ns ++ (m ∷ [])) fs (distinct_snoc ns m d (sym (without-hex m ns) ∙ y)) (subst (λ (ks : List Bytes). EachF Good loose_may true ks fs) (sym (map-snoc ns m)) w) in
    ((o, p.0, r.0), both p.1 r.1, ap distinct (sym (append_assoc ns (m ∷ []) (names fs))) ∙ r.2)

each-s : (ks : List Bytes) (ts : Tys) → NamedS ts → distinct_names_s ts ≡ true → EachS Good loose_may ks ts
unfolding distinct_names
each-s ks ∅ f d = tt
each-s ks (t ⊕ ts) f d =
    ((f.0, first-true (distinct_names t) (distinct_names_s ts) d), refl, each-s (ks ++ (line t ∷ [])) ts f.1 (second-true (distinct_names t) (distinct_names_s ts) d))

s-each : (ks : List Bytes) (ts : Tys) → EachS Good loose_may ks ts → NamedS ts × (distinct_names_s ts ≡ true)
unfolding distinct_names
s-each ks ∅ w = (tt, refl)
s-each ks (t ⊕ ts) (p, y, w) = let r = s-each (ks ++ (line t ∷ [])) ts w in ((p.0, r.0), both p.1 r.1)

base-fine : (c : Base) → Good (base c)
unfolding distinct_names
base-fine c = (tt, refl)

node-fine : (ls : Option (List Bytes)) → Maybe (LabelsIn false) ls → Good (t_node ls)
unfolding distinct_names
node-fine none w = (tt, refl)
node-fine (some ls) w = (w.0, refl)

node-labels : (ls : Option (List Bytes)) → Good (t_node ls) → Maybe (LabelsIn false) ls
node-labels none w = tt
node-labels (some ls) w = (w.0, tt)

name-fine : (n : Option Bytes) → Maybe (NameOk true) n → Good (t_relationship n)
unfolding distinct_names
name-fine none w = (tt, refl)
name-fine (some n) w = (w, refl)

name-known : (n : Option Bytes) → Good (t_relationship n) → Maybe (NameOk true) n
name-known none w = tt
name-known (some n) w = w.0

list-fine : (t : Ty) → Good t → Good (t_list t)
unfolding distinct_names
list-fine t w = w

element-fine : (t : Ty) → Good (t_list t) → Good t
unfolding distinct_names
element-fine t w = w

map-fine : (fs : Fields) → EachF Good loose_may true [] fs → Good (t_map fs)
unfolding distinct_names distinct
map-fine fs w = let r = f-each [] fs refl w in (r.0, both r.2 r.1)

entries-fine : (fs : Fields) → Good (t_map fs) → EachF Good loose_may true [] fs
unfolding distinct_names
entries-fine fs h = each-f [] fs h.0 (second-true (distinct (names fs)) (distinct_names_f fs) h.1) (first-true (distinct (names fs)) (distinct_names_f fs) h.1)

union-fine : (ts : Tys) → EachS Good loose_may [] ts → true ≡ true → Good (t_union ts)
unfolding distinct_names
union-fine ts w n = s-each [] ts w

members-fine : (ts : Tys) → Good (t_union ts) → EachS Good loose_may [] ts × (true ≡ true)
unfolding distinct_names
members-fine ts h = (each-s [] ts h.0 h.1, refl)

pub loose_laws : FormLaws Good (LabelsIn false) loose_may (λ n. true) true
loose_laws =
    record {
      base_fine = base-fine;
      node_fine = node-fine;
      node_labels = node-labels;
      relationship_fine = name-fine;
      relationship_name = name-known;
      list_fine = list-fine;
      element_fine = element-fine;
      map_fine = map-fine;
      entries_fine = entries-fine;
      union_fine = union-fine;
      members_fine = members-fine;
    }

-- ## The names before one

pub some-passed : (s : Bytes) (b : Before) → SomeSeen 75 s b → SomePassed s b.from b.to
some-passed s b h = let u = h.seen.entries refl in record { entries = u.entries; at = u.at }

pub told-new : (s : Bytes) (b : Before) (e : ℕ) (r : Bool) → NewText s b.from b.to e r → (ks : List Bytes) → Seen 75 s b ks → r ≡ without (slice b.to e s) ks
unfolding new_text
told-new s b e r h ks w = let u = w.entries refl in h u.entries u.at ∙ ap (without (slice b.to e s)) (sym u.keys)
