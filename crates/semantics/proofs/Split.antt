-- A type line split at its commas: the fields of the type. Assumes nothing.
use mathlib.Core.Path.{◌≡◌, refl, sym, ◌∙◌, ap}
use mathlib.Core.List.{List, [], ◌∷◌, ◌++◌, map}
use mathlib.Core.Option.{Option, none, some}
use mathlib.Core.Bool.{Bool, true, false}
use Prim.Native.Nat.{ℕ}
use native.Mathlib.Omega.{arith}
use lib.Dec.{eqb}
use borrow.Author.Tests.{eqb-true, ne_eqb}
use Rattle.semantics.specs.Bytes.{Bytes, front, split, hex}
use Rattle.semantics.specs.Ty.{Base, t_any, t_null, t_bool, t_int, t_float, t_num, t_string, t_date, t_datetime, t_path, t_unknown, Ty, base, t_list, t_map, t_node, t_relationship, t_union, Tys, ∅, ◌⊕◌, Fields, ∅ᶠ, field, letter, name_to, names_to, labels_to, rel_to, line_to, members_to, fields_to}
use Rattle.semantics.proofs.Order.{hex-low}

-- ## A text is told by its pieces

more : ℕ → List Bytes → Bytes
more c [] = []
more c (p ∷ ps) = c ∷ p ++ more c ps

joined : ℕ → List Bytes → Bytes
joined c [] = []
joined c (p ∷ ps) = p ++ more c ps

more-front : (c x : ℕ) (ps : List Bytes) → more c (front x ps) ≡ c ∷ joined c (front x ps)
unfolding more joined front
more-front c x [] = refl
more-front c x (p ∷ ps) = refl

joined-front : (c x : ℕ) (ps : List Bytes) → joined c (front x ps) ≡ x ∷ joined c ps
unfolding more joined front
joined-front c x [] = refl
joined-front c x (p ∷ ps) = refl

more-split : (c : ℕ) (s : Bytes) → more c (split c s) ≡ c ∷ joined c (split c s)
unfolding more joined split
more-split c [] = refl
more-split c (x ∷ s) = go (eqb x c) refl
  where
    go : (b : Bool) → eqb x c ≡ b → more c (split c (x ∷ s)) ≡ c ∷ joined c (split c (x ∷ s))
    go true e = rw (e, split)
    go false e = rw (e, split) (more-front c x (split c s))

joined-split : (c : ℕ) (s : Bytes) → joined c (split c s) ≡ s
unfolding more joined split
joined-split c [] = refl
joined-split c (x ∷ s) = go (joined-split c s) (eqb x c) refl
  where
    go : joined c (split c s) ≡ s → (b : Bool) → eqb x c ≡ b → joined c (split c (x ∷ s)) ≡ x ∷ s
    go ih true e = rw (e, split) (let d = eqb-true x c e in let m = more-split c s in cc)
    go ih false e = rw (e, split) (joined-front c x (split c s) ∙ ap (λ (r : Bytes). x ∷ r) ih)

pub split-inj : (c : ℕ) (a b : Bytes) → split c a ≡ split c b → a ≡ b
split-inj c a b e = sym (joined-split c a) ∙ ap (joined c) e ∙ joined-split c b

-- ## The fields of a type, before what follows it

abbrev pub closing : Bytes
closing = 33 ∷ []

unfoldable pub opening : Ty → Bytes
opening (base b) = letter b ∷ []
opening (t_list t) = 74 ∷ []
opening (t_map fs) = 75 ∷ []
opening (t_node ls) = 76 ∷ []
opening (t_relationship n) = 77 ∷ []
opening (t_union ts) = 79 ∷ []

abbrev pub name_f : Bytes → Bytes
name_f n = map hex n

unfoldable pub names_f : List Bytes → List Bytes → List Bytes
names_f [] r = closing ∷ r
names_f (n ∷ ns) r = name_f n ∷ names_f ns r

unfoldable pub option_f : {A : Type 0} → (A → List Bytes → List Bytes) → Option A → List Bytes → List Bytes
option_f f none r = closing ∷ r
option_f f (some a) r = (43 ∷ []) ∷ f a r

unfoldable mutual
  pub inside : Ty → List Bytes → List Bytes
  inside (base b) r = r
  inside (t_list t) r = opening t ∷ inside t r
  inside (t_map fs) r = entries_f fs r
  inside (t_node ls) r = option_f names_f ls r
  inside (t_relationship n) r = option_f (λ m q. name_f m ∷ q) n r
  inside (t_union ts) r = members_f ts r

  pub members_f : Tys → List Bytes → List Bytes
  members_f ∅ r = closing ∷ r
  members_f (t ⊕ ts) r = opening t ∷ inside t (members_f ts r)

  pub entries_f : Fields → List Bytes → List Bytes
  entries_f ∅ᶠ r = closing ∷ r
  entries_f (field n t fs) r = name_f n ∷ opening t ∷ inside t (entries_f fs r)

abbrev pub type_f : Ty → List Bytes → List Bytes
type_f t r = opening t ∷ inside t r

-- ## A line's pieces are the type's fields

split-name : (n s : Bytes) → split 44 (name_to n s) ≡ name_f n ∷ split 44 s
unfolding split front name_to
split-name [] s = refl
split-name (d ∷ n) s = rw (ne_eqb (hex d) 44 (λ e. omega (arith, hex-low d)), split) (ap (front (hex d)) (split-name n s))

split-names : (ns : List Bytes) (s : Bytes) → split 44 (names_to ns s) ≡ names_f ns (split 44 s)
unfolding split front names_to names_f
split-names [] s = refl
split-names (n ∷ ns) s = split-name n (names_to ns s) ∙ ap (λ (r : List Bytes). name_f n ∷ r) (split-names ns s)

split-labels : (ls : Option (List Bytes)) (s : Bytes) → split 44 (labels_to ls s) ≡ option_f names_f ls (split 44 s)
unfolding split front labels_to option_f
split-labels none s = refl
split-labels (some ls) s = ap (λ (r : List Bytes). (43 ∷ []) ∷ r) (split-names ls s)

split-rel : (n : Option Bytes) (s : Bytes) → split 44 (rel_to n s) ≡ option_f (λ m r. name_f m ∷ r) n (split 44 s)
unfolding split front rel_to option_f
split-rel none s = refl
split-rel (some n) s = ap (λ (r : List Bytes). (43 ∷ []) ∷ r) (split-name n s)

split-letter : (b : Base) (s : Bytes) → split 44 (letter b ∷ 44 ∷ s) ≡ (letter b ∷ []) ∷ split 44 s
unfolding split front letter
split-letter b s = elim b as (λ k. split 44 (letter k ∷ 44 ∷ s) ≡ (letter k ∷ []) ∷ split 44 s) [ t_any ↦ refl | t_null ↦ refl | t_bool ↦ refl | t_int ↦ refl | t_float ↦ refl | t_num ↦ refl | t_string ↦ refl | t_date ↦ refl | t_datetime ↦ refl | t_path ↦ refl | t_unknown ↦ refl ]

mutual
  unfolding split front line_to opening inside

  pub split-line : (t : Ty) (s : Bytes) → split 44 (line_to t s) ≡ type_f t (split 44 s)
  split-line (base b) s = split-letter b s
  split-line (t_list t) s = ap (λ (r : List Bytes). (74 ∷ []) ∷ r) (split-line t s)
  split-line (t_map fs) s = ap (λ (r : List Bytes). (75 ∷ []) ∷ r) (split-entries fs s)
  split-line (t_node ls) s = ap (λ (r : List Bytes). (76 ∷ []) ∷ r) (split-labels ls s)
  split-line (t_relationship n) s = ap (λ (r : List Bytes). (77 ∷ []) ∷ r) (split-rel n s)
  split-line (t_union ts) s = ap (λ (r : List Bytes). (79 ∷ []) ∷ r) (split-members ts s)

  split-members : (ts : Tys) (s : Bytes) → split 44 (members_to ts s) ≡ members_f ts (split 44 s)
  split-members ∅ s = refl
  split-members (t ⊕ ts) s = split-line t (members_to ts s) ∙ ap (type_f t) (split-members ts s)

  split-entries : (fs : Fields) (s : Bytes) → split 44 (fields_to fs s) ≡ entries_f fs (split 44 s)
  split-entries ∅ᶠ s = refl
  split-entries (field n t fs) s = split-name n (line_to t (fields_to fs s)) ∙ ap (λ (r : List Bytes). name_f n ∷ r) (split-line t (fields_to fs s) ∙ ap (type_f t) (split-entries fs s))
