-- Laws of the functions, of the search by name, of the shapes, and of the return type at the front. Assumes nothing.
use Prim.Native.Nat.{ℕ, ◌+◌, ◌≤◌}
use native.Mathlib.Omega.{arith}
use mathlib.Core.Path.{◌≡◌, refl, sym, ap, ◌∙◌}
use mathlib.Core.List.{List, [], ◌∷◌, map}
use mathlib.Core.Option.{some}
use mathlib.Core.Bool.{Bool, true, false, false≢true}
use mathlib.Core.Logic.{inl, inr}
use lib.Dec.{eqb}
use Rattle.std.proofs.lemmas.Bool.{eqb-true, eqb-false}
use Rattle.std.specs.Bool.{then_some}
use Rattle.std.specs.List.{list_any, find}
use lib.ListN.{length, take, drop, get_or}
use lib.Seq.{slice, sets, length-sets, length-slice}
use Rattle.semantics.specs.Bytes.{Bytes, text, same, unhex, hex}
use Rattle.semantics.specs.Ty.{Base, t_any, t_null, t_bool, t_int, t_float, t_num, t_string, t_date, t_datetime, t_path, t_unknown, Ty, base, t_list, t_map, t_node, t_relationship, t_union, letter, line_to, line}
use Rattle.semantics.specs.Builtins.{ArgShape, s_any, s_list, s_string, s_list_or_string, s_graph_entity, s_map, s_graph_entity_or_map, list_element, list_self, signature, Builtin, builtin_id, builtin_size, builtin_head, builtin_tail, builtin_last, builtin_keys, builtin_values, lower, lookup, lookup_in, accepts, accepts_base, takes_all, describe, element_of, list_or, resolve_return}
use Rattle.semantics.proofs.Named.{Digits}
use Rattle.text.specs.Text.{digit_of}
use Rattle.text.proofs.Laws.{slice-sets, drop-slice}
use Rattle.text.proofs.Words.{values-hex, values-unhex}
use Rattle.ty.specs.Read.{kind_of, ListLine}
use Rattle.ty.specs.Parts.{TypeAt}
use Rattle.ty.proofs.KindLaws.{kind_at, two_at}
use Rattle.builtins.specs.declared.shapes.ReturnShape.TheVariants.{ListElement, ListSelf}
use Rattle.builtins.specs.declared.Builtin.{Builtin as Code}
use Rattle.builtins.specs.declared.shapes.FixedTy.{FixedTy}
use Rattle.builtins.specs.declared.shapes.FixedTy.TheVariants.{Int, ListString, ListAny}
use Rattle.std.specs.Prelude.{Option as Found, Some, None}
use Rattle.builtins.specs.Rows.{return_of, fixed_of, builtin_of, found_of, FirstAt, Unlisted, ListAt, Returned}

-- ## Names

pub name-short : (b : Builtin) → length (signature b).name ≤ 6
unfolding signature text
name-short b = elim b as (λ k. length (signature k).name ≤ 6) [ builtin_id ↦ omega arith | builtin_size ↦ omega arith | builtin_head ↦ omega arith | builtin_tail ↦ omega arith | builtin_last ↦ omega arith | builtin_keys ↦ omega arith | builtin_values ↦ omega arith ]

-- the names are in lower case
lower-name : (b : Builtin) → map lower (signature b).name ≡ (signature b).name
unfolding signature text
lower-name b = elim b as (λ k. map lower (signature k).name ≡ (signature k).name) [ builtin_id ↦ refl | builtin_size ↦ refl | builtin_head ↦ refl | builtin_tail ↦ refl | builtin_last ↦ refl | builtin_keys ↦ refl | builtin_values ↦ refl ]

-- the first of a list of functions that has the name s
unfoldable pub of-name : Bytes → Code → Bool
of-name s b = same s (map lower (signature (builtin_of b)).name)

pub found-first : (s : Bytes) (bs : List Code) → found_of (find (of-name s) bs) ≡ lookup_in s (map builtin_of bs)
unfolding lookup_in of-name
found-first s [] = refl
found-first s (b ∷ bs) = go (same s (signature (builtin_of b)).name) refl (found-first s bs)
  where
    go : (x : Bool) → same s (signature (builtin_of b)).name ≡ x → found_of (find (of-name s) bs) ≡ lookup_in s (map builtin_of bs) → found_of (find (of-name s) (b ∷ bs)) ≡ lookup_in s (builtin_of b ∷ map builtin_of bs)
    go true e h = rw (lower-name (builtin_of b), e, lookup_in)
    go false e h = rw (lower-name (builtin_of b), e, lookup_in) h

-- the same function by the digits that a text stands for
pub lookup-hex : (ds : Bytes) → Digits ds → lookup (map digit_of (map hex ds)) ≡ lookup ds
lookup-hex ds h = ap lookup (values-hex ds h)

pub lookup-unhex : (s ds : Bytes) → unhex s ≡ some ds → lookup (map digit_of s) ≡ lookup ds
lookup-unhex s ds e = ap lookup (values-unhex s ds e)

-- ## Shapes

-- the letters of the types that a shape accepts, but for the shape that takes all
abbrev pub letters : ArgShape → List ℕ
letters s_any = []
letters s_list = 74 ∷ 65 ∷ 80 ∷ []
letters s_string = 71 ∷ 65 ∷ 80 ∷ []
letters s_list_or_string = 74 ∷ 71 ∷ 65 ∷ 80 ∷ []
letters s_graph_entity = 76 ∷ 77 ∷ 78 ∷ 65 ∷ 80 ∷ []
letters s_map = 75 ∷ 65 ∷ 80 ∷ []
letters s_graph_entity_or_map = 76 ∷ 77 ∷ 75 ∷ 65 ∷ 80 ∷ []

abbrev pub names : ArgShape → ℕ → Bool
names s k = list_any (λ y. eqb y k) (letters s)

-- what holds of the other six
six : (P : ArgShape → Type 0) → P s_list → P s_string → P s_list_or_string → P s_graph_entity → P s_map → P s_graph_entity_or_map → (s : ArgShape) → takes_all s ≡ false → P s
six P a b c d e f s_any h = absurd (false≢true (sym h))
six P a b c d e f s_list h = a
six P a b c d e f s_string h = b
six P a b c d e f s_list_or_string h = c
six P a b c d e f s_graph_entity h = d
six P a b c d e f s_map h = e
six P a b c d e f s_graph_entity_or_map h = f

pub accepts-named : (s : ArgShape) → takes_all s ≡ false → (t : Ty) → accepts s t ≡ names s (kind_of t)
unfolding accepts accepts_base kind_of letter
accepts-named s h (base t_any) = six (λ k. accepts k (base t_any) ≡ names k (kind_of (base t_any))) refl refl refl refl refl refl s h
accepts-named s h (base t_null) = six (λ k. accepts k (base t_null) ≡ names k (kind_of (base t_null))) refl refl refl refl refl refl s h
accepts-named s h (base t_bool) = six (λ k. accepts k (base t_bool) ≡ names k (kind_of (base t_bool))) refl refl refl refl refl refl s h
accepts-named s h (base t_int) = six (λ k. accepts k (base t_int) ≡ names k (kind_of (base t_int))) refl refl refl refl refl refl s h
accepts-named s h (base t_float) = six (λ k. accepts k (base t_float) ≡ names k (kind_of (base t_float))) refl refl refl refl refl refl s h
accepts-named s h (base t_num) = six (λ k. accepts k (base t_num) ≡ names k (kind_of (base t_num))) refl refl refl refl refl refl s h
accepts-named s h (base t_string) = six (λ k. accepts k (base t_string) ≡ names k (kind_of (base t_string))) refl refl refl refl refl refl s h
accepts-named s h (base t_date) = six (λ k. accepts k (base t_date) ≡ names k (kind_of (base t_date))) refl refl refl refl refl refl s h
accepts-named s h (base t_datetime) = six (λ k. accepts k (base t_datetime) ≡ names k (kind_of (base t_datetime))) refl refl refl refl refl refl s h
accepts-named s h (base t_path) = six (λ k. accepts k (base t_path) ≡ names k (kind_of (base t_path))) refl refl refl refl refl refl s h
accepts-named s h (base t_unknown) = six (λ k. accepts k (base t_unknown) ≡ names k (kind_of (base t_unknown))) refl refl refl refl refl refl s h
accepts-named s h (t_list t) = six (λ k. accepts k (t_list t) ≡ names k (kind_of (t_list t))) refl refl refl refl refl refl s h
accepts-named s h (t_map fs) = six (λ k. accepts k (t_map fs) ≡ names k (kind_of (t_map fs))) refl refl refl refl refl refl s h
accepts-named s h (t_node ls) = six (λ k. accepts k (t_node ls) ≡ names k (kind_of (t_node ls))) refl refl refl refl refl refl s h
accepts-named s h (t_relationship n) = six (λ k. accepts k (t_relationship n) ≡ names k (kind_of (t_relationship n))) refl refl refl refl refl refl s h
accepts-named s h (t_union ts) = six (λ k. accepts k (t_union ts) ≡ names k (kind_of (t_union ts))) refl refl refl refl refl refl s h

pub accepts_all : (t : Ty) → accepts s_any t ≡ true
unfolding accepts accepts_base
accepts_all (base b) = elim b as (λ k. accepts_base s_any k ≡ true) [ t_any ↦ refl | t_null ↦ refl | t_bool ↦ refl | t_int ↦ refl | t_float ↦ refl | t_num ↦ refl | t_string ↦ refl | t_date ↦ refl | t_datetime ↦ refl | t_path ↦ refl | t_unknown ↦ refl ]
accepts_all (t_list t) = refl
accepts_all (t_map fs) = refl
accepts_all (t_node ls) = refl
accepts_all (t_relationship n) = refl
accepts_all (t_union ts) = refl

pub describe-short : (s : ArgShape) → length (describe s) ≤ 26
unfolding describe text
describe-short s = elim s as (λ k. length (describe k) ≤ 26) [ s_any ↦ omega arith | s_list ↦ omega arith | s_string ↦ omega arith | s_list_or_string ↦ omega arith | s_graph_entity ↦ omega arith | s_map ↦ omega arith | s_graph_entity_or_map ↦ omega arith ]

-- ## Returns

-- a type line written at the front
pub front-line : (s : Bytes) (t : Ty) → length (line t) ≤ length s → Returned s (sets s 0 (line t)) t (length (line t))
front-line s t h =
    record {
      at = record { ordered = omega arith; inside = omega (arith, length-sets s 0 (line t)); is = put };
      long = length-sets s 0 (line t);
    }
  where
    zero-plus : (n : ℕ) → 0 + n ≡ n
    zero-plus n = omega arith

    put : slice 0 (length (line t)) (sets s 0 (line t)) ≡ line t
    put = ap (λ (k : ℕ). slice 0 k (sets s 0 (line t))) (sym (zero-plus (length (line t)))) ∙ slice-sets s 0 (line t) (omega arith)

pub front-text : (s x s' : Bytes) (r : ℕ) (t : Ty) → 4 ≤ length s → x ≡ line t → length x ≤ 4 → r ≡ 0 + length x → s' ≡ sets s 0 x → Returned s s' t r
front-text s x s' r t h e k p q =
    let r' : r ≡ length (line t) = omega (arith, ap length e) in
    let w : s' ≡ sets s 0 (line t) = q ∙ ap (sets s 0) e in
    rw (r', w) (front-line s t (omega (arith, ap length e)))

pub list-element : (s : Bytes) (n : ℕ) (t : Ty) → TypeAt s 0 n t → get_or s 0 0 ≡ 74 → (u : Ty) × (t ≡ t_list u) × (slice 2 n s ≡ line u)
list-element s n t h e = go t (sym (kind_at s 0 n t h) ∙ e) h.is
  where
    plain : (b : Base) → letter b ≡ 74 → ⊥
    plain b = unfold letter in elim b as (λ k. letter k ≡ 74 → ⊥) [ t_any ↦ λ q. omega arith | t_null ↦ λ q. omega arith | t_bool ↦ λ q. omega arith | t_int ↦ λ q. omega arith | t_float ↦ λ q. omega arith | t_num ↦ λ q. omega arith | t_string ↦ λ q. omega arith | t_date ↦ λ q. omega arith | t_datetime ↦ λ q. omega arith | t_path ↦ λ q. omega arith | t_unknown ↦ λ q. omega arith ]

    go : (t : Ty) → kind_of t ≡ 74 → slice 0 n s ≡ line t → (u : Ty) × (t ≡ t_list u) × (slice 2 n s ≡ line u)
    go (base b) q w = absurd (plain b (unfold kind_of in q))
    go (t_list u) q w = (u, refl, sym (drop-slice 2 0 n s) ∙ ap (drop 2) w ∙ unfold line line_to in refl)
    go (t_map fs) q w = absurd (unfold kind_of in omega arith)
    go (t_node ls) q w = absurd (unfold kind_of in omega arith)
    go (t_relationship m) q w = absurd (unfold kind_of in omega arith)
    go (t_union ts) q w = absurd (unfold kind_of in omega arith)

-- what the first argument's type says where no list type stands
unlisted-type : (s : Bytes) (n : ℕ) (t : Ty) → TypeAt s 0 n t → Unlisted s (Some n) → (element_of t ≡ base t_any) × (list_or (t_list (base t_any)) t ≡ t_list (base t_any))
unlisted-type s n t h (inl e) = absurd (let z : ◌≡◌ {A = ℕ} 0 1 = cc in omega arith)
unlisted-type s n t h (inr d) = go t (λ q. d (kind_at s 0 n t h ∙ q))
  where
    go : (t : Ty) → (kind_of t ≡ 74 → ⊥) → (element_of t ≡ base t_any) × (list_or (t_list (base t_any)) t ≡ t_list (base t_any))
    go (base b) q = unfold element_of list_or in (refl, refl)
    go (t_list u) q = absurd (q (unfold kind_of in refl))
    go (t_map fs) q = unfold element_of list_or in (refl, refl)
    go (t_node ls) q = unfold element_of list_or in (refl, refl)
    go (t_relationship m) q = unfold element_of list_or in (refl, refl)
    go (t_union ts) q = unfold element_of list_or in (refl, refl)

unlisted : (s : Bytes) (o : Found ℕ) (ts : List Ty) → FirstAt s o ts → Unlisted s o → (resolve_return list_element ts ≡ base t_any) × (resolve_return list_self ts ≡ t_list (base t_any))
unfolding resolve_return
unlisted s o [] h u = (refl, refl)
unlisted s None (t ∷ ts) h u = absurd h
unlisted s (Some n) (t ∷ ts) h u = unlisted-type s n t h u

-- the list that is the first argument, by the first letter
pub list-tested : (s : Bytes) {o : Found ℕ} {n : ℕ} → o ≡ Some n → ListAt s o (then_some (eqb (get_or s 0 0) 74) n)
list-tested s {o} {n} e = go (eqb (get_or s 0 0) 74) refl
  where
    go : (b : Bool) → eqb (get_or s 0 0) 74 ≡ b → ListAt s o (then_some b n)
    go true q = (e, eqb-true (get_or s 0 0) 74 q)
    go false q = inr (eqb-false (get_or s 0 0) 74 q)

-- what `ty::element` ensures: of a list's line that of its element
abbrev pub HandsBack : Bytes → Bytes → Type 0
HandsBack s el = (t : Ty) → s ≡ line (t_list t) → el ≡ line t

pub first-line : (s : Bytes) (n : ℕ) (ts : List Ty) → FirstAt s (Some n) ts → get_or s 0 0 ≡ 74 → ListLine (take n s)
first-line s n [] h e = absurd h
first-line s n (t ∷ ts) h e = let (u, w, v) = list-element s n t h e in record { element = u; is = h.is ∙ ap line w }

-- it stands inside
pub first-inside : (s : Bytes) (n : ℕ) (ts : List Ty) → FirstAt s (Some n) ts → n ≤ length s
first-inside s n [] h = absurd h
first-inside s n (t ∷ ts) h = h.inside

pub first-long : (s el : Bytes) (n : ℕ) (ts : List Ty) → FirstAt s (Some n) ts → get_or s 0 0 ≡ 74 → HandsBack (take n s) el → 2 + length el ≡ n
first-long s el n [] h e z = absurd h
first-long s el n (t ∷ ts) h e z =
    let (u, w, v) = list-element s n t h e in
    omega (arith, ap length (z u (h.is ∙ ap line w)), ap length v, length-slice 2 n s h.inside, two_at s 0 n t h)

pub element-returned : (s s' el : Bytes) (n : ℕ) (ts : List Ty) → FirstAt s (Some n) ts → get_or s 0 0 ≡ 74 → HandsBack (take n s) el → s' ≡ sets s 0 (slice 2 (2 + length el) s)
    → Returned s s' (resolve_return (return_of ListElement) ts) (length el)
unfolding resolve_return element_of
element-returned s s' el n [] h e z q = absurd h
element-returned s s' el n (t ∷ ts) h e z q =
    let (u, w, v) = list-element s n t h e in
    let is : el ≡ line u = z u (h.is ∙ ap line w) in
    let long = first-long s el n (t ∷ ts) h e z in
    let x : s' ≡ sets s 0 (line u) = q ∙ ap (λ (k : ℕ). sets s 0 (slice 2 k s)) long ∙ ap (sets s 0) v in
    rw (w, x, is) (front-line s u (omega (arith, long, ap length is, h.inside)))

pub element-other : (s s' : Bytes) (o : Found ℕ) (r : ℕ) (ts : List Ty) → FirstAt s o ts → Unlisted s o → 4 ≤ length s → r ≡ 0 + 2 → s' ≡ sets s 0 (65 ∷ 44 ∷ [])
    → Returned s s' (resolve_return (return_of ListElement) ts) r
unfolding line line_to letter
element-other s s' o r ts h u k e q = rw (unlisted s o ts h u).0 (front-text s (65 ∷ 44 ∷ []) s' r (base t_any) k refl (omega arith) e q)

pub self-returned : (s : Bytes) (n : ℕ) (ts : List Ty) → FirstAt s (Some n) ts → get_or s 0 0 ≡ 74 → Returned s s (resolve_return (return_of ListSelf) ts) n
unfolding resolve_return list_or
self-returned s n [] h e = absurd h
self-returned s n (t ∷ ts) h e = let (u, w, v) = list-element s n t h e in rw w (record { at = rw w at h; long = refl })

pub self-other : (s s' : Bytes) (o : Found ℕ) (r : ℕ) (ts : List Ty) → FirstAt s o ts → Unlisted s o → 4 ≤ length s → r ≡ 0 + 4 → s' ≡ sets s 0 (74 ∷ 44 ∷ 65 ∷ 44 ∷ [])
    → Returned s s' (resolve_return (return_of ListSelf) ts) r
unfolding line line_to letter
self-other s s' o r ts h u k e q = rw (unlisted s o ts h u).1 (front-text s (74 ∷ 44 ∷ 65 ∷ 44 ∷ []) s' r (t_list (base t_any)) k refl (omega arith) e q)

pub fixed-short : (t : FixedTy) → length (line (fixed_of t)) ≤ 4
unfolding line line_to letter
fixed-short Int = omega arith
fixed-short ListString = omega arith
fixed-short ListAny = omega arith
