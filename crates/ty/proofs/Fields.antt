-- Fields, letters and names at places of a text. Assumes nothing.
use mathlib.Core.Path.{◌≡◌, refl, sym, ◌∙◌, ap, ap₂, subst}
use mathlib.Core.List.{List, [], ◌∷◌, ◌++◌, map}
use mathlib.Core.Option.{Option, none, some}
use mathlib.Core.Bool.{Bool, true, false, cond, ◌&&◌, false≢true, and-eq-true_iff}
use Prim.Native.Nat.{Ordering}
use Prim.Native.Nat.{ℕ, zero, suc, ◌+◌, ◌≤◌, ◌<◌}
use native.Mathlib.Omega.{arith}
use native.Mathlib.Numerals.{add-one}
use lib.Dec.{eqb, ltb}
use lib.ListN.{length, drop, get_or, length-drop, get_or-eq_default}
use lib.Seq.{slice, drop-cons}
use borrow.Author.Tests.{eqb-true, ltb-true, ltb-false, eq-eqb, ne_eqb, lt-ltb}
use Rattle.std.specs.Prelude.{Some, None}
use Rattle.std.proofs.lemmas.Option.{none-some, same_Some}
use Rattle.text.specs.Text.{index_of}
use Rattle.text.specs.Text.{is_found}
use Rattle.text.proofs.Laws.{drop-join}
use Rattle.text.proofs.Words.{index-mark}
use Rattle.semantics.specs.Bytes.{Bytes, lex, hex}
use Rattle.semantics.specs.Ty.{Base, t_any, t_null, t_bool, t_int, t_float, t_num, t_string, t_date, t_datetime, t_path, t_unknown, Ty, base, t_list, t_map, t_node, t_relationship, t_union, letter, name_to, line_to, fields_to, members_to, labels_to, rel_to, is_below, is_union, nesting, read_name, base_in, bases}
use Rattle.semantics.proofs.Order.{Less, ends, here, next, less-trans, lex-lt, lex-gt, lex-eq, Tri, lt, eq, gt, tri}
use Rattle.semantics.proofs.Named.{Name, Maybe}
use Rattle.semantics.proofs.Split.{name_f}
use Rattle.semantics.proofs.Reader.{read_name_lem, name-sound}
use Rattle.semantics.proofs.Regular.{Ascends}
use Rattle.ty.specs.Parts.{TypeFrom}
use Rattle.ty.specs.declared.end.Content.{Content}
use Rattle.ty.specs.declared.end.Content.TheVariants.{Nothing, Labels, RelationshipName, Types}
use Rattle.ty.specs.Skip.{next_field}
use Rattle.ty.specs.Read.{field_at, letter_at, kind_of, content_of, name_in, in_order}
use Rattle.ty.proofs.Lines.{special, letter-away, name-to, comma-at, hex-bytes}
use Rattle.ty.proofs.Places.{byte_past, byte_at, part}
use Rattle.ty.proofs.Skips.{name-past}

-- ## One byte and a comma

two : (s : Bytes) (q : ℕ) → get_or s (q + 1) 0 ≡ 44 → (drop q s ≡ get_or s q 0 ∷ 44 ∷ drop (q + 2) s) × (q + 2 ≤ length s)
two s q h = go (ltb (q + 1) (length s)) refl
  where
    go : (b : Bool) → ltb (q + 1) (length s) ≡ b → (drop q s ≡ get_or s q 0 ∷ 44 ∷ drop (q + 2) s) × (q + 2 ≤ length s)
    go true e =
        let l = ltb-true (q + 1) (length s) e in
        let a = drop-cons s q 0 (omega arith) in
        let b = drop-cons s (suc q) 0 (omega arith) in
        let u : q + 1 ≡ suc q = add-one q in
        let v : q + 2 ≡ suc (suc q) = omega arith in
        let g : get_or s (suc q) 0 ≡ 44 = rw u at h in
        (rw v (a ∙ ap (λ (x : Bytes). get_or s q 0 ∷ x) (b ∙ ap (λ (y : ℕ). y ∷ drop (suc (suc q)) s) g)), omega arith)
    go false e = absurd (omega (arith, get_or-eq_default s 0 (ltb-false (q + 1) (length s) e)))

pub field-yes : (s : Bytes) (q b : ℕ) → field_at s q b ≡ true → (drop q s ≡ b ∷ 44 ∷ drop (q + 2) s) × (q + 2 ≤ length s)
unfolding field_at
field-yes s q b h =
    let p = (and-eq-true_iff (eqb (get_or s q 0) b) (eqb (get_or s (q + 1) 0) 44)).0 h in
    let x = two s q (eqb-true (get_or s (q + 1) 0) 44 p.1) in
    (rw (eqb-true (get_or s q 0) b p.0) at x.0, x.1)

pub field_is : (s : Bytes) (q b : ℕ) (x : Bytes) → drop q s ≡ b ∷ 44 ∷ x → field_at s q b ≡ true
unfolding field_at
field_is s q b x e = rw (eq-eqb (get_or s q 0) b (byte_at s q (44 ∷ x) b e), eq-eqb (get_or s (q + 1) 0) 44 (byte_past s q (b ∷ []) x 44 e))

pub letter-is : (s : Bytes) (q b : ℕ) (x : Bytes) → drop q s ≡ b ∷ 44 ∷ x → letter_at s q ≡ Some b
unfolding letter_at
letter-is s q b x e = rw (eq-eqb (get_or s (q + 1) 0) 44 (byte_past s q (b ∷ []) x 44 e)) (ap Some (byte_at s q (44 ∷ x) b e))

pub letter_at_lem : (s : Bytes) (q k : ℕ) → letter_at s q ≡ Some k → (drop q s ≡ k ∷ 44 ∷ drop (q + 2) s) × (q + 2 ≤ length s)
unfolding letter_at
letter_at_lem s q k e = go (eqb (get_or s (q + 1) 0) 44) refl e
  where
    go : (b : Bool) → eqb (get_or s (q + 1) 0) 44 ≡ b → cond b (Some (get_or s q 0)) None ≡ Some k → (drop q s ≡ k ∷ 44 ∷ drop (q + 2) s) × (q + 2 ≤ length s)
    go true f g = rw (same_Some (get_or s q 0) k g) at (two s q (eqb-true (get_or s (q + 1) 0) 44 f))
    go false f g = absurd (none-some k g)

-- ## The letter of a type and what stands behind it

unfoldable pub inside_to : Ty → Bytes → Bytes
inside_to (base b) r = r
inside_to (t_list t) r = line_to t r
inside_to (t_map fs) r = fields_to fs r
inside_to (t_node ls) r = labels_to ls r
inside_to (t_relationship n) r = rel_to n r
inside_to (t_union ts) r = members_to ts r

pub line-opens : (t : Ty) (r : Bytes) → line_to t r ≡ kind_of t ∷ 44 ∷ inside_to t r
unfolding line_to kind_of inside_to
line-opens (base b) r = refl
line-opens (t_list t) r = refl
line-opens (t_map fs) r = refl
line-opens (t_node ls) r = refl
line-opens (t_relationship n) r = refl
line-opens (t_union ts) r = refl

unfoldable pub content_t : Ty → Content
content_t (base b) = Nothing
content_t (t_list t) = Types
content_t (t_map fs) = Types
content_t (t_node ls) = Labels
content_t (t_relationship n) = RelationshipName
content_t (t_union ts) = Types

pub content-kind : (t : Ty) → content_of (kind_of t) ≡ Some (content_t t)
unfolding content_of kind_of content_t letter base_in
content-kind (base b) = elim b as (λ k. content_of (kind_of (base k)) ≡ Some (content_t (base k))) [ t_any ↦ refl | t_null ↦ refl | t_bool ↦ refl | t_int ↦ refl | t_float ↦ refl | t_num ↦ refl | t_string ↦ refl | t_date ↦ refl | t_datetime ↦ refl | t_path ↦ refl | t_unknown ↦ refl ]
content-kind (t_list t) = refl
content-kind (t_map fs) = refl
content-kind (t_node ls) = refl
content-kind (t_relationship n) = refl
content-kind (t_union ts) = refl

-- the letter of the type that stands at a place
pub type-letter : (s : Bytes) (at : ℕ) (t : Ty) (r : Bytes) → drop at s ≡ line_to t r → letter_at s at ≡ Some (kind_of t)
type-letter s at t r e = letter-is s at (kind_of t) (inside_to t r) (e ∙ line-opens t r)

pub type-byte : (s : Bytes) (at : ℕ) (t : Ty) (r : Bytes) → drop at s ≡ line_to t r → get_or s at 0 ≡ kind_of t
type-byte s at t r e = byte_at s at (44 ∷ inside_to t r) (kind_of t) (e ∙ line-opens t r)

pub type-content : (s : Bytes) (at k : ℕ) → letter_at s at ≡ Some k → (t : Ty) (r : Bytes) → drop at s ≡ line_to t r → content_of k ≡ Some (content_t t)
type-content s at k z t r e = ap content_of (same_Some k (kind_of t) (sym z ∙ type-letter s at t r e)) ∙ content-kind t

-- a union is told by its letter
pub union-letter : (t : Ty) → is_union t ≡ false → kind_of t ≡ 79 → ⊥
unfolding is_union kind_of special
union-letter (base b) h e = letter-away b 79 refl e
union-letter (t_list t) h e = omega arith
union-letter (t_map fs) h e = omega arith
union-letter (t_node ls) h e = omega arith
union-letter (t_relationship n) h e = omega arith
union-letter (t_union ts) h e = false≢true (sym h)

pub union-no-letter : (t : Ty) → (kind_of t ≡ 79 → ⊥) → is_union t ≡ false
unfolding is_union kind_of
union-no-letter (base b) h = refl
union-no-letter (t_list t) h = refl
union-no-letter (t_map fs) h = refl
union-no-letter (t_node ls) h = refl
union-no-letter (t_relationship n) h = refl
union-no-letter (t_union ts) h = absurd (h refl)

-- ## Names

-- a name in its place: its text, and the comma behind it
pub name_part : (s : Bytes) (q : ℕ) (n x : Bytes) → drop q s ≡ name_to n x → slice q (q + index_of 44 (drop q s)) s ≡ name_f n
name_part s q n x e =
    let g = e ∙ name-to n x in
    let i : index_of 44 (drop q s) ≡ length (map hex n) = ap (index_of 44) g ∙ comma-at (map hex n) x (hex-bytes n) in
    rw i (part s q (map hex n) (44 ∷ x) g)

some-true : {A : Type 0} (o : Option A) → is_found o ≡ true → (a : A) × (o ≡ some a)
some-true none h = absurd (false≢true h)
some-true (some a) h = (a, refl)

pub name-yes : (s : Bytes) (q n x : _) → Name n → drop q s ≡ name_to n x → name_in s q (q + index_of 44 (drop q s)) ≡ true
unfolding name_in
name-yes s q n x h e =
    let p = name-past s q n x e in
    let g : read_name (slice q (q + index_of 44 (drop q s)) s) ≡ some n = ap read_name (name_part s q n x e) ∙ read_name_lem n h in
    rw (lt-ltb (q + index_of 44 (drop q s)) (length s) p.0, g)

pub record Spelt (s : Bytes) (q : ℕ) : Type 0 where
  pub name : Bytes
  pub good : Name name
  pub text : slice q (q + index_of 44 (drop q s)) s ≡ name_f name
  pub inside : q + index_of 44 (drop q s) < length s
  pub is : drop q s ≡ name_to name (drop (next_field s q) s)

pub name-read : (s : Bytes) (q : ℕ) → name_in s q (q + index_of 44 (drop q s)) ≡ true → Spelt s q
unfolding name_in
name-read s q h =
    let i = index_of 44 (drop q s) in
    let e = q + i in
    let p = (and-eq-true_iff (ltb e (length s)) (is_found (read_name (slice q e s)))).0 h in
    let l = ltb-true e (length s) p.0 in
    let (n, f) = some-true (read_name (slice q e s)) p.1 in
    let w : (name_f n ≡ slice q e s) × Name n = subst (Maybe (λ n. (name_f n ≡ slice q e s) × Name n)) f (name-sound (slice q e s)) in
    let m : get_or s e 0 ≡ 44 = sym (lib.Seq.get_or-drop q s i 0) ∙ index-mark 44 (drop q s) (omega (arith, length-drop q s)) in
    let d : drop e s ≡ 44 ∷ drop (next_field s q) s = drop-cons s e 0 l ∙ rw (m, add-one e) in
    record {
      name = n;
      good = w.1;
      text = sym w.0;
      inside = l;
      is = sym (drop-join q e s (omega arith)) ∙ ap₂ (λ (a b : Bytes). a ++ b) (sym w.0) d ∙ sym (name-to n (drop (next_field s q) s));
    }

-- ## Order

pub less-yes : {a b : Bytes} → Less a b → is_below (lex a b) ≡ true
less-yes h = ap is_below (lex-lt h)

pub less-is : (a b : Bytes) → is_below (lex a b) ≡ true → Less a b
less-is a b p = go (tri a b)
  where
    go : Tri a b → Less a b
    go (lt h) = h
    go (eq h) = let e : lex a b ≡ Ordering.eq = rw h (lex-eq b) in absurd (false≢true (sym (ap is_below e) ∙ p))
    go (gt h) = absurd (false≢true (sym (ap is_below (lex-gt h)) ∙ p))

hex-less : (d e : ℕ) → d < e → hex d < hex e
unfolding hex
hex-less d e h = go (ltb d 10) (ltb e 10) refl refl
  where
    go : (a b : Bool) → ltb d 10 ≡ a → ltb e 10 ≡ b → cond a (48 + d) (87 + d) < cond b (48 + e) (87 + e)
    go true true u v = omega arith
    go true false u v = omega (arith, ltb-true d 10 u, ltb-false e 10 v)
    go false true u v = omega (arith, ltb-false d 10 u, ltb-true e 10 v)
    go false false u v = omega arith

pub name-less : {a b : Bytes} → Less a b → Less (name_f a) (name_f b)
name-less ends = ends
name-less (here {x} {y} h) = here (hex-less x y h)
name-less (next h) = next (name-less h)

less-self : {a : Bytes} → Less a a → ⊥
less-self {a} h = let p = lex-lt h in let q = lex-eq a in let z : ◌≡◌ {A = ℕ} 0 1 = cc in omega arith

pub less-name : (a b : Bytes) → Less (name_f a) (name_f b) → Less a b
less-name a b h = go (tri a b)
  where
    go : Tri a b → Less a b
    go (lt k) = k
    go (eq k) = absurd (less-self (rw k at h))
    go (gt k) = absurd (less-self (less-trans h (name-less k)))

pub names-ascend : (ns : List Bytes) → Ascends ns → Ascends (map name_f ns)
names-ascend [] h = tt
names-ascend (a ∷ []) h = (tt, tt)
names-ascend (a ∷ b ∷ ns) h = (name-less h.0, names-ascend (b ∷ ns) h.1)

pub ascend-names : (ns : List Bytes) → Ascends (map name_f ns) → Ascends ns
ascend-names [] h = tt
ascend-names (a ∷ []) h = (tt, tt)
ascend-names (a ∷ b ∷ ns) h = (less-name a b h.0, ascend-names (b ∷ ns) h.1)

-- n parts before these, the last with the key a
abbrev pub After : ℕ → Bytes → List Bytes → Type 0
After zero a ks = Ascends ks
After (suc n) a ks = Ascends (a ∷ ks)

pub after_on : (n : ℕ) (a k : Bytes) (ks : List Bytes) → After n a (k ∷ ks) → (in_order n a k ≡ true) × After (n + 1) k ks
unfolding in_order
after_on zero a k ks h = (refl, h)
after_on (suc n) a k ks h = (rw (ne_eqb (suc n) 0 (λ e. omega arith)) (less-yes h.0), rw add-one h.1)

pub after-back : (n : ℕ) (a k : Bytes) (ks : List Bytes) → in_order n a k ≡ true → After (n + 1) k ks → After n a (k ∷ ks)
unfolding in_order
after-back zero a k ks p h = h
after-back (suc n) a k ks p h = (less-is a k (rw (ne_eqb (suc n) 0 (λ e. omega arith)) at p), rw add-one at h)

pub after_none : (n : ℕ) (a : Bytes) → After n a []
after_none zero a = tt
after_none (suc n) a = (tt, tt)

-- ## Tests of the code

pub and_no : (a b : Bool) → b ≡ false → (a && b) ≡ false
and_no true b h = h
and_no false b h = refl

no-comma : (s : Bytes) (q : ℕ) → length s ≤ q + 1 → eqb (get_or s (q + 1) 0) 44 ≡ false
no-comma s q h = ne_eqb (get_or s (q + 1) 0) 44 (λ e. omega (arith, get_or-eq_default s 0 h))

pub letter_past : (s : Bytes) (q : ℕ) → length s ≤ q + 1 → letter_at s q ≡ None
unfolding letter_at
letter_past s q h = rw (no-comma s q h)

base-no : (k : ℕ) (b : Base) (bs : List Base) → (k ≡ letter b → ⊥) → base_in k bs ≡ none → base_in k (b ∷ bs) ≡ none
unfolding base_in
base-no k b bs h e = rw (ne_eqb k (letter b) h, base_in) e

base-end : (k : ℕ) → base_in k [] ≡ none
unfolding base_in
base-end k = refl

pub no_content : (k : ℕ) → (k ≡ 65 → ⊥) → (k ≡ 66 → ⊥) → (k ≡ 67 → ⊥) → (k ≡ 68 → ⊥) → (k ≡ 69 → ⊥) → (k ≡ 70 → ⊥) → (k ≡ 71 → ⊥) → (k ≡ 72 → ⊥) → (k ≡ 73 → ⊥) → (k ≡ 74 → ⊥)
    → (k ≡ 75 → ⊥) → (k ≡ 76 → ⊥) → (k ≡ 77 → ⊥) → (k ≡ 78 → ⊥) → (k ≡ 79 → ⊥) → (k ≡ 80 → ⊥) → None ≡ content_of k
unfolding content_of letter
no_content k a b c d e f g h i j l m n o p q =
    let none_in : base_in k bases ≡ none = base-no k t_any _ a (base-no k t_null _ b (base-no k t_bool _ c (base-no k t_int _ d (base-no k t_float _ e (base-no k t_num _ f (base-no k t_string _ g (base-no k t_date _ h (base-no k t_datetime _ i (base-no k t_path _ o (base-no k t_unknown _ q (base-end k))))))))))) in
    rw (ne_eqb k 74 j, ne_eqb k 75 l, ne_eqb k 76 m, ne_eqb k 77 n, ne_eqb k 79 p, none_in)

pub flat-nesting : (t : Ty) → (content_t t ≡ Types → ⊥) → nesting t ≡ 1
unfolding content_t nesting
flat-nesting (base b) h = refl
flat-nesting (t_list t) h = absurd (h refl)
flat-nesting (t_map fs) h = absurd (h refl)
flat-nesting (t_node ls) h = refl
flat-nesting (t_relationship n) h = refl
flat-nesting (t_union ts) h = absurd (h refl)

-- the letter of a type and its comma
pub type-two : (s : Bytes) (at : ℕ) → TypeFrom s at → (drop at s ≡ get_or s at 0 ∷ 44 ∷ drop (at + 2) s) × (at + 2 ≤ length s)
type-two s at w = two s at (byte_past s at (kind_of w.ty ∷ []) (inside_to w.ty w.rest) 44 (w.is ∙ line-opens w.ty w.rest))
