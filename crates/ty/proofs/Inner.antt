-- The parts of a list, a map or a union: what is left to read of them, and each step, in any form. Assumes nothing.
use mathlib.Core.Path.{◌≡◌, refl, sym, ◌∙◌, ap}
use mathlib.Core.List.{List, [], ◌∷◌, ◌++◌}
use mathlib.Core.Bool.{Bool, true, false, cond, not, false≢true, and-eq-true_iff}
use Prim.Native.Nat.{ℕ, suc, ◌+◌, ◌≤◌, min}
use native.Mathlib.Nat.{zero-add, add-zero}
use native.Mathlib.Omega.{arith}
use lib.Dec.{eqb}
use lib.ListN.{length, drop, length-drop, length-append}
use borrow.Author.Tests.{eqb-true, eqb-false, not-true, not-false}
use Rattle.std.specs.Prelude.{Some, None}
use Rattle.std.proofs.lemmas.Option.{none-some}
use Rattle.text.specs.Text.{index_of, is_found}
use Rattle.semantics.specs.Bytes.{Bytes}
use Rattle.semantics.specs.Ty.{Ty, base, t_list, t_map, t_node, t_relationship, t_union, Tys, ∅, ◌⊕◌, Fields, ∅ᶠ, field, members, name_to, line_to, members_to, fields_to, line, nesting, nesting_s, nesting_f, base_in, bases, letter}
use Rattle.semantics.proofs.Order.{head-eq, tail-eq}
use Rattle.semantics.proofs.Split.{name_f}
use Rattle.ty.specs.declared.end.Content.TheVariants.{Nothing, Labels, RelationshipName, Types}
use Rattle.ty.specs.Skip.{next_field}
use Rattle.ty.specs.Read.{field_at, kind_of, content_of, Within, goes_in, value_at, key_end, key_of, name_in}
use Rattle.ty.specs.Form.{May, NameOk, EachF, EachS, FormLaws, allowed}
use Rattle.ty.proofs.Lines.{line-to}
use Rattle.ty.proofs.Places.{part, byte_at}
use Rattle.ty.proofs.Skips.{name-past, type-inside}
use Rattle.ty.proofs.Fields.{field-yes, field_is, content_t, content-kind, type-byte, name_part, name-yes, name-read}

-- ## What is left of a type's parts

-- behind parts with these keys the text x holds the other parts of a type of kind k, each of nesting at most l, and then r
pub data Goes (P : Ty → Type 0) (may : May) (enough : ℕ → Bool) (b : Bool) (l : ℕ) (ks : List Bytes) (x r : Bytes) : ℕ → Type 0 where
  one : (t : Ty) → length ks ≡ 0 → x ≡ line_to t r → Within P l t → Goes P may enough b l ks x r 74
  over : length ks ≡ 1 → x ≡ r → Goes P may enough b l ks x r 74
  entries : (fs : Fields) → x ≡ fields_to fs r → EachF P may b ks fs → nesting_f fs ≤ l → Goes P may enough b l ks x r 75
  membs : (ts : Tys) → x ≡ members_to ts r → EachS P may ks ts → enough (length ks + length (members ts)) ≡ true → nesting_s ts ≤ l → Goes P may enough b l ks x r 79

module _ {P : Ty → Type 0} {L : List Bytes → Type 0} {may : May} {enough : ℕ → Bool} {b : Bool} (laws : FormLaws P L may enough b) where
  module _ (k l : ℕ) (x r : Bytes) where
    pub enter : (t : Ty) → content_of k ≡ Some Types → k ∷ 44 ∷ x ≡ line_to t r → Within P (suc l) t → Goes P may enough b l [] x r k
    unfolding line_to kind_of content_t nesting
    enter (base c) h e w = absurd (cc (content-kind (base c), ap content_of (head-eq e)))
    enter (t_list t) h e w = rw (head-eq e) (one t refl (tail-eq (tail-eq e)) (laws.element_fine t w.0, omega (arith, w.1)))
    enter (t_map fs) h e w = rw (head-eq e) (entries fs (tail-eq (tail-eq e)) (laws.entries_fine fs w.0) (omega (arith, w.1)))
    enter (t_node ls) h e w = absurd (cc (content-kind (t_node ls), ap content_of (head-eq e)))
    enter (t_relationship n) h e w = absurd (cc (content-kind (t_relationship n), ap content_of (head-eq e)))
    enter (t_union ts) h e w = let u = laws.members_fine ts w.0 in rw (head-eq e) (membs ts (tail-eq (tail-eq e)) u.0 (rw zero-add u.1) (omega (arith, w.1)))

  pub entered : {k l : ℕ} {x r : Bytes} → Goes P may enough b l [] x r k → (t : Ty) × (k ∷ 44 ∷ x ≡ line_to t r) × Within P (suc l) t
  unfolding line_to nesting
  entered (one t z e w) = (t_list t, ap (λ (y : Bytes). 74 ∷ 44 ∷ y) e, (laws.list_fine t w.0, omega (arith, w.1)))
  entered (over z e) = absurd (omega arith)
  entered (entries fs e f m) = (t_map fs, ap (λ (y : Bytes). 75 ∷ 44 ∷ y) e, (laws.map_fine fs f, omega arith))
  entered (membs ts e f n m) = (t_union ts, ap (λ (y : Bytes). 79 ∷ 44 ∷ y) e, (laws.union_fine ts f (rw zero-add at n), omega arith))

-- ## The next part

-- a key may follow; of a list only one type is read
unfoldable pub follows : May → ℕ → List Bytes → Bytes → Bool
follows may k ks x = cond (eqb k 74) true (may k ks x)

-- a name before the type of an entry
abbrev pub Lead : Bool → Bytes → ℕ → ℕ → Type 0
Lead b s q v = (m : Bytes) × (drop q s ≡ name_to m (drop v s)) × NameOk b m

-- the part at q of what is left: its type, what follows that, and what is left behind it
pub record Turn (P : Ty → Type 0) (may : May) (enough : ℕ → Bool) (b : Bool) (s : Bytes) (k q l : ℕ) (ks : List Bytes) (r : Bytes) : Type 0 where
  pub child : Ty
  pub rest : Bytes
  pub is : drop (value_at k s q) s ≡ line_to child rest
  pub within : Within P l child
  pub lead : k ≡ 75 → Lead b s q (value_at k s q)
  pub next : (e : ℕ) → e ≤ length s → drop e s ≡ rest → (follows may k ks (key_of k s q e) ≡ true) × Goes P may enough b l (ks ++ (key_of k s q e ∷ [])) (drop e s) r k

pub not-closed : (s : Bytes) (q : ℕ) (x : Bytes) → not (field_at s q 33) ≡ true → drop q s ≡ 33 ∷ 44 ∷ x → ⊥
not-closed s q x h e = false≢true (sym (not-true (field_at s q 33) h) ∙ field_is s q 33 x e)

snoc-long : (ks : List Bytes) (k : Bytes) → length (ks ++ (k ∷ [])) ≡ length ks + 1
snoc-long ks k = length-append ks (k ∷ [])

module _ (P : Ty → Type 0) (may : May) (enough : ℕ → Bool) (b : Bool) (s : Bytes) (q l : ℕ) (ks : List Bytes) (r : Bytes) where
  module _ (m : Bytes) (t : Ty) (fs : Fields) (e : drop q s ≡ name_to m (line_to t (fields_to fs r))) where
    entry_value : value_at 75 s q ≡ next_field s q
    unfolding value_at
    entry_value = omega (arith, (name-past s q m (line_to t (fields_to fs r)) e).0)

    entry_key : (p : ℕ) → key_of 75 s q p ≡ name_f m
    unfolding key_end
    entry_key p = name_part s q m (line_to t (fields_to fs r)) e

    entry-turn : EachF P may b ks (field m t fs) → nesting_f (field m t fs) ≤ l → Turn P may enough b s 75 q l ks r
    unfolding nesting follows
    entry-turn (o, p, a, f) h =
        let d = (name-past s q m (line_to t (fields_to fs r)) e).1 in
        record {
          child = t;
          rest = fields_to fs r;
          is = rw entry_value d;
          within = (p, omega arith);
          lead = λ _. (m, rw entry_value (e ∙ ap (name_to m) (sym d)), o);
          next = λ p i g. (rw (entry_key p) a, entries fs g (rw (entry_key p) f) (omega arith));
        }

  module _ (t : Ty) (ts : Tys) (e : drop q s ≡ line_to t (members_to ts r)) where
    pub member-key : (p : ℕ) → p ≤ length s → drop p s ≡ members_to ts r → key_of 79 s q p ≡ line t
    unfolding key_end
    member-key p i g =
        let z : p ≡ q + length (line t) = omega (arith, type-inside s q t (members_to ts r) e, length-drop p s, ap length g) in
        rw z (part s q (line t) (members_to ts r) (e ∙ line-to t (members_to ts r)))

    member-turn : EachS P may ks (t ⊕ ts) → enough (length ks + length (members (t ⊕ ts))) ≡ true → nesting_s (t ⊕ ts) ≤ l → Turn P may enough b s 79 q l ks r
    unfolding nesting value_at follows members
    member-turn (p, a, f) n h =
        record {
          child = t;
          rest = members_to ts r;
          is = e;
          within = (p, omega arith);
          lead = λ z. absurd (omega arith);
          next = λ p i g.
              let key = member-key p i g in
              let long : length (ks ++ (line t ∷ [])) + length (members ts) ≡ length ks + suc (length (members ts)) = omega (arith, snoc-long ks (line t)) in
              (rw key a, membs ts g (rw key f) (rw (key, long) n) (omega arith));
        }

pub turn : (s : Bytes) (q : ℕ) {P : Ty → Type 0} {may : May} {enough : ℕ → Bool} {b : Bool} {k l : ℕ} {ks : List Bytes} {x r : Bytes} → goes_in k s q (length ks) ≡ true → drop q s ≡ x
    → Goes P may enough b l ks x r k → Turn P may enough b s k q l ks r
unfolding goes_in line_to value_at follows
turn s q {ks} {r} g x (one t z e w) =
    record {
      child = t;
      rest = r;
      is = x ∙ e;
      within = w;
      lead = λ p. absurd (omega arith);
      next = λ p i d. (refl, over (omega (arith, snoc-long ks (key_of 74 s q p))) d);
    }
turn s q {ks} g x (over z e) = absurd (omega (arith, eqb-true (length ks) 0 g))
turn s q {r} g x (entries ∅ᶠ e f h) = absurd (not-closed s q r g (x ∙ e))
turn s q {P} {may} {enough} {b} {l} {ks} {r} g x (entries (field m t fs) e f h) = entry-turn P may enough b s q l ks r m t fs (x ∙ e) f h
turn s q {r} g x (membs ∅ e f n h) = absurd (not-closed s q r g (x ∙ e))
turn s q {P} {may} {enough} {b} {l} {ks} {r} g x (membs (t ⊕ ts) e f n h) = member-turn P may enough b s q l ks r t ts (x ∙ e) f n h

-- what the test of a part says
pub lead-strict : (may : May) (s : Bytes) (q e k : ℕ) (ks : List Bytes) → allowed may k s q e ks ≡ true → k ≡ 75 → Lead true s q (value_at k s q)
unfolding allowed key_end value_at
lead-strict may s q e k ks h z = go (rw z at h)
  where
    go : allowed may 75 s q e ks ≡ true → Lead true s q (value_at k s q)
    go g =
        let p = name-read s q ((and-eq-true_iff (name_in s q (q + index_of 44 (drop q s))) (may 75 ks (key_of 75 s q e))).0 g).0 in
        let i = p.inside in
        let v : min (next_field s q) (length s) ≡ next_field s q = omega arith in
        rw (z, v) (p.name, p.is, p.good)

entry-key : (s : Bytes) (q e : ℕ) (m x : Bytes) → drop q s ≡ name_to m x → key_of 75 s q e ≡ name_f m
unfolding key_end
entry-key s q e m x v = name_part s q m x v

-- what is left behind a part, and the part, are what was left
pub back : (s : Bytes) (q e : ℕ) (t : Ty) {P : Ty → Type 0} {may : May} {enough : ℕ → Bool} {b : Bool} {k l : ℕ} {ks js : List Bytes} {x r : Bytes} → js ≡ ks ++ (key_of k s q e ∷ []) → drop e s ≡ x
    → drop (value_at k s q) s ≡ line_to t (drop e s) → Within P l t → e ≤ length s → follows may k ks (key_of k s q e) ≡ true → (k ≡ 75 → Lead b s q (value_at k s q))
    → Goes P may enough b l js x r k → Goes P may enough b l ks (drop q s) r k
unfolding line_to nesting value_at follows members
back s q e t {ks} y x d w i al ld (one u c f g) = absurd (omega (arith, ap length y, snoc-long ks (key_of 74 s q e)))
back s q e t {ks} {r} y x d w i al ld (over c f) = one t (omega (arith, ap length y, snoc-long ks (key_of 74 s q e))) (d ∙ ap (line_to t) (x ∙ f)) w
back s q e t {P} {may} {enough} {b} {ks} {r} y x d w i al ld (entries fs f g h) =
    let (m, v, o) = ld refl in
    let key = entry-key s q e m (drop (value_at 75 s q) s) v in
    entries (field m t fs) (v ∙ ap (name_to m) (d ∙ ap (line_to t) (x ∙ f))) (o, w.0, rw key at al, rw (y, key) at g) (omega (arith, w.1))
back s q e t {P} {may} {enough} {b} {l} {ks} {js} {r} y x d w i al ld (membs ts f g n h) =
    let key = member-key P may enough b s q l ks r t ts (d ∙ ap (line_to t) (x ∙ f)) e i (x ∙ f) in
    let long : length js + length (members ts) ≡ length ks + suc (length (members ts)) = omega (arith, ap length y, snoc-long ks (key_of 79 s q e)) in
    membs (t ⊕ ts) (d ∙ ap (line_to t) (x ∙ f)) (w.0, rw key at al, rw (y, key) at g) (rw (sym long) n) (omega (arith, w.1))

-- ## The end

abbrev pub end_at : ℕ → ℕ → ℕ
end_at k q = cond (eqb k 74) q (q + 2)

pub closed : (s : Bytes) (q : ℕ) → not (field_at s q 33) ≡ false → (drop q s ≡ 33 ∷ 44 ∷ drop (q + 2) s) × (q + 2 ≤ length s)
closed s q h = field-yes s q 33 (not-false (field_at s q 33) h)

pub data Four (k : ℕ) : Type 0 where
  list : k ≡ 74 → Four k
  map' : k ≡ 75 → Four k
  union : k ≡ 79 → Four k

pub four : (k : ℕ) → content_of k ≡ Some Types → Four k
unfolding content_of
four k h = go (eqb k 74) (eqb k 75) (eqb k 76) (eqb k 77) (eqb k 79) (is_found (base_in k bases)) refl refl refl h
  where
    go : (p q r s t u : Bool) → eqb k 74 ≡ p → eqb k 75 ≡ q → eqb k 79 ≡ t
        → cond p (Some Types) (cond q (Some Types) (cond r (Some Labels) (cond s (Some RelationshipName) (cond t (Some Types) (cond u (Some Nothing) None))))) ≡ Some Types → Four k
    go true q r s t u x y z h = list (eqb-true k 74 x)
    go false true r s t u x y z h = map' (eqb-true k 75 y)
    go false false true s t u x y z h = absurd (cc)
    go false false false true t u x y z h = absurd (cc)
    go false false false false true u x y z h = union (eqb-true k 79 z)
    go false false false false false true x y z h = absurd (cc)
    go false false false false false false x y z h = absurd (cc)

-- the test of a part, and what a form says of its key
pub allowed-follows : (may : May) (s : Bytes) (q e k : ℕ) (ks : List Bytes) → content_of k ≡ Some Types → allowed may k s q e ks ≡ true → follows may k ks (key_of k s q e) ≡ true
unfolding allowed follows
allowed-follows may s q e k ks c h = go (four k c)
  where
    go : Four k → follows may k ks (key_of k s q e) ≡ true
    go (list z) = rw z refl
    go (map' z) = rw z ((and-eq-true_iff (name_in s q (key_end 75 s q e)) (may 75 ks (key_of 75 s q e))).0 (rw z at h)).1
    go (union z) = rw z (rw z at h)

pub follows-allowed : (may : May) (s : Bytes) (q e k : ℕ) (ks : List Bytes) → content_of k ≡ Some Types → (k ≡ 75 → Lead true s q (value_at k s q)) → follows may k ks (key_of k s q e) ≡ true
    → allowed may k s q e ks ≡ true
unfolding allowed follows key_end
follows-allowed may s q e k ks c ld h = go (four k c)
  where
    go : Four k → allowed may k s q e ks ≡ true
    go (list z) = rw z refl
    go (map' z) = let (m, v, o) = ld z in rw z ((and-eq-true_iff (name_in s q (key_end 75 s q e)) (may 75 ks (key_of 75 s q e))).1 (name-yes s q m (drop (value_at k s q) s) o v, rw z at h))
    go (union z) = rw z (rw z at h)

module _ (P : Ty → Type 0) (may : May) (enough : ℕ → Bool) (b : Bool) (s : Bytes) (q l : ℕ) (ks : List Bytes) where
  finish-list : goes_in 74 s q (length ks) ≡ false → length ks ≤ 1 → q ≤ length s → Goes P may enough b l ks (drop q s) (drop q s) 74 × (q ≤ length s)
  unfolding goes_in
  finish-list g f i = let z = eqb-false (length ks) 0 g in (over (omega arith) refl, i)

  finish-map : goes_in 75 s q (length ks) ≡ false → Goes P may enough b l ks (drop q s) (drop (q + 2) s) 75 × (q + 2 ≤ length s)
  unfolding goes_in fields_to nesting
  finish-map g = let w = closed s q g in (entries ∅ᶠ w.0 tt (omega arith), w.1)

  finish-union : goes_in 79 s q (length ks) ≡ false → enough (length ks) ≡ true → Goes P may enough b l ks (drop q s) (drop (q + 2) s) 79 × (q + 2 ≤ length s)
  unfolding goes_in members_to members nesting
  finish-union g h = let w = closed s q g in (membs ∅ w.0 tt (rw add-zero h) (omega arith), w.1)

pub finish : (P : Ty → Type 0) (may : May) (enough : ℕ → Bool) (b : Bool) (s : Bytes) (k q l : ℕ) (ks : List Bytes) → content_of k ≡ Some Types → goes_in k s q (length ks) ≡ false
    → (k ≡ 74 → length ks ≤ 1) → q ≤ length s → (k ≡ 79 → enough (length ks) ≡ true) → Goes P may enough b l ks (drop q s) (drop (end_at k q) s) k × (end_at k q ≤ length s)
finish P may enough b s k q l ks c g f i h = go (four k c)
  where
    go : Four k → Goes P may enough b l ks (drop q s) (drop (end_at k q) s) k × (end_at k q ≤ length s)
    go (list e) = rw e (finish-list P may enough b s q l ks (rw e at g) (f e) i)
    go (map' e) = rw e (finish-map P may enough b s q l ks (rw e at g))
    go (union e) = rw e (finish-union P may enough b s q l ks (rw e at g) (h e))

not-mark : (t : Ty) → kind_of t ≡ 33 → ⊥
unfolding content_t content_of base_in letter
not-mark t e = none-some (content_t t) (ap content_of (sym e) ∙ content-kind t)

pub short : (s : Bytes) (q : ℕ) {P : Ty → Type 0} {may : May} {enough : ℕ → Bool} {b : Bool} {l : ℕ} {ks : List Bytes} {x r : Bytes} {k : ℕ} → goes_in k s q (length ks) ≡ false → k ≡ 79
    → enough (length ks) ≡ false → drop q s ≡ x → Goes P may enough b l ks x r k → ⊥
unfolding goes_in members_to members
short s q g z h x (one t c e w) = omega arith
short s q g z h x (over c e) = omega arith
short s q g z h x (entries fs e f m) = omega arith
short s q g z h x (membs ∅ e f n m) = false≢true (sym h ∙ (rw add-zero at n))
short s q {r} g z h x (membs (t ⊕ ts) e f n m) = not-mark t (sym (type-byte s q t (members_to ts r) (x ∙ e)) ∙ byte_at s q (44 ∷ drop (q + 2) s) 33 (closed s q g).0)
