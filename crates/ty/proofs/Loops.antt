-- The loops over the parts of a list, a map or a union, in any form: their invariants and each step. Assumes nothing.
use mathlib.Core.Path.{◌≡◌, refl, sym, ◌∙◌, ap}
use mathlib.Core.Option as option
use mathlib.Core.Option.{none, some}
use mathlib.Core.List.{List, [], ◌∷◌, ◌++◌, map}
use mathlib.Core.Bool.{Bool, true, false, cond, false≢true}
use Prim.Native.Nat.{ℕ, suc, ◌+◌, ◌-◌, ◌≤◌, ◌<◌, min}
use native.Mathlib.Omega.{arith}
use lib.Dec.{eqb, leb}
use lib.ListN.{length, drop, get_or, length-drop, length-append}
use lib.Seq.{slice}
use borrow.Author.Tests.{eqb-true, eq-eqb, ne_eqb, leb-true, leb-false, le-leb}
use Rattle.std.specs.Prelude.{Option, Some, None}
use Rattle.text.specs.Text.{index_of}
use Rattle.semantics.specs.Bytes.{Bytes}
use Rattle.semantics.specs.Ty.{Base, Ty, base, t_node, t_relationship, Tys, ∅, ◌⊕◌, Fields, ∅ᶠ, field, name_to, line_to, line, nesting}
use Rattle.semantics.proofs.Order.{line-inj}
use Rattle.semantics.proofs.Named.{Name, Maybe}
use Rattle.semantics.proofs.Split.{name_f}
use Rattle.ty.specs.Parts.{TypeFrom, EndsAt}
use Rattle.ty.specs.declared.end.Content.TheVariants.{Types}
use Rattle.ty.specs.declared.form.Before.{Before}
use Rattle.ty.specs.Skip.{next_field}
use Rattle.ty.specs.Read.{content_of, Within, TypeRead, name_in, goes_in, value_at, key_end, key_of, end_within, NestingEnd}
use Rattle.ty.specs.Form.{May, EachF, EachS, FormLaws, entries_to, firsts, last_of, KeyedEntries, Seen, SomeSeen, allowed, IsAllowed}
use Rattle.ty.proofs.Lines.{nesting-pos, nesting-line, line-to}
use Rattle.ty.proofs.Places.{past}
use Rattle.ty.proofs.Skips.{type-inside}
use Rattle.ty.proofs.Fields.{content_t, content-kind, type-byte, flat-nesting, name_part}
use Rattle.ty.proofs.Inner.{Goes, enter, entered, Turn, turn, follows, Lead, lead-strict, allowed-follows, follows-allowed, back, end_at, finish, short}

pub record Reading (P : Ty → Type 0) (may : May) (enough : ℕ → Bool) (b : Bool) (s : Bytes) (at left k q : ℕ) (ks : List Bytes) : Type 0 where
  pub deep : 0 < left
  pub from : at + 2 + length ks ≤ q
  pub inside : q ≤ length s
  pub kind : content_of k ≡ Some Types
  pub few : k ≡ 74 → length ks ≤ 1
  pub to : (t : Ty) (r : Bytes) → drop at s ≡ line_to t r → Within P left t → Goes P may enough b (left - 1) ks (drop q s) r k
  pub from_rest : (r : Bytes) → Goes P may enough b (left - 1) ks (drop q s) r k → (t : Ty) × (drop at s ≡ line_to t r) × Within P left t

pub value-bounds : (k : ℕ) (s : Bytes) (q : ℕ) → q ≤ length s → (q ≤ value_at k s q) × (value_at k s q ≤ length s)
unfolding value_at
value-bounds k s q h = go (eqb k 75)
  where
    go : (b : Bool) → (q ≤ cond b (min (next_field s q) (length s)) q) × (cond b (min (next_field s q) (length s)) q ≤ length s)
    go true = (omega arith, omega arith)
    go false = (omega arith, h)

pub no-nesting : (P : Ty → Type 0) (s : Bytes) (at left : ℕ) → left ≡ 0 → TypeRead P s at left None
no-nesting P s at left z t r e w = omega (arith, nesting-pos t, w.1)

-- types that hold no types
module _ {P : Ty → Type 0} {L : List Bytes → Type 0} {may : May} {enough : ℕ → Bool} (laws : FormLaws P L may enough true) (l : ℕ) where
  pub base-within : 1 ≤ l → (c : Base) → Within P l (base c)
  unfolding nesting
  base-within h c = (laws.base_fine c, h)

  pub node-within : 1 ≤ l → (ls : option.Option (List Bytes)) → Maybe L ls → Within P l (t_node ls)
  unfolding nesting
  node-within h ls w = (laws.node_fine ls w, h)

  pub within-node : (ls : option.Option (List Bytes)) → Within P l (t_node ls) → Maybe L ls
  within-node ls w = laws.node_labels ls w.0

  pub rel-within : 1 ≤ l → (n : option.Option Bytes) → Maybe Name n → Within P l (t_relationship n)
  unfolding nesting
  rel-within h none w = (laws.relationship_fine none tt, h)
  rel-within h (some n) w = (laws.relationship_fine (some n) w, h)

  pub within-rel : (n : option.Option Bytes) → Within P l (t_relationship n) → Maybe Name n
  within-rel none w = tt
  within-rel (some n) w = laws.relationship_name (some n) w.0

pub reading : {P : Ty → Type 0} {L : List Bytes → Type 0} {may : May} {enough : ℕ → Bool} {b : Bool} → FormLaws P L may enough b → (s : Bytes) (at left k : ℕ) → (left ≡ 0 → ⊥)
    → (drop at s ≡ k ∷ 44 ∷ drop (at + 2) s) × (at + 2 ≤ length s) → content_of k ≡ Some Types → Reading P may enough b s at left k (at + 2) []
reading laws s at left k z d c =
    let l : suc (left - 1) ≡ left = omega arith in
    record {
      deep = omega arith;
      from = omega arith;
      inside = d.1;
      kind = c;
      few = λ e. omega arith;
      to = λ t r e w. enter laws k (left - 1) (drop (at + 2) s) r t c (sym d.0 ∙ e) (rw l w);
      from_rest = λ r g. let (t, e, w) = entered laws g in (t, d.0 ∙ e, rw l at w);
    }

goes-once : (s : Bytes) (q n : ℕ) → goes_in 74 s q n ≡ true → n ≡ 0
unfolding goes_in
goes-once s q n g = eqb-true n 0 g

module _ (P : Ty → Type 0) (may : May) (enough : ℕ → Bool) (b : Bool) (s : Bytes) (at left k q : ℕ) (ks : List Bytes) (i : Reading P may enough b s at left k q ks)
    (g : goes_in k s q (length ks) ≡ true) where
  -- what the type at `at` says of the part at q
  pub at_turn : (t : Ty) (r : Bytes) → drop at s ≡ line_to t r → Within P left t → Turn P may enough b s k q (left - 1) ks r
  at_turn t r e w = turn s q g refl (i.to t r e w)

  -- the part is no type
  pub part-bad : TypeRead P s (value_at k s q) (left - 1) None → TypeRead P s at left None
  part-bad h t r e w = let u = at_turn t r e w in h u.child u.rest u.is u.within

  module _ (e : ℕ) (w : TypeRead P s (value_at k s q) (left - 1) (Some e)) where
    pub part_places : (q < e) × (e ≤ length s)
    part_places = (omega (arith, w.3, (value-bounds k s q i.inside).0), w.4)

    at_next : (t : Ty) (r : Bytes) → drop at s ≡ line_to t r → Within P left t
        → (k ≡ 75 → Lead b s q (value_at k s q)) × (follows may k ks (key_of k s q e) ≡ true) × Goes P may enough b (left - 1) (ks ++ (key_of k s q e ∷ [])) (drop e s) r k
    at_next t r d v =
        let u = at_turn t r d v in
        let j = line-inj w.0 u.child (drop e s) u.rest (sym w.1 ∙ u.is) in
        let n = u.next e w.4 j.1 in
        (u.lead, n.0, n.1)

    -- the part may stand there
    pub part-on : follows may k ks (key_of k s q e) ≡ true → (k ≡ 75 → Lead b s q (value_at k s q)) → Reading P may enough b s at left k e (ks ++ (key_of k s q e ∷ []))
    part-on al ld =
        let v = part_places in
        let n = length-append ks (key_of k s q e ∷ []) in
        record {
          deep = i.deep;
          from = omega (arith, i.from, v.0, n);
          inside = w.4;
          kind = i.kind;
          few = λ z. omega (arith, goes-once s q (length ks) (rw z at g), n);
          to = λ t r d u. (at_next t r d u).2;
          from_rest = λ r x. i.from_rest r (back s q e w.0 refl refl w.1 w.2 w.4 al ld x);
        }

module _ (P : Ty → Type 0) (may : May) (enough : ℕ → Bool) (s : Bytes) (at left k q : ℕ) (ks : List Bytes) (i : Reading P may enough true s at left k q ks)
    (g : goes_in k s q (length ks) ≡ true) (e : ℕ) (w : TypeRead P s (value_at k s q) (left - 1) (Some e)) where
  pub part-refused : allowed may k s q e ks ≡ false → TypeRead P s at left None
  part-refused h t r d v =
      let n = at_next P may enough true s at left k q ks i g e w t r d v in
      false≢true (sym h ∙ follows-allowed may s q e k ks i.kind n.0 n.1)

  pub part-read : allowed may k s q e ks ≡ true → Reading P may enough true s at left k e (ks ++ (key_of k s q e ∷ []))
  part-read h = part-on P may enough true s at left k q ks i g e w (allowed-follows may s q e k ks i.kind h) (lead-strict may s q e k ks h)

end-bounds : (k q at n : ℕ) → at + 2 + n ≤ q → at < end_at k q
end-bounds k q at n h = go (eqb k 74)
  where
    go : (b : Bool) → at < cond b q (q + 2)
    go true = omega arith
    go false = omega arith

-- no part follows
pub parts-end : (P : Ty → Type 0) (may : May) (enough : ℕ → Bool) (b : Bool) (s : Bytes) (at left k q : ℕ) (ks : List Bytes) → Reading P may enough b s at left k q ks → goes_in k s q (length ks) ≡ false
    → (k ≡ 79 → enough (length ks) ≡ true) → TypeRead P s at left (Some (end_at k q))
parts-end P may enough b s at left k q ks i g h =
    let (x, y) = finish P may enough b s k q (left - 1) ks i.kind g i.few i.inside h in
    let (t, e, w) = i.from_rest (drop (end_at k q) s) x in
    (t, e, w, end-bounds k q at (length ks) i.from, y)

pub parts-short : (P : Ty → Type 0) (may : May) (enough : ℕ → Bool) (b : Bool) (s : Bytes) (at left k q : ℕ) (ks : List Bytes) → Reading P may enough b s at left k q ks → goes_in k s q (length ks) ≡ false
    → k ≡ 79 → enough (length ks) ≡ false → TypeRead P s at left None
parts-short P may enough b s at left k q ks i g z h t r e w = short s q g z h refl (i.to t r e w)

-- ## The keys that were seen

pub snoc-last : (ks : List Bytes) (x : Bytes) → last_of (ks ++ (x ∷ [])) ≡ x
unfolding last_of
snoc-last [] x = refl
snoc-last (k ∷ []) x = refl
snoc-last (k ∷ l ∷ ks) x = snoc-last (l ∷ ks) x

pub entries-snoc : (es : List (Bytes × Ty)) (n : Bytes) (t : Ty) (r : Bytes) → entries_to (es ++ ((n, t) ∷ [])) r ≡ entries_to es (name_to n (line_to t r))
unfolding entries_to
entries-snoc [] n t r = refl
entries-snoc ((m, u) ∷ es) n t r = ap (λ (x : Bytes). name_to m (line_to u x)) (entries-snoc es n t r)

pub firsts-snoc : (es : List (Bytes × Ty)) (n : Bytes) (t : Ty) → firsts (es ++ ((n, t) ∷ [])) ≡ firsts es ++ (n ∷ [])
unfolding firsts
firsts-snoc [] n t = refl
firsts-snoc ((m, u) ∷ es) n t = ap (λ (l : List Bytes). m ∷ l) (firsts-snoc es n t)

pub map-snoc : (ns : List Bytes) (n : Bytes) → map name_f (ns ++ (n ∷ [])) ≡ map name_f ns ++ (name_f n ∷ [])
map-snoc [] n = refl
map-snoc (m ∷ ns) n = ap (λ (l : List Bytes). name_f m ∷ l) (map-snoc ns n)

pub seen_none : (k : ℕ) (s : Bytes) (at : ℕ) → at ≤ length s → Seen k s (record { from = at; last = at; to = at; count = 0 }) []
unfolding entries_to firsts
seen_none k s at h =
    record {
      order = omega arith;
      onward = omega arith;
      inside = h;
      count = refl;
      last = λ z. absurd (omega arith);
      entries = λ _. record { entries = []; at = record { order = omega arith; inside = h; is = refl }; keys = refl };
    }

pub seen_more : (k : ℕ) (s : Bytes) (b : Before) (e l : ℕ) (P : Ty → Type 0) (ks : List Bytes) → Seen k s b ks → (w : TypeRead P s (value_at k s b.to) l (Some e)) → (b.to < e) × (e ≤ length s)
    → (k ≡ 75 → Lead true s b.to (value_at k s b.to)) → Seen k s (record { from = b.from; last = b.to; to = e; count = b.count + 1 }) (ks ++ (key_of k s b.to e ∷ []))
unfolding key_end
seen_more k s b e l P ks h w places ld =
    record {
      order = omega (arith, h.order, h.onward);
      onward = omega (arith, places);
      inside = places.1;
      count = omega (arith, length-append ks (key_of k s b.to e ∷ []), h.count);
      last = λ _. sym (snoc-last ks (key_of k s b.to e));
      entries = more;
    }
  where
    more : k ≡ 75 → KeyedEntries s b.from e (ks ++ (key_of k s b.to e ∷ []))
    more z =
        let (m, v, o) = ld z in
        let u = h.entries z in
        record {
          entries = u.entries ++ ((m, w.0) ∷ []);
          at = record {
            order = omega (arith, h.order, h.onward, places);
            inside = places.1;
            is = u.at.is ∙ ap (entries_to u.entries) (v ∙ ap (name_to m) w.1) ∙ sym (entries-snoc u.entries m w.0 (drop e s));
          };
          keys = key z m v ∙ sym (ap (map name_f) (firsts-snoc u.entries m w.0) ∙ map-snoc (firsts u.entries) m);
        }
      where
        key : (z : k ≡ 75) (m : Bytes) → drop b.to s ≡ name_to m (drop (value_at k s b.to) s) → ks ++ (key_of k s b.to e ∷ []) ≡ map name_f (firsts (h.entries z).entries) ++ (name_f m ∷ [])
        key z m v = rw ((h.entries z).keys, eq-eqb k 75 z) (ap (λ (x : Bytes). map name_f (firsts (h.entries z).entries) ++ (x ∷ [])) (name_part s b.to m (drop (value_at k s b.to) s) v))

-- ## The test of a part

module _ (may : May) (s : Bytes) (q e : ℕ) (ks : List Bytes) where
  pub named-yes : (c : ℕ) → c ≡ q + index_of 44 (drop q s) → name_in s q c ≡ true → (y : Bool) → y ≡ may 75 ks (slice q c s) → y ≡ allowed may 75 s q e ks
  unfolding allowed key_end
  named-yes c z h y f = rw (rw z at h) (f ∙ ap (λ (i : ℕ). may 75 ks (slice q i s)) z)

  pub named-no : (c : ℕ) → c ≡ q + index_of 44 (drop q s) → name_in s q c ≡ false → false ≡ allowed may 75 s q e ks
  unfolding allowed key_end
  named-no c z h = rw (rw z at h) refl

  pub member-may : (y : Bool) → y ≡ may 79 ks (slice q e s) → y ≡ allowed may 79 s q e ks
  unfolding allowed key_end
  member-may y f = f

  pub others-may : (k : ℕ) → (k ≡ 75 → ⊥) → (k ≡ 79 → ⊥) → true ≡ allowed may k s q e ks
  unfolding allowed
  others-may k a b = rw (ne_eqb k 75 a, ne_eqb k 79 b) refl

-- all that the loop keeps
pub record Parts (P : Ty → Type 0) (may : May) (enough : ℕ → Bool) (s : Bytes) (at left k : ℕ) (b : Before) : Type 0 where
  pub keys : List Bytes
  pub reads : Reading P may enough true s at left k b.to keys
  pub seen : Seen k s b keys

pub parts-start : {P : Ty → Type 0} {L : List Bytes → Type 0} {may : May} {enough : ℕ → Bool} → FormLaws P L may enough true → (s : Bytes) (at left k : ℕ) → (left ≡ 0 → ⊥)
    → (drop at s ≡ k ∷ 44 ∷ drop (at + 2) s) × (at + 2 ≤ length s) → content_of k ≡ Some Types → Parts P may enough s at left k (record { from = at + 2; last = at + 2; to = at + 2; count = 0 })
parts-start laws s at left k z d c = record { keys = []; reads = reading laws s at left k z d c; seen = seen_none k s (at + 2) d.1 }

module _ (P : Ty → Type 0) (may : May) (enough : ℕ → Bool) (s : Bytes) (at left k : ℕ) (b : Before) (i : Parts P may enough s at left k b) where
  pub some-seen : SomeSeen k s b
  some-seen = record { keys = i.keys; seen = i.seen }

  module _ (g : goes_in k s b.to b.count ≡ true) where
    more-keys : goes_in k s b.to (length i.keys) ≡ true
    more-keys = rw i.seen.count g

    pub parts-bad : TypeRead P s (value_at k s b.to) (left - 1) None → TypeRead P s at left None
    parts-bad h = part-bad P may enough true s at left k b.to i.keys i.reads more-keys h

    module _ (e : ℕ) (w : TypeRead P s (value_at k s b.to) (left - 1) (Some e)) where
      pub parts-places : (b.to < e) × (e ≤ length s)
      parts-places = part_places P may enough true s at left k b.to i.keys i.reads more-keys e w

      pub parts-refused : (r : Bool) → IsAllowed may k s b e r → r ≡ false → TypeRead P s at left None
      parts-refused r h z = part-refused P may enough s at left k b.to i.keys i.reads more-keys e w (sym (h i.keys i.seen) ∙ z)

      pub parts-on : (r : Bool) → IsAllowed may k s b e r → r ≡ true → Parts P may enough s at left k (record { from = b.from; last = b.to; to = e; count = b.count + 1 })
      parts-on r h z =
          let a = sym (h i.keys i.seen) ∙ z in
          record {
            keys = i.keys ++ (key_of k s b.to e ∷ []);
            reads = part-read P may enough s at left k b.to i.keys i.reads more-keys e w a;
            seen = seen_more k s b e (left - 1) P i.keys i.seen w parts-places (lead-strict may s b.to e k i.keys a);
          }

  module _ (g : goes_in k s b.to b.count ≡ false) where
    no-keys : goes_in k s b.to (length i.keys) ≡ false
    no-keys = rw i.seen.count g

    pub parts-read : (k ≡ 79 → enough b.count ≡ true) → TypeRead P s at left (Some (end_at k b.to))
    parts-read h = parts-end P may enough true s at left k b.to i.keys i.reads no-keys (λ z. rw i.seen.count (h z))

    pub parts-few : k ≡ 79 → enough b.count ≡ false → TypeRead P s at left None
    parts-few z h = parts-short P may enough true s at left k b.to i.keys i.reads no-keys z (rw i.seen.count h)

-- ## Nesting of a type that is known to be there

-- the form that asks for nothing
abbrev AnyType : Ty → Type 0
AnyType t = Unit {0}

abbrev any_may : May
any_may k ks x = true

abbrev any_enough : ℕ → Bool
any_enough n = true

any-entries : (ks : List Bytes) (fs : Fields) → EachF AnyType any_may false ks fs
any-entries ks ∅ᶠ = tt
any-entries ks (field n t fs) = (tt, tt, refl, any-entries (ks ++ (name_f n ∷ [])) fs)

any-members : (ks : List Bytes) (ts : Tys) → EachS AnyType any_may ks ts
any-members ks ∅ = tt
any-members ks (t ⊕ ts) = (tt, refl, any-members (ks ++ (line t ∷ [])) ts)

any-maybe : {A : Type 0} (o : option.Option A) → Maybe (λ (x : A). Unit {0}) o
any-maybe none = tt
any-maybe (some a) = tt

any-laws : FormLaws AnyType (λ ns. Unit {0}) any_may any_enough false
any-laws =
    record {
      base_fine = λ c. tt;
      node_fine = λ ls w. tt;
      node_labels = λ ls w. any-maybe ls;
      relationship_fine = λ n w. tt;
      relationship_name = λ n w. any-maybe n;
      list_fine = λ t w. tt;
      element_fine = λ t w. tt;
      map_fine = λ fs w. tt;
      entries_fine = λ fs w. any-entries [] fs;
      union_fine = λ ts w n. tt;
      members_fine = λ ts w. (any-members [] ts, refl);
    }

abbrev AnyRead : Bytes → ℕ → ℕ → Option ℕ → Type 0
AnyRead s at l r = TypeRead AnyType s at l r

pub record Nested (s : Bytes) (at left k q n : ℕ) : Type 0 where
  pub keys : List Bytes
  pub count : length keys ≡ n
  pub reads : Reading AnyType any_may any_enough false s at left k q keys
  pub most : ℕ
  pub rest : Bytes
  pub whole : Goes AnyType any_may any_enough false most keys (drop q s) rest k

pub nested : (s : Bytes) (at left k : ℕ) → (left ≡ 0 → ⊥) → (w : TypeFrom s at) → (drop at s ≡ k ∷ 44 ∷ drop (at + 2) s) × (at + 2 ≤ length s) → content_of k ≡ Some Types → Nested s at left k (at + 2) 0
nested s at left k z w d c =
    record {
      keys = [];
      count = refl;
      reads = reading any-laws s at left k z d c;
      most = nesting w.ty;
      rest = w.rest;
      whole = enter any-laws k (nesting w.ty) (drop (at + 2) s) w.rest w.ty c (sym d.0 ∙ w.is) (tt, omega arith);
    }

-- a type where it ends
ends_at : (s : Bytes) (at : ℕ) (t : Ty) (r : Bytes) → drop at s ≡ line_to t r → (drop (at + length (line t)) s ≡ r) × (at + length (line t) ≤ length s)
ends_at s at t r e = (past s at (line t) r (e ∙ line-to t r), omega (arith, type-inside s at t r e))

pub nesting-known : (s : Bytes) (at l : ℕ) (res : Option ℕ) → TypeFrom s at → NestingEnd s at l res → AnyRead s at l res
unfolding end_within
nesting-known s at l res w h = go (leb (nesting w.ty) l) refl
  where
    go : (b : Bool) → leb (nesting w.ty) l ≡ b → AnyRead s at l res
    go true e =
        let f = h w.ty w.rest w.is in
        let (d, i) = ends_at s at w.ty w.rest w.is in
        rw (f, e) (w.ty, w.is ∙ ap (line_to w.ty) (sym d), (tt, leb-true (nesting w.ty) l e), omega (arith, nesting-line w.ty, nesting-pos w.ty), i)
    go false e =
        let f = h w.ty w.rest w.is in
        rw (f, e) (λ t r d v. omega (arith, v.1, leb-false (nesting w.ty) l e, ap nesting (line-inj t w.ty r w.rest (sym d ∙ w.is)).0))

pub nesting-told : (s : Bytes) (at l : ℕ) (res : Option ℕ) → AnyRead s at l res → NestingEnd s at l res
unfolding end_within
nesting-told s at l (Some e) (u, d, v, p, i) t rest f =
    let j = line-inj u t (drop e s) rest (sym d ∙ f) in
    let z : e ≡ at + length (line t) = omega (arith, length-drop e s, ap length j.1, type-inside s at t rest f) in
    rw (le-leb (nesting t) l (omega (arith, v.1, ap nesting j.0))) (ap Some z)
nesting-told s at l None h t rest f = go (leb (nesting t) l) refl
  where
    go : (b : Bool) → leb (nesting t) l ≡ b → None ≡ cond (leb (nesting t) l) (Some (at + length (line t))) None
    go true e = absurd (h t rest f (tt, leb-true (nesting t) l e))
    go false e = rw e

module _ (s : Bytes) (at left k q n : ℕ) (i : Nested s at left k q n) (g : goes_in k s q n ≡ true) where
  here : goes_in k s q (length i.keys) ≡ true
  here = rw i.count g

  nested-turn : Turn AnyType any_may any_enough false s k q i.most i.keys i.rest
  nested-turn = turn s q here refl i.whole

  pub nested-from : TypeFrom s (value_at k s q)
  nested-from = let u = nested-turn in record { ty = u.child; rest = u.rest; is = u.is }

  pub nested-bad : (res : Option ℕ) → NestingEnd s (value_at k s q) (left - 1) res → res ≡ None → NestingEnd s at left None
  nested-bad res h z = nesting-told s at left None (part-bad AnyType any_may any_enough false s at left k q i.keys i.reads here (nesting-known s (value_at k s q) (left - 1) None nested-from (rw z at h)))

  pub nested-on : (res : Option ℕ) (e : ℕ) → NestingEnd s (value_at k s q) (left - 1) res → res ≡ Some e → Nested s at left k e (n + 1)
  nested-on res e h z =
      let w = nesting-known s (value_at k s q) (left - 1) (Some e) nested-from (rw z at h) in
      let u = nested-turn in
      let j = line-inj w.0 u.child (drop e s) u.rest (sym w.1 ∙ u.is) in
      record {
        keys = i.keys ++ (key_of k s q e ∷ []);
        count = omega (arith, length-append i.keys (key_of k s q e ∷ []), i.count);
        reads = part-on AnyType any_may any_enough false s at left k q i.keys i.reads here e w (u.next e w.4 j.1).0 u.lead;
        most = i.most;
        rest = i.rest;
        whole = (u.next e w.4 j.1).1;
      }

pub nested-end : (s : Bytes) (at left k q n : ℕ) → Nested s at left k q n → goes_in k s q n ≡ false → NestingEnd s at left (Some (end_at k q))
nested-end s at left k q n i g = nesting-told s at left (Some (end_at k q)) (parts-end AnyType any_may any_enough false s at left k q i.keys i.reads (rw i.count g) (λ _. refl))

pub nested-less : (s : Bytes) (at left k q n : ℕ) (i : Nested s at left k q n) (g : goes_in k s q n ≡ true) (res : Option ℕ) (e : ℕ)
    → NestingEnd s (value_at k s q) (left - 1) res → res ≡ Some e → (q < e) × (e ≤ length s)
nested-less s at left k q n i g res e h z =
    let w = nesting-known s (value_at k s q) (left - 1) (Some e) (nested-from s at left k q n i g) (rw z at h) in
    (omega (arith, w.3, (value-bounds k s q i.reads.inside).0), w.4)

-- a type that holds no types
pub nested-flat : (s : Bytes) (at left e : ℕ) → (left ≡ 0 → ⊥) → (content_of (get_or s at 0) ≡ Some Types → ⊥) → EndsAt s at e → NestingEnd s at left (Some e)
unfolding end_within
nested-flat s at left e z h d t rest f =
    let o : content_of (get_or s at 0) ≡ Some (content_t t) = ap content_of (type-byte s at t rest f) ∙ content-kind t in
    rw (le-leb (nesting t) left (omega (arith, flat-nesting t (λ y. h (o ∙ ap Some y))))) (ap Some (d t rest f))

pub nested-none : (s : Bytes) (at left : ℕ) → left ≡ 0 → NestingEnd s at left None
nested-none s at left z = nesting-told s at left None (no-nesting AnyType s at left z)
