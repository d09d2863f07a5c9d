-- Null and a type: `with_null` and `unify_null`. Assumes nothing.
use Rattle.std.specs.Prelude.{Option as StdOption, Some, None}
use mathlib.Core.Path.{◌≡◌, refl, sym, ◌∙◌, ap, subst}
use mathlib.Core.List.{List, [], ◌∷◌}
use mathlib.Core.Logic.{◌⊎◌, inl, inr, ⊎_elim}
use mathlib.Core.Bool.{Bool, true, false}
use Prim.Native.Nat.{ℕ, ◌+◌, ◌-◌, ◌≤◌, ◌<◌, Ordering}
use native.Mathlib.Omega.{arith}
use borrow.Author.Tests.{lt-ltb, le-ltb, ltb-false}
use lib.ListN.{length, take, drop, get_or, length-append}
use lib.Seq.{slice, sets, length-sets}
use Rattle.semantics.specs.Limits.{type_limit}
use Rattle.semantics.specs.Bytes.{Bytes}
use Rattle.semantics.specs.Ty.{t_null, Ty, base, t_union, members, letter, line_to, line, order, insert, inserts, opened, joined}
use Rattle.semantics.proofs.Order.{line_eq, Tri, lt, eq, gt, tri, insert-lt, insert-eq, insert-gt}
use Rattle.text.proofs.Laws.{slice-below, slice-sets, copied}
use Rattle.ty.specs.Parts.{lines_of, TypeAt}
use Rattle.ty.specs.Made.{made}
use Rattle.ty.specs.Union.{TypesAt, overlong, Adding, AddedAll, Grew}
use Rattle.ty.proofs.Members.{types_long, as-types}
use Rattle.ty.proofs.UnionEnds.{is_union_lem, is-other, union-room, union-members}
use Rattle.unify_run.specs.Run.{large, checked, long, fitting, add, sizes, nullable}
use Rattle.unify_run.proofs.Size.{joined-two}
use Rattle.std.specs.Prelude.{Err}
use Rattle.unify.specs.declared.Span.{Span}
use Rattle.unify.specs.declared.UnifyError.TheVariants.{TooLarge}
use Rattle.unify.specs.Work.{Unified, span, Below}
use Rattle.unify.specs.Made.{SomeUnion, ClosedUnion}
use Rattle.unify.specs.Flat.{SomeOperand, OneAnswer, with_null, SomeTypes, NullAnswer}
use Rattle.ty.proofs.Lent.{types-down, types-front, put_back, types_up}
use Rattle.unify.proofs.Marks.{below-same, below-sets, below_then, put-below}

-- ## `with_null`

sizes-lines : (ts : List Ty) → sizes ts ≡ length (lines_of ts)
unfolding sizes lines_of
sizes-lines [] = refl
sizes-lines (t ∷ ts) = ap (λ (n : ℕ). length (line t) + n) (sizes-lines ts) ∙ sym (length-append (line t) (lines_of ts))

abbrev Nulled : List Ty → List Ty
Nulled ts = inserts (base t_null ∷ []) ts

null-long : (ts : List Ty) → type_limit < sizes ts + 2 → with_null ts ≡ large
unfolding with_null
null-long ts h = rw (lt-ltb type_limit (sizes ts + 2) h)

null-over : (ts : List Ty) → sizes ts + 2 ≤ type_limit → overlong (Nulled ts) ≡ true → with_null ts ≡ large
unfolding with_null add fitting long overlong
null-over ts h e = rw (le-ltb type_limit (sizes ts + 2) h, e)

null-fits : (ts : List Ty) → sizes ts + 2 ≤ type_limit → overlong (Nulled ts) ≡ false → with_null ts ≡ checked (joined (Nulled ts))
unfolding with_null add fitting long overlong
null-fits ts h e = rw (le-ltb type_limit (sizes ts + 2) h, e)

-- one type alone is the one that was inserted
insert-two : (x : Ty) (ms : List Ty) → (insert x ms ≡ x ∷ []) ⊎ (2 ≤ length (insert x ms))
unfolding insert
insert-two x [] = inl refl
insert-two x (y ∷ ys) = go (tri (line x) (line y)) (some_in x ys)
  where
    some_in : (z : Ty) (l : List Ty) → 1 ≤ length (insert z l)
    some_in z [] = omega arith
    some_in z (w ∷ l) = pick (order z w)
      where
        pick : (c : Ordering) → 1 ≤ length {A = Ty} (elim c [ Ordering.lt ↦ z ∷ w ∷ l | Ordering.eq ↦ w ∷ l | Ordering.gt ↦ w ∷ insert z l ])
        pick Ordering.lt = omega arith
        pick Ordering.eq = omega arith
        pick Ordering.gt = omega arith

    alone : (l : List Ty) → (x ∷ l ≡ x ∷ []) ⊎ (2 ≤ length (x ∷ l))
    alone [] = inl refl
    alone (z ∷ l) = inr (omega arith)

    go : Tri (line x) (line y) → 1 ≤ length (insert x ys) → (insert x (y ∷ ys) ≡ x ∷ []) ⊎ (2 ≤ length (insert x (y ∷ ys)))
    go (lt h) n = inr (rw (insert-lt x y ys h) (omega arith))
    go (eq h) n = let e = line_eq x y h in rw (← e, insert-eq x ys) (alone ys)
    go (gt h) n = inr (rw (insert-gt x y ys h) (omega arith))

one-null : length (lines_of (base t_null ∷ [])) ≡ 2
unfolding lines_of line line_to
one-null = refl

-- a union with Null in it that is not too long has room for its brackets
null-room : (ts : List Ty) → overlong (Nulled ts) ≡ false → length (lines_of (Nulled ts)) + 4 ≤ 1024
unfolding overlong inserts
null-room ts e = ⊎_elim alone two (insert-two (base t_null) ts)
  where
    alone : insert (base t_null) ts ≡ base t_null ∷ [] → length (lines_of (Nulled ts)) + 4 ≤ 1024
    alone q = rw q (omega (arith, one-null))

    two : 2 ≤ length (insert (base t_null) ts) → length (lines_of (Nulled ts)) + 4 ≤ 1024
    two n =
        let j = (joined-two (Nulled ts) n).0 in
        let l = sizes-lines (Nulled ts) in
        let m = ltb-false type_limit (length (line (joined (Nulled ts)))) e in
        omega arith

-- n bytes of types
module _ {s : Bytes} {a : Span} {n : ℕ} (e : n ≡ a.to - a.from) {ts : List Ty} (f : TypesAt s a.from a.to ts) where
  counted : TypesAt s a.from (a.from + n) ts
  counted = let z : a.to ≡ a.from + n = omega (arith, f.ordered) in subst (λ (k : ℕ). TypesAt s a.from k ts) z f

  null_size : sizes ts ≡ n
  null_size = omega (arith, types_long f, sizes-lines ts)

pub null-bounds : {s : Bytes} {a : Span} {n mark : ℕ} → n ≡ a.to - a.from → SomeTypes s a mark → n + 2 ≤ 1024 → (a.from + n ≤ mark) × (mark + n + 2 ≤ length s) × (a.from + n ≤ length s)
null-bounds e p h = let b = p.below in let r = p.room in let o = p.at.ordered in (omega arith, omega arith, omega arith)

pub null-too-long : {s : Bytes} {a : Span} {n mark : ℕ} → n ≡ a.to - a.from → 1024 < n + 2 → NullAnswer s s a mark (Err TooLarge)
null-too-long {s} {a} {n} {mark} e h = record { below = below-same s mark; answer = λ ts f. let z = null_size e f in rw (null-long ts (omega arith)) tt }

-- the types and Null behind each other at the mark
module _ {s s₁ s₂ : Bytes} {a : Span} {n mark : ℕ} (e : n ≡ a.to - a.from) (p : SomeTypes s a mark) (h : n + 2 ≤ 1024) (w : s₁ ≡ sets s mark (slice a.from (a.from + n) s)) (v : s₂ ≡ sets s₁ (mark + n) (66 ∷ 44 ∷ [])) where
  null-long₁ : length s₁ ≡ length s
  null-long₁ = ap length w ∙ length-sets s mark (slice a.from (a.from + n) s)

  pub null-below : Below s s₂ mark
  null-below =
      rw (v, w)
      (below_then (below-sets s mark mark (slice a.from (a.from + n) s) (omega arith)) (below-sets (sets s mark (slice a.from (a.from + n) s)) mark (mark + n) (66 ∷ 44 ∷ []) (omega arith)))

  null-front : {ts : List Ty} → TypesAt s a.from a.to ts → TypesAt s₂ mark (mark + n) ts
  null-front f =
      let b = null-bounds e p h in
      record {
        ordered = omega arith;
        inside = omega (arith, null-below.long);
        is = ap (λ (l : Bytes). slice mark (mark + n) l) v
            ∙ slice-below mark (mark + n) s₁ (mark + n) (66 ∷ 44 ∷ []) (omega arith)
            ∙ ap (λ (l : Bytes). slice mark (mark + n) l) w
            ∙ copied s a.from mark n (omega arith) (omega arith)
            ∙ (counted e f).is;
      }

  null-new : TypesAt s₂ (mark + n) (mark + (n + 2)) (base t_null ∷ [])
  unfolding lines_of line line_to letter
  null-new =
      let b = null-bounds e p h in
      let z : mark + (n + 2) ≡ mark + n + 2 = omega arith in
      let i : mark + n + 2 ≤ length s₁ = omega (arith, null-long₁) in
      record {
        ordered = omega arith;
        inside = omega (arith, null-below.long);
        is = rw (z, v) (slice-sets s₁ (mark + n) (66 ∷ 44 ∷ []) i);
      }

  pub null-adding : Adding (take (length s₂ - mark) (drop mark s₂)) n (n + 2)
  null-adding = record { members = p.types; types = base t_null ∷ []; front = types-front (null-front p.at); new = types-down s₂ mark n (n + 2) null-new }

  module _ (t : Bytes) (r : StdOption ℕ) (l : length t ≡ length (take (length s₂ - mark) (drop mark s₂))) (g : AddedAll (take (length s₂ - mark) (drop mark s₂)) t n (n + 2) r) where
    null-grew : (ts : List Ty) → TypesAt s a.from a.to ts → Grew (take (length s₂ - mark) (drop mark s₂)) t (n + 2) (Nulled ts) r
    null-grew ts f = g ts (base t_null ∷ []) (types-front (null-front f)) (types-down s₂ mark n (n + 2) null-new)

    null-in : mark ≤ length s₂
    null-in = let b = null-bounds e p h in omega (arith, null-below.long)

    pub null-put : Below s (put_back s₂ mark t) mark
    null-put = below_then null-below (put-below s₂ t mark null-in l)

    -- what the answer says
    grown-len : (us : List Ty) {k : ℕ} → r ≡ Some k → r ≡ made (overlong us) (length (lines_of us)) → (overlong us ≡ false) × (k ≡ length (lines_of us))
    grown-len us {k} d a = go (overlong us) (sym d ∙ a)
      where
        go : (b : Bool) → Some k ≡ made b (length (lines_of us)) → (b ≡ false) × (k ≡ length (lines_of us))
        go true q = absurd (let z : ◌≡◌ {A = ℕ} 0 1 = cc in omega arith)
        go false q = (refl, cc)

    grown-over : (us : List Ty) → r ≡ None → r ≡ made (overlong us) (length (lines_of us)) → overlong us ≡ true
    grown-over us d a = go (overlong us) (sym d ∙ a)
      where
        go : (b : Bool) → None ≡ made b (length (lines_of us)) → b ≡ true
        go true q = refl
        go false q = absurd (let z : ◌≡◌ {A = ℕ} 0 1 = cc in omega arith)

    null-at : (ts : List Ty) → TypesAt s a.from a.to ts → {k : ℕ} → r ≡ Some k → (overlong (Nulled ts) ≡ false) × TypesAt (put_back s₂ mark t) mark (mark + k) (Nulled ts)
    null-at ts f {k} d =
        let w = null-grew ts f in
        let (o, z) = grown-len (Nulled ts) d w.answer in
        (o, rw z (types_up s₂ t mark null-in l w.front))

    pub null-union : {k : ℕ} → r ≡ Some k → SomeUnion (put_back s₂ mark t) mark k
    null-union {k} d =
        let w = null-grew p.types p.at in
        let (o, z) = grown-len (Nulled p.types) d w.answer in
        let m = null-room p.types o in
        record { members = Nulled p.types; at = (null-at p.types p.at d).1; room = omega (arith, null-put.long, p.room) }

    pub null-closed : {k : ℕ} {s₃ : Bytes} {u : Unified} → r ≡ Some k → ClosedUnion (put_back s₂ mark t) s₃ mark k u → NullAnswer s s₃ a mark u
    null-closed {k} {s₃} {u} d c =
        record {
          below = below_then null-put c.below;
          answer = λ ts f. let a = null-at ts f d in let z = null_size e f in rw (null-fits ts (omega arith) a.0) (c.answer (Nulled ts) a.1);
        }

    pub null-large : r ≡ None → NullAnswer s (put_back s₂ mark t) a mark (Err TooLarge)
    null-large d =
        record {
          below = null-put;
          answer = λ ts f. let z = null_size e f in rw (null-over ts (omega arith) (grown-over (Nulled ts) d (null-grew ts f).answer)) tt;
        }

-- ## `unify_null`

nullable-opened : (t : Ty) → nullable t ≡ with_null (opened t)
unfolding nullable with_null
nullable-opened t = refl

opened-types : {s : Bytes} {a e : ℕ} {x : Ty} → TypeAt s a e x → get_or s a 0 ≡ 79 → (a + 4 ≤ e) × TypesAt s (a + 2) (e - 2) (opened x)
unfolding opened
opened-types {s} {a} {e} {x} f h =
    let (us, q) = is_union_lem f h in
    let g : TypeAt s a e (t_union us) = subst (λ (t : Ty). TypeAt s a e t) q f in
    let r = union-room us g in
    let z : e - 2 ≡ a + 2 + length (lines_of (members us)) = omega arith in
    (omega arith, rw (q, z) (union-members us g))

plain-types : {s : Bytes} {a e : ℕ} {x : Ty} → TypeAt s a e x → (get_or s a 0 ≡ 79 → ⊥) → TypesAt s a e (opened x)
plain-types f h = rw (is-other f h) (as-types f)

module _ {s : Bytes} {a : Span} {mark : ℕ} (p : SomeOperand s a mark) where
  pub union-long : get_or s a.from 0 ≡ 79 → a.from + 4 ≤ a.to
  union-long h = (opened-types p.at.at h).0

  pub opened-null : get_or s a.from 0 ≡ 79 → SomeTypes s (span (a.from + 2) (a.to - 2)) mark
  opened-null h = let b = p.at.below in record { types = opened p.ty; at = (opened-types p.at.at h).1; below = omega arith; room = p.room }

  pub plain-null : (get_or s a.from 0 ≡ 79 → ⊥) → SomeTypes s a mark
  plain-null h = record { types = opened p.ty; at = plain-types p.at.at h; below = p.at.below; room = p.room }

module _ {s s' : Bytes} {a : Span} {mark : ℕ} {r : Unified} where
  pub opened-nullable : get_or s a.from 0 ≡ 79 → NullAnswer s s' (span (a.from + 2) (a.to - 2)) mark r → OneAnswer nullable s s' a mark r
  opened-nullable h n = record { below = n.below; answer = λ t o. rw (nullable-opened t) (n.answer (opened t) (opened-types o.at h).1) }

  pub plain-nullable : (get_or s a.from 0 ≡ 79 → ⊥) → NullAnswer s s' a mark r → OneAnswer nullable s s' a mark r
  plain-nullable h n = record { below = n.below; answer = λ t o. rw (nullable-opened t) (n.answer (opened t) (plain-types o.at h)) }
