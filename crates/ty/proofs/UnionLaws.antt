-- The running union on plain values: where a type goes, one type more, the members as a type. Assumes nothing.
use mathlib.Core.Path.{◌≡◌, refl, sym, ◌∙◌, ap, subst}
use mathlib.Core.List.{List, [], ◌∷◌, ◌++◌, append_assoc}
use mathlib.Core.Bool.{true, false}
use Prim.Native.Nat.{Ordering}
use Prim.Native.Nat.{ℕ, ◌+◌, ◌-◌, ◌≤◌, ◌<◌}
use native.Mathlib.Omega.{arith}
use lib.ListN.{length, take, drop, length-append}
use lib.Seq.{slice, sets, drop-drop}
use borrow.Author.Tests.{lt-ltb, le-ltb}
use Rattle.std.specs.Prelude.{Option, Some, None}
use Rattle.semantics.specs.Bytes.{Bytes, lex}
use Rattle.semantics.specs.Ty.{Ty, line_to, line, insert, inserts, pack, joined}
use Rattle.text.specs.Text.{rotated}
use Rattle.text.proofs.Laws.{sets-parts, drop-above}
use Rattle.semantics.specs.Limits.{type_limit}
use Rattle.ty.specs.Parts.{lines_of, TypeAt, TypeFrom, EndsAt}
use Rattle.ty.specs.Made.{made}
use Rattle.ty.specs.Union.{TypesAt, Placing, Placed, Between, Goes, Pending, Inserted, InsertedAny, overlong, SomeMembers, Sized, Adding, Grew}
use Rattle.ty.specs.Keys.{Below}
use Rattle.ty.specs.declared.union.Rest.{Rest}
use Rattle.ty.proofs.Members.{line-long, lines-append, drop-at-two, union-line, members-pack, types_long, types-whole, types-at, first-from, no-types, types-split, one_line, first_at, others-at, insert-past, insert-there, insert-here}

-- ## `place`: the members before the byte q are less than x

pub record Reached (ms : List Ty) (x : Ty) (q : ℕ) : Type 0 where
  pub before : List Ty
  pub after : List Ty
  pub members : ms ≡ before ++ after
  pub at : q ≡ length (lines_of before)
  pub inserted : insert x ms ≡ before ++ insert x after

pub reached-start : (ms : List Ty) (x : Ty) → Reached ms x 0
unfolding lines_of
reached-start ms x = record { before = []; after = ms; members = refl; at = refl; inserted = refl }

-- ... and one more stands at q
pub record More (s : Bytes) (n : ℕ) (ms : List Ty) (x : Ty) (q : ℕ) : Type 0 where
  pub before : List Ty
  pub this : Ty
  pub after : List Ty
  pub members : ms ≡ before ++ (this ∷ after)
  pub at : q ≡ length (lines_of before)
  pub inserted : insert x ms ≡ before ++ insert x (this ∷ after)
  pub from : drop q s ≡ line_to this (lines_of after ++ drop n s)
  pub type : TypeAt s q (q + length (line this)) this
  pub inside : q + length (line this) ≤ n

pub reached-rest : {s : Bytes} {n : ℕ} {ms : List Ty} {x : Ty} {q : ℕ} → TypesAt s 0 n ms → (r : Reached ms x q) → TypesAt s q n r.after
reached-rest {s} {n} {ms} {x} {q} f r =
    let g : TypesAt s 0 n (r.before ++ r.after) = rw r.members at f in
    let z : 0 + length (lines_of r.before) ≡ q = omega (arith, r.at) in
    rw z at (types-split r.before r.after g).1

pub reached-more : {s : Bytes} {n : ℕ} {ms : List Ty} {x : Ty} {q : ℕ} → TypesAt s 0 n ms → Reached ms x q → q < n → More s n ms x q
unfolding lines_of
reached-more {s} {n} {ms} {x} {q} f r h = go r.after (reached-rest f r) r.members r.inserted
  where
    go : (us : List Ty) → TypesAt s q n us → ms ≡ r.before ++ us → insert x ms ≡ r.before ++ insert x us → More s n ms x q
    go [] k m i = absurd (omega (arith, types_long k))
    go (y ∷ ys) k m i =
        record {
          before = r.before;
          this = y;
          after = ys;
          members = m;
          at = r.at;
          inserted = i;
          from = first-from k;
          type = first_at k;
          inside = (others-at k).ordered;
        }

module _ {s : Bytes} {n m : ℕ} {ms : List Ty} {x : Ty} {q e : ℕ} (w : More s n ms x q) (new : TypeAt s n m x) (ends : EndsAt s q e) where
  more-end : e ≡ q + length (line w.this)
  more-end = ends w.this (lines_of w.after ++ drop n s) w.from

  more-order : lex (slice q e s) (slice n m s) ≡ lex (line w.this) (line x)
  more-order = rw (more-end, w.type.is, new.is)

  pub more-on : lex (slice q e s) (slice n m s) ≡ Ordering.lt → Reached ms x e
  more-on o =
      record {
        before = w.before ++ (w.this ∷ []);
        after = w.after;
        members = w.members ∙ sym (append_assoc w.before (w.this ∷ []) w.after);
        at = more-end ∙ omega (arith, w.at, ap length (lines-append w.before (w.this ∷ [])), length-append (lines_of w.before) (lines_of (w.this ∷ [])), ap length (one_line w.this));
        inserted = w.inserted
            ∙ ap (λ (l : List Ty). w.before ++ l) (insert-past x w.this w.after (sym more-order ∙ o))
            ∙ sym (append_assoc w.before (w.this ∷ []) (insert x w.after));
      }

  pub more-below : Below s q n m → Reached ms x e
  more-below b = more-on (more-order ∙ b w.this (lines_of w.after ++ drop n s) x w.from new)

  pub more-there : lex (slice q e s) (slice n m s) ≡ Ordering.eq → insert x ms ≡ ms
  more-there o = w.inserted ∙ ap (λ (l : List Ty). w.before ++ l) (insert-there x w.this w.after (sym more-order ∙ o)) ∙ sym w.members

  pub more-here : lex (slice q e s) (slice n m s) ≡ Ordering.gt → Between ms x q
  more-here o =
      record {
        before = w.before;
        after = w.this ∷ w.after;
        members = w.members;
        at = w.at;
        inserted = w.inserted ∙ ap (λ (l : List Ty). w.before ++ l) (insert-here x w.this w.after (sym more-order ∙ o));
      }

pub reached-end : {s : Bytes} {n : ℕ} {ms : List Ty} {x : Ty} {q : ℕ} → TypesAt s 0 n ms → Reached ms x q → n ≤ q → Between ms x n
unfolding insert
reached-end {s} {n} {ms} {x} {q} f r h =
    let k = types_long (reached-rest f r) in
    let e : n ≡ q = omega arith in
    let z : r.after ≡ [] = no-types r.after (omega arith) in
    record {
      before = r.before;
      after = [];
      members = rw z at r.members;
      at = e ∙ r.at;
      inserted = rw z at r.inserted;
    }

-- the loop's invariant
pub record PlaceInv (s : Bytes) (n m q : ℕ) : Type 0 where
  pub below : q ≤ n
  pub reached : (ms : List Ty) (x : Ty) → TypesAt s 0 n ms → TypeAt s n m x → Reached ms x q

module _ {s : Bytes} {n m q : ℕ} (p : Placing s n m) (i : PlaceInv s n m q) (h : q < n) where
  abbrev pub place_more : More s n p.members p.new.ty q
  place_more = reached-more p.front (i.reached p.members p.new.ty p.front p.new.at) h

  pub place-from : TypeFrom s q
  place-from = record { ty = place_more.this; rest = lines_of place_more.after ++ drop n s; is = place_more.from }

  -- where the member at q ends
  pub place_end : {e : ℕ} → EndsAt s q e → (q < e) × (e ≤ n) × (n ≤ m) × (m ≤ length s)
  place_end {e} ends =
      let z : e ≡ q + length (line place_more.this) = ends place_more.this (lines_of place_more.after ++ drop n s) place_more.from in
      let l = line-long place_more.this in
      let k = place_more.inside in
      (omega arith, omega arith, p.new.at.ordered, p.new.at.inside)

-- ## `add_next`: the first type goes in

pub inserted-as : {s s' : Bytes} {e k l : ℕ} (us ts : List Ty) (z : Bytes) → s' ≡ lines_of us ++ (lines_of ts ++ z) → length (lines_of us) ≡ k → k + length (lines_of ts) ≡ l → l ≤ e
    → drop e s' ≡ drop e s → length s' ≡ length s → Inserted s s' e us ts (record { from = k; to = l })
inserted-as {s} {s'} {e} {k} {l} us ts z w p q h d n =
    record {
      front = rw w (types-at [] (lines_of us) (lines_of ts ++ z) 0 k us refl (omega arith) refl);
      new = rw w (types-at (lines_of us) (lines_of ts) z k l ts p q refl);
      within = h;
      above = d;
      long = n;
    }

module _ {s : Bytes} {n e : ℕ} {x : Ty} {ts : List Ty} (g : TypesAt s n e (x ∷ ts)) where
  pub next-end : {m : ℕ} → EndsAt s n m → m ≡ n + length (line x)
  next-end ends = ends x (lines_of ts ++ drop e s) (first-from g)

  pub next-at : {m : ℕ} → EndsAt s n m → TypeAt s n m x
  next-at ends = rw (next-end ends) (first_at g)

  pub next-others : {m : ℕ} → EndsAt s n m → TypesAt s m e ts
  next-others ends = rw (next-end ends) (others-at g)

module _ {s : Bytes} {n e : ℕ} {ms : List Ty} {x : Ty} {ts : List Ty} (f : TypesAt s 0 n ms) (g : TypesAt s n e (x ∷ ts)) where
  pub next-moved : {s' : Bytes} {m p : ℕ} → EndsAt s n m → Between ms x p → s' ≡ rotated p n m s → length s' ≡ length s
      → Inserted s s' e (insert x ms) ts (record { from = m; to = e })
  unfolding lines_of
  next-moved {s'} {m} {p} ends b w l =
      let h : TypesAt s 0 n (b.before ++ b.after) = rw b.members at f in
      let c = types-split b.before b.after h in
      let z : 0 + length (lines_of b.before) ≡ p = omega (arith, b.at) in
      let front : take p s ≡ lines_of b.before = rw z at c.0.is in
      let back : slice p n s ≡ lines_of b.after = rw z at c.1.is in
      let this : slice n m s ≡ line x = (next-at g ends).is in
      let rest : drop m s ≡ lines_of ts ++ drop e s = types-whole (next-others g ends) in
      let u : lines_of (insert x ms) ≡ lines_of b.before ++ (line x ++ lines_of b.after) = ap lines_of b.inserted ∙ lines-append b.before (x ∷ b.after) in
      let y : s' ≡ lines_of (insert x ms) ++ (lines_of ts ++ drop e s) = w ∙ rw (front, back, this, rest, u) (simp append_assoc) in
      let v : length (lines_of (insert x ms)) ≡ m =
      omega (arith, ap length u, length-append (lines_of b.before) (line x ++ lines_of b.after), length-append (line x) (lines_of b.after), next-end g ends, types_long c.1) in
      let k = types_long (next-others g ends) in
      let i : e ≤ e = omega arith in
      inserted-as (insert x ms) ts (drop e s) y v k i
      (ap (drop e) y ∙ drop-at-two (lines_of (insert x ms)) (lines_of ts) (drop e s) e (omega arith)) l

  pub next-kept : {s' : Bytes} {m : ℕ} → EndsAt s n m → insert x ms ≡ ms → s' ≡ sets s n (slice m (m + (e - m)) s) → length s' ≡ length s
      → Inserted s s' e (insert x ms) ts (record { from = n; to = e - (m - n) })
  next-kept {s'} {m} ends b w l =
      let o = next-others g ends in
      let i = o.inside in
      let k = o.ordered in
      let z : m + (e - m) ≡ e = omega arith in
      let v : slice m (m + (e - m)) s ≡ lines_of ts = rw z o.is in
      let c : s' ≡ sets s n (lines_of ts) = w ∙ ap (sets s n) v in
      let a = types_long o in
      let j = types_long g in
      let q = next-end g ends in
      let h : n + length (lines_of ts) ≤ length s = omega arith in
      let y : s' ≡ lines_of (insert x ms) ++ (lines_of ts ++ drop (n + length (lines_of ts)) s) =
      c ∙ sets-parts s n (lines_of ts) h
      ∙ ap (λ (u : Bytes). u ++ (lines_of ts ++ drop (n + length (lines_of ts)) s)) (f.is ∙ ap lines_of (sym b)) in
      inserted-as (insert x ms) ts (drop (n + length (lines_of ts)) s) y (ap length (ap lines_of b) ∙ omega (arith, types_long f)) (omega arith) (omega arith)
      (ap (drop e) c ∙ drop-above e s n (lines_of ts) (omega arith)) l

pub goes_at : {ms : List Ty} {x : Ty} (r : Option ℕ) (p : ℕ) → Goes ms x r → r ≡ Some p → Between ms x p
goes_at {ms} {x} r p g q = subst (λ (u : Option ℕ). Goes ms x u) q g

pub goes-there : (ms : List Ty) (x : Ty) (r : Option ℕ) → Goes ms x r → r ≡ None → insert x ms ≡ ms
goes-there ms x r g q = subst (λ (u : Option ℕ). Goes ms x u) q g

pub between-low : {s : Bytes} {n p : ℕ} {ms : List Ty} {x : Ty} → TypesAt s 0 n ms → Between ms x p → p ≤ n
between-low f b = omega (arith, types_long f, b.at, ap length (ap lines_of b.members), ap length (lines-append b.before b.after), length-append (lines_of b.before) (lines_of b.after))

module _ {s : Bytes} {n e : ℕ} (p : Pending s n e) where
  pub next-from : TypeFrom s n
  next-from = record { ty = p.first; rest = lines_of p.others ++ drop e s; is = first-from p.new }

  pub next-bounds : {m : ℕ} → EndsAt s n m → (n < m) × (m ≤ e) × (e ≤ length s)
  next-bounds ends =
      let z = next-end p.new ends in
      let o = next-others p.new ends in
      (omega (arith, line-long p.first), o.ordered, o.inside)

  pub next-placing : {m : ℕ} → EndsAt s n m → Placing s n m
  next-placing ends = record { members = p.members; front = p.front; new = record { ty = p.first; at = next-at p.new ends } }

  pub next-slot : {m : ℕ} (r : Option ℕ) (k : ℕ) → EndsAt s n m → Placed s n m r → r ≡ Some k → k ≤ n
  next-slot r k ends g q = between-low p.front (goes_at r k (g p.members p.first p.front (next-at p.new ends)) q)

-- ## `union_size`

-- the line of two members or more
pub many-line : (t u : Ty) (ts : List Ty) → line (joined (t ∷ u ∷ ts)) ≡ 79 ∷ 44 ∷ (lines_of (t ∷ u ∷ ts) ++ (33 ∷ 44 ∷ []))
unfolding joined
many-line t u ts = union-line (pack (t ∷ u ∷ ts)) ∙ ap (λ (l : List Ty). 79 ∷ 44 ∷ (lines_of l ++ (33 ∷ 44 ∷ []))) (members-pack (t ∷ u ∷ ts))

pub many-long : (t u : Ty) (ts : List Ty) → length (line (joined (t ∷ u ∷ ts))) ≡ length (lines_of (t ∷ u ∷ ts)) + 4
many-long t u ts = ap length (many-line t u ts) ∙ omega (arith, length-append (lines_of (t ∷ u ∷ ts)) (33 ∷ 44 ∷ []))

-- by how many there are
joined-most : (ms : List Ty) → length (line (joined ms)) ≤ length (lines_of ms) + 4
unfolding joined line line_to
joined-most [] = omega arith
joined-most (t ∷ []) = omega (arith, ap length (one_line t))
joined-most (t ∷ u ∷ ts) = omega (arith, many-long t u ts)

joined-least : (ms : List Ty) → length (lines_of ms) ≤ length (line (joined ms))
unfolding joined lines_of
joined-least [] = omega arith
joined-least (t ∷ []) = omega (arith, ap length (one_line t))
joined-least (t ∷ u ∷ ts) = omega (arith, many-long t u ts)

module _ {s : Bytes} {n : ℕ} {ms : List Ty} (f : TypesAt s 0 n ms) where
  pub size-short : n + 4 ≤ 1024 → overlong ms ≡ false
  unfolding overlong
  size-short h = le-ltb type_limit (length (line (joined ms))) (omega (arith, types_long f, joined-most ms))

  pub size-long : 1024 < n → overlong ms ≡ true
  unfolding overlong
  size-long h = lt-ltb type_limit (length (line (joined ms))) (omega (arith, types_long f, joined-least ms))

-- a member at the front, if there is one
pub front-from : {s : Bytes} {n : ℕ} {ms : List Ty} → TypesAt s 0 n ms → 0 < n → TypeFrom s 0
unfolding lines_of
front-from {s} {n} {ms} f h = go ms f
  where
    go : (us : List Ty) → TypesAt s 0 n us → TypeFrom s 0
    go [] g = absurd (omega (arith, types_long g))
    go (t ∷ ts) g = record { ty = t; rest = lines_of ts ++ drop n s; is = first-from g }

-- the first member ends before the last one does
pub two-lines : {s : Bytes} {n e : ℕ} {ms : List Ty} → TypesAt s 0 n ms → EndsAt s 0 e → e < n → line (joined ms) ≡ 79 ∷ 44 ∷ (lines_of ms ++ (33 ∷ 44 ∷ []))
unfolding lines_of
two-lines {s} {n} {e} {ms} f ends h = go ms f
  where
    go : (us : List Ty) → TypesAt s 0 n us → line (joined us) ≡ 79 ∷ 44 ∷ (lines_of us ++ (33 ∷ 44 ∷ []))
    go [] g = absurd (omega (arith, types_long g))
    go (t ∷ []) g = absurd (omega (arith, types_long g, ap length (one_line t), next-end g ends))
    go (t ∷ u ∷ ts) g = many-line t u ts

-- ... or it is the last one
pub one-member : {s : Bytes} {n e : ℕ} {ms : List Ty} → TypesAt s 0 n ms → EndsAt s 0 e → 0 < n → n ≤ e → line (joined ms) ≡ lines_of ms
unfolding lines_of joined
one-member {s} {n} {e} {ms} f ends p h = go ms f
  where
    go : (us : List Ty) → TypesAt s 0 n us → line (joined us) ≡ lines_of us
    go [] g = absurd (omega (arith, types_long g))
    go (t ∷ []) g = sym (one_line t)
    go (t ∷ u ∷ ts) g = absurd (omega (arith, types_long g, next-end g ends, length-append (line t) (lines_of (u ∷ ts)), length-append (line u) (lines_of ts), line-long u))

module _ {s : Bytes} {n e : ℕ} {ms : List Ty} (f : TypesAt s 0 n ms) (ends : EndsAt s 0 e) where
  pub size-two : e < n → 1024 < n + 4 → overlong ms ≡ true
  unfolding overlong
  size-two h k = lt-ltb type_limit (length (line (joined ms))) (omega (arith, ap length (two-lines f ends h), length-append (lines_of ms) (33 ∷ 44 ∷ []), types_long f))

  pub size-one : 0 < n → n ≤ e → n ≤ 1024 → overlong ms ≡ false
  unfolding overlong
  size-one p h k = le-ltb type_limit (length (line (joined ms))) (omega (arith, ap length (one-member f ends p h), types_long f))

-- what stands above stays above
pub drop-up : (a b : Bytes) (k e : ℕ) → drop k a ≡ drop k b → k ≤ e → drop e a ≡ drop e b
drop-up a b k e p h =
    let z : k + (e - k) ≡ e = omega arith in
    subst (λ (i : ℕ). drop i a ≡ drop i b) z (sym (drop-drop (e - k) k a) ∙ ap (drop (e - k)) p ∙ drop-drop (e - k) k b)

-- ## `add_members`

-- members, and types that are still to go in, which come to us
pub record Held (s : Bytes) (n e : ℕ) (us : List Ty) : Type 0 where
  pub members : List Ty
  pub types : List Ty
  pub front : TypesAt s 0 n members
  pub new : TypesAt s n e types
  pub all : inserts types members ≡ us

-- the loop's invariant
pub record AddInv (s₀ : Bytes) (len end : ℕ) (s : Bytes) (n e : ℕ) : Type 0 where
  pub within : e ≤ end
  pub above : drop end s ≡ drop end s₀
  pub long : length s ≡ length s₀
  pub held : (ms ts : List Ty) → TypesAt s₀ 0 len ms → TypesAt s₀ len end ts → Held s n e (inserts ts ms)

-- one more is to go in
pub record HeldMore (s : Bytes) (n e : ℕ) (us : List Ty) : Type 0 where
  pub members : List Ty
  pub first : Ty
  pub others : List Ty
  pub front : TypesAt s 0 n members
  pub new : TypesAt s n e (first ∷ others)
  pub all : inserts others (insert first members) ≡ us

pub held_more : {s : Bytes} {n e : ℕ} {us : List Ty} → Held s n e us → n < e → HeldMore s n e us
unfolding lines_of inserts
held_more {s} {n} {e} {us} h k = go h.types h.new h.all
  where
    go : (ts : List Ty) → TypesAt s n e ts → inserts ts h.members ≡ us → HeldMore s n e us
    go [] g a = absurd (omega (arith, types_long g))
    go (t ∷ ts) g a = record { members = h.members; first = t; others = ts; front = h.front; new = g; all = a }

-- none is
pub held-end : {s : Bytes} {n e : ℕ} {us : List Ty} → Held s n e us → e ≤ n → TypesAt s 0 n us
unfolding inserts
held-end {s} {n} {e} {us} h k = go h.types (no-types h.types (omega (arith, types_long h.new))) h.all
  where
    go : (ts : List Ty) → ts ≡ [] → inserts ts h.members ≡ us → TypesAt s 0 n us
    go [] z a = rw a at h.front
    go (t ∷ ts) z a = absurd (let y : ◌≡◌ {A = ℕ} 0 1 = cc in omega arith)

module _ {s₀ : Bytes} {len end : ℕ} {s : Bytes} {n e : ℕ} (p : Adding s₀ len end) (i : AddInv s₀ len end s n e) where
  pub add-held : Held s n e (inserts p.types p.members)
  add-held = i.held p.members p.types p.front p.new

  pub add-pending : n < e → Pending s n e
  add-pending h = let m = held_more add-held h in record { members = m.members; first = m.first; others = m.others; front = m.front; new = m.new }

  pub add-less : {s' : Bytes} {r : Rest} → n < e → InsertedAny s s' n e r → r.to - r.from < e - n
  add-less h a =
      let m = held_more add-held h in
      let o = (a m.members m.first m.others m.front m.new).new in
      omega (arith, types_long o, types_long (others-at m.new), line-long m.first, o.ordered)

  pub add-again : {s' : Bytes} {r : Rest} → n < e → InsertedAny s s' n e r → AddInv s₀ len end s' r.from r.to
  add-again {s'} {r} h a =
      let m = held_more add-held h in
      let o = a m.members m.first m.others m.front m.new in
      let k = i.within in
      record {
        within = omega (arith, o.within);
        above = drop-up s' s e end o.above k ∙ i.above;
        long = o.long ∙ i.long;
        held = λ ms ts f g.
            let w = held_more (i.held ms ts f g) h in
            let v = a w.members w.first w.others w.front w.new in
            record { members = insert w.first w.members; types = w.others; front = v.front; new = v.new; all = w.all };
      }

  pub add-members : e ≤ n → SomeMembers s n
  add-members h = record { members = inserts p.types p.members; front = held-end add-held h }

  pub add-grew : {r : Option ℕ} → e ≤ n → Sized s n r → (ms ts : List Ty) → TypesAt s₀ 0 len ms → TypesAt s₀ len end ts → Grew s₀ s end (inserts ts ms) r
  add-grew {r} h z ms ts f g =
      let w = held-end (i.held ms ts f g) h in
      let k : 0 + length (lines_of (inserts ts ms)) ≡ n = types_long w in
      let l : n ≡ length (lines_of (inserts ts ms)) = omega arith in
      let o = add-held.new.ordered in
      record {
        front = rw l at w;
        within = omega (arith, i.within);
        above = i.above;
        long = i.long;
        answer = z (inserts ts ms) w ∙ ap (λ (k : ℕ). made (overlong (inserts ts ms)) k) l;
      }
