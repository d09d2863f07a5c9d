-- A type flattened into the running union, and the members as one type, on plain values. Assumes nothing.
use mathlib.Core.Path.{◌≡◌, refl, sym, ◌∙◌, ap, subst}
use mathlib.Core.List.{List, [], ◌∷◌, ◌++◌, append_assoc}
use mathlib.Core.Bool.{Bool, true, false, not, false≢true}
use Prim.Native.Nat.{ℕ, suc, zero, ◌+◌, ◌-◌, ◌≤◌, ◌<◌}
use native.Mathlib.Nat.{add-zero, zero-add}
use native.Mathlib.Omega.{arith}
use lib.ListN.{length, take, drop, get_or, set, length-append, take-append-drop}
use lib.Seq.{slice, sets, take_at, drop_at, length-take-le, get_or-drop, set_at, drop-cons}
use Rattle.std.specs.Prelude.{Option, None}
use Rattle.semantics.specs.Bytes.{Bytes}
use Rattle.semantics.specs.Ty.{Base, t_any, t_null, t_bool, t_int, t_float, t_num, t_string, t_date, t_datetime, t_path, t_unknown, Ty, base, t_list, t_map, t_node, t_relationship, t_union, Tys, letter, line_to, line, inserts, members, opened, joined, too_large}
use Rattle.text.proofs.Laws.{drop-join, sets-parts, drop-above}
use Rattle.ty.specs.Parts.{lines_of, TypeAt, TypeFrom, EndsAt}
use Rattle.ty.specs.Made.{made}
use Rattle.ty.specs.Union.{TypesAt, Placing, Inserted, Adding, AddedAll, Grew, wrapped, Closing, LinedAs, Lined, ClosedAs}
use Rattle.ty.proofs.Lines.{line-to}
use Rattle.ty.proofs.Members.{line-long, union-line, one_line, types_long, types-whole, types-at, as-types, no-types}
use Rattle.ty.proofs.UnionLaws.{inserted-as, drop-up, two-lines, one-member}

-- ## `add_union`: what a type adds

letter-plain : (b : Base) → letter b ≡ 79 → ⊥
unfolding letter
letter-plain t_any h = omega arith
letter-plain t_null h = omega arith
letter-plain t_bool h = omega arith
letter-plain t_int h = omega arith
letter-plain t_float h = omega arith
letter-plain t_num h = omega arith
letter-plain t_string h = omega arith
letter-plain t_date h = omega arith
letter-plain t_datetime h = omega arith
letter-plain t_path h = omega arith
letter-plain t_unknown h = omega arith

-- a union, or a type whose first byte is none's
pub data Opens (t : Ty) : Type 0 where
  union : (us : Tys) → t ≡ t_union us → Opens t
  other : ((r : Bytes) → get_or (line_to t r) 0 0 ≡ 79 → ⊥) → opened t ≡ t ∷ [] → Opens t

pub opens : (t : Ty) → Opens t
unfolding line_to opened
opens (base b) = other (λ r h. letter-plain b h) refl
opens (t_list t) = other (λ r h. omega arith) refl
opens (t_map fs) = other (λ r h. omega arith) refl
opens (t_node ls) = other (λ r h. omega arith) refl
opens (t_relationship n) = other (λ r h. omega arith) refl
opens (t_union us) = union us refl

module _ {s : Bytes} {n e : ℕ} {t : Ty} (g : TypeAt s n e t) where
  pub type-long : n + length (line t) ≡ e
  type-long = omega (arith, types_long (as-types g), ap length (one_line t))

  pub type-whole : drop n s ≡ line t ++ drop e s
  type-whole = sym (drop-join n e s g.ordered) ∙ ap (λ (l : Bytes). l ++ drop e s) g.is

  pub type-room : n < length s
  type-room = omega (arith, type-long, line-long t, g.inside)

  first_byte : get_or s n 0 ≡ get_or (line_to t (drop e s)) 0 0
  first_byte =
      ap (λ (k : ℕ). get_or s k 0) (sym (add-zero n)) ∙ sym (get_or-drop n s 0 0) ∙ ap (λ (l : Bytes). get_or l 0 0) (type-whole ∙ sym (line-to t (drop e s)))

  pub is_union_lem : get_or s n 0 ≡ 79 → (us : Tys) × (t ≡ t_union us)
  is_union_lem h = go (opens t)
    where
      go : Opens t → (us : Tys) × (t ≡ t_union us)
      go (union us p) = (us, p)
      go (other k p) = absurd (k (drop e s) (sym first_byte ∙ h))

  pub is-other : (get_or s n 0 ≡ 79 → ⊥) → opened t ≡ t ∷ []
  unfolding line_to
  is-other h = go (opens t)
    where
      go : Opens t → opened t ≡ t ∷ []
      go (union us p) = absurd (h (first_byte ∙ ap (λ (u : Ty). get_or (line_to u (drop e s)) 0 0) p))
      go (other k p) = p

-- the members of a union stand between its first two bytes and its last two
pub union-room : {s : Bytes} {n e : ℕ} (us : Tys) → TypeAt s n e (t_union us) → n + 4 + length (lines_of (members us)) ≡ e
union-room us g = omega (arith, type-long g, ap length (union-line us), length-append (lines_of (members us)) (33 ∷ 44 ∷ []))

pub union-members : {s : Bytes} {n e : ℕ} (us : Tys) → TypeAt s n e (t_union us) → TypesAt s (n + 2) (n + 2 + length (lines_of (members us))) (members us)
union-members {s} {n} {e} us g =
    let m : Bytes = lines_of (members us) in
    let w : s ≡ (take n s ++ (79 ∷ 44 ∷ [])) ++ (m ++ (33 ∷ 44 ∷ drop e s)) =
    sym (take-append-drop n s)
    ∙ ap (λ (l : Bytes). take n s ++ l) (type-whole g ∙ ap (λ (l : Bytes). l ++ drop e s) (union-line us) ∙ ap (λ (l : Bytes). 79 ∷ 44 ∷ l) (append_assoc m (33 ∷ 44 ∷ []) (drop e s)))
    ∙ sym (append_assoc (take n s) (79 ∷ 44 ∷ []) (m ++ (33 ∷ 44 ∷ drop e s))) in
    let o : n ≤ length s = omega (arith, type-room g) in
    let k : length (take n s ++ (79 ∷ 44 ∷ [])) ≡ n + 2 = length-append (take n s) (79 ∷ 44 ∷ []) ∙ omega (arith, length-take-le n s o) in
    subst (λ (l : Bytes). TypesAt l (n + 2) (n + 2 + length m) (members us)) (sym w)
    (types-at (take n s ++ (79 ∷ 44 ∷ [])) m (33 ∷ 44 ∷ drop e s) (n + 2) (n + 2 + length m) (members us) k refl refl)

-- ... and go down to its start
pub union-down : {s s' : Bytes} {n e : ℕ} {ms : List Ty} (us : Tys) → TypesAt s 0 n ms → TypeAt s n e (t_union us)
    → s' ≡ sets s n (slice (n + 2) (n + 2 + (e - n - 4)) s) → length s' ≡ length s
    → Inserted s s' e ms (members us) (record { from = n; to = n + (e - n - 4) })
union-down {s} {s'} {n} {e} {ms} us f g w l =
    let m : Bytes = lines_of (members us) in
    let q = union-room us g in
    let z : n + 2 + (e - n - 4) ≡ n + 2 + length m = omega arith in
    let v : slice (n + 2) (n + 2 + (e - n - 4)) s ≡ m = rw z (union-members us g).is in
    let c : s' ≡ sets s n m = w ∙ ap (sets s n) v in
    let h : n + length m ≤ length s = omega (arith, g.inside) in
    let y : s' ≡ lines_of ms ++ (m ++ drop (n + length m) s) =
    c ∙ sets-parts s n m h ∙ ap (λ (u : Bytes). u ++ (m ++ drop (n + length m) s)) f.is in
    inserted-as ms (members us) (drop (n + length m) s) y (omega (arith, types_long f)) (omega arith) (omega arith)
    (ap (drop e) c ∙ drop-above e s n m (omega arith)) l

pub opened-room : {s : Bytes} {n e : ℕ} → Placing s n e → get_or s n 0 ≡ 79 → (n + 4 ≤ e) × (e ≤ length s)
opened-room {s} {n} {e} p h =
    let (us, q) = is_union_lem p.new.at h in
    let g : TypeAt s n e (t_union us) = subst (λ (t : Ty). TypeAt s n e t) q p.new.at in
    (omega (arith, union-room us g), p.new.at.inside)

pub opened-adding : {s s' : Bytes} {n e : ℕ} → Placing s n e → get_or s n 0 ≡ 79 → s' ≡ sets s n (slice (n + 2) (n + 2 + (e - n - 4)) s) → length s' ≡ length s
    → Adding s' n (n + (e - n - 4))
opened-adding {s} {s'} {n} {e} p h w l =
    let (us, q) = is_union_lem p.new.at h in
    let d = union-down us p.front (subst (λ (t : Ty). TypeAt s n e t) q p.new.at) w l in
    record { members = p.members; types = members us; front = d.front; new = d.new }

pub opened-grew : {s s' s'' : Bytes} {n e : ℕ} {r : Option ℕ} → get_or s n 0 ≡ 79 → s' ≡ sets s n (slice (n + 2) (n + 2 + (e - n - 4)) s) → length s' ≡ length s
    → AddedAll s' s'' n (n + (e - n - 4)) r → (ms : List Ty) (t : Ty) → TypesAt s 0 n ms → TypeAt s n e t → Grew s s'' e (inserts (opened t) ms) r
unfolding opened
opened-grew {s} {s'} {s''} {n} {e} {r} h w l a ms t f g =
    let (us, q) = is_union_lem g h in
    let k : TypeAt s n e (t_union us) = subst (λ (v : Ty). TypeAt s n e v) q g in
    let d = union-down us f k w l in
    let b = a ms (members us) d.front d.new in
    let x : inserts (opened t) ms ≡ inserts (members us) ms = ap (λ (v : Ty). inserts (opened v) ms) q in
    let i : n + (e - n - 4) ≤ e = d.within in
    subst (λ (v : List Ty). Grew s s'' e v r) (sym x)
    (record {
      front = b.front;
      within = omega (arith, b.within);
      above = drop-up s'' s' (n + (e - n - 4)) e b.above i ∙ d.above;
      long = b.long ∙ l;
      answer = b.answer;
    })

pub plain-adding : {s : Bytes} {n e : ℕ} → Placing s n e → Adding s n e
plain-adding p = record { members = p.members; types = p.new.ty ∷ []; front = p.front; new = as-types p.new.at }

pub plain-grew : {s s' : Bytes} {n e : ℕ} {r : Option ℕ} → (get_or s n 0 ≡ 79 → ⊥) → AddedAll s s' n e r
    → (ms : List Ty) (t : Ty) → TypesAt s 0 n ms → TypeAt s n e t → Grew s s' e (inserts (opened t) ms) r
plain-grew {s} {s'} {n} {e} {r} h a ms t f g = subst (λ (v : List Ty). Grew s s' e (inserts v ms) r) (sym (is-other g h)) (a ms (t ∷ []) f (as-types g))

-- ## `wrap_union`

wrap-third : (m z : Bytes) (c d n : ℕ) → length m ≡ n → set (79 ∷ 44 ∷ (m ++ (c ∷ d ∷ z))) (n + 2) 33 ≡ 79 ∷ 44 ∷ (m ++ (33 ∷ d ∷ z))
wrap-third m z c d n h = set_at (79 ∷ 44 ∷ m) c (d ∷ z) 33 (n + 2) (omega arith)

wrap-fourth : (m z : Bytes) (d n : ℕ) → length m ≡ n → set (79 ∷ 44 ∷ (m ++ (33 ∷ d ∷ z))) (n + 3) 44 ≡ 79 ∷ 44 ∷ (m ++ (33 ∷ 44 ∷ z))
wrap-fourth m z d n h =
    rw (← append_assoc m (33 ∷ []) (d ∷ z), ← append_assoc m (33 ∷ []) (44 ∷ z))
    (set_at (79 ∷ 44 ∷ (m ++ (33 ∷ []))) d z 44 (n + 3) (omega (arith, length-append m (33 ∷ []))))

wrap-four : (m z : Bytes) (a b c d n : ℕ) → length m ≡ n
    → set (set (set (set (a ∷ b ∷ (m ++ (c ∷ d ∷ z))) 0 79) 1 44) (n + 2) 33) (n + 3) 44 ≡ 79 ∷ 44 ∷ (m ++ (33 ∷ 44 ∷ z))
wrap-four m z a b c d n h = rw (wrap-third m z c d n h) (wrap-fourth m z d n h)

-- two bytes at the front, and two from n + 2 on
pub record Four (s : Bytes) (n : ℕ) : Type 0 where
  pub a : ℕ
  pub b : ℕ
  pub c : ℕ
  pub d : ℕ
  pub front : take 2 s ≡ a ∷ b ∷ []
  pub back : drop (n + 2) s ≡ c ∷ d ∷ drop (n + 4) s

four : (s : Bytes) (n : ℕ) → n + 4 ≤ length s → Four s n
four s n h =
    let p : n + 2 < length s = omega arith in
    let q : suc (n + 2) < length s = omega arith in
    let y : suc (suc (n + 2)) ≡ n + 4 = omega arith in
    let e : drop (n + 2) s ≡ get_or s (n + 2) 0 ∷ get_or s (suc (n + 2)) 0 ∷ drop (n + 4) s =
    drop-cons s (n + 2) 0 p ∙ ap (λ (l : Bytes). get_or s (n + 2) 0 ∷ l) (drop-cons s (suc (n + 2)) 0 q ∙ ap (λ (k : ℕ). get_or s (suc (n + 2)) 0 ∷ drop k s) y) in
    go s h e
  where
    go : (r : Bytes) → n + 4 ≤ length r → drop (n + 2) r ≡ get_or r (n + 2) 0 ∷ get_or r (suc (n + 2)) 0 ∷ drop (n + 4) r → Four r n
    go [] k e = absurd (omega arith)
    go (x ∷ []) k e = absurd (omega arith)
    go (x ∷ y ∷ r) k e = record { a = x; b = y; c = get_or (x ∷ y ∷ r) (n + 2) 0; d = get_or (x ∷ y ∷ r) (suc (n + 2)) 0; front = refl; back = e }

pub wrap-law : (s s' : Bytes) (n : ℕ) → n + 4 ≤ length s → s' ≡ sets s 2 (slice 0 (0 + n) s) → set (set (set (set s' 0 79) 1 44) (n + 2) 33) (n + 3) 44 ≡ wrapped n s
wrap-law s s' n h w =
    let f = four s n h in
    let i : n ≤ length s = omega arith in
    let k : length (take n s) ≡ n = length-take-le n s i in
    let j : 2 + length (take n s) ≤ length s = omega arith in
    let e : 2 + length (take n s) ≡ n + 2 = omega arith in
    let y : s' ≡ f.a ∷ f.b ∷ (take n s ++ (f.c ∷ f.d ∷ drop (n + 4) s)) =
    w ∙ ap (λ (m : ℕ). sets s 2 (take m s)) (zero-add n) ∙ sets-parts s 2 (take n s) j
    ∙ ap (λ (l : Bytes). l ++ (take n s ++ drop (2 + length (take n s)) s)) f.front
    ∙ ap (λ (m : ℕ). f.a ∷ f.b ∷ (take n s ++ drop m s)) e
    ∙ ap (λ (l : Bytes). f.a ∷ f.b ∷ (take n s ++ l)) f.back in
    ap (λ (l : Bytes). set (set (set (set l 0 79) 1 44) (n + 2) 33) (n + 3) 44) y ∙ wrap-four (take n s) (drop (n + 4) s) f.a f.b f.c f.d n k

-- ## `union_line`

pub lined-as : {s s' : Bytes} {n : ℕ} {r : ℕ} (t : Ty) (z : Bytes) → s' ≡ line t ++ z → length (line t) ≤ n + 4 → drop (n + 4) s' ≡ drop (n + 4) s → length s' ≡ length s
    → r ≡ length (line t) → LinedAs s s' n t r
lined-as {s} {s'} {n} {r} t z w k d l q =
    record {
      text = record {
        front = record {
          ordered = omega arith;
          inside = omega (arith, ap length w, length-append (line t) z);
          is = ap (take (length (line t))) w ∙ take_at (line t) z (length (line t)) refl;
        };
        within = k;
        above = d;
        long = l;
      };
      answer = q;
    }

module _ {s s' : Bytes} {n r : ℕ} {ms : List Ty} (f : TypesAt s 0 n ms) (room : n + 4 ≤ length s) (l : length s' ≡ length s) where
  pub line-none : n ≡ 0 → s' ≡ sets s 0 (80 ∷ 44 ∷ []) → r ≡ 0 + 2 → LinedAs s s' n (joined ms) r
  unfolding joined line line_to letter
  line-none z w q =
      let e : ms ≡ [] = no-types ms (omega (arith, types_long f)) in
      let h : 0 + 2 ≤ length s = omega arith in
      subst (λ (u : List Ty). LinedAs s s' n (joined u) r) (sym e)
      (lined-as (base t_unknown) (drop 2 s) (w ∙ sets-parts s 0 (80 ∷ 44 ∷ []) h) (omega arith) (ap (drop (n + 4)) w ∙ drop-above (n + 4) s 0 (80 ∷ 44 ∷ []) (omega arith)) l (omega arith))

  pub line-many : {e : ℕ} → EndsAt s 0 e → e < n → s' ≡ wrapped n s → r ≡ n + 4 → LinedAs s s' n (joined ms) r
  line-many ends h w q =
      let p = two-lines f ends h in
      let k : length (line (joined ms)) ≡ n + 4 = ap length p ∙ omega (arith, length-append (lines_of ms) (33 ∷ 44 ∷ []), types_long f) in
      let y : s' ≡ line (joined ms) ++ drop (n + 4) s =
      w ∙ ap (λ (x : Bytes). 79 ∷ 44 ∷ (x ++ (33 ∷ 44 ∷ drop (n + 4) s))) f.is
      ∙ ap (λ (x : Bytes). 79 ∷ 44 ∷ x) (sym (append_assoc (lines_of ms) (33 ∷ 44 ∷ []) (drop (n + 4) s)))
      ∙ ap (λ (x : Bytes). x ++ drop (n + 4) s) (sym p) in
      lined-as (joined ms) (drop (n + 4) s) y (omega arith) (ap (drop (n + 4)) y ∙ drop_at (line (joined ms)) (drop (n + 4) s) (n + 4) k) l (omega arith)

pub line-one : {s : Bytes} {n e : ℕ} {ms : List Ty} → TypesAt s 0 n ms → EndsAt s 0 e → 0 < n → n ≤ e → LinedAs s s n (joined ms) n
line-one {s} {n} {e} {ms} f ends p h =
    let q = one-member f ends p h in
    let k : length (line (joined ms)) ≡ n = ap length q ∙ omega (arith, types_long f) in
    lined-as (joined ms) (drop n s) (types-whole f ∙ ap (λ (x : Bytes). x ++ drop n s) (sym q)) (omega arith) refl refl (sym k)

-- ## `close_union`

pub lined-text : {s s' : Bytes} {n r : ℕ} {t : Ty} → LinedAs s s' n t r → take r s' ≡ line t
lined-text {s} {s'} {n} {r} {t} w = ap (λ (k : ℕ). take k s') w.answer ∙ w.text.front.is

pub lined-room : {s s' : Bytes} {n r : ℕ} {t : Ty} → LinedAs s s' n t r → r ≤ length s'
lined-room w = omega (arith, w.answer, w.text.front.inside)

pub closing-line : {s s' : Bytes} {n r : ℕ} → Closing s n → Lined s s' n r → TypeFrom (take r s') 0
unfolding line
closing-line p g = record { ty = joined p.members; rest = []; is = lined-text (g p.members p.front) }

pub closed-large : {s s' : Bytes} {n r : ℕ} (b : Bool) → b ≡ false → Lined s s' n r → ((t : Ty) → take r s' ≡ line t → b ≡ not (too_large t))
    → (ms : List Ty) → TypesAt s 0 n ms → ClosedAs s s' n (joined ms) None
closed-large {s} {s'} {n} {r} b e g h ms f = let w = g ms f in record { text = w.text; answer = go (too_large (joined ms)) (sym e ∙ h (joined ms) (lined-text w)) }
  where
    go : (c : Bool) → false ≡ not c → None ≡ made c (length (line (joined ms)))
    go true q = refl
    go false q = absurd (false≢true q)

pub above_zero : (n : ℕ) → (n ≡ 0 → ⊥) → 0 < n
above_zero zero h = absurd (h refl)
above_zero (suc n) h = omega arith
