-- The search of a binding: each line read leaves fewer. Assumes nothing.
use mathlib.Core.Path.{◌≡◌, refl, sym, ◌∙◌, ap, subst}
use mathlib.Core.List.{List, [], ◌∷◌, ◌++◌}
use mathlib.Core.Option.{Option, some}
use mathlib.Core.Bool.{Bool, true, false, ◌&&◌}
use Prim.Native.Nat.{ℕ, suc, zero, ◌+◌, ◌-◌, ◌≤◌, ◌<◌}
use native.Mathlib.Decide.{dec_lt}
use native.Mathlib.Omega.{arith}
use lib.Dec.{eqb, leb}
use lib.ListN.{length, get_or, drop, length-drop}
use lib.Seq.{get_or-drop, drop-drop}
use borrow.Author.Tests.{eq-eqb, ne_eqb, eqb-true, leb-true}
use Rattle.semantics.specs.Bytes.{Bytes, front, split}
use Rattle.semantics.specs.Sheet.{Head, num, variable_of, number, lettered, rank, place, clauses, fits}
use Rattle.semantics.specs.Walk.{kind_type, var_type_in, binds, bound_by, bound}
use Rattle.hir.specs.Check.{Laid}
use Rattle.hir.specs.declared.valid.Outline.{Outline}
use Rattle.line.specs.Known.{BindingAt, BoundAs}
use Rattle.line.specs.declared.known.Bound.{Bound}
use Rattle.line.proofs.LineLaws.{split-some}
use Rattle.line.proofs.KnownLaws.{same_place}
use Rattle.hir.specs.Lines.{LineAt, Lines, no_line, a_line, Met, meets, Ascends, no_binding, ascends}
use Rattle.text.specs.Text.{Starts}
use Rattle.hir.specs.Bind.{kind_of, BindsAt}
use Rattle.hir.proofs.LinesLaws.{next-line, front-some, bind-var}

-- ## Bytes of a line

abbrev Bare : Bytes → Bytes → Type 0
Bare t l = (get_or t (length l) 0 ≡ 10) × ((i : ℕ) → i < length l → get_or t i 0 ≡ 10 → ⊥)

bare-line : (t l m : Bytes) (ms : List Bytes) → split 10 t ≡ l ∷ m ∷ ms → Bare t l
unfolding split
bare-line [] l m ms e = absurd (let z : ◌≡◌ {A = ℕ} 1 (suc (suc (length ms))) = ap length e in omega arith)
bare-line (x ∷ t) l m ms e = go (bare-line t) (eqb x 10) refl e
  where
    go : ((l m : Bytes) (ms : List Bytes) → split 10 t ≡ l ∷ m ∷ ms → Bare t l) → (b : Bool) → eqb x 10 ≡ b
        → elim b [ true ↦ [] ∷ split 10 t | false ↦ front x (split 10 t) ] ≡ l ∷ m ∷ ms → Bare (x ∷ t) l
    go ih true eb e =
        let n : [] ≡ l = cc in
        rw (← n) (eqb-true x 10 eb, λ i h d. omega arith)
    go ih false eb e =
        let f = front-some x (split 10 t) l m ms (split-some 10 t) e in
        let n = ih f.0 m ms f.1 in
        rw f.2 (n.0, later f.0 n)
      where
        later : (p : Bytes) → Bare t p → (i : ℕ) → i < suc (length p) → get_or (x ∷ t) i 0 ≡ 10 → ⊥
        later p n zero h d = borrow.Author.Tests.eqb-false x 10 eb d
        later p n (suc i) h d = n.1 i (omega arith) d

-- a line's last byte is LF, and no other of its bytes
pub record Bytes_of (s : Bytes) (p q : ℕ) : Type 0 where
  pub last : get_or s (q - 1) 0 ≡ 10
  pub inner : (i : ℕ) → p ≤ i → i + 1 < q → get_or s i 0 ≡ 10 → ⊥

line-bytes : (s : Bytes) (p q : ℕ) (h : Head) → LineAt s p h q → Bytes_of s p q
line-bytes s p q h a = go (split 10 (drop q s)) refl (split-some 10 (drop q s))
  where
    go : (ms : List Bytes) → split 10 (drop q s) ≡ ms → 0 < length ms → Bytes_of s p q
    go [] d l = absurd (omega arith)
    go (m ∷ ms) d l =
        let e : split 10 (drop p s) ≡ a.text ∷ m ∷ ms = a.stands ∙ ap (λ (x : List Bytes). a.text ∷ x) d in
        let b = bare-line (drop p s) a.text m ms e in
        let n = next-line (drop p s) a.text m ms e in
        let q' : p + suc (length a.text) ≡ q
        = same_place s (p + suc (length a.text)) q (omega (arith, n.1, length-drop p s)) a.inside
        (ap (split 10) (sym (drop-drop (suc (length a.text)) p s)) ∙ n.0 ∙ sym d) in
        let z : q - 1 ≡ p + length a.text = omega arith in
        record {
          last = ap (λ (x : ℕ). get_or s x 0) z ∙ sym (get_or-drop p s (length a.text) 0) ∙ b.0;
          inner = λ i f g e'. let y : i ≡ p + (i - p) = omega arith in
              b.1 (i - p) (omega arith) (get_or-drop p s (i - p) 0 ∙ ap (λ (x : ℕ). get_or s x 0) (sym y) ∙ e');
        }

-- ## The line that holds a byte

-- the line at p among these heads
pub record Among (s : Bytes) (lo : ℕ) (hs : List Head) (hi p mid : ℕ) : Type 0 where
  pub left : List Head
  pub head : Head
  pub right : List Head
  pub end : ℕ
  pub same : hs ≡ left ++ (head ∷ right)
  pub before : Lines s lo left p
  pub line : LineAt s p head end
  pub after : Lines s end right hi
  pub past : mid < end

start_first : {s : Bytes} {lo q : ℕ} {h : Head} → LineAt s lo h q → (mid r : ℕ) → Starts 10 s lo mid r → mid < q → r ≡ lo
start_first {s} {lo} {q} {h} a mid r b m = go (dec_lt lo r)
  where
    go : Dec (lo < r) → r ≡ lo
    go (yes l) = absurd ((line-bytes s lo q h a).inner (r - 1) (omega arith) (omega (arith, b.upto)) (b.edge l))
    go (no l) = omega (arith, b.after)

start-later : {s : Bytes} {lo q : ℕ} {h : Head} → LineAt s lo h q → (mid r : ℕ) → Starts 10 s lo mid r → q ≤ mid → Starts 10 s q mid r
start-later {s} {lo} {q} {h} a mid r b m = record { after = go (dec_lt r q); upto = b.upto; edge = λ l. b.edge (omega (arith, a.on)); none = b.none }
  where
    go : Dec (r < q) → q ≤ r
    go (yes l) = absurd (b.none (q - 1) (omega arith) (omega (arith, a.on)) (line-bytes s lo q h a).last)
    go (no l) = omega arith

pub among : {s : Bytes} {lo hi : ℕ} {hs : List Head} → Lines s lo hs hi → (mid r : ℕ) → Starts 10 s lo mid r → mid < hi → Among s lo hs hi r mid
among {lo = lo} no_line mid r b m = absurd (omega (arith, b.after, b.upto))
among {s = s} {lo = lo} {hi = hi} (a_line {q = q} {h = h} {hs = hs} a x) mid r b m =
    go (λ c. among x mid r c m) (dec_lt mid q)
  where
    go : (Starts 10 s q mid r → Among s q hs hi r mid) → Dec (mid < q) → Among s lo (h ∷ hs) hi r mid
    go ih (yes l) =
        let e : r ≡ lo = start_first a mid r b l in
        record { left = []; head = h; right = hs; end = q; same = refl; before = rw e no_line; line = rw e a; after = x; past = l }
    go ih (no l) =
        let y = ih (start-later a mid r b (omega arith)) in
        record { left = h ∷ y.left; head = y.head; right = y.right; end = y.end; same = ap (λ (z : List Head). h ∷ z) y.same; before = a_line a y.before; line = y.line; after = y.after; past = y.past }

-- ## Kinds

ascends-up : {v w : ℕ} {hs : List Head} → Ascends v hs w → v ≤ w
ascends-up no_binding = omega arith
ascends-up (ascends o l x) = omega (arith, ascends-up x)

-- smaller variables first
kind-past : {u w : ℕ} {hs : List Head} → Ascends u hs w → (v : ℕ) (ks : List Head) → w ≤ v → kind_of v (hs ++ ks) ≡ kind_of v ks
unfolding kind_of
kind-past no_binding v ks l = refl
kind-past (ascends {h = h} o g x) v ks l = rw (ne_eqb v (variable_of h) (λ e. omega (arith, ascends-up x)), kind_of) (kind-past x v ks l)

-- greater ones only
kind-none : {u w : ℕ} {hs : List Head} → Ascends u hs w → (v : ℕ) → v < u → kind_of v hs ≡ 3
unfolding kind_of
kind-none no_binding v l = refl
kind-none (ascends {h = h} o g x) v l = rw (ne_eqb v (variable_of h) (λ e. omega arith), kind_of) (kind-none x v (omega arith))

kind-left : (hs ks : List Head) (v : ℕ) → kind_of v ks ≡ 3 → kind_of v (hs ++ ks) ≡ kind_of v hs
unfolding kind_of
kind-left [] ks v e = e
kind-left (h ∷ hs) ks v e = go (kind-left hs ks v e) (eqb v (variable_of h))
  where
    go : kind_of v (hs ++ ks) ≡ kind_of v hs → (b : Bool) → ◌≡◌ {A = ℕ} (elim b [ true ↦ num h 0 | false ↦ kind_of v (hs ++ ks) ]) (elim b [ true ↦ num h 0 | false ↦ kind_of v hs ])
    go ih true = refl
    go ih false = ih

kind-hit : (h : Head) (hs : List Head) (v : ℕ) → v ≡ variable_of h → kind_of v (h ∷ hs) ≡ num h 0
unfolding kind_of
kind-hit h hs v e = rw (eq-eqb v (variable_of h) e, kind_of)

kind-over : (h : Head) (hs : List Head) (v : ℕ) → (v ≡ variable_of h → ⊥) → kind_of v (h ∷ hs) ≡ kind_of v hs
unfolding kind_of
kind-over h hs v e = rw (ne_eqb v (variable_of h) e, kind_of)

-- the parts of ascending bindings
pub record Parts (u : ℕ) (left : List Head) (h : Head) (right : List Head) (w : ℕ) : Type 0 where
  pub mid : ℕ
  pub first : Ascends u left mid
  pub is : rank (place h) ≡ 1
  pub upto : mid ≤ variable_of h
  pub later : Ascends (suc (variable_of h)) right w

parts : {u w : ℕ} {hs : List Head} → Ascends u hs w → (left : List Head) (h : Head) (right : List Head) → hs ≡ left ++ (h ∷ right) → Parts u left h right w
parts no_binding [] h right e = absurd (let z : ◌≡◌ {A = ℕ} 0 1 = cc in omega arith)
parts no_binding (x ∷ left) h right e = absurd (let z : ◌≡◌ {A = ℕ} 0 1 = cc in omega arith)
parts {u = u} {w = w} (ascends {h = k} {hs = ks} o l x) [] h right e =
    let kh : k ≡ h = cc in
    let r : ks ≡ right = cc in
    record { mid = u; first = no_binding; is = rw (← kh) o; upto = rw (← kh) l; later = rw (← kh, ← r) x }
parts {u = u} {w = w} (ascends {h = k} {hs = ks} o l x) (y ∷ left) h right e =
    let ky : k ≡ y = cc in
    let p = parts x left h right cc in
    record { mid = p.mid; first = subst (λ (z : Head). Ascends u (z ∷ left) p.mid) ky (ascends o l p.first); is = p.is; upto = p.upto; later = p.later }

lines-up : {s : Bytes} {p q : ℕ} {hs : List Head} → Lines s p hs q → p ≤ q
lines-up no_line = omega arith
lines-up (a_line a x) = omega (arith, a.on, lines-up x)

no_lines : {s : Bytes} {p q : ℕ} {hs : List Head} → Lines s p hs q → q ≤ p → (v : ℕ) → kind_of v hs ≡ 3
unfolding kind_of
no_lines no_line l v = refl
no_lines (a_line a x) l v = absurd (omega (arith, a.on, lines-up x))

-- ## The search

-- the bindings between lo and hi decide
pub record FindAt (s : Bytes) (v : ℕ) (hs : List Head) (lo hi : ℕ) : Type 0 where
  pub mid : List Head
  pub low : ℕ
  pub top : ℕ
  pub lines : Lines s lo mid hi
  pub ascending : Ascends low mid top
  pub same : kind_of v hs ≡ kind_of v mid

pub record FindInv (s : Bytes) (from to v lo hi : ℕ) : Type 0 where
  pub inside : hi ≤ length s
  pub each : (b : BindsAt s from to) → FindAt s v b.heads lo hi

pub find-start : (s : Bytes) (from to v : ℕ) → BindsAt s from to → FindInv s from to v from to
find-start s from to v q =
    record { inside = q.inside; each = λ b. record { mid = b.heads; low = 0; top = b.top; lines = b.lines; ascending = b.ascending; same = refl } }

module _ (s : Bytes) (v : ℕ) (hs : List Head) (lo hi : ℕ) (f : FindAt s v hs lo hi) (mid r : ℕ) (st : Starts 10 s lo mid r) (m : mid < hi) where
  a : Among s lo f.mid hi r mid
  a = among f.lines mid r st m

  p : Parts f.low a.left a.head a.right f.top
  p = parts f.ascending a.left a.head a.right a.same

  -- the line that holds the byte is a binding's
  pub found-binding : BindingAt s r
  found-binding = record { head = a.head; next = a.end; line = a.line; first = p.is }

  module _ (k : Bound) (x : (b : BindingAt s r) → BoundAs s b.head b.next k) where
    is : BoundAs s a.head a.end k
    is = x (record { head = a.head; next = a.end; line = a.line; first = p.is })

    pub found-letter : k.end + 1 < length s
    found-letter = omega (arith, is.next, a.line.inside)

    pub found-hit : k.var.0 ≡ v → (n : ℕ) → ((m : ℕ) → lettered (get_or s (k.end + 1) 0 ∷ []) ≡ number m → n ≡ m) → n ≡ kind_of v hs
    found-hit e n g =
        g (num a.head 0) is.kind
        ∙ sym (f.same ∙ ap (kind_of v) a.same ∙ kind-past p.first v (a.head ∷ a.right) (omega (arith, p.upto, is.var)) ∙ kind-hit a.head a.right v (sym e ∙ is.var))

    pub found-lower : k.var.0 < v → FindAt s v hs (k.end + 3) hi
    found-lower l =
        record {
          mid = a.right;
          low = suc (variable_of a.head);
          top = f.top;
          lines = subst (λ (z : ℕ). Lines s z a.right hi) (sym is.next) a.after;
          ascending = p.later;
          same = f.same ∙ ap (kind_of v) a.same ∙ kind-past p.first v (a.head ∷ a.right) (omega (arith, p.upto, is.var)) ∙ kind-over a.head a.right v (λ e. omega (arith, is.var));
        }

    pub found-higher : v < k.var.0 → FindAt s v hs lo r
    found-higher l =
        let h : v < variable_of a.head = omega (arith, is.var) in
        record {
          mid = a.left;
          low = f.low;
          top = p.mid;
          lines = a.before;
          ascending = p.first;
          same = f.same ∙ ap (kind_of v) a.same ∙ kind-left a.left (a.head ∷ a.right) v (kind-over a.head a.right v (λ e. omega arith) ∙ kind-none p.later v (omega arith));
        }

    pub found-on : (lo < k.end + 3) × (k.end + 3 ≤ hi)
    found-on = (omega (arith, is.next, a.line.on, st.after), omega (arith, is.next, lines-up a.after))

pub found_none : (s : Bytes) (v : ℕ) (hs : List Head) (lo hi : ℕ) → FindAt s v hs lo hi → hi ≤ lo → 3 ≡ kind_of v hs
found_none s v hs lo hi f l = sym (f.same ∙ no_lines f.lines l v)

-- ## The definition's bindings

fits-two : (d q : ℕ) → fits (clauses d) q ≡ true → 2 ≤ q
unfolding fits
fits-two d q e = go (leb 2 q) refl e
  where
    go : (b : Bool) → leb 2 q ≡ b → (b && leb q 3) ≡ true → 2 ≤ q
    go true d f = leb-true 2 q d
    go false d f = absurd (let z : ◌≡◌ {A = ℕ} 0 1 = cc in omega arith)

rest-none : {d : ℕ} {hs : List Head} → Met (clauses d ∷ []) hs [] → bound hs ≡ []
unfolding bound bound_by
rest-none (meets {h = h} f g x) =
    let l = fits-two _ (rank (place h)) f in
    rw (ne_eqb (rank (place h)) 0 (λ e. omega arith), ne_eqb (rank (place h)) 1 (λ e. omega arith), bound_by)

bound-first : (h : Head) (hs : List Head) → rank (place h) ≡ 0 → bound (h ∷ hs) ≡ bound hs
unfolding bound bound_by
bound-first h hs e = rw (eq-eqb (rank (place h)) 0 e, bound_by)

one-by : (p v k : ℕ) (bs : List (ℕ × ℕ)) → p ≡ 1 → bound_by p (some v) k bs ≡ (v, k) ∷ bs
unfolding bound_by binds
one-by p v k bs e = rw (ne_eqb p 0 (λ d. omega arith), eq-eqb p 1 e, bound_by)

bound-one : (h : Head) (hs : List Head) (v : ℕ) → rank (place h) ≡ 1 → h.var ≡ some v → bound (h ∷ hs) ≡ (v, num h 0) ∷ bound hs
unfolding bound
bound-one h hs v e f = ap (λ (o : Option ℕ). bound_by (rank (place h)) o (num h 0) (bound hs)) f ∙ one-by (rank (place h)) v (num h 0) (bound hs) e

var-some : (h : Head) (v : ℕ) → h.var ≡ some v → variable_of h ≡ v
var-some h v e = rw e

type-step : (h : Head) (hs : List Head) (v u : ℕ) (bs : List (ℕ × ℕ)) → variable_of h ≡ u → var_type_in v bs ≡ kind_type (kind_of v hs)
    → var_type_in v ((u, num h 0) ∷ bs) ≡ kind_type (kind_of v (h ∷ hs))
unfolding var_type_in kind_of
type-step h hs v u bs e ih = go (eqb v u) ∙ ap (λ (y : ℕ). kind_type (elim (eqb v y) [ true ↦ num h 0 | false ↦ kind_of v hs ])) (sym e)
  where
    go : (b : Bool) → elim b [ true ↦ kind_type (num h 0) | false ↦ var_type_in v bs ] ≡ kind_type (elim b [ true ↦ num h 0 | false ↦ kind_of v hs ])
    go true = refl
    go false = ih

bound-binds : {s : Bytes} {p q u w : ℕ} {hs : List Head} → Lines s p hs q → Ascends u hs w → (rest : List Head) → bound rest ≡ [] → (v : ℕ)
    → var_type_in v (bound (hs ++ rest)) ≡ kind_type (kind_of v hs)
unfolding var_type_in kind_of
bound-binds no_line no_binding rest e v = rw e
bound-binds {s = s} {p = p} (a_line {q = q} {h = h} {hs = hs} a x) (ascends o l y) rest e v =
    let b = bind-var s p q h a o in
    ap (var_type_in v) (bound-one h (hs ++ rest) b.0 o b.1) ∙ type-step h hs v b.0 (bound (hs ++ rest)) (var-some h b.0 b.1) (bound-binds x y rest e v)

-- what a variable's kind says is its type
pub kind-type : (d : ℕ) (s : Bytes) (r : Outline) (l : Laid d s r) (v : ℕ) → var_type_in v (bound (l.head ∷ (l.binds ++ l.rest))) ≡ kind_type (kind_of v l.binds)
kind-type d s r l v = ap (var_type_in v) (bound-first l.head (l.binds ++ l.rest) l.zero) ∙ bound-binds l.bound l.ascending l.rest (rest-none l.met) v

pub laid-binds : (d : ℕ) (s : Bytes) (r : Outline) → Laid d s r → BindsAt s r.from r.to
laid-binds d s r l = record { heads = l.binds; lines = l.bound; top = l.top; ascending = l.ascending; inside = omega (arith, lines-up l.below) }
