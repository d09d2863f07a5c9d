-- Lines one after the other: the members of a union, types that stand in a row in a text, where a type goes among members. Assumes nothing.
use mathlib.Core.Path.{◌≡◌, refl, sym, ◌∙◌, ap, ap₂, subst}
use mathlib.Core.List.{List, [], ◌∷◌, ◌++◌, append_assoc, append-nil}
use Prim.Native.Nat.{Ordering}
use Prim.Native.Nat.{ℕ, ◌+◌, ◌≤◌}
use native.Mathlib.Omega.{arith}
use lib.ListN.{length, take, drop, length-append, take-append-drop}
use lib.Seq.{drop_at, length-take-le, length-slice}
use Rattle.semantics.specs.Bytes.{Bytes, lex}
use Rattle.semantics.specs.Ty.{Ty, base, t_list, t_map, t_node, t_relationship, t_union, Tys, ∅, ◌⊕◌, members, pack, line_to, members_to, line, insert}
use Rattle.semantics.proofs.Order.{Tri, lt, eq, gt, tri, lex-lt, lex-gt, lex-eq, line-inj, line_eq, insert-lt, insert-eq, insert-gt}
use Rattle.text.proofs.Laws.{drop-join, slice-mid}
use Rattle.ty.specs.Parts.{lines_of, TypeAt}
use Rattle.ty.specs.Union.{TypesAt}
use Rattle.ty.proofs.Lines.{line-to}

-- ## The members of a union

pub members-line : (ts : Tys) (r : Bytes) → members_to ts r ≡ lines_of (members ts) ++ (33 ∷ 44 ∷ r)
unfolding line_to lines_of members
members-line ∅ r = refl
members-line (t ⊕ ts) r =
    line-to t (members_to ts r) ∙ ap (λ (l : Bytes). line t ++ l) (members-line ts r) ∙ sym (append_assoc (line t) (lines_of (members ts)) (33 ∷ 44 ∷ r))

-- a union's line: its members between `O,` and `!,`
pub union-line : (ts : Tys) → line (t_union ts) ≡ 79 ∷ 44 ∷ (lines_of (members ts) ++ (33 ∷ 44 ∷ []))
unfolding line line_to
union-line ts = ap (λ (l : Bytes). 79 ∷ 44 ∷ l) (members-line ts [])

pub members-pack : (ts : List Ty) → members (pack ts) ≡ ts
unfolding members pack
members-pack [] = refl
members-pack (t ∷ ts) = ap (λ (l : List Ty). t ∷ l) (members-pack ts)

-- a line has two bytes at least
pub line-long : (t : Ty) → 2 ≤ length (line t)
unfolding line line_to
line-long (base c) = omega arith
line-long (t_list t) = omega arith
line-long (t_map fs) = omega arith
line-long (t_node ls) = omega arith
line-long (t_relationship n) = omega arith
line-long (t_union ts) = omega arith

pub lines-append : (a b : List Ty) → lines_of (a ++ b) ≡ lines_of a ++ lines_of b
unfolding lines_of
lines-append [] b = refl
lines-append (t ∷ a) b = ap (λ (l : Bytes). line t ++ l) (lines-append a b) ∙ sym (append_assoc (line t) (lines_of a) (lines_of b))

-- the lines say the members
pub lines-eq : (a b : List Ty) → lines_of a ≡ lines_of b → a ≡ b
unfolding lines_of
lines-eq [] [] p = refl
lines-eq [] (u ∷ b) p = absurd (omega (arith, ap length p, line-long u, length-append (line u) (lines_of b)))
lines-eq (t ∷ a) [] p = absurd (omega (arith, ap length p, line-long t, length-append (line t) (lines_of a)))
lines-eq (t ∷ a) (u ∷ b) p =
    let q = line-inj t u (lines_of a) (lines_of b) (line-to t (lines_of a) ∙ p ∙ sym (line-to u (lines_of b))) in
    ap₂ (λ (v : Ty) (c : List Ty). v ∷ c) q.0 (lines-eq a b q.1)

-- ## Parts of a text

pub drop-at-two : (x y z : Bytes) (e : ℕ) → length x + length y ≡ e → drop e (x ++ (y ++ z)) ≡ z
drop-at-two x y z e q = ap (drop e) (sym (append_assoc x y z)) ∙ drop_at (x ++ y) z e (length-append x y ∙ q)

-- ## Types that stand in a text

pub types_long : {s : Bytes} {a e : ℕ} {ts : List Ty} → TypesAt s a e ts → a + length (lines_of ts) ≡ e
types_long {s} {a} {e} f = let l = ap length f.is in let k = length-slice a e s f.inside in let o = f.ordered in omega arith

pub types-whole : {s : Bytes} {a e : ℕ} {ts : List Ty} → TypesAt s a e ts → drop a s ≡ lines_of ts ++ drop e s
types-whole {s} {a} {e} f = sym (drop-join a e s f.ordered) ∙ ap (λ (l : Bytes). l ++ drop e s) f.is

-- the types from the text's parts
pub types-at : (x y z : Bytes) (a e : ℕ) (ts : List Ty) → length x ≡ a → a + length y ≡ e → y ≡ lines_of ts → TypesAt (x ++ (y ++ z)) a e ts
types-at x y z a e ts p q r =
    record {
      ordered = omega arith;
      inside = omega (arith, length-append x (y ++ z), length-append y z);
      is = slice-mid x y z a e p q ∙ r;
    }

-- a type at the front of types
pub first-from : {s : Bytes} {a e : ℕ} {t : Ty} {ts : List Ty} → TypesAt s a e (t ∷ ts) → drop a s ≡ line_to t (lines_of ts ++ drop e s)
unfolding lines_of
first-from {s} {a} {e} {t} {ts} f = types-whole f ∙ append_assoc (line t) (lines_of ts) (drop e s) ∙ sym (line-to t (lines_of ts ++ drop e s))

pub no-types : (ts : List Ty) → length (lines_of ts) ≡ 0 → ts ≡ []
unfolding lines_of
no-types [] h = refl
no-types (t ∷ ts) h = absurd (omega (arith, line-long t, length-append (line t) (lines_of ts)))

-- types split where their list does
pub types-split : {s : Bytes} {a e : ℕ} (b c : List Ty) → TypesAt s a e (b ++ c) → TypesAt s a (a + length (lines_of b)) b × TypesAt s (a + length (lines_of b)) e c
types-split {s} {a} {e} b c f =
    let w : s ≡ take a s ++ (lines_of b ++ (lines_of c ++ drop e s)) =
    sym (take-append-drop a s)
    ∙ ap (λ (l : Bytes). take a s ++ l) (types-whole f ∙ ap (λ (l : Bytes). l ++ drop e s) (lines-append b c) ∙ append_assoc (lines_of b) (lines_of c) (drop e s)) in
    let v : s ≡ (take a s ++ lines_of b) ++ (lines_of c ++ drop e s) = w ∙ sym (append_assoc (take a s) (lines_of b) (lines_of c ++ drop e s)) in
    let o : a ≤ length s = omega (arith, f.ordered, f.inside) in
    let k : length (take a s) ≡ a = length-take-le a s o in
    let m : length (take a s ++ lines_of b) ≡ a + length (lines_of b) = length-append (take a s) (lines_of b) ∙ omega arith in
    let n : a + length (lines_of b) + length (lines_of c) ≡ e = omega (arith, types_long f, ap length (lines-append b c), length-append (lines_of b) (lines_of c)) in (
      subst (λ (l : Bytes). TypesAt l a (a + length (lines_of b)) b) (sym w) (types-at (take a s) (lines_of b) (lines_of c ++ drop e s) a (a + length (lines_of b)) b k refl refl),
      subst (λ (l : Bytes). TypesAt l (a + length (lines_of b)) e c) (sym v) (types-at (take a s ++ lines_of b) (lines_of c) (drop e s) (a + length (lines_of b)) e c m n refl),
    )

-- the first of them
pub one_line : (t : Ty) → lines_of (t ∷ []) ≡ line t
unfolding lines_of
one_line t = append-nil (line t)

pub one_type : {s : Bytes} {a e : ℕ} {t : Ty} → TypesAt s a e (t ∷ []) → TypeAt s a e t
one_type {t = t} f = record { ordered = f.ordered; inside = f.inside; is = f.is ∙ one_line t }

pub as-types : {s : Bytes} {a e : ℕ} {t : Ty} → TypeAt s a e t → TypesAt s a e (t ∷ [])
as-types {t = t} f = record { ordered = f.ordered; inside = f.inside; is = f.is ∙ sym (one_line t) }

pub first_at : {s : Bytes} {a e : ℕ} {t : Ty} {ts : List Ty} → TypesAt s a e (t ∷ ts) → TypeAt s a (a + length (line t)) t
first_at {s} {a} {e} {t} {ts} f = rw (one_line t) at (one_type (types-split (t ∷ []) ts f).0)

pub others-at : {s : Bytes} {a e : ℕ} {t : Ty} {ts : List Ty} → TypesAt s a e (t ∷ ts) → TypesAt s (a + length (line t)) e ts
others-at {s} {a} {e} {t} {ts} f = rw (one_line t) at (types-split (t ∷ []) ts f).1

-- ## Where a type goes

pub insert-past : (x y : Ty) (ys : List Ty) → lex (line y) (line x) ≡ Ordering.lt → insert x (y ∷ ys) ≡ y ∷ insert x ys
insert-past x y ys p = go (tri (line y) (line x))
  where
    go : Tri (line y) (line x) → insert x (y ∷ ys) ≡ y ∷ insert x ys
    go (lt h) = insert-gt x y ys h
    go (eq h) = absurd (let q = lex-eq (line x) in let r : lex (line y) (line x) ≡ Ordering.eq = rw h q in let z : ◌≡◌ {A = ℕ} 0 1 = cc in omega arith)
    go (gt h) = absurd (let q = lex-gt h in let z : ◌≡◌ {A = ℕ} 0 1 = cc in omega arith)

pub insert-there : (x y : Ty) (ys : List Ty) → lex (line y) (line x) ≡ Ordering.eq → insert x (y ∷ ys) ≡ y ∷ ys
insert-there x y ys p = go (tri (line y) (line x))
  where
    go : Tri (line y) (line x) → insert x (y ∷ ys) ≡ y ∷ ys
    go (lt h) = absurd (let q = lex-lt h in let z : ◌≡◌ {A = ℕ} 0 1 = cc in omega arith)
    go (eq h) = rw (line_eq y x h) (insert-eq x ys)
    go (gt h) = absurd (let q = lex-gt h in let z : ◌≡◌ {A = ℕ} 0 1 = cc in omega arith)

pub insert-here : (x y : Ty) (ys : List Ty) → lex (line y) (line x) ≡ Ordering.gt → insert x (y ∷ ys) ≡ x ∷ y ∷ ys
insert-here x y ys p = go (tri (line y) (line x))
  where
    go : Tri (line y) (line x) → insert x (y ∷ ys) ≡ x ∷ y ∷ ys
    go (lt h) = absurd (let q = lex-lt h in let z : ◌≡◌ {A = ℕ} 0 1 = cc in omega arith)
    go (eq h) = absurd (let q = lex-eq (line x) in let r : lex (line y) (line x) ≡ Ordering.eq = rw h q in let z : ◌≡◌ {A = ℕ} 0 1 = cc in omega arith)
    go (gt h) = insert-lt x y ys h
