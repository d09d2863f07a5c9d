-- Names in a text: where one ends, how two compare, what tells a name from the end of a list. Assumes nothing.
use Prim.Native.Nat.{Ordering, ℕ, suc, ◌+◌, ◌≤◌, ◌<◌}
use native.Mathlib.Nat.{add-zero}
use native.Mathlib.Omega.{arith}
use mathlib.Core.Path.{◌≡◌, refl, sym, ap, ap₂, ◌∙◌}
use mathlib.Core.Bool.{Bool, true, false, cond}
use mathlib.Core.List.{[], ◌∷◌, ◌++◌, map}
use mathlib.Core.Option.{Option, none, some}
use borrow.Author.Tests.{ltb-true, ltb-false}
use lib.Dec.{ltb}
use lib.ListN.{length, take, drop, get_or, length-drop, length-append, length-map}
use lib.Seq.{slice, get_or-drop}
use Rattle.std.specs.Prelude.{Some, None}
use Rattle.text.specs.Text.{index_of}
use Rattle.semantics.specs.Bytes.{Bytes, lex, hex}
use Rattle.semantics.specs.Ty.{name_to}
use Rattle.semantics.proofs.Order.{Less, ends, here, next, lex-lt, lex-gt, lex-eq, Tri, lt, eq, gt, tri, hex-low}
use Rattle.text.specs.Text.{Ends, order_of}
use Rattle.std.specs.declared.cmp.Ordering.{Ordering as Order}
use Rattle.text.proofs.Laws.{take-drop}
use Rattle.ty.proofs.Lines.{name-to, comma-at, hex-bytes}
use Rattle.ty.specs.declared.merging.Side.TheVariants.{First, Second}
use Rattle.ty.specs.Merging.{head_to, HeadAt, next_by, next_of}

-- ## A name and what follows it

pub name-long : (n r : Bytes) → length (name_to n r) ≡ length n + 1 + length r
name-long n r = ap length (name-to n r) ∙ length-append (map hex n) (44 ∷ r) ∙ omega (arith, length-map n hex)

pub name-append : (n x r : Bytes) → name_to n x ++ r ≡ name_to n (x ++ r)
unfolding name_to
name-append [] x r = refl
name-append (d ∷ n) x r = ap (λ (l : Bytes). hex d ∷ l) (name-append n x r)

pub name-take : (n r : Bytes) → take (length n) (name_to n r) ≡ map hex n
unfolding name_to
name-take [] r = refl
name-take (d ∷ n) r = ap (λ (l : Bytes). hex d ∷ l) (name-take n r)

pub name-drop : (n r : Bytes) → drop (suc (length n)) (name_to n r) ≡ r
unfolding name_to
name-drop [] r = refl
name-drop (d ∷ n) r = name-drop n r

-- its comma is the first
pub name-index : (n r : Bytes) → index_of 44 (name_to n r) ≡ length n
name-index n r = ap (index_of 44) (name-to n r) ∙ comma-at (map hex n) r (hex-bytes n) ∙ length-map n hex

-- ## The order of names is that of their digits

hex-mono : (d e : ℕ) → d < e → hex d < hex e
unfolding hex
hex-mono d e h = go (ltb d 10) (ltb e 10) refl refl
  where
    go : (b c : Bool) → ltb d 10 ≡ b → ltb e 10 ≡ c → cond b (48 + d) (87 + d) < cond c (48 + e) (87 + e)
    go true true u v = omega arith
    go true false u v = omega (arith, ltb-true d 10 u, ltb-false e 10 v)
    go false true u v = omega (arith, ltb-false d 10 u, ltb-true e 10 v)
    go false false u v = omega arith

less-hex : {a b : Bytes} → Less a b → Less (map hex a) (map hex b)
less-hex ends = ends
less-hex (here {x} {y} h) = here (hex-mono x y h)
less-hex (next h) = next (less-hex h)

pub lex-hex : (a b : Bytes) → lex (map hex a) (map hex b) ≡ lex a b
lex-hex a b = go (tri a b)
  where
    go : Tri a b → lex (map hex a) (map hex b) ≡ lex a b
    go (lt h) = lex-lt (less-hex h) ∙ sym (lex-lt h)
    go (eq h) = rw h (lex-eq (map hex b) ∙ sym (lex-eq b))
    go (gt h) = lex-gt (less-hex h) ∙ sym (lex-gt h)

-- ## The first name of a list, or its end

-- a byte by what begins there
pub drop_head : (s : Bytes) (p x : ℕ) (r : Bytes) → drop p s ≡ x ∷ r → get_or s p 0 ≡ x
drop_head s p x r e = ap (λ (k : ℕ). get_or s k 0) (sym (add-zero p)) ∙ sym (get_or-drop p s 0 0) ∙ ap (λ (l : Bytes). get_or l 0 0) e

pub drop-in : (s : Bytes) (p x : ℕ) (r : Bytes) → drop p s ≡ x ∷ r → p < length s
drop-in s p x r e = omega (arith, length-drop p s, ap length e)

name-first : (n r : Bytes) → (x : ℕ) × (q : Bytes) × (name_to n r ≡ x ∷ q) × (44 ≤ x)
unfolding name_to
name-first [] r = (44, r, refl, omega arith)
name-first (d ∷ n) r = (hex d, name_to n r, refl, omega (arith, hex-low d))

pub head_in : (s : Bytes) (p : ℕ) (o : Option Bytes) → HeadAt s p o → p < length s
unfolding head_to
head_in s p none h = drop-in s p 33 h.rest h.is
head_in s p (some n) h = let (x, q, e, w) = name-first n h.rest in drop-in s p x q (h.is ∙ e)

pub head-end : (s : Bytes) (p : ℕ) → HeadAt s p none → get_or s p 0 ≡ 33
unfolding head_to
head-end s p h = drop_head s p 33 h.rest h.is

pub head-name : (s : Bytes) (p : ℕ) (n : Bytes) → HeadAt s p (some n) → get_or s p 0 ≡ 33 → ⊥
unfolding head_to
head-name s p n h z = let (x, q, e, w) = name-first n h.rest in omega (arith, drop_head s p x q (h.is ∙ e), w)

-- where a name ends
pub name-ends : (s : Bytes) (p r : ℕ) (n : Bytes) → HeadAt s p (some n) → Ends 44 s p r → r ≡ p + length n
unfolding head_to
name-ends s p r n h e = e.place ∙ ap (λ (k : ℕ). p + k) (ap (index_of 44) h.is ∙ name-index n h.rest)

-- its digits
pub name_part : (s : Bytes) (p r : ℕ) (n : Bytes) → HeadAt s p (some n) → Ends 44 s p r → slice p r s ≡ map hex n
unfolding head_to
name_part s p r n h e =
    ap (λ (k : ℕ). slice p k s) (name-ends s p r n h e) ∙ sym (take-drop (length n) p s) ∙ ap (take (length n)) h.is ∙ name-take n h.rest

-- ## What `next_name` answers

pub next-end : (s : Bytes) (p q : ℕ) (o u : Option Bytes) → HeadAt s p o → HeadAt s q u → get_or s p 0 ≡ 33 → get_or s q 0 ≡ 33 → None ≡ next_of o u
unfolding next_of
next-end s p q none none h k a b = refl
next-end s p q none (some m) h k a b = absurd (head-name s q m k b)
next-end s p q (some n) u h k a b = absurd (head-name s p n h a)

pub next-second : (s : Bytes) (p q : ℕ) (o u : Option Bytes) → HeadAt s p o → HeadAt s q u → get_or s p 0 ≡ 33 → (get_or s q 0 ≡ 33 → ⊥) → Some Second ≡ next_of o u
unfolding next_of
next-second s p q none none h k a b = absurd (b (head-end s q k))
next-second s p q none (some m) h k a b = refl
next-second s p q (some n) u h k a b = absurd (head-name s p n h a)

pub next-first : (s : Bytes) (p q : ℕ) (o u : Option Bytes) → HeadAt s p o → HeadAt s q u → (get_or s p 0 ≡ 33 → ⊥) → get_or s q 0 ≡ 33 → Some First ≡ next_of o u
unfolding next_of
next-first s p q none u h k a b = absurd (a (head-end s p h))
next-first s p q (some n) none h k a b = refl
next-first s p q (some n) (some m) h k a b = absurd (head-name s q m k b)

pub next-compared : (s : Bytes) (p q pe qe : ℕ) (o u : Option Bytes) (x y : Order) → HeadAt s p o → HeadAt s q u → (get_or s p 0 ≡ 33 → ⊥) → (get_or s q 0 ≡ 33 → ⊥)
    → Ends 44 s p pe → Ends 44 s q qe → order_of x ≡ lex (slice p pe s) (slice q qe s) → x ≡ y → Some (next_by (order_of y)) ≡ next_of o u
unfolding next_of
next-compared s p q pe qe none u x y h k a b e f c t = absurd (a (head-end s p h))
next-compared s p q pe qe (some n) none x y h k a b e f c t = absurd (b (head-end s q k))
next-compared s p q pe qe (some n) (some m) x y h k a b e f c t =
    ap (λ (z : Ordering). Some (next_by z)) (sym (ap order_of t) ∙ c ∙ ap₂ lex (name_part s p pe n h e) (name_part s q qe m k f) ∙ lex-hex n m)
