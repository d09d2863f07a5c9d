-- What a type begins with: a letter that is a whole type, and the order of two types that their first bytes tell. Assumes nothing.
use mathlib.Core.Path.{◌≡◌, refl, sym, ◌∙◌, ap}
use mathlib.Core.List.{[], ◌∷◌, ◌++◌}
use mathlib.Core.Bool.{Bool, true, false, cond}
use Prim.Native.Nat.{ℕ, zero, suc, ◌*◌, ◌+◌, ◌≤◌, ◌<◌}
use native.Mathlib.Nat.{add-zero}
use native.Mathlib.Decide.{dec_lt}
use native.Mathlib.Omega.{arith}
use lib.Dec.{ltb}
use lib.ListN.{length, take, drop, get_or, length-drop, take-append-drop, get_or-eq_default}
use lib.Seq.{slice, slice-cons, drop-cons, get_or-drop}
use borrow.Author.Tests.{ltb-true, ltb-false, lt-ltb}
use Rattle.semantics.specs.Bytes.{Bytes}
use Rattle.semantics.specs.Ty.{Ty, base, t_list, t_map, t_node, t_relationship, t_union, line_to, line}
use Rattle.semantics.proofs.Order.{Less, ends, here, next, lex-lt, head-eq, tail-eq}
use Rattle.ty.specs.Parts.{TypeAt, EndsAt}
use Rattle.ty.specs.Read.{kind_of}
use Rattle.ty.specs.Keys.{key_of, byte_before, value, head_of, Below, name_key, NameBelow}
use Rattle.ty.proofs.Lines.{line-to}
use Rattle.ty.proofs.Fields.{type-byte}

-- ## A letter that is a whole type

flat-long : (t : Ty) → kind_of t < 74 → length (line t) ≡ 2
unfolding kind_of line line_to
flat-long (base b) h = refl
flat-long (t_list t) h = absurd (omega arith)
flat-long (t_map fs) h = absurd (omega arith)
flat-long (t_node ls) h = absurd (omega arith)
flat-long (t_relationship n) h = absurd (omega arith)
flat-long (t_union ts) h = absurd (omega arith)

-- a letter below that of lists
pub flat-ends : (s : Bytes) (at : ℕ) → get_or s at 0 < 74 → EndsAt s at (at + 2)
flat-ends s at h t rest e = omega (arith, flat-long t (omega (arith, type-byte s at t rest e)))

-- ## The order that the first bytes tell

-- whatever begins the text at q comes before the text at [n, m)
abbrev Ahead : Bytes → ℕ → ℕ → ℕ → Type 0
Ahead s q n m = (p r : Bytes) → drop q s ≡ p ++ r → Less p (slice n m s)

module _ (s : Bytes) (q n m : ℕ) (h : n < m) (k : m ≤ length s) (u : q < length s) where
  text-cons : slice n m s ≡ get_or s n 0 ∷ slice (suc n) m s
  text-cons = slice-cons n m s 0 h k

  -- by the first byte
  ahead-here : get_or s q 0 < get_or s n 0 → Ahead s q n m
  ahead-here l [] r e = rw text-cons ends
  ahead-here l (a ∷ p) r e =
      let z : get_or s q 0 ≡ a = head-eq (sym (drop-cons s q 0 u) ∙ e) in
      let g : a < get_or s n 0 = omega arith in
      rw text-cons (here {x = a} {y = get_or s n 0} g)

  -- by the bytes behind it
  ahead-next : (q' n' : ℕ) → q' ≡ suc q → n' ≡ suc n → get_or s q 0 ≡ get_or s n 0 → Ahead s q' n' m → Ahead s q n m
  ahead-next q' n' i j l w [] r e = rw text-cons ends
  ahead-next q' n' i j l w (a ∷ p) r e =
      let z : a ≡ get_or s n 0 = sym (head-eq (sym (drop-cons s q 0 u) ∙ e)) ∙ l in
      let v : Less p (slice n' m s) = w p r (ap (λ (o : ℕ). drop o s) i ∙ tail-eq (sym (drop-cons s q 0 u) ∙ e)) in
      rw (text-cons, z) (next (rw j at v))

ahead-below : (s : Bytes) (q n m : ℕ) → ((t : Ty) (rest : Bytes) (x : Ty) → drop q s ≡ line_to t rest → TypeAt s n m x → Ahead s q n m) → Below s q n m
ahead-below s q n m f t rest x e a = lex-lt (rw a.is at (f t rest x e a (line t) rest (e ∙ line-to t rest)))

-- a byte that is read before an end
before-in : (s : Bytes) (i m : ℕ) → i < m → byte_before s i m ≡ get_or s i 0
unfolding byte_before
before-in s i m h = rw (lt-ltb i m h)

-- a byte above another is no zero
before-pos : (s : Bytes) (i m k : ℕ) → k < byte_before s i m → i < m
unfolding byte_before
before-pos s i m k h = go (ltb i m) refl h
  where
    go : (b : Bool) → ltb i m ≡ b → k < cond b (get_or s i 0) 0 → i < m
    go true e g = ltb-true i m e
    go false e g = absurd (omega arith)

before_small : (s : Bytes) (i m : ℕ) → ((j : ℕ) → get_or s j 0 < 256) → byte_before s i m < 256
unfolding byte_before
before_small s i m f = go (ltb i m)
  where
    go : (b : Bool) → cond b (get_or s i 0) 0 < 256
    go true = f i
    go false = omega arith

-- what one number below another says of four bytes
data Four (a b c d u v w z : ℕ) : Type 0 where
  first : a < u → Four a b c d u v w z
  second : a ≡ u → b < v → Four a b c d u v w z
  third : a ≡ u → b ≡ v → c < w → Four a b c d u v w z
  fourth : a ≡ u → b ≡ v → c ≡ w → d < z → Four a b c d u v w z

four_below : (a b c d u v w z : ℕ) → v < 256 → w < 256 → z < 256 → key_of a b c d < key_of u v w z → Four a b c d u v w z
unfolding key_of
four_below a b c d u v w z hv hw hz h = go (ltb a u) (ltb b v) (ltb c w) refl refl refl
  where
    go : (e f g : Bool) → ltb a u ≡ e → ltb b v ≡ f → ltb c w ≡ g → Four a b c d u v w z
    go true f g i j k = first (ltb-true a u i)
    go false true g i j k = let p = ltb-false a u i in let q = ltb-true b v j in second (omega arith) q
    go false false true i j k = let p = ltb-false a u i in let q = ltb-false b v j in let r = ltb-true c w k in third (omega arith) (omega arith) r
    go false false false i j k = let p = ltb-false a u i in let q = ltb-false b v j in let r = ltb-false c w k in fourth (omega arith) (omega arith) (omega arith) (omega arith)

-- ## Names

less-here : (a : ℕ) (u x : Bytes) → a < get_or x 0 0 → (p r : Bytes) → a ∷ u ≡ p ++ r → Less p x
less-here a u [] h p r e = absurd (omega arith)
less-here a u (y ∷ x) h [] r e = ends
less-here a u (y ∷ x) h (k ∷ p) r e = let z : a ≡ k = head-eq e in let g : k < y = omega arith in here {x = k} {y = y} g

less-next : (a : ℕ) (u x : Bytes) → 0 < length x → a ≡ get_or x 0 0 → ((p r : Bytes) → u ≡ p ++ r → Less p (drop 1 x)) → (p r : Bytes) → a ∷ u ≡ p ++ r → Less p x
less-next a u [] h l w p r e = absurd (omega arith)
less-next a u (y ∷ x) h l w [] r e = ends
less-next a u (y ∷ x) h l w (k ∷ p) r e = let z : k ≡ y = sym (head-eq e) ∙ l in rw z (next (w p r (tail-eq e)))

there : (x : Bytes) (i k : ℕ) → k < get_or x i 0 → i < length x
there x i k h = go (ltb i (length x)) refl
  where
    go : (b : Bool) → ltb i (length x) ≡ b → i < length x
    go true e = ltb-true i (length x) e
    go false e = absurd (omega (arith, get_or-eq_default x 0 {n = i} (ltb-false i (length x) e)))

four-less : (a b c d : ℕ) (u x : Bytes) → Four a b c d (get_or x 0 0) (get_or x 1 0) (get_or x 2 0) (get_or x 3 0) → (p r : Bytes) → a ∷ b ∷ c ∷ d ∷ u ≡ p ++ r → Less p x
four-less a b c d u x (first h) = less-here a (b ∷ c ∷ d ∷ u) x h
four-less a b c d u x (second i h) =
    let t = there x 1 b h in
    less-next a (b ∷ c ∷ d ∷ u) x (omega arith) i
    (less-here b (c ∷ d ∷ u) (drop 1 x) (omega (arith, get_or-drop 1 x 0 0)))
four-less a b c d u x (third i j h) =
    let t = there x 2 c h in
    less-next a (b ∷ c ∷ d ∷ u) x (omega arith) i
    (less-next b (c ∷ d ∷ u) (drop 1 x) (omega (arith, length-drop 1 x)) (j ∙ sym (get_or-drop 1 x 0 0))
    (less-here c (d ∷ u) (drop 1 (drop 1 x)) (omega (arith, get_or-drop 1 (drop 1 x) 0 0, get_or-drop 1 x 1 0))))
four-less a b c d u x (fourth i j k h) =
    let t = there x 3 d h in
    less-next a (b ∷ c ∷ d ∷ u) x (omega arith) i
    (less-next b (c ∷ d ∷ u) (drop 1 x) (omega (arith, length-drop 1 x)) (j ∙ sym (get_or-drop 1 x 0 0))
    (less-next c (d ∷ u) (drop 1 (drop 1 x)) (omega (arith, length-drop 1 x, length-drop 1 (drop 1 x))) (k ∙ sym (get_or-drop 1 (drop 1 x) 0 0 ∙ get_or-drop 1 x 1 0))
    (less-here d u (drop 1 (drop 1 (drop 1 x))) (omega (arith, get_or-drop 1 (drop 1 (drop 1 x)) 0 0, get_or-drop 1 (drop 1 x) 1 0, get_or-drop 1 x 2 0)))))

byte-in : (x : Bytes) (i : ℕ) → byte_before x i (length x) ≡ get_or x i 0
unfolding byte_before
byte-in x i = go (ltb i (length x)) refl
  where
    go : (b : Bool) → ltb i (length x) ≡ b → cond b (get_or x i 0) 0 ≡ get_or x i 0
    go true e = refl
    go false e = sym (get_or-eq_default x 0 {n = i} (ltb-false i (length x) e))

four-drop : (s : Bytes) (q : ℕ) → q + 4 ≤ length s → drop q s ≡ get_or s q 0 ∷ get_or s (q + 1) 0 ∷ get_or s (q + 2) 0 ∷ get_or s (q + 3) 0 ∷ drop (q + 4) s
four-drop s q h =
    let a : suc q ≡ q + 1 = omega arith in
    let b : suc (q + 1) ≡ q + 2 = omega arith in
    let c : suc (q + 2) ≡ q + 3 = omega arith in
    let d : suc (q + 3) ≡ q + 4 = omega arith in
    let w : drop (q + 3) s ≡ get_or s (q + 3) 0 ∷ drop (q + 4) s = drop-cons s (q + 3) 0 (omega arith) ∙ ap (λ (i : ℕ). get_or s (q + 3) 0 ∷ drop i s) d in
    let v : drop (q + 2) s ≡ get_or s (q + 2) 0 ∷ drop (q + 3) s = drop-cons s (q + 2) 0 (omega arith) ∙ ap (λ (i : ℕ). get_or s (q + 2) 0 ∷ drop i s) c in
    let u : drop (q + 1) s ≡ get_or s (q + 1) 0 ∷ drop (q + 2) s = drop-cons s (q + 1) 0 (omega arith) ∙ ap (λ (i : ℕ). get_or s (q + 1) 0 ∷ drop i s) b in
    drop-cons s q 0 (omega arith)
    ∙ ap (λ (i : ℕ). get_or s q 0 ∷ drop i s) a
    ∙ ap (λ (l : Bytes). get_or s q 0 ∷ l) (u ∙ ap (λ (l : Bytes). get_or s (q + 1) 0 ∷ l) (v ∙ ap (λ (l : Bytes). get_or s (q + 2) 0 ∷ l) w))

pub told-name : (s : Bytes) (q : ℕ) (x : Bytes) (r low : ℕ) → q + 4 ≤ length s → ((j : ℕ) → get_or x j 0 < 256) → r ≡ key_of (get_or s q 0) (get_or s (q + 1) 0) (get_or s (q + 2) 0) (get_or s (q + 3) 0)
    → low ≡ name_key x → ltb r low ≡ true → NameBelow s q x
told-name s q x r low h f e w l k =
    let g = ltb-true r low l in
    let m : low ≡ key_of (get_or x 0 0) (get_or x 1 0) (get_or x 2 0) (get_or x 3 0) = w ∙ rw (byte-in x 0, byte-in x 1, byte-in x 2, byte-in x 3) refl in
    lex-lt (four-less _ _ _ _ (drop (q + 4) s) x (four_below _ _ _ _ _ _ _ _ (f 1) (f 2) (f 3) (omega arith)) (take k (drop q s)) (drop k (drop q s)) (sym (four-drop s q h) ∙ sym (take-append-drop k (drop q s))))

-- ## Types

-- the first k of some bytes tell that a comes before b
record Differs (k : ℕ) (a b : ℕ → ℕ) : Type 0 where
  place : ℕ
  few : place < k
  same : (j : ℕ) → j < place → a j ≡ b j
  less : a place < b place

module _ (a b : ℕ → ℕ) (f : (j : ℕ) → a j < 256) (g : (j : ℕ) → b j < 256) where
  same_on : (k j : ℕ) → value a (suc k) ≡ value b (suc k) → (j < k → a j ≡ b j) → j < suc k → Dec (j < k) → a j ≡ b j
  same_on k j e c h (yes l) = c l
  same_on k j e c h (no l) = let p : j ≡ k = omega (arith, h, l) in ap a p ∙ omega (arith, e, f k, g k) ∙ sym (ap b p)

  value-same : (k : ℕ) → value a k ≡ value b k → (j : ℕ) → j < k → a j ≡ b j
  value-same zero e j h = absurd (omega arith)
  value-same (suc k) e j h = same_on k j e (value-same k (omega (arith, e, f k, g k)) j) h (dec_lt j k)

  less_on : (k : ℕ) → value a (suc k) < value b (suc k) → (value a k < value b k → Differs k a b) → Dec (value a k < value b k) → Differs (suc k) a b
  less_on k h c (yes l) = let d = c l in record { place = d.place; few = omega (arith, d.few); same = d.same; less = d.less }
  less_on k h c (no l) = record { place = k; few = omega arith; same = value-same k (omega (arith, h, l, f k, g k)); less = omega (arith, h, l, f k, g k) }

  value-less : (k : ℕ) → value a k < value b k → Differs k a b
  value-less zero h = absurd (omega arith)
  value-less (suc k) h = less_on k h (value-less k) (dec_lt (value a k) (value b k))

-- by the first bytes that differ
ahead_at : (s : Bytes) (i q n m : ℕ) → n + i < m → m ≤ length s → q < n → ((j : ℕ) → j < i → get_or s (q + j) 0 ≡ get_or s (n + j) 0) → get_or s (q + i) 0 < get_or s (n + i) 0 → Ahead s q n m
ahead_at s zero q n m h k o same less =
    let g : ℕ → ℕ = λ i. get_or s i 0 in
    ahead-here s q n m (omega arith) k (omega arith) (omega (arith, less, ap g (add-zero q), ap g (add-zero n)))
ahead_at s (suc i) q n m h k o same less =
    let g : ℕ → ℕ = λ i. get_or s i 0 in
    let on : (a j : ℕ) → g (a + suc j) ≡ g (suc a + j) = λ a j. ap g (omega arith) in
    ahead-next s q n m (omega arith) k (omega arith) (suc q) (suc n) refl refl (sym (ap g (add-zero q)) ∙ same 0 (omega arith) ∙ ap g (add-zero n))
    (ahead_at s i (suc q) (suc n) m (omega arith) k (omega arith)
    (λ j l. sym (on q j) ∙ same (suc j) (omega arith) ∙ on n j)
    (omega (arith, less, on q i, on n i)))

-- eight bytes as one number, the first by itself
abbrev pub number : ℕ → (ℕ → ℕ) → ℕ
number a f = (((((((0 + a) * 256 + f 1) * 256 + f 2) * 256 + f 3) * 256 + f 4) * 256 + f 5) * 256 + f 6) * 256 + f 7

pub from_there : (g : ℕ → ℕ) (q r : ℕ) → r ≡ number (g q) (λ j. g (q + j)) → r ≡ value (λ j. g (q + j)) 8
from_there g q r e = e ∙ ap (λ a. number a (λ j. g (q + j))) (ap g (sym (add-zero q)))

pub told_head : (s : Bytes) (q n : ℕ) → q < n → ((j : ℕ) → get_or s j 0 < 256) → (r x : ℕ) → r ≡ value (λ j. get_or s (q + j) 0) 8 → ltb r x ≡ true → (m : ℕ) → x ≡ head_of s n m → Below s q n m
told_head s q n o f r x e l m w =
    let d = value-less (λ j. get_or s (q + j) 0) (λ j. byte_before s (n + j) m) (λ j. f (q + j)) (λ j. before_small s (n + j) m f) 8 (omega (arith, ltb-true r x l, e, w)) in
    let u = before-pos s (n + d.place) m (get_or s (q + d.place) 0) d.less in
    ahead-below s q n m (λ t rest y z a. ahead_at s d.place q n m u a.inside o
    (λ j h. d.same j h ∙ before-in s (n + j) m (omega (arith, h, u)))
    (omega (arith, d.less, before-in s (n + d.place) m u)))
