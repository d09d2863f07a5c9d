-- A store reads back as the list that it holds. Assumes nothing.
use mathlib.Core.Path.{◌≡◌, refl, ◌∙◌, ap, ap₂}
use mathlib.Core.List.{List, [], ◌∷◌, ◌++◌}
use mathlib.Core.Option.{some}
use mathlib.Core.Bool.{Bool, true, false, ◌&&◌, ◌||◌}
use Prim.Native.Nat.{ℕ, zero, suc, ◌+◌, ◌-◌, ◌≤◌, ◌<◌}
use native.Mathlib.Omega.{arith}
use borrow.Author.Tests.{le-ltb, ne_eqb, eq-eqb}
use lib.Dec.{eqb, ltb}
use lib.ListN.{length, take, drop, replicate, length-append, length-replicate}
use lib.Seq.{take-append_seam, drop-append_seam}
use Rattle.semantics.specs.Bytes.{Bytes}
use Rattle.semantics.proofs.All.{All, empty, also}
use Rattle.stores.specs.Catalogue.{Live, Catalogue, store_size, room_limit, number_limit, uses_limit, size, taken, low, value, entry, entries, stored, are_zeros, read_live, fine_live, fine, read_store}

-- ## What fits its bytes

pub record Fits (l : Live) : Type 0 where
  pub number : l.number ≤ number_limit
  pub above : 0 < l.number
  pub long : length l.text ≤ 1024
  pub uses : l.uses ≤ uses_limit

two : (n : ℕ) → n ≤ 65535 → value (low 2 n) ≡ n
unfolding value low
two n h = omega arith

four : (n : ℕ) → n ≤ 4294967295 → value (low 4 n) ≡ n
unfolding value low
four n h = omega arith

-- ## Zeros

pub zeros-all : (z : ℕ) → are_zeros (replicate z 0) ≡ true
unfolding are_zeros
zeros-all zero = refl
zeros-all (suc z) = zeros-all z

abbrev pub blank : ℕ → Bytes
blank z = replicate z 0

no_more : (z : ℕ) → (ltb (length (blank z)) 8 || eqb (value (take 2 (blank z))) 0) ≡ true
unfolding value
no_more zero = refl
no_more (suc zero) = refl
no_more (suc (suc z)) = or-true (ltb (length (blank (suc (suc z)))) 8)
  where
    or-true : (b : Bool) → (b || true) ≡ true
    or-true true = refl
    or-true false = refl

-- ## The live types

-- one live type in front
pub read_next : (k : ℕ) (s : Bytes) (ls : List Live) → (ltb (length s) 8 || eqb (value (take 2 s)) 0) ≡ false → ltb (length (drop 8 s)) (value (take 2 (drop 2 s))) ≡ false
    → read_live k (drop (value (take 2 (drop 2 s))) (drop 8 s)) ≡ some ls
    → read_live (suc k) s ≡ some (record { number = value (take 2 s); uses = value (take 4 (drop 4 s)); text = take (value (take 2 (drop 2 s))) (drop 8 s) } ∷ ls)
unfolding read_live
read_next k s ls a c e = rw (a, c, e, read_live)

pub or-false : {a b : Bool} → a ≡ false → b ≡ false → (a || b) ≡ false
or-false p q = rw (p, q)

read_one : (k : ℕ) (l : Live) → Fits l → (r : Bytes) (ls : List Live) → read_live k r ≡ some ls → read_live (suc k) (entry l ++ r) ≡ some (l ∷ ls)
unfolding entry low
read_one k l f r ls e =
    let s = entry l ++ r in
    let num : value (take 2 s) ≡ l.number = two l.number f.number in
    let long : value (take 2 (drop 2 s)) ≡ length l.text = two (length l.text) (let h = f.long in omega arith) in
    let many : value (take 4 (drop 4 s)) ≡ l.uses = four l.uses f.uses in
    let some_number : eqb (value (take 2 s)) 0 ≡ false = ne_eqb (value (take 2 s)) 0 (λ z. let a = f.above in omega (arith, num)) in
    let room : ltb (length (l.text ++ r)) (length l.text) ≡ false = le-ltb (length (l.text ++ r)) (length l.text) (omega (arith, length-append l.text r)) in
    read_next k s ls (or-false (le-ltb (length s) 8 (omega arith)) some_number) (ap (ltb (length (l.text ++ r))) long ∙ room)
    (ap (λ (n : ℕ). read_live k (drop n (l.text ++ r))) long ∙ ap (read_live k) (drop-append_seam l.text r) ∙ e)
    ∙ ap₂ (λ (a : ℕ) (b : ℕ). some (record { number = a; uses = b; text = take (value (take 2 (drop 2 s))) (l.text ++ r) } ∷ ls)) num many
    ∙ ap (λ (n : ℕ). some (record { number = l.number; uses = l.uses; text = take n (l.text ++ r) } ∷ ls)) long
    ∙ ap (λ (t : Bytes). some (record { number = l.number; uses = l.uses; text = t } ∷ ls)) (take-append_seam l.text r)

pub append-assoc3 : (a b c : Bytes) → (a ++ b) ++ c ≡ a ++ (b ++ c)
append-assoc3 [] b c = refl
append-assoc3 (x ∷ a) b c = ap (λ (l : Bytes). x ∷ l) (append-assoc3 a b c)

pub read_live_lem : (k : ℕ) {ls : List Live} → All Fits ls → length ls < k → (z : ℕ) → read_live k (entries ls ++ blank z) ≡ some ls
unfolding entries
read_live_lem zero a h z = absurd (omega arith)
read_live_lem (suc k) empty h z = unfold read_live in rw (no_more z, zeros-all z, read_live)
read_live_lem (suc k) (also {x = l} {xs = ls} f a) h z =
    rw (append-assoc3 (entry l) (entries ls) (blank z)) (read_one k l f (entries ls ++ blank z) ls (read_live_lem k a (omega arith) z))

-- ## The whole store

pub entry-long : (l : Live) → length (entry l) ≡ size l
unfolding entry low
entry-long l = omega arith

pub entries-long : (ls : List Live) → length (entries ls) ≡ taken ls
unfolding entries taken
entries-long [] = refl
entries-long (l ∷ ls) = length-append (entry l) (entries ls) ∙ ap₂ (λ (a b : ℕ). a + b) (entry-long l) (entries-long ls)

-- each takes some bytes
count-taken : (ls : List Live) → length ls ≤ taken ls
unfolding taken
count-taken [] = omega arith
count-taken (l ∷ ls) = let h = count-taken ls in omega arith

-- what a catalogue keeps
pub record Good (c : Catalogue) : Type 0 where
  pub last : c.last ≤ number_limit
  pub live : fine_live 0 c.last c.live ≡ true
  pub fit : All Fits c.live
  pub room : taken c.live ≤ room_limit

-- the store's parts
store_long : (c : Catalogue) → taken c.live ≤ room_limit → length (stored c) ≡ store_size
unfolding stored low
store_long c h =
    let z = room_limit - taken c.live in
    omega (arith, length-append (entries c.live) (blank z), entries-long c.live, length-replicate {A = ℕ} z 0)

store-zeros : (c : Catalogue) → are_zeros (take 6 (drop 2 (stored c))) ≡ true
unfolding stored low are_zeros
store-zeros c = refl

store-last : (c : Catalogue) → c.last ≤ number_limit → value (take 2 (stored c)) ≡ c.last
unfolding stored low
store-last c h = two c.last h

store-rest : (c : Catalogue) → drop 8 (stored c) ≡ entries c.live ++ blank (room_limit - taken c.live)
unfolding stored low
store-rest c = refl

pub both_true : {a b : Bool} → a ≡ true → b ≡ true → (a && b) ≡ true
both_true p q = rw (p, q)

pub read_back : (c : Catalogue) → Good c → read_store (stored c) ≡ some c
unfolding read_store
read_back c g =
    let h = g.room in
    let f = both_true (eq-eqb (length (stored c)) store_size (store_long c h)) (store-zeros c) in
    let r : read_live store_size (drop 8 (stored c)) ≡ some c.live
    = ap (read_live store_size) (store-rest c) ∙ read_live_lem store_size g.fit (let k = count-taken c.live in omega arith) (room_limit - taken c.live) in
    rw (f, read_store) (ap₂ fine (store-last c g.last) r ∙ (unfold fine in rw (g.live, fine)))
