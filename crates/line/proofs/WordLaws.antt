-- The words by their packed letters. Assumes nothing.
use mathlib.Core.Path.{◌≡◌, refl, sym, ◌∙◌, ap}
use mathlib.Core.List.{List, [], ◌∷◌, ◌++◌}
use mathlib.Core.Option.{none}
use mathlib.Core.Bool.{Bool, true, false, ◌&&◌}
use Prim.Native.Nat.{ℕ, ◌+◌, ◌-◌, ◌*◌, ◌≤◌, ◌<◌}
use native.Mathlib.Decide.{dec_le}
use native.Mathlib.Omega.{arith}
use lib.Dec.{eqb, ltb}
use lib.ListN.{length, take, drop, take-append-drop, length-drop}
use lib.Seq.{length-take-le}
use borrow.Author.Tests.{ne_eqb, eq-eqb, ltb-true}
use Rattle.semantics.specs.Bytes.{Bytes, text, same}
use Rattle.semantics.specs.Sheet.{Word, row, words, word_in}
use Rattle.semantics.proofs.All.{All, empty, also, all_drop}
use Rattle.semantics.proofs.Order.{same_refl, same-ne}
use Rattle.line.specs.Rows.{code_from, word_at}

-- ## Packed letters are told apart

packed : ℕ → Bytes → ℕ
packed a [] = a
packed a (c ∷ cs) = packed (a * 256 + c) cs

abbrev pub Small : Bytes → Type 0
Small s = All (λ c. c < 256) s

-- texts of one length
packed-same : (xs ys : Bytes) (a b : ℕ) → length xs ≡ length ys → Small xs → Small ys → packed a xs ≡ packed b ys → (a ≡ b) × (xs ≡ ys)
unfolding packed
packed-same [] [] a b l empty empty e = (e, refl)
packed-same [] (y ∷ ys) a b l sx sy e = absurd (omega arith)
packed-same (x ∷ xs) [] a b l sx sy e = absurd (omega arith)
packed-same (x ∷ xs) (y ∷ ys) a b l (also hx sx) (also hy sy) e =
    let r = packed-same xs ys (a * 256 + x) (b * 256 + y) (omega arith) sx sy e in
    let ab : a ≡ b = omega (arith, r.0) in
    let xy : x ≡ y = omega (arith, r.0) in
    (ab, cc r.1)

packed-append : (a : ℕ) (xs ys : Bytes) → packed a (xs ++ ys) ≡ packed (packed a xs) ys
unfolding packed
packed-append a [] ys = refl
packed-append a (x ∷ xs) ys = packed-append (a * 256 + x) xs ys

packed-grows : (a : ℕ) (xs : Bytes) → a ≤ packed a xs
unfolding packed
packed-grows a [] = omega arith
packed-grows a (x ∷ xs) = omega (arith, packed-grows (a * 256 + x) xs)

one-empty : (xs : Bytes) → 1 ≡ packed 1 xs → length xs ≡ 0
unfolding packed
one-empty [] e = refl
one-empty (x ∷ xs) e = absurd (omega (arith, packed-grows (1 * 256 + x) xs))

packed-shorter : (xs ys : Bytes) → length xs ≤ length ys → Small xs → Small ys → packed 1 xs ≡ packed 1 ys → xs ≡ ys
packed-shorter xs ys l sx sy e =
    let k : ℕ = length ys - length xs in
    let e' : packed 1 xs ≡ packed (packed 1 (take k ys)) (drop k ys) = e ∙ ap (packed 1) (sym (take-append-drop k ys)) ∙ packed-append 1 (take k ys) (drop k ys) in
    let ld : length xs ≡ length (drop k ys) = omega (arith, length-drop k ys) in
    let r = packed-same xs (drop k ys) 1 (packed 1 (take k ys)) ld sx (all_drop k sy) e' in
    let z : length (take k ys) ≡ 0 = one-empty (take k ys) r.0 in
    let z' : length (take k ys) ≡ k = length-take-le k ys (omega arith) in
    let ll : length xs ≡ length ys = omega (arith, z, z') in
    (packed-same xs ys 1 1 ll sx sy e).1

packed-inj : (xs ys : Bytes) → Small xs → Small ys → packed 1 xs ≡ packed 1 ys → xs ≡ ys
packed-inj xs ys sx sy e = go (dec_le (length xs) (length ys))
  where
    go : Dec (length xs ≤ length ys) → xs ≡ ys
    go (yes h) = packed-shorter xs ys h sx sy e
    go (no h) = sym (packed-shorter ys xs (omega arith) sy sx (sym e))

-- a code that is not 0 is the packed letters
code-packed : (a : ℕ) (xs : Bytes) → 0 < code_from a xs → code_from a xs ≡ packed a xs
unfolding code_from packed
code-packed a [] h = refl
code-packed a (x ∷ xs) h = go (code-packed (a * 256 + x) xs) (ltb a 1099511627776) refl
  where
    go : (0 < code_from (a * 256 + x) xs → code_from (a * 256 + x) xs ≡ packed (a * 256 + x) xs) → (b : Bool) → ltb a 1099511627776 ≡ b → code_from a (x ∷ xs) ≡ packed a (x ∷ xs)
    go ih true e = rw (e, code_from) (ih (rw (e, code_from) at h))
    go ih false e = absurd (let z : 0 < 0 = rw (e, code_from) at h in omega arith)

-- ## The words

is_small : Bytes → Bool
is_small [] = true
is_small (c ∷ cs) = ltb c 256 && is_small cs

pub both_l : (a b : Bool) → (a && b) ≡ true → a ≡ true
both_l true b e = refl
both_l false b e = e

pub both_r : (a b : Bool) → (a && b) ≡ true → b ≡ true
both_r true b e = e
both_r false b e = absurd (let z : ◌≡◌ {A = ℕ} 0 1 = cc in omega arith)

small_of : (s : Bytes) → is_small s ≡ true → Small s
unfolding is_small
small_of [] e = empty
small_of (c ∷ cs) e = also (ltb-true c 256 (both_l (ltb c 256) (is_small cs) e)) (small_of cs (both_r (ltb c 256) (is_small cs) e))

-- each is spelled in bytes that have a code
are_coded : List Word → Bool
are_coded [] = true
are_coded (v ∷ vs) = (is_small (text (row v).spelled) && ltb 0 (code_from 1 (text (row v).spelled))) && are_coded vs

same_code : (w t : Bytes) → Small w → Small t → 0 < code_from 1 t → (b : Bool) → same w t ≡ b → eqb (code_from 1 w) (code_from 1 t) ≡ b
same_code w t sw st h true e = eq-eqb _ _ (ap (code_from 1) (Rattle.semantics.proofs.Order.same-eq e))
same_code w t sw st h false e = ne_eqb _ _ (λ d. let z : ◌≡◌ {A = ℕ} 0 1 = cc (e, sym (same_refl t) ∙ ap (λ (u : Bytes). same u t) (sym (unlike d))) in omega arith)
  where
    unlike : code_from 1 w ≡ code_from 1 t → w ≡ t
    unlike d = packed-inj w t sw st (sym (code-packed 1 w (rw d h)) ∙ d ∙ code-packed 1 t h)

word-at : (w : Bytes) → Small w → (vs : List Word) → are_coded vs ≡ true → word_at (code_from 1 w) vs ≡ word_in w vs
unfolding word_at word_in are_coded
word-at w sw [] e = refl
word-at w sw (v ∷ vs) e = go (word-at w sw vs (both_r (is_small (text (row v).spelled) && ltb 0 (code_from 1 (text (row v).spelled))) (are_coded vs) e)) (same w t) refl
  where
    t : Bytes
    t = text (row v).spelled

    c : (is_small t && ltb 0 (code_from 1 t)) ≡ true
    c = both_l (is_small t && ltb 0 (code_from 1 t)) (are_coded vs) e

    s : (b : Bool) → same w t ≡ b → eqb (code_from 1 w) (code_from 1 t) ≡ b
    s = same_code w t sw (small_of t (both_l (is_small t) (ltb 0 (code_from 1 t)) c)) (ltb-true 0 (code_from 1 t) (both_r (is_small t) (ltb 0 (code_from 1 t)) c))

    go : word_at (code_from 1 w) vs ≡ word_in w vs → (b : Bool) → same w t ≡ b → word_at (code_from 1 w) (v ∷ vs) ≡ word_in w (v ∷ vs)
    go ih true d = rw (s true d, d, word_at, word_in)
    go ih false d = rw (s false d, d, word_at, word_in) ih

all_coded : are_coded words ≡ true
unfolding are_coded is_small code_from text row
all_coded = refl

-- the word of a text's code is the word that it spells
pub found-word : (w : Bytes) → Small w → word_at (code_from 1 w) words ≡ word_in w words
found-word w sw = word-at w sw words all_coded

-- 0 is no word's code
pub no-code : word_at 0 words ≡ none
unfolding word_at code_from text row
no-code = refl
