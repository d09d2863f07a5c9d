-- A number's decimal digits from the first: powers of ten and what they leave. Assumes nothing.
use Prim.Native.Nat.{ℕ, zero, suc, ◌+◌, ◌-◌, ◌*◌, ◌/◌, ◌%◌, ◌^◌, ◌≤◌, ◌<◌}
use native.Mathlib.Nat.{add-zero, add-suc, suc-add, zero-add, pow-suc, suc-mul, mul_assoc, div-eq_of_lt-le, div-add-mod', mod-lt, one-le-pow, lt_of_mul-lt-mul_right}
use native.Mathlib.Numerals.{add-one}
use native.Mathlib.Omega.{arith}
use mathlib.Core.Path.{◌≡◌, refl, sym, ap, ap₂, subst, ◌∙◌}
use mathlib.Core.List.{[], ◌∷◌, ◌++◌, append_assoc, append-nil}
use lib.ListN.{length, set, get_or}
use lib.Seq.{sets}
use Rattle.semantics.specs.Bytes.{Bytes, shown_in, shown}
use Rattle.text.specs.Text.{Behind, tens}
use Rattle.text.proofs.Words.{shown-on, shown-end, power-less}

-- a quotient and a remainder are the only ones
pub divided : (b d r n : ℕ) → n ≡ d * b + r → r < b → (n / b ≡ d) × (n % b ≡ r)
divided b d r n e h =
    let q : n / b ≡ d = div-eq_of_lt-le b (omega (arith, e)) (let s = suc-mul d b in omega arith) in
    (q, let t = div-add-mod' n b in let u : n / b * b ≡ d * b = ap (λ (k : ℕ). k * b) q in omega (arith, e))

-- the last digit apart
parts : (i n : ℕ) → (n / 10 ^ suc i ≡ n / 10 / 10 ^ i) × (n % 10 ^ suc i ≡ n / 10 % 10 ^ i * 10 + n % 10)
parts i n =
    let p = 10 ^ i in
    let d = n / 10 / p in
    let s = n / 10 % p in
    let pos : 1 ≤ p = one-le-pow i 10 (omega arith) in
    let low : s < p = mod-lt (n / 10) pos in
    let whole : d * p + s ≡ n / 10 = div-add-mod' (n / 10) p in
    let e : n ≡ d * (p * 10) + (s * 10 + n % 10) = let a = mul_assoc d p 10 in omega arith in
    rw (pow-suc 10 i) (divided (p * 10) d (s * 10 + n % 10) n e (omega arith))

tens-last : (i n : ℕ) → tens (suc i) n ≡ tens i (n / 10) ++ ((48 + n % 10) ∷ [])
unfolding tens
tens-last zero n = refl
tens-last (suc i) n =
    let x = parts (suc i) n in
    let r = n / 10 % 10 ^ suc i in
    let a : (r * 10 + n % 10) / 10 ≡ r = omega arith in
    let b : (r * 10 + n % 10) % 10 ≡ n % 10 = omega arith in
    ap₂ (λ (h : ℕ) (t : Bytes). (48 + h) ∷ t) x.0
    (ap (tens (suc i)) x.1 ∙ tens-last i (r * 10 + n % 10) ∙ ap₂ (λ (m c : ℕ). tens i m ++ ((48 + c) ∷ [])) a b)

pub tens-length : (i n : ℕ) → length (tens i n) ≡ suc i
unfolding tens
tens-length zero n = refl
tens-length (suc i) n = ap suc (tens-length i (n % 10 ^ suc i))

-- as many digits as the number has
shown-tens : (k i n : ℕ) (r : Bytes) → i < k → n < 10 ^ suc i → (0 < i → 10 ^ i ≤ n) → shown_in k n r ≡ tens i n ++ r
unfolding tens
shown-tens zero i n r h a f = absurd (omega arith)
shown-tens (suc k) zero n r h a f = shown-end k n r (omega arith)
shown-tens (suc k) (suc i) n r h a f =
    let p = pow-suc 10 i in
    let least = one-le-pow i 10 (omega arith) in
    let above = f (omega arith) in
    shown-on k n r (omega arith)
    ∙ shown-tens k i (n / 10) ((48 + n % 10) ∷ r) (omega arith) (power-less n (suc i) a) (λ z. omega arith)
    ∙ sym (ap (λ (t : Bytes). t ++ r) (tens-last i n) ∙ append_assoc (tens i (n / 10)) ((48 + n % 10) ∷ []) r)

pub shown-first : (n i : ℕ) → Behind n i → shown n ≡ tens i n
unfolding shown
shown-first n i b = shown-tens 20 i n [] (let f = b.few in omega arith) (subst (λ (k : ℕ). n < 10 ^ k) (add-one i) b.above) b.first ∙ append-nil (tens i n)

-- what was taken away is less than ten times p
pub digit_low : (m p d r : ℕ) → m < p * 10 → m ≡ d * p + r → d < 10
digit_low m p d r h e = lt_of_mul-lt-mul_right p (omega (arith, e, h))

-- ## A turn of `append_decimal`

-- ten times a power of ten is the next
pub next_power : (i m : ℕ) → m < 10 ^ (i + 1) → (0 < 10 ^ i) × (m < 10 ^ i * 10)
next_power i m h = (one-le-pow i 10 (omega arith), subst (λ (k : ℕ). m < k) (ap (λ (k : ℕ). 10 ^ k) (add-one i) ∙ pow-suc 10 i) h)

-- the first digit apart
pub tens-step : (out : Bytes) (at i m : ℕ) → 0 < i → sets out at (tens i m) ≡ sets (set out at (48 + m / 10 ^ i)) (at + 1) (tens (i - 1) (m % 10 ^ i))
unfolding tens
tens-step out at zero m h = absurd (omega arith)
tens-step out at (suc i) m h =
    let q : suc i - 1 ≡ i = omega arith in
    ap₂ (λ (k j : ℕ). sets (set out at (48 + m / 10 ^ suc i)) k (tens j (m % 10 ^ suc i))) (sym (add-one at)) (sym q)

pub rest-low : (i m : ℕ) → 0 < i → m % 10 ^ i < 10 ^ (i - 1 + 1)
rest-low i m h =
    let q : i - 1 + 1 ≡ i = omega arith in
    subst (λ (k : ℕ). m % 10 ^ i < 10 ^ k) (sym q) (mod-lt m (one-le-pow i 10 (omega arith)))

-- the last digit
pub one-digit : (i m : ℕ) → i ≤ 0 → m < 10 ^ (i + 1) → m < 10
one-digit zero m h l = l
one-digit (suc i) m h l = absurd (omega arith)

pub tens-end : (out : Bytes) (at i m : ℕ) → i ≤ 0 → set out at (48 + m) ≡ sets out at (tens i m)
unfolding tens
tens-end out at zero m h = refl
tens-end out at (suc i) m h = absurd (omega arith)

-- ## The table

-- n powers of ten from 10 ^ k on
abbrev pub powers : ℕ → ℕ → Bytes
powers zero k = []
powers (suc n) k = 10 ^ k ∷ powers n (suc k)

of_powers : (n k i : ℕ) → i < n → get_or (powers n k) i 0 ≡ 10 ^ (k + i)
of_powers zero k i h = absurd (omega arith)
of_powers (suc n) k zero h = ap (λ (j : ℕ). 10 ^ j) (sym (add-zero k))
of_powers (suc n) k (suc i) h = of_powers n (suc k) i (omega arith) ∙ ap (λ (j : ℕ). 10 ^ j) (suc-add k i ∙ sym (add-suc k i))

pub power_at : (i : ℕ) → i < 20 → get_or (powers 20 0) i 0 ≡ 10 ^ i
power_at i h = of_powers 20 0 i h ∙ ap (λ (j : ℕ). 10 ^ j) (zero-add i)
