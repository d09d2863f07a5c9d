-- Bytes: text literals, byte order, splitting, decimal numbers, hexadecimal names (RULES 2.1, 2.2).
use Rattle.std.specs.Prelude.{List, [], ◌∷◌, ◌++◌, Bool, true, false, cond, ◌&&◌, eqb, ltb, leb}
use Rattle.std.proofs.Math.Option.{Option, none, some}
use Prim.Native.Nat.{ℕ, suc, zero, ◌+◌, ◌*◌, ◌-◌, ◌/◌, ◌%◌, compare, Ordering}
use Prim.Native.String.{String, [] as []ˢ, ◌∷◌ as ◌∷ˢ◌}
use Prim.Native.Char.{code}
use Rattle.std.proofs.Math.Dec.{compare_is_eq}
use Rattle.semantics.specs.Codes.{line_feed, digit_zero, digit_nine, decimal_digits, small_a, small_f, small_a_minus_ten}

abbrev pub Bytes : Type 0
Bytes = List ℕ

-- the bytes of an ASCII text
unfoldable pub text : String → Bytes
text []ˢ = []
text (c ∷ˢ s) = code c ∷ text s

-- byte order of texts
unfoldable pub lex : Bytes → Bytes → Ordering
lex [] [] = Ordering.eq
lex [] (y ∷ ys) = Ordering.lt
lex (x ∷ xs) [] = Ordering.gt
lex (x ∷ xs) (y ∷ ys) = elim (compare x y) [ Ordering.lt ↦ Ordering.lt | Ordering.eq ↦ lex xs ys | Ordering.gt ↦ Ordering.gt ]

unfoldable pub same : Bytes → Bytes → Bool
same a b = compare_is_eq (lex a b)

-- the pieces between the bytes c: one more than there are c
unfoldable pub front : ℕ → List Bytes → List Bytes
front c [] = (c ∷ []) ∷ []
front c (p ∷ ps) = (c ∷ p) ∷ ps

unfoldable pub split : ℕ → Bytes → List Bytes
split c [] = [] ∷ []
split c (x ∷ xs) = elim (eqb x c) [ true ↦ [] ∷ split c xs | false ↦ front x (split c xs) ]

-- lines, each ended by LF
unfoldable pub unlines : List Bytes → Bytes
unlines [] = []
unlines (l ∷ ls) = l ++ (line_feed ∷ unlines ls)

-- a decimal number without leading zeros
abbrev pub is_digit : ℕ → Bool
is_digit c = leb digit_zero c && leb c digit_nine

unfoldable pub digits : ℕ → Bytes → Option ℕ
digits a [] = some a
digits a (c ∷ cs) = elim (is_digit c) [ true ↦ digits (a * 10 + (c - digit_zero)) cs | false ↦ none ]

unfoldable pub decimal : Bytes → Option ℕ
decimal [] = none
decimal (c ∷ []) = digits 0 (c ∷ [])
decimal (c ∷ d ∷ cs) = elim (eqb c digit_zero) [ true ↦ none | false ↦ digits 0 (c ∷ d ∷ cs) ]

-- a number in decimal: the first argument bounds the digits
unfoldable pub shown_in : ℕ → ℕ → Bytes → Bytes
shown_in zero n r = r
shown_in (suc k) n r = elim (ltb n 10) [ true ↦ (digit_zero + n) ∷ r | false ↦ shown_in k (n / 10) ((digit_zero + n % 10) ∷ r) ]

unfoldable pub shown : ℕ → Bytes
shown n = shown_in decimal_digits n []

-- a name is kept as its hexadecimal digits, two for each byte; `hex` writes a digit, `unhex` reads them all
unfoldable pub hex : ℕ → ℕ
hex d = cond (ltb d 10) (digit_zero + d) (small_a_minus_ten + d)

unfoldable pub unhex : Bytes → Option Bytes
unhex [] = some []
unhex (c ∷ cs) =
    elim (is_digit c) [ true ↦ more (c - digit_zero) (unhex cs) | false ↦ elim (leb small_a c && leb c small_f) [ true ↦ more (c - small_a_minus_ten) (unhex cs) | false ↦ none ] ]
  where
    more : ℕ → Option Bytes → Option Bytes
    more d none = none
    more d (some ds) = some (d ∷ ds)

-- the bytes that a name's digits stand for
unfoldable pub unpaired : Bytes → Bytes
unpaired [] = []
unpaired (d ∷ []) = []
unpaired (d ∷ e ∷ ds) = (d * 16 + e) ∷ unpaired ds
