-- Old lines and what the call makes of them, with number, length and both buffers, by computation. Assumes nothing.
use mathlib.Core.Path.{◌≡◌, refl}
use mathlib.Core.List.{List, [], ◌∷◌, ◌++◌, map}
use Prim.Native.Nat.{ℕ}
use Prim.Native.String.{String}
use lib.ListN.{length, replicate}
use Rattle.semantics.specs.Bytes.{Bytes, text}
use Rattle.semantics.specs.Calls.{Settled}
use Rattle.semantics.proofs.Run.{run}
use Rattle.semantics.proofs.Cases.{Lent, usual, output, sized, Left, wrote, zeroed, as_lent, work, out, left_work, left_out}
use Rattle.semantics.proofs.Texts.{many}
use Rattle.old_lines.specs.Old.{without, distinct, distinct_names, loose, old_line, made_labels, made, regular_of, regular_call}

pub record Case : Type 0 where
  pub line : Bytes
  pub lent : Lent
  pub number : ℕ
  pub left : Left

-- the call with all that it computes by open
unfoldable pub run_regular : Bytes → Bytes → Bytes → Settled
unfolding run without distinct distinct_names loose old_line made_labels made regular_of regular_call
run_regular s w o = regular_call s w o

unfoldable pub reply : Bytes → Lent → Settled
unfolding run_regular
reply s usual = run_regular s work out
reply s (output o) = run_regular s work (replicate o 111)
reply s (sized w o) = run_regular s (replicate w 119) (replicate o 111)

abbrev pub length_of : Left → ℕ
length_of (wrote s) = length s
length_of zeroed = 0
length_of as_lent = 0

unfoldable pub expected : Case → Settled
unfolding left_work left_out
expected c =
    record { number = c.number; first = length_of c.left; second = 0; work = left_work c.left c.lent; out = left_out c.left c.lent }

abbrev pub Pass : List Case → Type 0
Pass cs = map (λ c. reply c.line c.lent) cs ≡ map expected cs

abbrev pub gives : Bytes → Bytes → Case
gives s r = record { line = s; lent = usual; number = 0; left = wrote r }

abbrev pub stays : Bytes → Case
stays s = gives s s

abbrev pub refuses : Bytes → ℕ → Case
refuses s n = record { line = s; lent = usual; number = n; left = zeroed }

abbrev pub makes : String → String → Case
makes s r = gives (text s) (text r)

abbrev pub bad : String → Case
bad s = refuses (text s) 12

-- ## Order, repeats, unions inside unions, empty unions

abbrev pub form_cases : List Case
form_cases =
    makes "O,G,D,!," "O,D,G,!,"
    ∷ makes "O,D,D,!," "D,"
    ∷ makes "O,G,O,D,O,C,!,!,D,!," "O,C,D,G,!,"
    ∷ makes "J,O,O,O,D,!,!,!," "J,D,"
    ∷ makes "O,J,O,G,D,!,J,O,D,O,G,!,!,!," "J,O,D,G,!,"
    -- an empty union is Unknown, wherever it stands; two are one
    ∷ makes "O,!," "P,"
    ∷ makes "O,O,!,!," "P,"
    ∷ makes "O,O,!,O,O,!,!,!," "P,"
    ∷ makes "O,P,O,!,!," "P,"
    ∷ makes "O,O,!,D,!," "O,D,P,!,"
    ∷ makes "J,O,!," "J,P,"
    ∷ makes "K,61,O,!,!," "K,61,P,!,"
    ∷ makes "O,J,O,!,J,P,!," "J,P,"
    -- Any, Null and Unknown take nothing in
    ∷ makes "O,P,G,B,A,!," "O,A,B,G,P,!,"
    -- labels; no labels and a set of none differ
    ∷ makes "L,+,62,61,62,!," "L,+,61,62,!,"
    ∷ makes "O,L,+,!,L,!,!," "O,L,!,L,+,!,!,"
    ∷ makes "O,L,+,62,61,!,L,+,61,61,62,!,!," "L,+,61,62,!,"
    -- entries; one name at two depths
    ∷ makes "K,62,D,61,O,G,!,!," "K,61,G,62,D,!,"
    ∷ makes "K,61,K,62,D,61,G,!,!," "K,61,K,61,G,62,D,!,!,"
    ∷ makes "O,K,62,D,61,G,!,K,61,G,62,D,!,!," "K,61,G,62,D,!,"
    -- doubled names, with equal values too, wherever the map stands
    ∷ bad "K,61,D,61,G,!,"
    ∷ bad "K,61,D,61,D,!,"
    ∷ bad "K,61,D,62,C,61,G,!,"
    ∷ bad "J,K,61,D,61,G,!,"
    ∷ bad "O,D,K,61,D,61,G,!,!,"
    ∷ bad "K,62,K,61,D,61,G,!,!,"
    -- no types
    ∷ bad ""
    ∷ bad "D"
    ∷ bad "D,D,"
    ∷ bad "D,\n"
    ∷ bad "Q,"
    ∷ bad "O,D,"
    ∷ bad "L,+,6A,!,"
    ∷ bad "M,+,616,"
    ∷ []

pub forms-pass : Pass form_cases
unfolding reply expected text
forms-pass = refl

-- ## Limits

-- 1,024 bytes, from labels that go down and repeat; 1,025 with the label of no bytes
abbrev pub long : String → Bytes
long s = text "L,+," ++ many 253 "62" ++ text "," ++ many 255 "61" ++ text "," ++ many 253 "62" ++ text "," ++ text s ++ text "!,"

abbrev pub Long : Bytes
Long = text "L,+," ++ many 255 "61" ++ text "," ++ many 253 "62" ++ text ",!,"

abbrev pub limit_cases : List Case
limit_cases =
    -- 4,095, 4,096 and 4,097 bytes
    gives (text "O,M,+,61," ++ many 2042 "D," ++ text "!,") (text "O,D,M,+,61,!,")
    ∷ gives (text "O," ++ many 2046 "D," ++ text "!,") (text "D,")
    ∷ refuses (text "O,M,+,61," ++ many 2043 "D," ++ text "!,") 12
    -- nesting 32 and 33, of the text as given
    ∷ stays (many 31 "J," ++ text "D,")
    ∷ refuses (many 32 "J," ++ text "D,") 12
    ∷ gives (many 31 "O," ++ text "D," ++ many 31 "!,") (text "D,")
    ∷ refuses (many 32 "O," ++ text "D," ++ many 32 "!,") 12
    ∷ gives (many 32 "O," ++ many 32 "!,") (text "P,")
    ∷ refuses (many 33 "O," ++ many 33 "!,") 12
    -- names of 255 and 256 bytes
    ∷ stays (text "M,+," ++ many 255 "61" ++ text ",")
    ∷ refuses (text "M,+," ++ many 256 "61" ++ text ",") 12
    ∷ refuses (text "L,+," ++ many 256 "61" ++ text ",!,") 12
    ∷ refuses (text "K," ++ many 256 "61" ++ text ",D,!,") 12
    -- a result of 1,024 and of 1,025 bytes; inside another type
    ∷ gives (long "") Long
    ∷ refuses (long ",") 6
    ∷ refuses (text "J," ++ long "") 6
    ∷ gives (text "O," ++ long "" ++ Long ++ text "!,") Long
    ∷ refuses (text "O," ++ long "" ++ text "D,!,") 6
    -- 12 behind a part that is too large already
    ∷ refuses (text "O," ++ long "," ++ text "Q,!,") 12
    ∷ refuses (text "O," ++ long "," ++ text "K,61,D,61,G,!,!,") 12
    ∷ refuses (text "K,61," ++ long "," ++ text "61,G,!,") 12
    ∷ refuses (long "," ++ text "D,") 12
    ∷ []

pub limits-pass : Pass limit_cases
unfolding reply expected text
limits-pass = refl

-- ## The order of the causes: 2, 7, 12, 6

abbrev pub lending : ℕ → ℕ → Bytes → ℕ → Left → Case
lending w o s n l = record { line = s; lent = sized w o; number = n; left = l }

abbrev pub outputting : ℕ → Bytes → ℕ → Left → Case
outputting o s n l = record { line = s; lent = output o; number = n; left = l }

abbrev pub order_cases : List Case
order_cases =
    lending 65535 1024 (text "D,") 2 as_lent
    ∷ lending 65537 1023 (text "Q,") 2 as_lent
    ∷ lending 0 0 (long ",") 2 as_lent
    ∷ outputting 1023 (text "D,") 7 zeroed
    ∷ outputting 1023 (text "Q,") 7 zeroed
    ∷ outputting 0 (long ",") 7 zeroed
    ∷ outputting 1024 (text "Q,") 12 zeroed
    ∷ outputting 1024 (long ",") 6 zeroed
    ∷ outputting 1024 (text "O,G,D,!,") 0 (wrote (text "O,D,G,!,"))
    ∷ outputting 1024 (long "") 0 (wrote Long)
    ∷ []

pub order-passes : Pass order_cases
unfolding reply expected text
order-passes = refl
