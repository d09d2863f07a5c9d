-- Cases of the type catalogue at its limits (RULES 10.4), by computation. Assumes nothing.
use mathlib.Core.Path.{◌≡◌, refl, ◌∙◌}
use mathlib.Core.List.{List, [], ◌∷◌, ◌++◌}
use mathlib.Core.Option.{Option, none}
use mathlib.Core.Bool.{Bool, true, false, ◌&&◌, not}
use Prim.Native.Nat.{ℕ, ◌-◌}
use lib.Dec.{eqb}
use lib.ListN.{length, replicate}
use Rattle.semantics.specs.Bytes.{Bytes, text, same}
use Rattle.semantics.proofs.Run.{run}
use Rattle.text.specs.Text.{is_found}
use Rattle.stores.specs.Catalogue.{Live, Catalogue, empty, store_size, taken, Told, refuses, tells, Called, with_text, with_number, set_uses, enter_old, enter_new, enter_by, enter, release_by, release, look_up_by, look_up, Ask, entering, releasing, looking_up, call, low, value, are_zeros, read_live, fine_live, fine, read_store, on_store, on_list}
use Rattle.stores.proofs.Calls.{any-calls}

-- ## A sequence on an empty store

-- the calls on the list with all that they compute by open
unfoldable pub run_list : Catalogue → List Ask → List Told
unfolding run taken with_text with_number set_uses enter_old enter_new enter_by enter release_by release look_up_by look_up call on_list
run_list c calls = on_list c calls

-- a use more; the last use released; a number that is gone; the type again, by a new number; no type line; no live numbers
abbrev pub calls : List Ask
calls =
    entering (text "D,")
    ∷ entering (text "J,D,")
    ∷ entering (text "D,")
    ∷ releasing 1
    ∷ releasing 1
    ∷ looking_up 1
    ∷ releasing 1
    ∷ looking_up 2
    ∷ entering (text "D,")
    ∷ looking_up 3
    ∷ entering (text "D")
    ∷ looking_up 0
    ∷ releasing 65536
    ∷ []

abbrev pub answers : List Told
answers =
    tells 1 1 []
    ∷ tells 2 1 []
    ∷ tells 1 2 []
    ∷ tells 1 0 []
    ∷ tells 0 0 []
    ∷ refuses 15 0
    ∷ refuses 15 0
    ∷ tells 1 0 (text "J,D,")
    ∷ tells 3 1 []
    ∷ tells 1 0 (text "D,")
    ∷ refuses 8 1
    ∷ refuses 15 0
    ∷ refuses 15 0
    ∷ []

pub on_list_lem : on_list empty calls ≡ answers
unfolding run_list
on_list_lem = refl

-- the claim at this sequence
pub on_store_lem : on_store (replicate store_size 0) calls ≡ answers
on_store_lem = any-calls calls ∙ on_list_lem

-- ## One call on a list: what it tells, the last number given afterwards, and what the live types take

pub record Case : Type 0 where
  pub list : Catalogue
  pub ask : Ask
  pub told : Told
  pub last : ℕ
  pub taken : ℕ

abbrev pub same_told : Told → Told → Bool
same_told a b = eqb a.number b.number && (eqb a.first b.first && (eqb a.second b.second && same a.text b.text))

abbrev pub is_so : Case → Called → Bool
is_so c r = same_told r.0 c.told && (eqb r.1.last c.last && eqb (taken r.1.live) c.taken)

unfoldable pub all_so : List Case → Bool
unfolding run_list
all_so [] = true
all_so (c ∷ cs) = is_so c (call c.list c.ask) && all_so cs

abbrev pub entered : ℕ → ℕ → Bytes → Live
entered n u t = record { number = n; uses = u; text = t }

abbrev pub with_last : ℕ → List Live → Catalogue
with_last n ls = record { last = n; live = ls }

abbrev pub case : Catalogue → Ask → Told → ℕ → ℕ → Case
case c a t n k = record { list = c; ask = a; told = t; last = n; taken = k }

-- a type that takes so many bytes: of its text only the length counts here
abbrev pub taking : ℕ → Live
taking n = entered 1 1 (replicate (n - 8) 0)

abbrev pub d : Bytes
d = text "D,"

abbrev pub cases : List Case
cases =
    case (with_last 65534 []) (entering d) (tells 65535 1 []) 65535 10
    ∷ case (with_last 65535 []) (entering d) (refuses 14 0) 65535 0
    -- a present type needs no number
    ∷ case (with_last 65535 (entered 7 2 d ∷ [])) (entering d) (tells 7 3 []) 65535 10
    ∷ case (with_last 7 (entered 7 4294967294 d ∷ [])) (entering d) (tells 7 4294967295 []) 7 10
    ∷ case (with_last 7 (entered 7 4294967295 d ∷ [])) (entering d) (refuses 14 0) 7 10
    ∷ case (with_last 7 (entered 7 4294967295 d ∷ [])) (releasing 7) (tells 4294967294 0 []) 7 10
    -- 65,528 and 65,529 bytes
    ∷ case (with_last 1 (taking 65518 ∷ [])) (entering d) (tells 2 1 []) 2 65528
    ∷ case (with_last 1 (taking 65519 ∷ [])) (entering d) (refuses 13 0) 1 65519
    -- 14 before 13, 8 before both
    ∷ case (with_last 65535 (taking 65519 ∷ [])) (entering d) (refuses 14 0) 65535 65519
    ∷ case (with_last 65535 (taking 65519 ∷ [])) (entering (text "D")) (refuses 8 1) 65535 65519
    -- a full store takes a present type, and what is released serves again
    ∷ case (with_last 2 (taking 65518 ∷ entered 2 1 d ∷ [])) (entering d) (tells 2 2 []) 2 65528
    ∷ case (with_last 2 (taking 65518 ∷ entered 2 1 d ∷ [])) (releasing 1) (tells 0 0 []) 2 10
    ∷ case (with_last 2 (entered 2 1 d ∷ [])) (releasing 2) (tells 0 0 []) 2 0
    ∷ case (with_last 2 (entered 2 5 d ∷ [])) (looking_up 2) (tells 5 0 d) 2 10
    ∷ case (with_last 2 (entered 2 5 d ∷ [])) (looking_up 1) (refuses 15 0) 2 10
    ∷ []

pub cases-hold : all_so cases ≡ true
unfolding all_so
cases-hold = refl

-- ## Bytes that are no store, and some that are

-- zeros behind the text
abbrev pub padded : Bytes → ℕ → Bytes
padded t n = t ++ replicate (n - length t) 0

unfoldable pub run_read : Bytes → Option Catalogue
unfolding run_list low value are_zeros read_live fine_live fine read_store
run_read s = read_store s

unfoldable pub all_read : Bool → List Bytes → Bool
unfolding run_read
all_read b [] = true
all_read true (s ∷ ss) = is_found (read_store (padded s 65536)) && all_read true ss
all_read false (s ∷ ss) = not (is_found (read_store (padded s 65536))) && all_read false ss

abbrev pub others : List Bytes
others =
    -- a byte of the six, uses 0, a number above the last given
    (1 ∷ 0 ∷ 1 ∷ [])
    ∷ (1 ∷ 0 ∷ 0 ∷ 0 ∷ 0 ∷ 0 ∷ 0 ∷ 0 ∷ 1 ∷ 0 ∷ 2 ∷ 0 ∷ 0 ∷ 0 ∷ 0 ∷ 0 ∷ 68 ∷ 44 ∷ [])
    ∷ (1 ∷ 0 ∷ 0 ∷ 0 ∷ 0 ∷ 0 ∷ 0 ∷ 0 ∷ 2 ∷ 0 ∷ 2 ∷ 0 ∷ 1 ∷ 0 ∷ 0 ∷ 0 ∷ 68 ∷ 44 ∷ [])
    -- no type line, a length that passes the store, a byte behind the last type
    ∷ (1 ∷ 0 ∷ 0 ∷ 0 ∷ 0 ∷ 0 ∷ 0 ∷ 0 ∷ 1 ∷ 0 ∷ 2 ∷ 0 ∷ 1 ∷ 0 ∷ 0 ∷ 0 ∷ 68 ∷ 45 ∷ [])
    ∷ (1 ∷ 0 ∷ 0 ∷ 0 ∷ 0 ∷ 0 ∷ 0 ∷ 0 ∷ 1 ∷ 0 ∷ 255 ∷ 255 ∷ 1 ∷ 0 ∷ 0 ∷ 0 ∷ 68 ∷ 44 ∷ [])
    ∷ (1 ∷ 0 ∷ 0 ∷ 0 ∷ 0 ∷ 0 ∷ 0 ∷ 0 ∷ 1 ∷ 0 ∷ 2 ∷ 0 ∷ 1 ∷ 0 ∷ 0 ∷ 0 ∷ 68 ∷ 44 ∷ 0 ∷ 0 ∷ 1 ∷ [])
    -- one number twice, one text twice
    ∷ (2 ∷ 0 ∷ 0 ∷ 0 ∷ 0 ∷ 0 ∷ 0 ∷ 0 ∷ 1 ∷ 0 ∷ 2 ∷ 0 ∷ 1 ∷ 0 ∷ 0 ∷ 0 ∷ 68 ∷ 44 ∷ 1 ∷ 0 ∷ 2 ∷ 0 ∷ 1 ∷ 0 ∷ 0 ∷ 0 ∷ 71 ∷ 44 ∷ [])
    ∷ (2 ∷ 0 ∷ 0 ∷ 0 ∷ 0 ∷ 0 ∷ 0 ∷ 0 ∷ 1 ∷ 0 ∷ 2 ∷ 0 ∷ 1 ∷ 0 ∷ 0 ∷ 0 ∷ 68 ∷ 44 ∷ 2 ∷ 0 ∷ 2 ∷ 0 ∷ 1 ∷ 0 ∷ 0 ∷ 0 ∷ 68 ∷ 44 ∷ [])
    ∷ []

abbrev pub stores : List Bytes
stores =
    []
    ∷ (255 ∷ 255 ∷ [])
    ∷ (2 ∷ 0 ∷ 0 ∷ 0 ∷ 0 ∷ 0 ∷ 0 ∷ 0 ∷ 1 ∷ 0 ∷ 2 ∷ 0 ∷ 1 ∷ 0 ∷ 0 ∷ 0 ∷ 68 ∷ 44 ∷ 2 ∷ 0 ∷ 2 ∷ 0 ∷ 255 ∷ 255 ∷ 255 ∷ 255 ∷ 71 ∷ 44 ∷ [])
    ∷ []

pub others-refused : all_read false others ≡ true
unfolding all_read
others-refused = refl

pub stores-read : all_read true stores ≡ true
unfolding all_read
stores-read = refl

pub one-short : read_store (replicate 65535 0) ≡ none
unfolding run_read
one-short = refl

pub one-long : read_store (replicate 65537 0) ≡ none
unfolding run_read
one-long = refl
