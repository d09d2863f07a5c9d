-- The type catalogue (RULES 10.4): a plain list of live types, the bytes of the store that hold it, and the calls on either.
use Rattle.std.specs.Prelude.{◌≡◌, List, [], ◌∷◌, ◌++◌, Bool, true, false, ◌&&◌, ◌||◌, not, ℕ, zero, suc, ◌+◌, ◌-◌, ◌*◌, ◌/◌, ◌%◌, length, take, drop, replicate, eqb, ltb, leb}
use Rattle.std.proofs.Math.Option.{Option, none, some}
use Rattle.semantics.specs.Codes.{no_type_line, wrong_size, store_full, count_used_up, not_live}
use Rattle.semantics.specs.Bytes.{Bytes, same}
use Rattle.semantics.specs.Ty.{type_line}
use Rattle.text.specs.Text.{is_found}

-- ## The plain list

pub record Live : Type 0 where
  pub number : ℕ
  pub uses : ℕ
  pub text : Bytes

-- the last number given, and the live types by ascending number
pub record Catalogue : Type 0 where
  pub last : ℕ
  pub live : List Live

abbrev pub empty : Catalogue
empty = record { last = 0; live = [] }

abbrev pub store_size : ℕ
store_size = 65536

abbrev pub room_limit : ℕ
room_limit = 65528

abbrev pub number_limit : ℕ
number_limit = 65535

abbrev pub uses_limit : ℕ
uses_limit = 4294967295

-- bytes before the entries: the last number and zeros; and before the text of each: its number, its length, its uses
abbrev pub store_head : ℕ
store_head = 8

abbrev pub entry_head : ℕ
entry_head = 8

-- what a live type takes
abbrev pub size : Live → ℕ
size l = length l.text + entry_head

unfoldable pub taken : List Live → ℕ
taken [] = 0
taken (l ∷ ls) = size l + taken ls

-- what a call tells: its number, the returned numbers, and the line that was looked up
pub record Told : Type 0 where
  pub number : ℕ
  pub first : ℕ
  pub second : ℕ
  pub text : Bytes

abbrev pub refuses : ℕ → ℕ → Told
refuses c n = record { number = c; first = n; second = 0; text = [] }

abbrev pub tells : ℕ → ℕ → Bytes → Told
tells a b t = record { number = 0; first = a; second = b; text = t }

-- a call: what it tells, and the list afterwards
abbrev pub Called : Type 0
Called = Told × Catalogue

unfoldable pub with_text : Bytes → List Live → Option Live
with_text t [] = none
with_text t (l ∷ ls) = elim (same t l.text) [ true ↦ some l | false ↦ with_text t ls ]

unfoldable pub with_number : ℕ → List Live → Option Live
with_number n [] = none
with_number n (l ∷ ls) = elim (eqb n l.number) [ true ↦ some l | false ↦ with_number n ls ]

-- the uses of the type of a number, and none: it is gone
unfoldable pub set_uses : ℕ → ℕ → List Live → List Live
set_uses n u [] = []
set_uses n u (l ∷ ls) =
    elim (eqb n l.number) [
      | true ↦ elim (eqb u 0) [ true ↦ ls | false ↦ record { number = l.number; uses = u; text = l.text } ∷ ls ]
      | false ↦ l ∷ set_uses n u ls
    ]

abbrev pub used : Catalogue → ℕ → ℕ → Catalogue
used c n u = record { last = c.last; live = set_uses n u c.live }

-- one use more of a type that is there, 14 if that passes 32 bits
unfoldable pub enter_old : Catalogue → Live → Called
enter_old c l = elim (ltb l.uses uses_limit) [ true ↦ (tells l.number (l.uses + 1) [], used c l.number (l.uses + 1)) | false ↦ (refuses count_used_up 0, c) ]

-- the next number: 14, then 13
unfoldable pub enter_new : Catalogue → Bytes → Called
enter_new c t =
    elim (ltb c.last number_limit) [
      | true ↦ elim (leb (taken c.live + (length t + entry_head)) room_limit) [
        | true ↦ (tells (c.last + 1) 1 [], record { last = c.last + 1; live = c.live ++ (record { number = c.last + 1; uses = 1; text = t } ∷ []) })
        | false ↦ (refuses store_full 0, c)
      ]
      | false ↦ (refuses count_used_up 0, c)
    ]

unfoldable pub enter_by : Catalogue → Bytes → Option Live → Called
enter_by c t none = enter_new c t
enter_by c t (some l) = enter_old c l

unfoldable pub enter : Catalogue → Bytes → Called
enter c t = elim (is_found (type_line t)) [ true ↦ enter_by c t (with_text t c.live) | false ↦ (refuses no_type_line 1, c) ]

unfoldable pub release_by : Catalogue → Option Live → Called
release_by c none = (refuses not_live 0, c)
release_by c (some l) = (tells (l.uses - 1) 0 [], used c l.number (l.uses - 1))

unfoldable pub release : Catalogue → ℕ → Called
release c n = release_by c (with_number n c.live)

unfoldable pub look_up_by : Catalogue → Option Live → Called
look_up_by c none = (refuses not_live 0, c)
look_up_by c (some l) = (tells l.uses 0 l.text, c)

unfoldable pub look_up : Catalogue → ℕ → Called
look_up c n = look_up_by c (with_number n c.live)

pub data Ask : Type 0 where
  entering : Bytes → Ask
  releasing : ℕ → Ask
  looking_up : ℕ → Ask

unfoldable pub call : Catalogue → Ask → Called
call c (entering t) = enter c t
call c (releasing n) = release c n
call c (looking_up n) = look_up c n

-- ## The store: low bytes first

unfoldable pub low : ℕ → ℕ → Bytes
low zero n = []
low (suc k) n = (n % 256) ∷ low k (n / 256)

unfoldable pub value : Bytes → ℕ
value [] = 0
value (b ∷ bs) = b + 256 * value bs

unfoldable pub entry : Live → Bytes
entry l = low 2 l.number ++ (low 2 (length l.text) ++ (low 4 l.uses ++ l.text))

unfoldable pub entries : List Live → Bytes
entries [] = []
entries (l ∷ ls) = entry l ++ entries ls

unfoldable pub stored : Catalogue → Bytes
stored c = low 2 c.last ++ (replicate 6 0 ++ (entries c.live ++ replicate (room_limit - taken c.live) 0))

-- ## Reading it back

unfoldable pub are_zeros : Bytes → Bool
are_zeros [] = true
are_zeros (b ∷ bs) = eqb b 0 && are_zeros bs

-- the live types from here on: up to a number 0, behind which all is zeros
unfoldable pub read_live : ℕ → Bytes → Option (List Live)
read_live zero s = none
read_live (suc k) s =
    elim (ltb (length s) entry_head || eqb (value (take 2 s)) 0) [
      | true ↦ elim (are_zeros s) [ true ↦ some [] | false ↦ none ]
      | false ↦ let n = value (take 2 (drop 2 s)) in
          elim (ltb (length (drop entry_head s)) n) [
            | true ↦ none
            | false ↦ onto (record { number = value (take 2 s); uses = value (take 4 (drop 4 s)); text = take n (drop entry_head s) }) (read_live k (drop n (drop entry_head s)))
          ]
    ]
  where
    onto : Live → Option (List Live) → Option (List Live)
    onto l none = none
    onto l (some ls) = some (l ∷ ls)

abbrev pub is_there : Option Live → Bool
is_there none = false
is_there (some l) = true

-- numbers ascend from above the first to the last given, uses are above 0, texts are type lines, no two alike
unfoldable pub fine_live : ℕ → ℕ → List Live → Bool
fine_live prev last [] = true
fine_live prev last (l ∷ ls) =
    ltb prev l.number && (leb l.number last && (ltb 0 l.uses && (is_found (type_line l.text) && (not (is_there (with_text l.text ls)) && fine_live l.number last ls))))

unfoldable pub fine : ℕ → Option (List Live) → Option Catalogue
fine last none = none
fine last (some ls) = elim (fine_live 0 last ls) [ true ↦ some (record { last = last; live = ls }) | false ↦ none ]

unfoldable pub read_store : Bytes → Option Catalogue
read_store s =
    elim (eqb (length s) store_size && are_zeros (take 6 (drop 2 s))) [
      | true ↦ fine (value (take 2 s)) (read_live store_size (drop store_head s))
      | false ↦ none
    ]

-- ## The calls on a store: 2 leaves it as lent

pub record Kept : Type 0 where
  pub told : Told
  pub store : Bytes

unfoldable pub call_by : Bytes → Option Catalogue → Ask → Kept
call_by s none a = record { told = refuses wrong_size 0; store = s }
call_by s (some c) a = let r = call c a in record { told = r.0; store = stored r.1 }

unfoldable pub store_call : Bytes → Ask → Kept
store_call s a = call_by s (read_store s) a

-- where the line of a number stands in the store, "as that part of the store"; 0 if none has it (RULES 7.8)
unfoldable pub line_place : ℕ → ℕ → List Live → ℕ
line_place n at [] = 0
line_place n at (l ∷ ls) = elim (eqb n l.number) [ true ↦ at + entry_head | false ↦ line_place n (at + entry_head + length l.text) ls ]

unfoldable pub place_in : Option Catalogue → ℕ → ℕ
place_in none n = 0
place_in (some c) n = line_place n store_head c.live

abbrev pub place_of : Bytes → ℕ → ℕ
place_of s n = place_in (read_store s) n

-- ## The claim: on a store that starts empty, the answers of any calls are those of the plain list

unfoldable pub on_store : Bytes → List Ask → List Told
on_store s [] = []
on_store s (a ∷ more) = let r = store_call s a in r.told ∷ on_store r.store more

unfoldable pub on_list : Catalogue → List Ask → List Told
on_list c [] = []
on_list c (a ∷ more) = let r = call c a in r.0 ∷ on_list r.1 more

abbrev pub AnyCalls : Type 0
AnyCalls = (calls : List Ask) → on_store (replicate store_size 0) calls ≡ on_list empty calls
