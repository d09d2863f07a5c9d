-- A line, whatever is wanted where it stands; and the line as the code reads it.
use Rattle.std.specs.Prelude.{◌≡◌, List, [], ◌∷◌, true, false, ℕ, suc, zero, ◌≤◌, ◌<◌, eqb, leb, length, get_or, drop, Option, Some, None, Result, Ok, Err}
use Rattle.std.proofs.Math.Option.{Option as Maybe, none, some}
use Rattle.std.proofs.Math.Seq.{slice}
use Rattle.semantics.specs.Limits.{bound_limit}
use Rattle.semantics.specs.Codes.{line_feed, comma, badly_written, value_kind}
use Rattle.semantics.specs.Bytes.{Bytes, split, unhex}
use Rattle.semantics.specs.Sheet.{Word, Field, range, variable, optional, name, alias, bound, letter, signed, float, words, word_in, row, rank, Shape, nothing, one, two, bounds, arms, times, times_then, around, one_then, one_times, Head, num, variable_of, Read, bad, ok, fill, bare, Want, fits, beyond, and_then}
use Rattle.semantics.specs.Refusals.{number_of}
use Rattle.semantics.specs.declared.refusals.Refusal.{Refusal}
use Rattle.line.specs.Words.{word_of}
use Rattle.line.specs.Fields.{Agrees, number_at}
use Rattle.line.specs.declared.words.Word.{Word as Coded}
use Rattle.line.specs.declared.field.Fields.{Fields}
use Rattle.line.specs.declared.line.Head.{Head as Seen}
use Rattle.line.specs.declared.line.BadLine.{BadLine}

-- the pieces of a line from p on; none where p is past its end
unfoldable pub pieces : Bytes → ℕ → List Bytes
pieces s p = elim (leb p (length s)) [ true ↦ split comma (drop p s) | false ↦ [] ]

-- what is kept of the fields is what they say
abbrev pub FilledAs : Bytes → Read → Result Fields Refusal → Type 0
FilledAs s (bad c) (Err why) = number_of why ≡ c
FilledAs s (ok h) (Ok f) = Agrees s f h
FilledAs s (bad c) (Ok f) = ⊥
FilledAs s (ok h) (Err why) = ⊥

-- ## What a line says, whatever is wanted

-- no such word; or a word, and its fields refused by their cause or a head
pub data Plain : Type 0 where
  unknown : Plain
  known : Word → Read → Plain

unfoldable pub word_says : Maybe Word → List Bytes → Plain
word_says none fs = unknown
word_says (some v) fs = known v (elim (eqb (length fs) (length (row v).fields)) [ true ↦ fill (bare v) (row v).fields fs | false ↦ bad badly_written ])

unfoldable pub pieces_say : List Bytes → Plain
pieces_say [] = unknown
pieces_say (x ∷ fs) = word_says (word_in x words) fs

unfoldable pub line_says : Bytes → Plain
line_says l = pieces_say (split comma l)

-- at a place: the word allowed there, then the fields, then what is beyond them
unfoldable pub placed : Want → Plain → Read
placed w unknown = bad badly_written
placed w (known v r) = elim (fits w (rank (row v).place)) [ true ↦ and_then r (beyond w) | false ↦ bad badly_written ]

-- ## The line as the code reads it

-- the greatest that the number at i among those of these fields can be
unfoldable pub most : List Field → ℕ → ℕ
most [] i = 0
most (range l m ∷ fs) zero = m
most (range l m ∷ fs) (suc i) = most fs i
most (variable ∷ fs) i = most fs i
most (optional ∷ fs) i = most fs i
most (name ∷ fs) i = most fs i
most (float ∷ fs) i = most fs i
most (alias ∷ fs) zero = 1
most (alias ∷ fs) (suc i) = most fs i
most (bound ∷ fs) zero = 18446744073709551616
most (bound ∷ fs) (suc i) = most fs i
most (letter ∷ fs) zero = value_kind
most (letter ∷ fs) (suc i) = most fs i
most (signed ∷ fs) zero = bound_limit
most (signed ∷ fs) (suc i) = most fs i

abbrev pub Ranged : Head → Type 0
Ranged h = (i : ℕ) → get_or h.nums i 0 ≤ most (row h.word).fields i

-- where the flag number of a line with these children stands among its numbers, and its count
abbrev pub flag_at : Shape → Option ℕ
flag_at nothing = None
flag_at two = None
flag_at bounds = Some 0
flag_at arms = Some 0
flag_at (one p) = None
flag_at (times i p) = None
flag_at (times_then i p j) = Some j
flag_at (around p j) = Some j
flag_at (one_then j) = Some j
flag_at (one_times i p) = None

abbrev pub count_at : Shape → Option ℕ
count_at nothing = None
count_at two = None
count_at bounds = None
count_at arms = Some 1
count_at (one p) = None
count_at (times i p) = Some i
count_at (times_then i p j) = Some i
count_at (around p j) = None
count_at (one_then j) = None
count_at (one_times i p) = Some i

unfoldable pub flag_of : Head → ℕ
flag_of h = number_at h.nums (flag_at (row h.word).under)

unfoldable pub count_of : Head → ℕ
count_of h = number_at h.nums (count_at (row h.word).under)

-- what was read of a line that is fine is its head; a name stands in s
pub record HeadIs (s : Bytes) (r : Seen) (h : Head) : Type 0 where
  pub word : word_of r.word ≡ h.word
  pub var : r.var.0 ≡ variable_of h
  pub num : r.num ≡ num h 0
  pub flag : r.flag ≡ flag_of h
  pub count : r.count ≡ count_of h
  pub name : unhex (slice r.name r.stop s) ≡ some h.name
  pub within : r.stop ≤ length s
  pub ranged : Ranged h

-- a line that is refused: its word, if it has one
abbrev pub Named : Option Coded → Word → Type 0
Named None v = ⊥
Named (Some w) v = word_of w ≡ v

abbrev pub SaysAs : Bytes → Result Seen BadLine → Plain → Type 0
SaysAs s (Ok r) unknown = ⊥
SaysAs s (Err b) unknown = b.word ≡ None
SaysAs s (Ok r) (known v (bad c)) = ⊥
SaysAs s (Err b) (known v (bad c)) = Named b.word v × (number_of b.why ≡ c)
SaysAs s (Ok r) (known v (ok h)) = (v ≡ h.word) × HeadIs s r h
SaysAs s (Err b) (known v (ok h)) = ⊥

-- no whole line
abbrev pub NoLine : Result Seen BadLine → Type 0
NoLine (Ok r) = ⊥
NoLine (Err b) = b.word ≡ None

-- where the next line starts
abbrev pub next_of : Result Seen BadLine → ℕ
next_of (Ok r) = r.next
next_of (Err b) = b.next

-- what was read at `at`, where these lines stand, the last of which is no whole one
abbrev pub ReadAs : Bytes → ℕ → Result Seen BadLine → List Bytes → Type 0
ReadAs s at r [] = NoLine r
ReadAs s at r (l ∷ []) = NoLine r
ReadAs s at r (l ∷ l' ∷ ls) = (l' ∷ ls ≡ split line_feed (drop (next_of r) s)) × (at < next_of r) × (next_of r ≤ length s) × SaysAs s r (line_says l)

-- a head of what is kept of the fields of a word with these children
abbrev pub seen_as : Coded → Shape → ℕ → Fields → Seen
seen_as w u n f =
    record { word = w; next = n; var = f.var; num = get_or f.nums 0 0; flag = number_at f.nums (flag_at u); count = number_at f.nums (count_at u); name = f.name; stop = f.stop }
