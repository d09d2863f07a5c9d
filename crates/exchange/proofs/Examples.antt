-- The claim is not empty, computed from bytes: its premises hold of pairs with each of the three outcomes, and with unions its equation
-- fails (RULES 9.2, case 13).
use mathlib.Core.Path.{◌≡◌, refl, sym, ◌∙◌, ap}
use mathlib.Core.List.{◌++◌}
use mathlib.Core.Option.{Option, none, some}
use mathlib.Core.Bool.{Bool, true, false, false≢true}
use Prim.Native.Nat.{ℕ}
use lib.ListN.{replicate, take}
use Rattle.semantics.specs.Bytes.{Bytes, text, lex, same}
use Rattle.semantics.specs.Ty.{t_bool, t_int, t_float, t_string, Ty, base, t_union, ∅, ◌⊕◌, type_line}
use Rattle.semantics.specs.Calls.{Settled, cleared, answered, parted, unify_call}
use Rattle.semantics.proofs.Run.{run_unify}
use Rattle.exchange.specs.Exchange.{union_free, exchanged, enough}

-- the buffers that are lent
abbrev work : Bytes
work = replicate 65536 119

abbrev out : Bytes
out = replicate 2048 111

enough-lent : enough work out ≡ true
unfolding enough
enough-lent = refl

-- a type line without unions
abbrev is_free : Option Ty → Bool
is_free none = false
is_free (some t) = union_free t

-- two texts of which the claim speaks, and what the call settles in each order
record Both (a b : Bytes) (one other : Settled) : Type 0 where
  first_free : is_free (type_line a) ≡ true
  second_free : is_free (type_line b) ≡ true
  there : unify_call a b work out ≡ one
  back : unify_call b a work out ≡ other

-- the same line
same_line : Both (text "J,K,61,D,62,B,!,") (text "J,K,61,E,63,C,!,") (answered (text "J,K,61,F,62,B,63,C,!,") work out) (answered (text "J,K,61,F,62,B,63,C,!,") work out)
unfolding run_unify union_free
same_line = record { first_free = refl; second_free = refl; there = refl; back = refl }

-- the answer may hold a union
with-null : Both (text "J,B,") (text "J,D,") (answered (text "J,O,B,D,!,") work out) (answered (text "J,O,B,D,!,") work out)
unfolding run_unify union_free
with-null = record { first_free = refl; second_free = refl; there = refl; back = refl }

-- 6 both times: two entries with names of 255 bytes make 1,030 bytes
abbrev entry : ℕ → Bytes
entry digit = text "K," ++ (replicate 510 digit ++ text ",D,!,")

large-both : Both (entry 54) (entry 55) (cleared 6 0 work out) (cleared 6 0 work out)
unfolding run_unify union_free
large-both = record { first_free = refl; second_free = refl; there = refl; back = refl }

-- 9 with expected and actual exchanged
parted-both : Both (text "K,61,D,!,") (text "K,61,L,+,62,!,!,") (parted (text "D,") (text "L,+,62,!,") work out) (parted (text "L,+,62,!,") (text "D,") work out)
unfolding run_unify union_free
parted-both = record { first_free = refl; second_free = refl; there = refl; back = refl }

-- the lengths and the front of the output that this is
parted-numbers : ((parted (text "D,") (text "L,+,62,!,") work out).first ≡ 2) × ((parted (text "D,") (text "L,+,62,!,") work out).second ≡ 9) × (take 11 (parted (text "D,") (text "L,+,62,!,") work out).out ≡ text "D,L,+,62,!,")
unfolding text
parted-numbers = (refl, refl, refl)

-- a text that is no type line, and a line with a union: 8 at the place of the former
no_line : type_line (text "D") ≡ none
unfolding run_unify
no_line = refl

placed : (unify_call (text "O,B,D,!,") (text "D") work out ≡ cleared 8 2 work out) × (unify_call (text "D") (text "O,B,D,!,") work out ≡ cleared 8 1 work out)
unfolding run_unify
placed = (refl, refl)

-- ## Why unions stand outside: case 13

abbrev one : Bytes
one = text "O,D,G,!,"

abbrev other : Bytes
other = text "O,C,E,!,"

-- both are type lines
both-lines : (type_line one ≡ some (t_union (base t_int ⊕ base t_string ⊕ ∅))) × (type_line other ≡ some (t_union (base t_bool ⊕ base t_float ⊕ ∅)))
unfolding run_unify
both-lines = (refl, refl)

case-there : unify_call one other work out ≡ answered (text "O,C,E,F,G,!,") work out
unfolding run_unify
case-there = refl

case-back : unify_call other one work out ≡ answered (text "O,C,D,F,G,!,") work out
unfolding run_unify
case-back = refl

-- the claim's equation is false for them
pub unions-differ : unify_call other one work out ≡ exchanged (unify_call one other work out) → ⊥
unfolding text lex same exchanged
unions-differ e =
    let differ : answered (text "O,C,D,F,G,!,") work out ≡ exchanged (answered (text "O,C,E,F,G,!,") work out) = sym case-back ∙ e ∙ ap exchanged case-there in
    false≢true (ap (λ (s : Settled). same (take 12 s.out) (text "O,C,E,F,G,!,")) differ)
