-- The theorem at work, from the bytes of sheets: a list of five rewordings with all three exchanges, and one whose sheets between are
-- refused for size.
use mathlib.Core.Path.{◌≡◌, refl, ap}
use mathlib.Core.List.Memᴰ
use mathlib.Core.List.{List, [], ◌∷◌, ◌++◌, Memᴰ}
use mathlib.Core.Option.{none, some}
use mathlib.Core.Logic.{inl, inr}
use Prim.Native.Nat.{ℕ, suc, zero, ◌+◌}
use Prim.Native.String.{String}
use native.Mathlib.Omega.{arith}
use lib.ListN.{replicate}
use Rattle.semantics.specs.Bytes.{Bytes, text}
use Rattle.semantics.specs.Sheet.{ret_word, pro_word, end_word, bool_word, int_word, str_word, var_word, bin_word, lis_word, map_word, key_word, case_word, exi_word, Head}
use Rattle.semantics.specs.Calls.{refusal, outcome}
use Rattle.semantics.proofs.Run.{run, run_sheet}
use Rattle.rewording.specs.Reword.{mk, a_string, value, reworded, renumber, variables, with_variable, OneToOne, insert_binding, in_ascending_order, Whole, done, grown, no_entry, Distinct, operands, arms, entries, Reword, Chain, here, link, Reports, Agree, with_bindings}
use Rattle.rewording.proofs.Theorem.{demand-three}

-- buffers that are lent
abbrev work : Bytes
work = replicate 65536 119

abbrev out : Bytes
out = replicate 100 111

-- ## Five rewordings

abbrev int : ℕ → Head
int n = mk int_word none ((9223372036854775808 + n) ∷ []) []

abbrev str : Bytes → Head
str s = mk str_word none [] s

abbrev bool : ℕ → Head
bool n = mk bool_word none (n ∷ []) []

abbrev start : Bytes
start = text "cyrs,1\nb,1,N\nb,2,V\nret,0,1\npro,61\nmap,2\nkey,61\nbin,12\nvar,1\nint,5\nkey,62\ncase,0,2\nbool,1\nstr,61\nvar,2\nint,7\nend\n"

abbrev numbered : Bytes
numbered = text "cyrs,1\nb,3,V\nb,9,N\nret,0,1\npro,61\nmap,2\nkey,61\nbin,12\nvar,9\nint,5\nkey,62\ncase,0,2\nbool,1\nstr,61\nvar,3\nint,7\nend\n"

abbrev valued : Bytes
valued = text "cyrs,1\nb,3,V\nb,9,N\nret,0,1\npro,61\nmap,2\nkey,61\nbin,12\nvar,9\nint,5\nkey,62\ncase,0,2\nbool,1\nstr,\nvar,3\nint,7\nend\n"

abbrev swapped : Bytes
swapped = text "cyrs,1\nb,3,V\nb,9,N\nret,0,1\npro,61\nmap,2\nkey,61\nbin,12\nint,5\nvar,9\nkey,62\ncase,0,2\nbool,1\nstr,\nvar,3\nint,7\nend\n"

abbrev turned : Bytes
turned = text "cyrs,1\nb,3,V\nb,9,N\nret,0,1\npro,61\nmap,2\nkey,61\nbin,12\nint,5\nvar,9\nkey,62\ncase,0,2\nvar,3\nint,7\nbool,1\nstr,\nend\n"

abbrev last : Bytes
last = text "cyrs,1\nb,3,V\nb,9,N\nret,0,1\npro,61\nmap,2\nkey,62\ncase,0,2\nvar,3\nint,7\nbool,1\nstr,\nkey,61\nbin,12\nint,5\nvar,9\nend\n"

abbrev renamed : ℕ → ℕ
renamed zero = 0
renamed (suc zero) = 9
renamed (suc (suc n)) = 3

abbrev var : ℕ → Head
var n = mk var_word (some n) [] []

abbrev and : Head
and = mk bin_word none (12 ∷ []) []

abbrev case_two : Head
case_two = mk case_word none (0 ∷ 2 ∷ []) []

abbrev key : ℕ → Head
key d = mk key_word none [] (6 ∷ d ∷ [])

-- the clause down to the map, and all down to the end, before the sheet is renumbered
abbrev opened : List Head
opened = mk ret_word none (0 ∷ 1 ∷ []) [] ∷ mk pro_word none (1 ∷ []) (6 ∷ 1 ∷ []) ∷ mk map_word none (2 ∷ []) [] ∷ []

abbrev end : List Head
end = mk end_word none [] [] ∷ []

abbrev body : List Head
body = opened ++ (key 1 ∷ and ∷ var 1 ∷ int 5 ∷ key 2 ∷ case_two ∷ bool 1 ∷ str (6 ∷ 1 ∷ []) ∷ var 2 ∷ int 7 ∷ end)

abbrev front : List Head
front = with_bindings ((3, 3) ∷ (9, 0) ∷ []) opened

-- the variables are 1 and 2
data OneOrTwo : ℕ → Type 0 where
  one : OneOrTwo 1
  two : OneOrTwo 2

one-or-two : {v : ℕ} → Memᴰ v (1 ∷ 2 ∷ 1 ∷ 2 ∷ []) → OneOrTwo v
one-or-two (Memᴰ.head e) = rw e one
one-or-two (Memᴰ.tail (Memᴰ.head e)) = rw e two
one-or-two (Memᴰ.tail (Memᴰ.tail (Memᴰ.head e))) = rw e one
one-or-two (Memᴰ.tail (Memᴰ.tail (Memᴰ.tail (Memᴰ.head e)))) = rw e two
one-or-two (Memᴰ.tail (Memᴰ.tail (Memᴰ.tail (Memᴰ.tail i)))) = absurd (Memᴰ.not-nil i)

apart : {v w : ℕ} → OneOrTwo v → OneOrTwo w → renamed v ≡ renamed w → v ≡ w
apart one one e = refl
apart one two e = absurd (omega arith)
apart two one e = absurd (omega arith)
apart two two e = refl

one-to-one : OneToOne renamed (variables (with_bindings ((1, 0) ∷ (2, 3) ∷ []) body))
unfolding variables with_variable
one-to-one v w i j e = apart (one-or-two i) (one-or-two j) e

-- the names 61 and 62 differ
names-differ : Distinct ((6 ∷ 1 ∷ []) ∷ (6 ∷ 2 ∷ []) ∷ [])
names-differ = (one_name, (Memᴰ.not-nil, tt))
  where
    second : Bytes → ℕ
    second [] = 0
    second (x ∷ []) = 0
    second (x ∷ y ∷ r) = y

    one_name : Memᴰ {A = Bytes} (6 ∷ 1 ∷ []) ((6 ∷ 2 ∷ []) ∷ []) → ⊥
    one_name (Memᴰ.head e) = let z : ◌≡◌ {A = ℕ} 1 2 = ap second e in omega arith
    one_name (Memᴰ.tail i) = Memᴰ.not-nil i

-- a list of five: renumbering, a literal, operands, arms, entries
joined : Chain Reword start last
unfolding run insert_binding in_ascending_order
joined =
    link {t = numbered} refl refl (inl (renumber renamed ((1, 0) ∷ (2, 3) ∷ []) body refl one-to-one))
    (link {t = valued} refl refl
    (inl (reworded (front ++ (key 1 ∷ and ∷ var 9 ∷ int 5 ∷ key 2 ∷ case_two ∷ bool 1 ∷ [])) (var 3 ∷ int 7 ∷ end) (value a_string [] [] (6 ∷ 1 ∷ []) [])))
    (link {t = swapped} refl refl
    (inr (operands (front ++ (key 1 ∷ [])) (key 2 ∷ case_two ∷ bool 1 ∷ str [] ∷ var 3 ∷ int 7 ∷ end) (var 9 ∷ []) (int 5 ∷ []) (12 ∷ []) (grown (var 9) done) (grown (int 5) done)))
    (link {t = turned} refl refl
    (inr (arms (front ++ (key 1 ∷ and ∷ int 5 ∷ var 9 ∷ key 2 ∷ [])) end [] (bool 1 ∷ str [] ∷ []) [] (var 3 ∷ int 7 ∷ []) 0 2 0 0 done
    (grown (bool 1) (grown (str []) done)) done (grown (var 3) (grown (int 7) done)) (omega arith)))
    (link {t = last} refl refl
    (inr (entries (with_bindings ((3, 3) ∷ (9, 0) ∷ []) (mk ret_word none (0 ∷ 1 ∷ []) [] ∷ mk pro_word none (1 ∷ []) (6 ∷ 1 ∷ []) ∷ [])) end [] (and ∷ int 5 ∷ var 9 ∷ []) []
    (case_two ∷ var 3 ∷ int 7 ∷ bool 1 ∷ str [] ∷ []) [] (6 ∷ 1 ∷ []) (6 ∷ 2 ∷ []) [] [] [] 2 no_entry (grown and (grown (int 5) (grown (var 9) done))) no_entry
    (grown case_two (grown (var 3) (grown (int 7) (grown (bool 1) (grown (str []) done))))) no_entry names-differ refl))
    (here last)))))

first-report : Reports start (text "F,2011,Node\nF,2011,Int\nT,K,61,C,62,O,D,G,!,!,\nend,1,2\n")
unfolding run_sheet
first-report = record { work = work; out = out; accepts = refl; text = refl }

last-report : Reports last (text "F,2011,Int\nF,2011,Node\nT,K,61,C,62,O,D,G,!,!,\nend,1,2\n")
unfolding run_sheet
last-report = record { work = work; out = out; accepts = refl; text = refl }

agree : Agree (text "F,2011,Node\nF,2011,Int\nT,K,61,C,62,O,D,G,!,!,\nend,1,2\n") (text "F,2011,Int\nF,2011,Node\nT,K,61,C,62,O,D,G,!,!,\nend,1,2\n")
agree = demand-three.agree joined first-report last-report

-- ## Sheets between that are refused with 6

-- one operand has the type String or a list of maps, 1,022 bytes, the other Bool or a list of Unknown; compared in this order they unify
-- to a small type, in the other to one of 1,028 bytes
abbrev long_name : ℕ → Bytes
long_name n = replicate n 6

abbrev key_text : ℕ → Bytes
key_text n = text "key," ++ (replicate n 54 ++ text "\nint,1\n")

abbrev large_text : String → Bytes
large_text s = text "case,2,1\nbool,1\n" ++ (text s ++ (text "lis,1\nmap,2\n" ++ (key_text 510 ++ key_text 494)))

abbrev small_text : Bytes
small_text = text "case,2,1\nbool,1\nbool,0\nlis,1\nexi\n"

abbrev comparing : Bytes → Bytes → Bytes
comparing a b = text "cyrs,1\nret,0,1\npro,-\nbin,8\n" ++ (a ++ (b ++ text "end\n"))

abbrev large : Bytes → List Head
large s =
    mk case_word none (2 ∷ 1 ∷ []) []
    ∷ bool 1
    ∷ str s
    ∷ mk lis_word none (1 ∷ []) []
    ∷ mk map_word none (2 ∷ []) []
    ∷ mk key_word none [] (long_name 510)
    ∷ int 1
    ∷ mk key_word none [] (long_name 494)
    ∷ int 1
    ∷ []

abbrev small : List Head
small = mk case_word none (2 ∷ 1 ∷ []) [] ∷ bool 1 ∷ bool 0 ∷ mk lis_word none (1 ∷ []) [] ∷ mk exi_word none [] [] ∷ []

large-whole : (s : Bytes) → Whole 1 (large s)
unfolding run
large-whole s =
    grown (mk case_word none (2 ∷ 1 ∷ []) []) (grown (bool 1) (grown (str s) (grown (mk lis_word none (1 ∷ []) []) (grown (mk map_word none (2 ∷ []) [])
    (grown (mk key_word none [] (long_name 510)) (grown (int 1) (grown (mk key_word none [] (long_name 494)) (grown (int 1) done))))))))

small-whole : Whole 1 small
unfolding run
small-whole = grown (mk case_word none (2 ∷ 1 ∷ []) []) (grown (bool 1) (grown (bool 0) (grown (mk lis_word none (1 ∷ []) []) (grown (mk exi_word none [] []) done))))

abbrev ret : List Head
ret = with_bindings [] (mk ret_word none (0 ∷ 1 ∷ []) [] ∷ mk pro_word none (0 ∷ []) [] ∷ [])

abbrev before_list : Bytes
before_list = comparing (large_text "str,61\n") small_text

abbrev after_list : Bytes
after_list = comparing (large_text "str,62\n") small_text

-- the sheets between are refused
between-1 : outcome (comparing small_text (large_text "str,61\n")) ≡ refusal 6 4
unfolding run
between-1 = refl

between-2 : outcome (comparing small_text (large_text "str,62\n")) ≡ refusal 6 4
unfolding run
between-2 = refl

through-refused : Chain Reword before_list after_list
unfolding run
through-refused =
    link {t = comparing small_text (large_text "str,61\n")} refl refl (inr (operands ret end (large (6 ∷ 1 ∷ [])) small (8 ∷ []) (large-whole (6 ∷ 1 ∷ [])) small-whole))
    (link {t = comparing small_text (large_text "str,62\n")} refl refl
    (inl (reworded (ret ++ (mk bin_word none (8 ∷ []) [] ∷ (small ++ (mk case_word none (2 ∷ 1 ∷ []) [] ∷ bool 1 ∷ []))))
    (mk lis_word none (1 ∷ []) [] ∷ mk map_word none (2 ∷ []) [] ∷ mk key_word none [] (long_name 510) ∷ int 1 ∷ mk key_word none [] (long_name 494) ∷ int 1 ∷ end)
    (value a_string [] [] (6 ∷ 1 ∷ []) (6 ∷ 2 ∷ []))))
    (link {t = after_list} refl refl (inr (operands ret end small (large (6 ∷ 2 ∷ [])) (8 ∷ []) small-whole (large-whole (6 ∷ 2 ∷ []))))
    (here after_list)))

before-report : Reports before_list (text "T,C,\nend,1,0\n")
unfolding run_sheet
before-report = record { work = work; out = out; accepts = refl; text = refl }

after-report : Reports after_list (text "T,C,\nend,1,0\n")
unfolding run_sheet
after-report = record { work = work; out = out; accepts = refl; text = refl }

still-agree : Agree (text "T,C,\nend,1,0\n") (text "T,C,\nend,1,0\n")
still-agree = demand-three.agree through-refused before-report after-report
