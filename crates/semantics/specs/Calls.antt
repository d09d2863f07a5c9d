-- The report, the text that `typesheet` prints, and the two calls: number, returned numbers and every byte of both buffers (RULES 6 and 7).
use Rattle.std.specs.Prelude.{List, [], ◌∷◌, ◌++◌, map as map_l, Bool, true, false, ℕ, ◌+◌, length, drop, replicate, eqb, ltb}
use Rattle.std.proofs.Math.Option.{Option, none, some}
use Rattle.semantics.specs.Limits.{sheet_limit, depth_limit, work_size, unify_output}
use Rattle.semantics.specs.Codes.{line_feed, comma, fault_letter, type_letter, type_too_large, output_too_short, no_type_line, mismatched}
use Rattle.semantics.specs.Bytes.{Bytes, text, unlines, shown}
use Rattle.semantics.specs.Ty.{t_any, t_null, t_bool, t_int, t_float, t_num, t_string, t_date, t_datetime, t_path, t_unknown, Ty, base, t_list, t_map, t_node, t_relationship, t_union, line, too_large, type_line}
use Rattle.semantics.specs.Unify.{Answer, agreed, mismatch, unify}
use Rattle.semantics.specs.Builtins.{signature, describe}
use Rattle.semantics.specs.Sheet.{Head, Sheet, refused, heads, sheet}
use Rattle.semantics.specs.Walk.{Fault, fault_2009, fault_2010, fault_2011, fault_2012, fault_2013, fault_5012, Top, results, all_tests, typing}

-- ## The report

-- `type_name`
unfoldable pub type_name : Ty → Bytes
type_name (base b) = elim b [
  | t_any ↦ text "Any"
  | t_null ↦ text "Null"
  | t_bool ↦ text "Bool"
  | t_int ↦ text "Int"
  | t_float ↦ text "Float"
  | t_num ↦ text "Num"
  | t_string ↦ text "String"
  | t_date ↦ text "Date"
  | t_datetime ↦ text "Datetime"
  | t_path ↦ text "Path"
  | t_unknown ↦ text "Unknown"
]
type_name (t_list t) = text "List"
type_name (t_map fs) = text "Map"
type_name (t_node ls) = text "Node"
type_name (t_relationship n) = text "Relationship"
type_name (t_union ts) = text "Union"

-- the rest of a fault line after `F,`
unfoldable pub fault_text : Fault → Bytes
fault_text (fault_2009 t) = text "2009," ++ type_name t
fault_text (fault_2010 t) = text "2010," ++ type_name t
fault_text (fault_2011 t) = text "2011," ++ type_name t
fault_text (fault_2012 a e) = text "2012," ++ (type_name a ++ (comma ∷ type_name e))
fault_text (fault_2013 t) = text "2013," ++ type_name t
fault_text (fault_5012 b t p) = text "5012," ++ ((signature b).name ++ (comma ∷ (type_name t ++ (comma ∷ describe p))))

unfoldable pub fault_line : Fault → Bytes
fault_line f = fault_letter ∷ comma ∷ fault_text f

unfoldable pub top_line : Ty → Bytes
top_line t = type_letter ∷ comma ∷ line t

unfoldable pub fault_count : List Top → ℕ
fault_count [] = 0
fault_count (t ∷ ts) = length t.faults + fault_count ts

unfoldable pub end_line : List Top → Bytes
end_line ts = text "end," ++ (shown (length ts) ++ (comma ∷ shown (fault_count ts)))

-- the faults before each type line, the type lines, and then the last line
unfoldable pub top_lines : List Top → List Bytes → List Bytes
top_lines [] r = r
top_lines (t ∷ ts) r = map_l fault_line t.faults ++ (top_line t.ty ∷ top_lines ts r)

unfoldable pub report_lines : List Top → List Bytes
report_lines ts = top_lines ts (end_line ts ∷ [])

unfoldable pub report : List Top → Bytes
report ts = unlines (report_lines ts)

-- ## A sheet's outcome, whatever is lent: refused with 3 to 6, or its top expressions

pub data Outcome : Type 0 where
  refusal : ℕ → ℕ → Outcome
  accepted : List Top → Outcome

-- the line of the first test that is too large
unfoldable pub first_large : List (ℕ × Ty) → Option ℕ
first_large [] = none
first_large ((n, t) ∷ ts) = elim (too_large t) [ true ↦ some n | false ↦ first_large ts ]

unfoldable pub limited : Option ℕ → List Head → Outcome
limited none hs = accepted (typing hs)
limited (some n) hs = refusal type_too_large n

unfoldable pub judged : Sheet → Outcome
judged (refused c n) = refusal c n
judged (heads hs) = limited (first_large (all_tests (results hs))) hs

unfoldable pub outcome : Bytes → Outcome
outcome s = judged (sheet depth_limit s)

-- ## What the program `typesheet` prints (RULES 7.9)

-- the line of a refusal
unfoldable pub refused_text : ℕ → ℕ → Bytes
refused_text c n = text "refused," ++ (shown c ++ (comma ∷ (shown n ++ (line_feed ∷ []))))

-- of an outcome, with so much room for a report
unfoldable pub outcome_text : ℕ → Outcome → Bytes
outcome_text room (refusal c n) = refused_text c n
outcome_text room (accepted ts) = let s = report ts in elim (ltb room (length s)) [ true ↦ refused_text output_too_short 0 | false ↦ s ]

-- of a sheet
unfoldable pub sheet_text : ℕ → Bytes → Bytes
sheet_text room s = elim (ltb sheet_limit (length s)) [ true ↦ refused_text 1 0 | false ↦ outcome_text room (outcome s) ]

-- ## The calls

-- number, returned numbers, and both buffers afterwards
pub record Settled : Type 0 where
  pub number : ℕ
  pub first : ℕ
  pub second : ℕ
  pub work : Bytes
  pub out : Bytes

abbrev pub zeros : Bytes → Bytes
zeros b = replicate (length b) 0

-- the start of a buffer written, the rest as lent
abbrev pub written : Bytes → Bytes → Bytes
written s b = s ++ drop (length s) b

-- causes 1 and 2: all as lent
abbrev pub untouched : ℕ → Bytes → Bytes → Settled
untouched c work out = record { number = c; first = 0; second = 0; work = work; out = out }

-- causes 3 to 8: zeros
abbrev pub cleared : ℕ → ℕ → Bytes → Bytes → Settled
cleared c n work out = record { number = c; first = n; second = 0; work = zeros work; out = zeros out }

abbrev pub answered : Bytes → Bytes → Bytes → Settled
answered s work out = record { number = 0; first = length s; second = 0; work = zeros work; out = written s out }

-- cause 9: the expected text and then the actual one
abbrev pub parted : Bytes → Bytes → Bytes → Bytes → Settled
parted a b work out = record { number = mismatched; first = length a; second = length b; work = zeros work; out = written (a ++ b) out }

unfoldable pub settled : Outcome → Bytes → Bytes → Settled
settled (refusal c n) work out = cleared c n work out
settled (accepted ts) work out = let s = report ts in elim (ltb (length out) (length s)) [ true ↦ cleared output_too_short 0 work out | false ↦ answered s work out ]

-- order for a sheet: 1, 2, the whole sheet read, 6, 7
unfoldable pub sheet_call : Bytes → Bytes → Bytes → Settled
sheet_call s work out =
    elim (ltb sheet_limit (length s)) [
      | true ↦ untouched 1 work out
      | false ↦ elim (eqb (length work) work_size) [ true ↦ settled (outcome s) work out | false ↦ untouched 2 work out ]
    ]

unfoldable pub any_large : List Ty → Bool
any_large [] = false
any_large (t ∷ ts) = elim (too_large t) [ true ↦ true | false ↦ any_large ts ]

unfoldable pub unify_answer : Answer → Bytes → Bytes → Settled
unify_answer (agreed t) work out = answered (line t) work out
unify_answer (mismatch a b) work out = parted (line a) (line b) work out

unfoldable pub unify_types : Option Ty → Option Ty → Bytes → Bytes → Settled
unify_types none b work out = cleared no_type_line 1 work out
unify_types (some a) none work out = cleared no_type_line 2 work out
unify_types (some a) (some b) work out =
    let u = unify a b in
    elim (any_large u.tests) [ true ↦ cleared type_too_large 0 work out | false ↦ unify_answer u.answer work out ]

-- order for `unify`: 2, 7, 8, then 6 or 9
unfoldable pub unify_call : Bytes → Bytes → Bytes → Bytes → Settled
unify_call a b work out =
    elim (eqb (length work) work_size) [
      | true ↦ elim (ltb (length out) unify_output) [ true ↦ cleared 7 0 work out | false ↦ unify_types (type_line a) (type_line b) work out ]
      | false ↦ untouched 2 work out
    ]
