-- Demand 3: what a rewording is, when two reports agree, and what is claimed. The proof is in proofs/Theorem.antt.
--
-- RULES 8.5, as it was asked for: "For every list of rewordings, each done on the sheet the last one left: if the sheet before the list and the one after
-- it are accepted, even if sheets between are refused, their two reports have the same type lines in the same order, before each the
-- same fault lines, each as often, and the same last line; every union in them has at least two members, strictly ascending, none a
-- union. [..] With none of these three exchanges in the list, the whole reports are equal."
use Rattle.std.specs.Prelude.{◌≡◌, Bool, true, false, cond, ◌⊎◌, ℕ, suc, ◌+◌, ◌*◌, ◌≤◌, length, take, eqb, ltb}
use mathlib.Core.List.{List, [], ◌∷◌, ◌++◌, map as map_l, Memᴰ}
use Rattle.std.proofs.Math.Option.{Option, none, some}
use Rattle.semantics.specs.Codes.{line_feed, fault_letter, type_letter}
use Rattle.semantics.specs.Limits.{sheet_limit, depth_limit}
use Rattle.semantics.specs.Bytes.{Bytes, same, split}
use Rattle.semantics.specs.Ty.{Ty, t_list, t_map, t_union, Tys, ◌⊕◌, Fields, field, members, line, ascending, is_union}
use Rattle.semantics.specs.Builtins.{folded, lookup}
use Rattle.semantics.specs.Sheet.{Word, cyrs_word, b_word, pro_word, sp_word, rp_word, lab_word, cal_word, bool_word, int_word, flt_word, str_word, par_word, unr_word, prop_word, map_word, key_word, call_word, bin_word, case_word, cop_word, com_word, sho_word, ali_word, Head, low, arity, heads, sheet}
use Rattle.semantics.specs.Walk.{bound}
use Rattle.semantics.specs.Calls.{top_line, sheet_call}

-- ## Rewordings, on the lines of a sheet as read

abbrev pub mk : Word → Option ℕ → List ℕ → Bytes → Head
mk w v ns s = record { word = w; var = v; nums = ns; name = s }

-- "A literal is a `bool`, `int`, `flt` or `str` line, its kind the line's word"
pub data Literal : Word → Type 0 where
  a_bool : Literal bool_word
  an_int : Literal int_word
  a_float : Literal flt_word
  a_string : Literal str_word

-- "Unread names: in `str`, `par`, `unr`, `prop`, `cop`, `com`, `sho`, `ali`, `lab`, `sp`, `rp`, `cal`"
pub data Unread : Word → Type 0 where
  in_str : Unread str_word
  in_par : Unread par_word
  in_unr : Unread unr_word
  in_prop : Unread prop_word
  in_cop : Unread cop_word
  in_com : Unread com_word
  in_sho : Unread sho_word
  in_ali : Unread ali_word
  in_lab : Unread lab_word
  in_sp : Unread sp_word
  in_rp : Unread rp_word
  in_cal : Unread cal_word

-- "in `call`, one unlisted function name for another, or a built-in's letter case"
abbrev pub SameFunction : Bytes → Bytes → Type 0
SameFunction a b = ((lookup a ≡ none) × (lookup b ≡ none)) ⊎ (folded a ≡ folded b)

-- one line reworded: another value of a literal; another unread name, an alias that is present among them
pub data Line : Head → Head → Type 0 where
  value : {w : Word} → Literal w → (ns ms : List ℕ) (a b : Bytes) → Line (mk w none ns a) (mk w none ms b)
  unread : {w : Word} → Unread w → (v : Option ℕ) (ns : List ℕ) (a b : Bytes) → Line (mk w v ns a) (mk w v ns b)
  alias : (a b : Bytes) → Line (mk pro_word none (1 ∷ []) a) (mk pro_word none (1 ∷ []) b)
  function : (ns : List ℕ) (a b : Bytes) → SameFunction a b → Line (mk call_word none ns a) (mk call_word none ns b)

-- "Renumbering takes every V present through one map, different variables to different numbers"
abbrev pub renumber_optional : (ℕ → ℕ) → Option ℕ → Option ℕ
renumber_optional f none = none
renumber_optional f (some v) = some (f v)

abbrev pub renumbered : (ℕ → ℕ) → Head → Head
renumbered f h = mk h.word (renumber_optional f h.var) h.nums h.name

unfoldable pub with_variable : Option ℕ → List ℕ → List ℕ
with_variable none vs = vs
with_variable (some v) vs = v ∷ vs

unfoldable pub variables : List Head → List ℕ
variables [] = []
variables (h ∷ hs) = with_variable h.var (variables hs)

abbrev pub OneToOne : (ℕ → ℕ) → List ℕ → Type 0
OneToOne f vs = (v w : ℕ) → Memᴰ v vs → Memᴰ w vs → f v ≡ f w → v ≡ w

-- "bindings too, the `b` lines put back in ascending order": a `b` line as its variable and its kind
abbrev pub binding_line : (ℕ × ℕ) → Head
binding_line b = mk b_word (some b.0) (b.1 ∷ []) []

unfoldable pub insert_binding : (ℕ × ℕ) → List (ℕ × ℕ) → List (ℕ × ℕ)
insert_binding b [] = b ∷ []
insert_binding b (c ∷ cs) = elim (ltb c.0 b.0) [ true ↦ c ∷ insert_binding b cs | false ↦ b ∷ c ∷ cs ]

unfoldable pub in_ascending_order : List (ℕ × ℕ) → List (ℕ × ℕ)
in_ascending_order [] = []
in_ascending_order (b ∷ bs) = insert_binding b (in_ascending_order bs)

abbrev pub renumbered_binding : (ℕ → ℕ) → (ℕ × ℕ) → (ℕ × ℕ)
renumbered_binding f b = (f b.0, b.1)

-- the first line, the `b` lines, and all that follows them, in which no `b` line comes first
abbrev pub with_bindings : List (ℕ × ℕ) → List Head → List Head
with_bindings bs body = mk cyrs_word none (1 ∷ []) [] ∷ (map_l binding_line bs ++ body)

-- rewordings without an exchange: one line reworded where it stands, or all variables renumbered
pub data Keep : List Head → List Head → Type 0 where
  reworded : (pre post : List Head) {h k : Head} → Line h k → Keep (pre ++ (h ∷ post)) (pre ++ (k ∷ post))
  renumber : (f : ℕ → ℕ) (bs : List (ℕ × ℕ)) (body : List Head) → bound body ≡ [] → OneToOne f (variables (with_bindings bs body))
      → Keep (with_bindings bs body) (with_bindings (in_ascending_order (map_l (renumbered_binding f) bs)) (map_l (renumbered f) body))

-- k whole expressions, or lines of another kind with all that hangs under them, side by side
pub data Whole : ℕ → List Head → Type 0 where
  done : Whole 0 []
  grown : (h : Head) {k : ℕ} {hs : List Head} → Whole (arity h + k) hs → Whole (suc k) (h ∷ hs)

-- "an entry a `key` line with its expression": entries of these names
pub data Entries : List Bytes → List Head → Type 0 where
  no_entry : Entries [] []
  entry : (n : Bytes) {x hs : List Head} {ns : List Bytes} → Whole 1 x → Entries ns hs → Entries (n ∷ ns) (mk key_word none [] n ∷ (x ++ hs))

-- names that all differ
abbrev pub Distinct : List Bytes → Type 0
Distinct [] = Unit {0}
Distinct (n ∷ ns) = (Memᴰ n ns → ⊥) × Distinct ns

-- exchanges: the operands x and y of a binary operator; two arms x and y of one CASE, each a pair, with i pairs before the first (and
-- the scrutinee, if there is one) and j between; two entries of a map literal whose names all differ
pub data Exchange : List Head → List Head → Type 0 where
  operands : (pre post x y : List Head) (ns : List ℕ) → Whole 1 x → Whole 1 y
      → Exchange (pre ++ (mk bin_word none ns [] ∷ (x ++ (y ++ post)))) (pre ++ (mk bin_word none ns [] ∷ (y ++ (x ++ post))))
  arms : (pre post s x m y : List Head) (f c i j : ℕ) → Whole (low f + 2 * i) s → Whole 2 x → Whole (2 * j) m → Whole 2 y → i + (j + 2) ≤ c
      → Exchange (pre ++ (mk case_word none (f ∷ c ∷ []) [] ∷ (s ++ (x ++ (m ++ (y ++ post)))))) (pre ++ (mk case_word none (f ∷ c ∷ []) [] ∷ (s ++ (y ++ (m ++ (x ++ post))))))
  entries : (pre post s x m y e : List Head) (a b : Bytes) (ns ms es : List Bytes) (c : ℕ) → Entries ns s → Whole 1 x → Entries ms m → Whole 1 y → Entries es e
      → Distinct (ns ++ (a ∷ (ms ++ (b ∷ es)))) → c ≡ length (ns ++ (a ∷ (ms ++ (b ∷ es))))
      → Exchange (pre ++ (mk map_word none (c ∷ []) [] ∷ (s ++ ((mk key_word none [] a ∷ x) ++ (m ++ ((mk key_word none [] b ∷ y) ++ (e ++ post)))))))
      (pre ++ (mk map_word none (c ∷ []) [] ∷ (s ++ ((mk key_word none [] b ∷ y) ++ (m ++ ((mk key_word none [] a ∷ x) ++ (e ++ post)))))))

abbrev pub Reword : List Head → List Head → Type 0
Reword hs ks = Keep hs ks ⊎ Exchange hs ks

-- a list of rewordings, from the bytes of one sheet to those of another: each step takes a sheet free of causes 3, 4 and 5 and leaves
-- such a sheet; nothing else is asked of a sheet between
pub data Chain (X : List Head → List Head → Type 0) : Bytes → Bytes → Type 0 where
  here : (s : Bytes) → Chain X s s
  link : {s t u : Bytes} {hs ks : List Head} → sheet depth_limit s ≡ heads hs → sheet depth_limit t ≡ heads ks → X hs ks → Chain X t u → Chain X s u

-- ## Reports

-- the sheet call accepts the sheet s, for some work area and output, and x is the report
pub record Reports (s x : Bytes) : Type 0 where
  pub work : Bytes
  pub out : Bytes
  pub accepts : (sheet_call s work out).number ≡ 0
  pub text : x ≡ take (sheet_call s work out).first (sheet_call s work out).out

-- the pieces of a report between its LFs; each but the last is a line
abbrev pub pieces : Bytes → List Bytes
pieces x = split line_feed x

abbrev pub begins : ℕ → Bytes → Bool
begins c [] = false
begins c (x ∷ xs) = eqb x c

-- the type lines in order
unfoldable pub type_lines : List Bytes → List Bytes
type_lines [] = []
type_lines (l ∷ ls) = cond (begins type_letter l) (l ∷ type_lines ls) (type_lines ls)

-- "The fault lines before a type line are the F lines since the T line before it, or since the start"; a last group for those after
-- the last T line
unfoldable pub into_first : Bytes → List (List Bytes) → List (List Bytes)
into_first l [] = (l ∷ []) ∷ []
into_first l (g ∷ gs) = (l ∷ g) ∷ gs

unfoldable pub fault_groups : List Bytes → List (List Bytes)
fault_groups [] = [] ∷ []
fault_groups (l ∷ ls) = let gs = fault_groups ls in cond (begins type_letter l) ([] ∷ gs) (cond (begins fault_letter l) (into_first l gs) gs)

-- the last line: the last piece that a LF ends
unfoldable pub last_line : List Bytes → Bytes
last_line [] = []
last_line (l ∷ []) = []
last_line (l ∷ m ∷ []) = l
last_line (l ∷ m ∷ n ∷ ls) = last_line (m ∷ n ∷ ls)

-- how often a line stands in a list
unfoldable pub occurrences : Bytes → List Bytes → ℕ
occurrences l [] = 0
occurrences l (m ∷ ms) = cond (same l m) 1 0 + occurrences l ms

abbrev pub EachAsOften : List Bytes → List Bytes → Type 0
EachAsOften ls ms = (l : Bytes) → occurrences l ls ≡ occurrences l ms

-- two lists of one length, related item by item
pub data Each {A : Type 0} (R : A → A → Type 0) : List A → List A → Type 0 where
  no_more : Each R [] []
  more : {x y : A} {xs ys : List A} → R x y → Each R xs ys → Each R (x ∷ xs) (y ∷ ys)

-- "the same type lines in the same order, before each the same fault lines, each as often, and the same last line"
pub record Agree (x y : Bytes) : Type 0 where
  pub types : type_lines (pieces x) ≡ type_lines (pieces y)
  pub faults : Each EachAsOften (fault_groups (pieces x)) (fault_groups (pieces y))
  pub last : last_line (pieces x) ≡ last_line (pieces y)

-- a type inside another, or itself
mutual
  pub data Within (u : Ty) : Ty → Type 0 where
    itself : Within u u
    of_list : {t : Ty} → Within u t → Within u (t_list t)
    of_map : {fs : Fields} → WithinFields u fs → Within u (t_map fs)
    of_union : {ts : Tys} → WithinMembers u ts → Within u (t_union ts)

  pub data WithinFields (u : Ty) : Fields → Type 0 where
    in_field : {n : Bytes} {t : Ty} {fs : Fields} → Within u t → WithinFields u (field n t fs)
    in_later_field : {n : Bytes} {t : Ty} {fs : Fields} → WithinFields u fs → WithinFields u (field n t fs)

  pub data WithinMembers (u : Ty) : Tys → Type 0 where
    in_member : {t : Ty} {ts : Tys} → Within u t → WithinMembers u (t ⊕ ts)
    in_later_member : {t : Ty} {ts : Tys} → WithinMembers u ts → WithinMembers u (t ⊕ ts)

-- "at least two members, strictly ascending, none a union"
pub record Canonical (ts : Tys) : Type 0 where
  pub two : 2 ≤ length (members ts)
  pub ascend : ascending (map_l line (members ts)) ≡ true
  pub flat : (t : Ty) → Memᴰ t (members ts) → is_union t ≡ false

-- a type line, and every union in it
pub record CanonicalLine (l : Bytes) : Type 0 where
  pub ty : Ty
  pub is : l ≡ top_line ty
  pub unions : (ts : Tys) → Within (t_union ts) ty → Canonical ts

-- ## The claims

-- DEMAND 3
pub record DemandThree : Type 0 where
  pub agree : {s t x y : Bytes} → Chain Reword s t → Reports s x → Reports t y → Agree x y
  pub equal : {s t x y : Bytes} → Chain Keep s t → Reports s x → Reports t y → x ≡ y
  pub unions : {s x : Bytes} → Reports s x → (l : Bytes) → Memᴰ l (type_lines (pieces x)) → CanonicalLine l

-- a line the same, or reworded
pub data Alike : Head → Head → Type 0 where
  same_line : {h : Head} → Alike h h
  other : {h k : Head} → Line h k → Alike h k

-- SECRECY: two sheets that differ in literal values and unread names alone are answered alike, refusals among them: number, returned
-- numbers and every byte of both buffers
pub record Secrecy : Type 0 where
  pub alike : (s t : Bytes) {hs ks : List Head} → sheet depth_limit s ≡ heads hs → sheet depth_limit t ≡ heads ks → Each Alike hs ks → length s ≤ sheet_limit → length t ≤ sheet_limit
      → (work out : Bytes) → sheet_call s work out ≡ sheet_call t work out
