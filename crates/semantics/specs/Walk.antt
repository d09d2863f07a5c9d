-- The walk: what each line of a sheet comes to (infer.rs; RULES 3).
use Rattle.std.specs.Prelude.{List, [], ◌∷◌, ◌++◌, map as map_l, Bool, true, false, ℕ, suc, get_or, take, drop, eqb, ltb}
use Rattle.std.proofs.Math.Option.{Option, none, some}
use Rattle.semantics.specs.Codes.{node_kind, relationship_kind, path_kind, first_rank, binding_rank}
use Rattle.semantics.specs.Bytes.{Bytes}
use Rattle.semantics.specs.Ty.{Base, t_any, t_null, t_bool, t_int, t_float, t_num, t_string, t_path, t_unknown, Ty, base, t_list, t_map, t_node, t_relationship, t_union, Fields, ∅ᶠ, among, matches, unite, firsts, set_field}
use Rattle.semantics.specs.Unify.{Answer, agreed, mismatch, unify}
use Rattle.semantics.specs.Builtins.{ArgShape, Builtin, signature, lookup, accepts, element_of, list_or, resolve_return}
use Rattle.semantics.specs.Sheet.{Head, num, Role, plain, condition, answer, inner, Typing, constant, var_type, element, slice, listing, mapping, calling, operator, unary, casing, membership, comprehension, Rule, silent, entering, typed, rule, rank, place, roles, arity}

-- the six faults, by their codes
pub data Fault : Type 0 where
  fault_2009 fault_2010 fault_2011 fault_2013 : Ty → Fault
  fault_2012 : Ty → Ty → Fault
  fault_5012 : Builtin → Ty → ArgShape → Fault

-- a top expression: the faults before its type line, and its type
pub record Top : Type 0 where
  pub faults : List Fault
  pub ty : Ty

-- what a line with all that hangs under it comes to: its name if the line above reads it, its type, its faults, its top expressions,
-- and, apart from these, the types whose size is tested, each with the line of the innermost expression being typed
pub record Res : Type 0 where
  pub name : Bytes
  pub ty : Ty
  pub faults : List Fault
  pub tops : List Top
  pub tests : List (ℕ × Ty)

-- what the whole sheet says to each line: the bindings, as variable and kind
pub record Env : Type 0 where
  pub bindings : List (ℕ × ℕ)

-- `var_type`
abbrev pub kind_type : ℕ → Ty
kind_type k = elim (eqb k node_kind) [ true ↦ t_node none | false ↦ elim (eqb k relationship_kind) [ true ↦ t_relationship none | false ↦ elim (eqb k path_kind) [ true ↦ base t_path | false ↦ base t_any ] ] ]

unfoldable pub var_type_in : ℕ → List (ℕ × ℕ) → Ty
var_type_in v [] = base t_any
var_type_in v ((w, k) ∷ bs) = elim (eqb v w) [ true ↦ kind_type k | false ↦ var_type_in v bs ]

unfoldable pub var_type_of : Option ℕ → Env → Ty
var_type_of none env = base t_any
var_type_of (some v) env = var_type_in v env.bindings

-- ## Requirements

-- what a type may be asked to be: Any and Unknown meet each
pub data Need : Type 0 where
  a_number a_string a_bool : Need

abbrev pub meeting : Need → List Base
meeting a_number = t_int ∷ t_float ∷ t_num ∷ t_any ∷ t_unknown ∷ []
meeting a_string = t_string ∷ t_any ∷ t_unknown ∷ []
meeting a_bool = t_bool ∷ t_any ∷ t_unknown ∷ []

unfoldable pub meets : Need → Ty → Bool
meets k t = matches t (meeting k)

unfoldable pub fault_of : Need → Ty → Fault
fault_of a_number t = fault_2009 t
fault_of a_string t = fault_2010 t
fault_of a_bool t = fault_2011 t

-- `require_numeric`, `require_string`, `require_bool`
unfoldable pub require : Need → Ty → List Fault
require k t = elim (meets k t) [ true ↦ [] | false ↦ fault_of k t ∷ [] ]

-- the type that `require_numeric` returns
unfoldable pub numeric : Ty → Ty
numeric t = elim (meets a_number t) [ true ↦ t | false ↦ base t_unknown ]

-- ## Operators: `infer_binop`, `infer_unaryop`

pub data Op : Type 0 where
  arithmetic comparison equality boolean string concat : Op

-- `BinOp` in order: 6 arithmetic, 2 of equality, 4 comparisons, 3 Boolean, 4 of strings, concatenation
unfoldable pub op : ℕ → Op
op k =
    elim (ltb k 6) [
      | true ↦ arithmetic
      | false ↦ elim (ltb k 8) [
        | true ↦ equality
        | false ↦ elim (ltb k 12) [ true ↦ comparison | false ↦ elim (ltb k 15) [ true ↦ boolean | false ↦ elim (ltb k 19) [ true ↦ string | false ↦ concat ] ] ]
      ]
    ]

abbrev pub or_else : Ty → Answer → Ty
or_else d (agreed t) = t
or_else d (mismatch a b) = d

unfoldable pub op_type : Op → Ty → Ty → Ty
op_type arithmetic a b = or_else (base t_unknown) (unify (numeric a) (numeric b)).answer
op_type comparison a b = base t_bool
op_type equality a b = base t_bool
op_type boolean a b = base t_bool
op_type string a b = base t_bool
op_type concat a b = base t_any

unfoldable pub op_faults : Op → Ty → Ty → List Fault
op_faults arithmetic a b = require a_number a ++ require a_number b
op_faults comparison a b = []
op_faults equality a b = []
op_faults boolean a b = require a_bool a ++ require a_bool b
op_faults string a b = require a_string a ++ require a_string b
op_faults concat a b = []

unfoldable pub op_tests : Op → Ty → Ty → List Ty
op_tests arithmetic a b = (unify (numeric a) (numeric b)).tests
op_tests comparison a b = (unify a b).tests
op_tests equality a b = []
op_tests boolean a b = []
op_tests string a b = []
op_tests concat a b = []

-- 0 is `Neg`, 1 is `Not`
unfoldable pub unary_type : ℕ → Ty → Ty
unary_type k t = elim (eqb k 0) [ true ↦ numeric t | false ↦ base t_bool ]

unfoldable pub unary_faults : ℕ → Ty → List Fault
unary_faults k t = elim (eqb k 0) [ true ↦ require a_number t | false ↦ require a_bool t ]

-- ## `check_in_list`

abbrev pub is_open : Ty → Bool
is_open t = matches t (t_any ∷ t_unknown ∷ [])

-- an operand and an element that do not unify; no fault where either is Any or Unknown
abbrev pub apart : Ty → Ty → Answer → List Fault
apart a e (agreed t) = []
apart a e (mismatch x y) = elim (is_open a) [ true ↦ [] | false ↦ elim (is_open e) [ true ↦ [] | false ↦ fault_2012 a e ∷ [] ] ]

unfoldable pub in_faults : Ty → Ty → List Fault
in_faults a (base b) = elim (among b (t_any ∷ t_unknown ∷ t_null ∷ [])) [ true ↦ [] | false ↦ fault_2013 (base b) ∷ [] ]
in_faults a (t_list e) = apart a e (unify a e).answer
in_faults a (t_map fs) = fault_2013 (t_map fs) ∷ []
in_faults a (t_node ls) = fault_2013 (t_node ls) ∷ []
in_faults a (t_relationship n) = fault_2013 (t_relationship n) ∷ []
in_faults a (t_union ts) = fault_2013 (t_union ts) ∷ []

unfoldable pub in_tests : Ty → Ty → List Ty
in_tests a (base b) = []
in_tests a (t_list e) = (unify a e).tests
in_tests a (t_map fs) = []
in_tests a (t_node ls) = []
in_tests a (t_relationship n) = []
in_tests a (t_union ts) = []

-- ## Calls: `check_builtin_args` goes over the shorter of parameters and arguments

unfoldable pub arg_faults : Builtin → List ArgShape → List Ty → List Fault
arg_faults b [] ts = []
arg_faults b (p ∷ ps) [] = []
arg_faults b (p ∷ ps) (t ∷ ts) = elim (accepts p t) [ true ↦ arg_faults b ps ts | false ↦ fault_5012 b t p ∷ arg_faults b ps ts ]

unfoldable pub call_type : Option Builtin → List Ty → Ty
call_type none ts = base t_any
call_type (some b) ts = resolve_return (signature b).ret ts

unfoldable pub call_faults : Option Builtin → List Ty → List Fault
call_faults none ts = []
call_faults (some b) ts = arg_faults b (signature b).params ts

-- ## Lists, maps, CASE

-- the running element type of a list literal: where two types do not unify it is Any
abbrev pub grown : Ty → Ty → Ty
grown t u = or_else (base t_any) (unify t u).answer

unfoldable pub running : Ty → List Ty → Ty
running t [] = t
running t (u ∷ us) = running (grown t u) us

unfoldable pub listed : List Ty → Ty
listed [] = t_list (base t_any)
listed (t ∷ ts) = t_list (running t ts)

unfoldable pub mapped : Fields → List (Bytes × Ty) → Fields
mapped fs [] = fs
mapped fs (e ∷ es) = mapped (set_field e.0 e.1 fs) es

-- the types of the children whose role is `answer`
unfoldable pub answers : List Role → List Ty → List Ty
answers [] ts = []
answers (p ∷ ps) [] = []
answers (p ∷ ps) (t ∷ ts) = elim p [ plain ↦ answers ps ts | condition ↦ answers ps ts | answer ↦ t ∷ answers ps ts | inner q ↦ answers ps ts ]

-- the last of some types
unfoldable pub last_of : Ty → List Ty → Ty
last_of t [] = t
last_of t (u ∷ us) = last_of u us

-- ## A line, from the names and types of its children

abbrev pub ty_of : (Bytes × Ty) → Ty
ty_of e = e.1

abbrev pub tys : List (Bytes × Ty) → List Ty
tys es = map_l ty_of es

abbrev pub nth : List (Bytes × Ty) → ℕ → Ty
nth es i = get_or (tys es) i (base t_unknown)

unfoldable pub type_by : Typing → Env → Head → List Role → List (Bytes × Ty) → Ty
type_by (constant t) env h ps es = t
type_by var_type env h ps es = var_type_of h.var env
type_by element env h ps es = element_of (nth es 0)
type_by slice env h ps es = list_or (base t_any) (nth es 0)
type_by listing env h ps es = listed (tys es)
type_by mapping env h ps es = t_map (mapped ∅ᶠ es)
type_by calling env h ps es = call_type (lookup h.name) (tys es)
type_by operator env h ps es = op_type (op (num h 0)) (nth es 0) (nth es 1)
type_by unary env h ps es = unary_type (num h 0) (nth es 0)
type_by casing env h ps es = unite (answers ps (tys es))
type_by membership env h ps es = base t_bool
type_by comprehension env h ps es = t_list (last_of (base t_unknown) (tys es))

unfoldable pub type_of : Rule → Env → Head → List Role → List (Bytes × Ty) → Ty
type_of silent env h ps es = base t_unknown
type_of entering env h ps es = nth es 0
type_of (typed k) env h ps es = type_by k env h ps es

-- what a role asks of a child's type, after the child
unfoldable pub asked : Role → Ty → List Fault
asked plain t = []
asked condition t = require a_bool t
asked answer t = []
asked (inner q) t = []

unfoldable pub spread : List Role → List Res → List Fault
spread [] rs = []
spread (p ∷ ps) [] = []
spread (p ∷ ps) (r ∷ rs) = r.faults ++ (asked p r.ty ++ spread ps rs)

-- the faults that a line adds after those of all its children
unfoldable pub own_by : Typing → Head → List (Bytes × Ty) → List Fault
own_by (constant t) h es = []
own_by var_type h es = []
own_by element h es = []
own_by slice h es = []
own_by listing h es = []
own_by mapping h es = []
own_by calling h es = call_faults (lookup h.name) (tys es)
own_by operator h es = op_faults (op (num h 0)) (nth es 0) (nth es 1)
own_by unary h es = unary_faults (num h 0) (nth es 0)
own_by casing h es = []
own_by membership h es = in_faults (nth es 0) (nth es 1)
own_by comprehension h es = []

unfoldable pub own : Rule → Head → List (Bytes × Ty) → List Fault
own silent h es = []
own entering h es = []
own (typed k) h es = own_by k h es

-- top expressions: each expression held by a line that is none, and what such lines under it pass on
unfoldable pub tops_of : Role → Res → List Top
tops_of plain r = record { faults = r.faults; ty = r.ty } ∷ []
tops_of condition r = record { faults = r.faults; ty = r.ty } ∷ []
tops_of answer r = record { faults = r.faults; ty = r.ty } ∷ []
tops_of (inner q) r = r.tops

unfoldable pub tops : List Role → List Res → List Top
tops [] rs = []
tops (p ∷ ps) [] = []
tops (p ∷ ps) (r ∷ rs) = tops_of p r ++ tops ps rs

-- a pattern or a clause passes them on; of an expression nobody asks them
unfoldable pub tops_by : Rule → List Role → List Res → List Top
tops_by silent ps rs = tops ps rs
tops_by entering ps rs = []
tops_by (typed k) ps rs = []

-- ## The tests of a line

-- what a line keeps from child to child: nothing, the running element of a list literal, the fields of a map literal
pub data Part : Type 0 where
  no_part : Part
  list_part : Ty → Part
  map_part : Fields → Part

abbrev pub keep_element : Part → Ty → Ty
keep_element no_part u = u
keep_element (list_part t) u = grown t u
keep_element (map_part fs) u = u

abbrev pub element_tests : Part → Ty → List Ty
element_tests no_part u = []
element_tests (list_part t) u = (unify t u).tests
element_tests (map_part fs) u = []

abbrev pub keep_fields : Part → (Bytes × Ty) → Fields
keep_fields no_part e = set_field e.0 e.1 ∅ᶠ
keep_fields (list_part t) e = set_field e.0 e.1 ∅ᶠ
keep_fields (map_part fs) e = set_field e.0 e.1 fs

-- after a child: the tests, and what is kept. A list literal tests the answer of `unify` and then its running type, a map literal its
-- type so far
pub record After : Type 0 where
  pub kept : Part
  pub tests : List Ty

abbrev pub no_more : After
no_more = record { kept = no_part; tests = [] }

unfoldable pub child_by : Typing → Part → (Bytes × Ty) → After
child_by (constant t) k e = no_more
child_by var_type k e = no_more
child_by element k e = no_more
child_by slice k e = no_more
child_by listing k e = let t = keep_element k e.1 in record { kept = list_part t; tests = element_tests k e.1 ++ (t_list t ∷ []) }
child_by mapping k e = let fs = keep_fields k e in record { kept = map_part fs; tests = t_map fs ∷ [] }
child_by calling k e = no_more
child_by operator k e = no_more
child_by unary k e = no_more
child_by casing k e = no_more
child_by membership k e = no_more
child_by comprehension k e = no_more

unfoldable pub child : Rule → Part → (Bytes × Ty) → After
child silent k e = no_more
child entering k e = no_more
child (typed t) k e = child_by t k e

-- after the last child, before the answer
unfoldable pub last_by : Typing → Head → List Role → List (Bytes × Ty) → List Ty
last_by (constant t) h ps es = []
last_by var_type h ps es = []
last_by element h ps es = []
last_by slice h ps es = []
last_by listing h ps es = []
last_by mapping h ps es = []
last_by calling h ps es = []
last_by operator h ps es = op_tests (op (num h 0)) (nth es 0) (nth es 1)
last_by unary h ps es = []
last_by casing h ps es = firsts [] (answers ps (tys es))
last_by membership h ps es = in_tests (nth es 0) (nth es 1)
last_by comprehension h ps es = []

-- each answer of `infer_expr` is tested last
unfoldable pub last_tests : Rule → Head → List Role → List (Bytes × Ty) → Ty → List Ty
last_tests silent h ps es t = []
last_tests entering h ps es t = []
last_tests (typed k) h ps es t = last_by k h ps es ++ (t ∷ [])

abbrev pub on : ℕ → List Ty → List (ℕ × Ty)
on n ts = map_l (λ t. (n, t)) ts

unfoldable pub through : ℕ → Rule → Part → List Res → List (ℕ × Ty)
through n q k [] = []
through n q k (r ∷ rs) = let a = child q k (r.name, r.ty) in r.tests ++ (on n a.tests ++ through n q a.kept rs)

-- ## The walk

-- the name that the line above reads: an entry's
unfoldable pub label : Rule → Bytes → Bytes
label silent s = []
label entering s = s
label (typed k) s = []

abbrev pub named : List Res → List (Bytes × Ty)
named rs = map_l (λ r. (r.name, r.ty)) rs

unfoldable pub step : Env → ℕ → Head → List Res → Res
step env n h rs =
    let q = rule h in
    let ps = roles h in
    let es = named rs in
    let t = type_of q env h ps es in
    record {
      name = label q h.name;
      ty = t;
      faults = spread ps rs ++ own q h es;
      tops = tops_by q ps rs;
      tests = through n q no_part rs ++ on n (last_tests q h ps es t);
    }

-- the lines from line n on: what each of the trees that stand there side by side comes to
unfoldable pub walk : Env → ℕ → List Head → List Res
walk env n [] = []
walk env n (h ∷ hs) = let rs = walk env (suc n) hs in step env n h (take (arity h) rs) ∷ drop (arity h) rs

-- the bindings: the `b` lines after the first line
unfoldable pub binds : Option ℕ → ℕ → List (ℕ × ℕ) → List (ℕ × ℕ)
binds none k bs = bs
binds (some v) k bs = (v, k) ∷ bs

-- by the place of a line: the first line, a `b` line, any other
unfoldable pub bound_by : ℕ → Option ℕ → ℕ → List (ℕ × ℕ) → List (ℕ × ℕ)
bound_by p v k bs = elim (eqb p first_rank) [ true ↦ bs | false ↦ elim (eqb p binding_rank) [ true ↦ binds v k bs | false ↦ [] ] ]

unfoldable pub bound : List Head → List (ℕ × ℕ)
bound [] = []
bound (h ∷ hs) = bound_by (rank (place h)) h.var (num h 0) (bound hs)

abbrev pub env_of : List Head → Env
env_of hs = record { bindings = bound hs }

unfoldable pub results : List Head → List Res
results hs = walk (env_of hs) 1 hs

unfoldable pub all_tops : List Res → List Top
all_tops [] = []
all_tops (r ∷ rs) = r.tops ++ all_tops rs

unfoldable pub all_tests : List Res → List (ℕ × Ty)
all_tests [] = []
all_tests (r ∷ rs) = r.tests ++ all_tests rs

-- the top expressions of a sheet, with no limit on types
unfoldable pub typing : List Head → List Top
typing hs = all_tops (results hs)
