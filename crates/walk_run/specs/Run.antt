-- The walk as the code runs it: of a line's children only what its rule keeps, and a stop at the first thing that is too large.
use Rattle.std.specs.Prelude.{List, [], ◌∷◌, ◌++◌, true, false, ℕ}
use Rattle.std.proofs.Math.Option.{Option, none, some}
use Rattle.semantics.specs.Bytes.{Bytes}
use Rattle.semantics.specs.Ty.{t_any, t_bool, t_unknown, Ty, base, t_list, t_map, t_union, t_node, t_relationship, Fields, ∅ᶠ, too_large, opened, joined, set_field}
use Rattle.semantics.specs.Unify.{unify}
use Rattle.semantics.specs.Builtins.{lookup, element_of, list_or}
use Rattle.semantics.specs.Sheet.{Head, num, Role, plain, condition, answer, inner, Typing, constant, var_type, element, slice, listing, mapping, calling, operator, unary, casing, membership, comprehension}
use Rattle.semantics.specs.Walk.{Fault, Res, Env, var_type_of, Op, arithmetic, comparison, equality, boolean, string, concat, op, numeric, op_faults, unary_type, unary_faults, in_faults, call_type, call_faults, asked}
use Rattle.semantics.specs.Calls.{first_large}
use Rattle.unify_run.specs.Run.{Run, done, mismatch, large, verdict, given, add}

-- ## What a line keeps between its children

-- nothing; the first child's type; the first two; the running element of a list; the type of the last child of a comprehension; the
-- entries of a map; the members of a CASE's union; a CASE that is too large already
pub data Kept : Type 0 where
  empty over : Kept
  kept : Ty → Kept
  both : Ty → Ty → Kept
  items last : Option Ty → Kept
  entries : Fields → Kept
  arms : List Ty → Kept

unfoldable pub start : Typing → Kept
start (constant t) = empty
start var_type = empty
start element = empty
start slice = empty
start listing = items none
start mapping = entries ∅ᶠ
start calling = empty
start operator = empty
start unary = empty
start casing = arms []
start membership = empty
start comprehension = last none

-- none: too large
abbrev pub unless_large : Ty → Kept → Option Kept
unless_large t k = elim (too_large t) [ true ↦ none | false ↦ some k ]

-- the first type stays
unfoldable pub keep_first : Kept → Ty → Kept
keep_first empty t = kept t
keep_first over t = over
keep_first (kept s) t = kept s
keep_first (both s u) t = both s u
keep_first (items e) t = items e
keep_first (last e) t = last e
keep_first (entries fs) t = entries fs
keep_first (arms ms) t = arms ms

-- the first two
unfoldable pub keep_two : Kept → Ty → Kept
keep_two empty t = kept t
keep_two over t = over
keep_two (kept s) t = both s t
keep_two (both s u) t = both s u
keep_two (items e) t = items e
keep_two (last e) t = last e
keep_two (entries fs) t = entries fs
keep_two (arms ms) t = arms ms

-- an item of a list, after those whose running element is s
unfoldable pub meet_item : Run → Option Kept
meet_item (done t) = unless_large (t_list t) (items (some t))
meet_item (mismatch a b) = some (items (some (base t_any)))
meet_item large = none

unfoldable pub keep_item : Kept → Ty → Option Kept
keep_item empty t = some empty
keep_item over t = some over
keep_item (kept s) t = some (kept s)
keep_item (both s u) t = some (both s u)
keep_item (items none) t = unless_large (t_list t) (items (some t))
keep_item (items (some s)) t = meet_item (verdict (unify s t))
keep_item (last e) t = some (last e)
keep_item (entries fs) t = some (entries fs)
keep_item (arms ms) t = some (arms ms)

unfoldable pub keep_entry : Kept → Bytes → Ty → Option Kept
keep_entry empty n t = some empty
keep_entry over n t = some over
keep_entry (kept s) n t = some (kept s)
keep_entry (both s u) n t = some (both s u)
keep_entry (items e) n t = some (items e)
keep_entry (last e) n t = some (last e)
keep_entry (entries fs) n t = let gs = set_field n t fs in unless_large (t_map gs) (entries gs)
keep_entry (arms ms) n t = some (arms ms)

-- an arm of a CASE: once too large, the others are only typed
unfoldable pub keep_arm : Kept → Ty → Kept
keep_arm empty t = empty
keep_arm over t = over
keep_arm (kept s) t = kept s
keep_arm (both s u) t = both s u
keep_arm (items e) t = items e
keep_arm (last e) t = last e
keep_arm (entries fs) t = entries fs
keep_arm (arms ms) t = given (add (opened t) ms) over arms

abbrev pub keep_answer : Role → Kept → Ty → Kept
keep_answer plain k t = k
keep_answer condition k t = k
keep_answer answer k t = keep_arm k t
keep_answer (inner p) k t = k

-- after a child of a role, with its name and type; none: too large
unfoldable pub child : Typing → Role → Kept → Bytes → Ty → Option Kept
child (constant c) p k n t = some k
child var_type p k n t = some k
child element p k n t = some (keep_first k t)
child slice p k n t = some (keep_first k t)
child listing p k n t = keep_item k t
child mapping p k n t = keep_entry k n t
child calling p k n t = some (keep_first k t)
child operator p k n t = some (keep_two k t)
child unary p k n t = some (keep_first k t)
child casing p k n t = some (keep_answer p k t)
child membership p k n t = some (keep_two k t)
child comprehension p k n t = some (last (some t))

-- ## The end of a line

-- a type and the faults that the line adds; or too large
pub data Told : Type 0 where
  told : Ty → List Fault → Told
  too_much : Told

-- what was kept, as the definition has it: the type of the first child, of the second, of all that are read
abbrev pub first_of : Kept → Ty
first_of empty = base t_unknown
first_of over = base t_unknown
first_of (kept t) = t
first_of (both s t) = s
first_of (items e) = base t_unknown
first_of (last e) = base t_unknown
first_of (entries fs) = base t_unknown
first_of (arms ms) = base t_unknown

abbrev pub second_of : Kept → Ty
second_of empty = base t_unknown
second_of over = base t_unknown
second_of (kept t) = base t_unknown
second_of (both s t) = t
second_of (items e) = base t_unknown
second_of (last e) = base t_unknown
second_of (entries fs) = base t_unknown
second_of (arms ms) = base t_unknown

abbrev pub args_of : Kept → List Ty
args_of empty = []
args_of over = []
args_of (kept t) = t ∷ []
args_of (both s t) = s ∷ []
args_of (items e) = []
args_of (last e) = []
args_of (entries fs) = []
args_of (arms ms) = []

abbrev pub or_much : Run → (Ty → Told) → Told → Told
or_much (done t) f d = f t
or_much (mismatch a b) f d = d
or_much large f d = too_much

-- `infer_binop`
unfoldable pub end_op : Op → Ty → Ty → Told
end_op arithmetic a b = let fs = op_faults arithmetic a b in or_much (verdict (unify (numeric a) (numeric b))) (λ t. told t fs) (told (base t_unknown) fs)
end_op comparison a b = or_much (verdict (unify a b)) (λ t. told (base t_bool) []) (told (base t_bool) [])
end_op equality a b = told (base t_bool) []
end_op boolean a b = told (base t_bool) (op_faults boolean a b)
end_op string a b = told (base t_bool) (op_faults string a b)
end_op concat a b = told (base t_any) []

-- `check_in_list`
unfoldable pub end_in : Ty → Ty → Told
end_in a (base b) = told (base t_bool) (in_faults a (base b))
end_in a (t_list e) = or_much (verdict (unify a e)) (λ t. told (base t_bool) []) (told (base t_bool) (in_faults a (t_list e)))
end_in a (t_map fs) = told (base t_bool) (in_faults a (t_map fs))
end_in a (t_node ls) = told (base t_bool) (in_faults a (t_node ls))
end_in a (t_relationship n) = told (base t_bool) (in_faults a (t_relationship n))
end_in a (t_union ts) = told (base t_bool) (in_faults a (t_union ts))

abbrev pub or_told : Ty → Told
or_told t = elim (too_large t) [ true ↦ too_much | false ↦ told t [] ]

unfoldable pub end_list : Kept → Told
end_list empty = told (t_list (base t_any)) []
end_list over = told (t_list (base t_any)) []
end_list (kept t) = told (t_list (base t_any)) []
end_list (both s t) = told (t_list (base t_any)) []
end_list (items none) = told (t_list (base t_any)) []
end_list (items (some t)) = told (t_list t) []
end_list (last e) = told (t_list (base t_any)) []
end_list (entries fs) = told (t_list (base t_any)) []
end_list (arms ms) = told (t_list (base t_any)) []

unfoldable pub end_map : Kept → Told
end_map empty = told (t_map ∅ᶠ) []
end_map over = told (t_map ∅ᶠ) []
end_map (kept t) = told (t_map ∅ᶠ) []
end_map (both s t) = told (t_map ∅ᶠ) []
end_map (items e) = told (t_map ∅ᶠ) []
end_map (last e) = told (t_map ∅ᶠ) []
end_map (entries fs) = told (t_map fs) []
end_map (arms ms) = told (t_map ∅ᶠ) []

unfoldable pub end_case : Kept → Told
end_case empty = too_much
end_case over = too_much
end_case (kept t) = too_much
end_case (both s t) = too_much
end_case (items e) = too_much
end_case (last e) = too_much
end_case (entries fs) = too_much
end_case (arms ms) = or_told (joined ms)

unfoldable pub end_last : Kept → Told
end_last empty = or_told (t_list (base t_unknown))
end_last over = or_told (t_list (base t_unknown))
end_last (kept t) = or_told (t_list (base t_unknown))
end_last (both s t) = or_told (t_list (base t_unknown))
end_last (items e) = or_told (t_list (base t_unknown))
end_last (last none) = or_told (t_list (base t_unknown))
end_last (last (some t)) = or_told (t_list t)
end_last (entries fs) = or_told (t_list (base t_unknown))
end_last (arms ms) = or_told (t_list (base t_unknown))

-- after the last child
unfoldable pub end : Typing → Env → Head → Kept → Told
end (constant t) env h k = told t []
end var_type env h k = told (var_type_of h.var env) []
end element env h k = told (element_of (first_of k)) []
end slice env h k = told (list_or (base t_any) (first_of k)) []
end listing env h k = end_list k
end mapping env h k = end_map k
end calling env h k = let b = lookup h.name in told (call_type b (args_of k)) (call_faults b (args_of k))
end operator env h k = end_op (op (num h 0)) (first_of k) (second_of k)
end unary env h k = told (unary_type (num h 0) (first_of k)) (unary_faults (num h 0) (first_of k))
end casing env h k = end_case k
end membership env h k = end_in (first_of k) (second_of k)
end comprehension env h k = end_last k

-- ## A line over its children

-- stopped at a line; or what is kept, and the faults so far
pub data Kids : Type 0 where
  stopped : ℕ → Kids
  passed : Kept → List Fault → Kids

abbrev pub after : List Fault → Kids → Kids
after fs (stopped l) = stopped l
after fs (passed k gs) = passed k (fs ++ gs)

-- a child that is too large stops its line too
abbrev pub halt_at : Option ℕ → Kids → Kids
halt_at none k = k
halt_at (some l) k = stopped l

-- the children of line n, in order: each typed, asked for what its role asks, and kept
unfoldable pub kids : ℕ → Typing → Kept → List Role → List Res → Kids
kids n q k [] rs = passed k []
kids n q k (p ∷ ps) [] = passed k []
kids n q k (p ∷ ps) (r ∷ rs) =
    halt_at (first_large r.tests) (after (r.faults ++ asked p r.ty) (given (child q p k r.name r.ty) (stopped n) (λ j. kids n q j ps rs)))

-- stopped at a line; or the type and the faults
pub data Ran : Type 0 where
  halted : ℕ → Ran
  typed : Ty → List Fault → Ran

abbrev pub concluded : ℕ → Told → List Fault → Ran
concluded n (told t gs) fs = typed t (fs ++ gs)
concluded n too_much fs = halted n

abbrev pub closed : ℕ → Kids → (Kept → Told) → Ran
closed n (stopped l) f = halted l
closed n (passed k fs) f = concluded n (f k) fs

unfoldable pub run_step : Env → ℕ → Typing → Head → List Role → List Res → Ran
run_step env n q h ps rs = closed n (kids n q (start q) ps rs) (end q env h)

-- what the definition's result comes to
abbrev pub judged_by : Option ℕ → Res → Ran
judged_by none r = typed r.ty r.faults
judged_by (some l) r = halted l

unfoldable pub judged : Res → Ran
judged r = judged_by (first_large r.tests) r

-- the faults of all these, in order: what a line with no type passes on
unfoldable pub all_faults : List Res → List Fault
all_faults [] = []
all_faults (r ∷ rs) = r.faults ++ all_faults rs
