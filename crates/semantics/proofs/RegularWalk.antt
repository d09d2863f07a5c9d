-- Every type that the walk gives is regular. Assumes nothing.
use mathlib.Core.Path.{◌≡◌, refl, ◌∙◌, ap}
use mathlib.Core.List.{List, [], ◌∷◌}
use mathlib.Core.Option.{Option, none, some}
use Prim.Native.Nat.{ℕ, suc}
use lib.Dec.{eqb}
use Rattle.semantics.specs.Bytes.{Bytes}
use Rattle.semantics.specs.Ty.{t_any, t_unknown, Ty, base, t_list, t_map, t_node, t_relationship, t_union, Fields, ∅ᶠ, set_field}
use Rattle.semantics.specs.Unify.{Answer, agreed, mismatch, unify}
use Rattle.semantics.specs.Builtins.{ReturnShape, fixed, list_element, list_self, Builtin, builtin_id, builtin_size, builtin_head, builtin_tail, builtin_last, builtin_keys, builtin_values, signature, lookup, element_of, list_or, resolve_return}
use Rattle.semantics.specs.Sheet.{Head, num, Role, plain, condition, answer, inner, Typing, constant, var_type, element, slice, listing, mapping, calling, operator, unary, casing, membership, comprehension, Rule, silent, entering, typed, rule, roles, arity}
use Rattle.semantics.specs.Walk.{Top, Res, Env, kind_type, var_type_in, var_type_of, a_number, meets, numeric, Op, arithmetic, comparison, equality, boolean, string, concat, op, or_else, op_type, unary_type, call_type, grown, running, listed, mapped, answers, last_of, ty_of, tys, nth, type_by, type_of, tops_of, tops, tops_by, step, walk, env_of, results, all_tops, typing}
use Rattle.semantics.proofs.All.{All, empty, also, all_map, all_append, all_take, all_drop, all_at, either}
use Rattle.semantics.proofs.Words.{Simple, a_base, a_map, row-simple}
use Rattle.semantics.proofs.Regular.{Regular, unite-regular, no-entries, set-regular}
use Rattle.semantics.proofs.RegularUnify.{RegularAnswer, unify-answer}

-- ## The table of words and that of built-ins

abbrev RegularTyping : Typing → Type 0
RegularTyping k = (t : Ty) → k ≡ constant t → Regular t

simple-regular : {t : Ty} → Simple t → Regular t
simple-regular (a_base b) = tt
simple-regular a_map = no-entries

abbrev RegularReturn : ReturnShape → Type 0
RegularReturn (fixed t) = Regular t
RegularReturn list_element = Unit {0}
RegularReturn list_self = Unit {0}

signature-regular : (b : Builtin) → RegularReturn (signature b).ret
unfolding signature
signature-regular builtin_id = tt
signature-regular builtin_size = tt
signature-regular builtin_head = tt
signature-regular builtin_tail = tt
signature-regular builtin_last = tt
signature-regular builtin_keys = tt
signature-regular builtin_values = tt

-- ## The type of a line

kind-regular : (k : ℕ) → Regular (kind_type k)
kind-regular k = either Regular (eqb k 0) tt (either Regular (eqb k 1) tt (either Regular (eqb k 2) tt tt))

var-in-regular : (v : ℕ) (bs : List (ℕ × ℕ)) → Regular (var_type_in v bs)
unfolding var_type_in
var-in-regular v [] = tt
var-in-regular v ((w, k) ∷ bs) = either Regular (eqb v w) (kind-regular k) (var-in-regular v bs)

var-regular : (v : Option ℕ) (env : Env) → Regular (var_type_of v env)
unfolding var_type_of
var-regular none env = tt
var-regular (some v) env = var-in-regular v env.bindings

element-regular : (t : Ty) → Regular t → Regular (element_of t)
unfolding element_of
element-regular (base b) h = tt
element-regular (t_list t) h = h
element-regular (t_map fs) h = tt
element-regular (t_node ls) h = tt
element-regular (t_relationship n) h = tt
element-regular (t_union ts) h = tt

list-regular : (d t : Ty) → Regular d → Regular t → Regular (list_or d t)
unfolding list_or
list-regular d (base b) p h = p
list-regular d (t_list t) p h = h
list-regular d (t_map fs) p h = p
list-regular d (t_node ls) p h = p
list-regular d (t_relationship n) p h = p
list-regular d (t_union ts) p h = p

return-regular : (r : ReturnShape) → RegularReturn r → {ts : List Ty} → All Regular ts → Regular (resolve_return r ts)
unfolding resolve_return
return-regular (fixed t) h a = h
return-regular list_element h empty = tt
return-regular list_element h (also {x = t} p a) = element-regular t p
return-regular list_self h empty = tt
return-regular list_self h (also {x = t} p a) = list-regular (t_list (base t_any)) t tt p

call-regular : (o : Option Builtin) {ts : List Ty} → All Regular ts → Regular (call_type o ts)
unfolding call_type
call-regular none a = tt
call-regular (some b) a = return-regular (signature b).ret (signature-regular b) a

numeric-regular : (t : Ty) → Regular t → Regular (numeric t)
unfolding numeric
numeric-regular t h = either Regular (meets a_number t) h tt

or-regular : (d : Ty) (a : Answer) → Regular d → RegularAnswer a → Regular (or_else d a)
or-regular d (agreed t) p h = h
or-regular d (mismatch a b) p h = p

op-regular : (o : Op) (a b : Ty) → Regular a → Regular b → Regular (op_type o a b)
unfolding op_type
op-regular arithmetic a b p q = or-regular (base t_unknown) (unify (numeric a) (numeric b)).answer tt (unify-answer (numeric a) (numeric b) (numeric-regular a p) (numeric-regular b q))
op-regular comparison a b p q = tt
op-regular equality a b p q = tt
op-regular boolean a b p q = tt
op-regular string a b p q = tt
op-regular concat a b p q = tt

unary-regular : (k : ℕ) (t : Ty) → Regular t → Regular (unary_type k t)
unfolding unary_type
unary-regular k t h = either Regular (eqb k 0) (numeric-regular t h) tt

grown-regular : (t u : Ty) → Regular t → Regular u → Regular (grown t u)
grown-regular t u p q = or-regular (base t_any) (unify t u).answer tt (unify-answer t u p q)

running-regular : (t : Ty) → Regular t → {ts : List Ty} → All Regular ts → Regular (running t ts)
unfolding running
running-regular t p empty = p
running-regular t p (also {x = u} q a) = running-regular (grown t u) (grown-regular t u p q) a

listed-regular : {ts : List Ty} → All Regular ts → Regular (listed ts)
unfolding listed
listed-regular empty = tt
listed-regular (also {x = t} p a) = running-regular t p a

-- a name with a regular type
abbrev RegularEntry : (Bytes × Ty) → Type 0
RegularEntry e = Regular e.1

mapped-regular : (fs : Fields) → Regular (t_map fs) → {es : List (Bytes × Ty)} → All RegularEntry es → Regular (t_map (mapped fs es))
unfolding mapped
mapped-regular fs h empty = h
mapped-regular fs h (also {x = e} p a) = mapped-regular (set_field e.0 e.1 fs) (set-regular e.0 e.1 fs p h) a

answers-regular : (ps : List Role) {ts : List Ty} → All Regular ts → All Regular (answers ps ts)
unfolding answers
answers-regular [] a = empty
answers-regular (p ∷ ps) empty = empty
answers-regular (plain ∷ ps) (also h a) = answers-regular ps a
answers-regular (condition ∷ ps) (also h a) = answers-regular ps a
answers-regular (answer ∷ ps) (also h a) = also h (answers-regular ps a)
answers-regular (inner q ∷ ps) (also h a) = answers-regular ps a

last-regular : (t : Ty) → Regular t → {ts : List Ty} → All Regular ts → Regular (last_of t ts)
unfolding last_of
last-regular t p empty = p
last-regular t p (also {x = u} q a) = last-regular u q a

tys-regular : {es : List (Bytes × Ty)} → All RegularEntry es → All Regular (tys es)
tys-regular a = all_map ty_of (λ e h. h) a

nth-regular : {es : List (Bytes × Ty)} → All RegularEntry es → (i : ℕ) → Regular (nth es i)
nth-regular a i = all_at (base t_unknown) tt (tys-regular a) i

type-by-regular : (k : Typing) → RegularTyping k → (env : Env) (h : Head) (ps : List Role) {es : List (Bytes × Ty)} → All RegularEntry es → Regular (type_by k env h ps es)
unfolding type_by
type-by-regular (constant t) r env h ps a = r t refl
type-by-regular var_type r env h ps a = var-regular h.var env
type-by-regular element r env h ps {es} a = element-regular (nth es 0) (nth-regular a 0)
type-by-regular slice r env h ps {es} a = list-regular (base t_any) (nth es 0) tt (nth-regular a 0)
type-by-regular listing r env h ps a = listed-regular (tys-regular a)
type-by-regular mapping r env h ps a = mapped-regular ∅ᶠ no-entries a
type-by-regular calling r env h ps a = call-regular (lookup h.name) (tys-regular a)
type-by-regular operator r env h ps {es} a = op-regular (op (num h 0)) (nth es 0) (nth es 1) (nth-regular a 0) (nth-regular a 1)
type-by-regular unary r env h ps {es} a = unary-regular (num h 0) (nth es 0) (nth-regular a 0)
type-by-regular casing r env h ps a = unite-regular (answers-regular ps (tys-regular a))
type-by-regular membership r env h ps a = tt
type-by-regular comprehension r env h ps a = last-regular (base t_unknown) tt (tys-regular a)

type-regular : (q : Rule) → ((k : Typing) → q ≡ typed k → RegularTyping k) → (env : Env) (h : Head) (ps : List Role) {es : List (Bytes × Ty)} → All RegularEntry es → Regular (type_of q env h ps es)
unfolding type_of
type-regular silent r env h ps a = tt
type-regular entering r env h ps a = nth-regular a 0
type-regular (typed k) r env h ps a = type-by-regular k (r k refl) env h ps a

-- ## The walk

abbrev pub RegularTop : Top → Type 0
RegularTop t = Regular t.ty

abbrev pub RegularRes : Res → Type 0
RegularRes r = Regular r.ty × All RegularTop r.tops

abbrev pub AllRegular : List Res → Type 0
AllRegular rs = All RegularRes rs

top-regular : (p : Role) (r : Res) → RegularRes r → All RegularTop (tops_of p r)
unfolding tops_of
top-regular plain r h = also h.0 empty
top-regular condition r h = also h.0 empty
top-regular answer r h = also h.0 empty
top-regular (inner q) r h = h.1

tops-regular : (ps : List Role) {rs : List Res} → AllRegular rs → All RegularTop (tops ps rs)
unfolding tops
tops-regular [] a = empty
tops-regular (p ∷ ps) empty = empty
tops-regular (p ∷ ps) (also {x = r} h a) = all_append (top-regular p r h) (tops-regular ps a)

tops-by-regular : (q : Rule) (ps : List Role) {rs : List Res} → AllRegular rs → All RegularTop (tops_by q ps rs)
unfolding tops_by
tops-by-regular silent ps a = tops-regular ps a
tops-by-regular entering ps a = empty
tops-by-regular (typed k) ps a = empty

-- a line from what hangs under it
pub step-regular : (env : Env) (n : ℕ) (h : Head) {rs : List Res} → AllRegular rs → RegularRes (step env n h rs)
unfolding step
step-regular env n h a = (type-regular (rule h) (λ k d t e. simple-regular (row-simple h.word t (d ∙ ap typed e))) env h (roles h) (all_map (λ r. (r.name, r.ty)) (λ r q. q.0) a), tops-by-regular (rule h) (roles h) a)

-- every line of a walk has a regular type and regular top expressions
pub walk-regular : (env : Env) (n : ℕ) (hs : List Head) → AllRegular (walk env n hs)
unfolding walk
walk-regular env n [] = empty
walk-regular env n (h ∷ hs) = let a = walk-regular env (suc n) hs in also (step-regular env n h (all_take (arity h) a)) (all_drop (arity h) a)

all-tops-regular : {rs : List Res} → AllRegular rs → All RegularTop (all_tops rs)
unfolding all_tops
all-tops-regular empty = empty
all-tops-regular (also h a) = all_append h.1 (all-tops-regular a)

-- every top expression of a sheet has a regular type
pub typing-regular : (hs : List Head) → All RegularTop (typing hs)
unfolding typing results
typing-regular hs = all-tops-regular (walk-regular (env_of hs) 1 hs)
