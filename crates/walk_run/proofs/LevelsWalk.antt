-- Every type that the walk gives has no more levels than its line stands high. Assumes nothing.
use mathlib.Core.Path.{◌≡◌, refl, ◌∙◌, ap}
use mathlib.Core.List.{List, [], ◌∷◌}
use mathlib.Core.Option.{Option, none, some}
use Prim.Native.Nat.{ℕ, suc, zero, ◌+◌, ◌*◌, ◌≤◌}
use native.Mathlib.Omega.{arith}
use lib.ListN.{take, drop}
use lib.Dec.{eqb}
use Rattle.semantics.specs.Bytes.{Bytes}
use Rattle.semantics.specs.Ty.{t_any, t_unknown, Ty, base, t_list, t_map, t_node, t_relationship, t_union, Fields, ∅ᶠ, nesting, set_field}
use Rattle.semantics.specs.Unify.{Answer, agreed, mismatch, unify}
use Rattle.semantics.specs.Builtins.{ReturnShape, fixed, list_element, list_self, Builtin, builtin_id, builtin_size, builtin_head, builtin_tail, builtin_last, builtin_keys, builtin_values, signature, lookup, element_of, list_or, resolve_return}
use Rattle.semantics.specs.Sheet.{Head, num, Role, plain, condition, answer, inner, Typing, constant, var_type, element, slice, listing, mapping, calling, operator, unary, casing, membership, comprehension, Rule, silent, entering, typed, rule, roles, arity}
use Rattle.semantics.specs.Walk.{Res, Env, kind_type, var_type_in, var_type_of, a_number, meets, numeric, Op, arithmetic, comparison, equality, boolean, string, concat, op, or_else, op_type, unary_type, call_type, grown, running, listed, mapped, answers, last_of, ty_of, tys, nth, type_by, type_of, step, walk}
use Rattle.semantics.proofs.Words.{Simple, a_base, a_map, row-simple}
use Rattle.semantics.proofs.All.{All, empty, also, all_map, all_at, either}
use Rattle.semantics.proofs.RegularWalk.{AllRegular, walk-regular}
use Rattle.walk_run.specs.Depth.{levels, greatest, rise, height, Pairs, no_pairs, pairing}
use Rattle.walk_run.proofs.Levels.{Low, LowF, unite-low, set-low, nesting-levels}
use Rattle.walk_run.proofs.LevelsUnify.{LowAnswer, unify-low}

-- ## The table of words and that of built-ins

abbrev LowTyping : Typing → Type 0
LowTyping k = (t : Ty) → k ≡ constant t → Low 1 t

simple-low : {t : Ty} → Simple t → Low 1 t
unfolding levels
simple-low (a_base b) = omega arith
simple-low a_map = omega arith

abbrev LowReturn : ReturnShape → Type 0
LowReturn (fixed t) = Low 1 t
LowReturn list_element = Unit {0}
LowReturn list_self = Unit {0}

signature-low : (b : Builtin) → LowReturn (signature b).ret
unfolding signature levels
signature-low builtin_id = omega arith
signature-low builtin_size = omega arith
signature-low builtin_head = tt
signature-low builtin_tail = tt
signature-low builtin_last = tt
signature-low builtin_keys = omega arith
signature-low builtin_values = omega arith

-- ## The type of a line

kind-low : (m k : ℕ) → Low m (kind_type k)
unfolding levels
kind-low m k = either (Low m) (eqb k 0) (omega arith) (either (Low m) (eqb k 1) (omega arith) (either (Low m) (eqb k 2) (omega arith) (omega arith)))

var-in-low : (m v : ℕ) (bs : List (ℕ × ℕ)) → Low m (var_type_in v bs)
unfolding var_type_in levels
var-in-low m v [] = omega arith
var-in-low m v ((w, k) ∷ bs) = either (Low m) (eqb v w) (kind-low m k) (var-in-low m v bs)

pub var-low : (m : ℕ) (v : Option ℕ) (env : Env) → Low m (var_type_of v env)
unfolding var_type_of levels
var-low m none env = omega arith
var-low m (some v) env = var-in-low m v env.bindings

pub element-low : (m : ℕ) (t : Ty) → Low m t → Low m (element_of t)
unfolding element_of levels
element-low m (base b) h = omega arith
element-low m (t_list t) h = omega arith
element-low m (t_map fs) h = omega arith
element-low m (t_node ls) h = omega arith
element-low m (t_relationship n) h = omega arith
element-low m (t_union ts) h = omega arith

pub list-or-low : (m : ℕ) (d t : Ty) → Low m d → Low m t → Low m (list_or d t)
unfolding list_or
list-or-low m d (base b) p h = p
list-or-low m d (t_list t) p h = h
list-or-low m d (t_map fs) p h = p
list-or-low m d (t_node ls) p h = p
list-or-low m d (t_relationship n) p h = p
list-or-low m d (t_union ts) p h = p

return-low : (m : ℕ) (r : ReturnShape) → LowReturn r → {ts : List Ty} → All (Low m) ts → Low (suc m) (resolve_return r ts)
unfolding resolve_return levels
return-low m (fixed t) h a = omega arith
return-low m list_element h empty = omega arith
return-low m list_element h (also {x = t} p a) = element-low (suc m) t (omega arith)
return-low m list_self h empty = omega arith
return-low m list_self h (also {x = t} p a) = list-or-low (suc m) (t_list (base t_any)) t (omega arith) (omega arith)

pub call-low : (m : ℕ) (o : Option Builtin) {ts : List Ty} → All (Low m) ts → Low (suc m) (call_type o ts)
unfolding call_type levels
call-low m none a = omega arith
call-low m (some b) a = return-low m (signature b).ret (signature-low b) a

pub numeric-low : (m : ℕ) (t : Ty) → Low m t → Low m (numeric t)
unfolding numeric levels
numeric-low m t h = either (Low m) (meets a_number t) h (omega arith)

or-low : (m : ℕ) (d : Ty) (a : Answer) → Low m d → LowAnswer m a → Low m (or_else d a)
or-low m d (agreed t) p h = h
or-low m d (mismatch a b) p h = p

pub op-low : (m : ℕ) (o : Op) (a b : Ty) → Low m a → Low m b → Low m (op_type o a b)
unfolding op_type levels
op-low m arithmetic a b p q = or-low m (base t_unknown) (unify (numeric a) (numeric b)).answer (omega arith) (unify-low m (numeric a) (numeric b) (numeric-low m a p) (numeric-low m b q))
op-low m comparison a b p q = omega arith
op-low m equality a b p q = omega arith
op-low m boolean a b p q = omega arith
op-low m string a b p q = omega arith
op-low m concat a b p q = omega arith

pub unary-low : (m k : ℕ) (t : Ty) → Low m t → Low m (unary_type k t)
unfolding unary_type levels
unary-low m k t h = either (Low m) (eqb k 0) (numeric-low m t h) (omega arith)

pub grown-low : (m : ℕ) (t u : Ty) → Low m t → Low m u → Low m (grown t u)
unfolding levels
grown-low m t u p q = or-low m (base t_any) (unify t u).answer (omega arith) (unify-low m t u p q)

pub running-low : (m : ℕ) (t : Ty) → Low m t → {ts : List Ty} → All (Low m) ts → Low m (running t ts)
unfolding running
running-low m t p empty = p
running-low m t p (also {x = u} q a) = running-low m (grown t u) (grown-low m t u p q) a

pub listed-low : (m : ℕ) {ts : List Ty} → All (Low m) ts → Low (suc m) (listed ts)
unfolding listed levels
listed-low m empty = omega arith
listed-low m (also {x = t} p a) = omega (arith, running-low m t p a)

-- a name with a type of at most so many levels
abbrev pub LowEntry : ℕ → (Bytes × Ty) → Type 0
LowEntry m e = Low m e.1

pub mapped-low : (m : ℕ) (fs : Fields) → LowF m fs → {es : List (Bytes × Ty)} → All (LowEntry m) es → LowF m (mapped fs es)
unfolding mapped
mapped-low m fs h empty = h
mapped-low m fs h (also {x = e} p a) = mapped-low m (set_field e.0 e.1 fs) (set-low m e.0 e.1 fs p h) a

pub answers-low : (m : ℕ) (ps : List Role) {ts : List Ty} → All (Low m) ts → All (Low m) (answers ps ts)
unfolding answers
answers-low m [] a = empty
answers-low m (p ∷ ps) empty = empty
answers-low m (plain ∷ ps) (also h a) = answers-low m ps a
answers-low m (condition ∷ ps) (also h a) = answers-low m ps a
answers-low m (answer ∷ ps) (also h a) = also h (answers-low m ps a)
answers-low m (inner q ∷ ps) (also h a) = answers-low m ps a

pub last-low : (m : ℕ) (t : Ty) → Low m t → {ts : List Ty} → All (Low m) ts → Low m (last_of t ts)
unfolding last_of
last-low m t p empty = p
last-low m t p (also {x = u} q a) = last-low m u q a

tys-low : (m : ℕ) {es : List (Bytes × Ty)} → All (LowEntry m) es → All (Low m) (tys es)
tys-low m a = all_map ty_of (λ e h. h) a

nth-low : (m : ℕ) {es : List (Bytes × Ty)} → All (LowEntry m) es → (i : ℕ) → Low m (nth es i)
unfolding levels
nth-low m a i = let z : Low m (base t_unknown) = omega arith in all_at (base t_unknown) z (tys-low m a) i

type-by-low : (m : ℕ) (k : Typing) → LowTyping k → (env : Env) (h : Head) (ps : List Role) {es : List (Bytes × Ty)} → All (LowEntry m) es → Low (suc m) (type_by k env h ps es)
unfolding type_by levels
type-by-low m (constant t) r env h ps a = omega (arith, r t refl)
type-by-low m var_type r env h ps a = var-low (suc m) h.var env
type-by-low m element r env h ps {es} a = omega (arith, element-low m (nth es 0) (nth-low m a 0))
type-by-low m slice r env h ps {es} a = let z : Low m (base t_any) = omega arith in omega (arith, list-or-low m (base t_any) (nth es 0) z (nth-low m a 0))
type-by-low m listing r env h ps a = listed-low m (tys-low m a)
type-by-low m mapping r env h ps a = let z : LowF m ∅ᶠ = omega arith in omega (arith, mapped-low m ∅ᶠ z a)
type-by-low m calling r env h ps a = call-low m (lookup h.name) (tys-low m a)
type-by-low m operator r env h ps {es} a = omega (arith, op-low m (op (num h 0)) (nth es 0) (nth es 1) (nth-low m a 0) (nth-low m a 1))
type-by-low m unary r env h ps {es} a = omega (arith, unary-low m (num h 0) (nth es 0) (nth-low m a 0))
type-by-low m casing r env h ps a = omega (arith, unite-low m (answers-low m ps (tys-low m a)))
type-by-low m membership r env h ps a = omega arith
type-by-low m comprehension r env h ps a = let z : Low m (base t_unknown) = omega arith in omega (arith, last-low m (base t_unknown) z (tys-low m a))

type-low : (m : ℕ) (q : Rule) → ((k : Typing) → q ≡ typed k → LowTyping k) → (env : Env) (h : Head) (ps : List Role) {es : List (Bytes × Ty)} → All (LowEntry m) es → Low (rise q m) (type_of q env h ps es)
unfolding type_of rise levels
type-low m silent r env h ps a = omega arith
type-low m entering r env h ps a = nth-low m a 0
type-low m (typed k) r env h ps a = type-by-low m k (r k refl) env h ps a

-- the type of a line whose children have at most m levels
pub line_low : (m : ℕ) (env : Env) (h : Head) {es : List (Bytes × Ty)} → All (LowEntry m) es → Low (rise (rule h) m) (type_of (rule h) env h (roles h) es)
line_low m env h a = type-low m (rule h) (λ k d t e. simple-low (row-simple h.word t (d ∙ ap typed e))) env h (roles h) a

-- ## The walk

pub pairs-take : {A B : Type 0} {R : A → B → Type 0} (n : ℕ) {xs : List A} {ys : List B} → Pairs R xs ys → Pairs R (take n xs) (take n ys)
pairs-take zero ps = no_pairs
pairs-take (suc n) no_pairs = no_pairs
pairs-take (suc n) (pairing p ps) = pairing p (pairs-take n ps)

pub pairs-drop : {A B : Type 0} {R : A → B → Type 0} (n : ℕ) {xs : List A} {ys : List B} → Pairs R xs ys → Pairs R (drop n xs) (drop n ys)
pairs-drop zero ps = ps
pairs-drop (suc n) no_pairs = no_pairs
pairs-drop (suc n) (pairing p ps) = pairs-drop n ps

-- a line's type has no more levels than the line stands high
abbrev pub LowRes : Res → ℕ → Type 0
LowRes r k = levels r.ty ≤ k

-- no more than the highest of them
pub greatest-low : (m : ℕ) {rs : List Res} {ks : List ℕ} → Pairs LowRes rs ks → greatest ks ≤ m → All (λ r. Low m r.ty) rs
unfolding greatest
greatest-low m no_pairs l = empty
greatest-low m (pairing {x = r} h ps) l = also {x = r} (omega arith) (greatest-low m ps (omega arith))

-- a line from what hangs under it
pub step-levels : (env : Env) (n : ℕ) (h : Head) {rs : List Res} {ks : List ℕ} → Pairs LowRes rs ks → LowRes (step env n h rs) (rise (rule h) (greatest ks))
unfolding step
step-levels env n h {rs} {ks} ps = line_low (greatest ks) env h (all_map (λ r. (r.name, r.ty)) (λ r q. q) (greatest-low (greatest ks) ps (omega arith)))

-- every line of a walk
pub walk-levels : (env : Env) (n : ℕ) (hs : List Head) → Pairs LowRes (walk env n hs) (height hs)
unfolding walk height
walk-levels env n [] = no_pairs
walk-levels env n (h ∷ hs) = let a = walk-levels env (suc n) hs in pairing (step-levels env n h (pairs-take (arity h) a)) (pairs-drop (arity h) a)

-- ## Nesting

nesting-pairs : {rs : List Res} {ks : List ℕ} → Pairs LowRes rs ks → AllRegular rs → Pairs (λ r k. nesting r.ty ≤ 2 * k + 2) rs ks
nesting-pairs no_pairs empty = no_pairs
nesting-pairs (pairing {x = r} {y = k} h ps) (also g a) = pairing {x = r} {y = k} (omega (arith, nesting-levels r.ty g.0)) (nesting-pairs ps a)

-- a line's type nests at most twice as deep as the line stands high, and two more
pub walk-nesting : (env : Env) (n : ℕ) (hs : List Head) → Pairs (λ r k. nesting r.ty ≤ 2 * k + 2) (walk env n hs) (height hs)
walk-nesting env n hs = nesting-pairs (walk-levels env n hs) (walk-regular env n hs)
