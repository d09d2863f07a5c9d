-- How many faults a tree of so many lines can have, and how long their lines are. Assumes nothing.
use mathlib.Core.Path.{◌≡◌, ◌∙◌, ap}
use mathlib.Core.List.{List, [], ◌∷◌, ◌++◌}
use mathlib.Core.Option.{Option, none, some}
use mathlib.Core.Bool.{true}
use Prim.Native.Nat.{ℕ, suc, zero, ◌+◌, ◌*◌, ◌≤◌}
use native.Mathlib.Omega.{arith}
use lib.Dec.{eqb}
use lib.ListN.{length, get_or, take, drop, length-append, length-map}
use Rattle.semantics.specs.Bytes.{Bytes}
use Rattle.semantics.specs.Ty.{t_any, t_null, t_unknown, Ty, base, t_list, t_map, t_node, t_relationship, t_union, among}
use Rattle.semantics.specs.Unify.{Answer, agreed, mismatch, unify}
use Rattle.semantics.specs.Builtins.{ArgShape, Builtin, builtin_id, builtin_size, builtin_head, builtin_tail, builtin_last, builtin_keys, builtin_values, signature, lookup, accepts}
use Rattle.semantics.specs.Sheet.{Head, num, Role, plain, condition, answer, inner, Typing, constant, var_type, element, slice, listing, mapping, calling, operator, unary, casing, membership, comprehension, Rule, silent, entering, typed, rank, place, rule, roles, arity, Want, fits, deeper, wanted, under}
use Rattle.semantics.specs.Walk.{Fault, Res, Env, Need, a_number, a_string, a_bool, meets as is_met, require, Op, arithmetic, comparison, equality, boolean, string, concat, op, op_faults, unary_faults, is_open, apart, in_faults, arg_faults, call_faults, tys, nth, asked, spread, own_by, own, named, step, walk}
use Rattle.semantics.proofs.All.{either}
use Rattle.report.specs.Report.{faults_text}
use Rattle.report.proofs.ReportLaws.{faults-short}
use Rattle.hir.specs.Lines.{Met, all_met, meets}
use Rattle.hir.proofs.LinesLaws.{Inner, AllIn, none_in, one_in, inner-under}
use Rattle.walk_run.specs.Depth.{Pairs, no_pairs, pairing}
use Rattle.walk_run.proofs.LevelsWalk.{pairs-take, pairs-drop}
use Rattle.bounds.specs.Sizes.{total, sizes}

-- ## The faults of a line

-- at most so many
abbrev Few : ℕ → List Fault → Type 0
Few m fs = length fs ≤ m

require-few : (k : Need) (t : Ty) → Few 1 (require k t)
unfolding require
require-few k t = either (Few 1) (is_met k t) (omega arith) (omega arith)

both-few : (k : Need) (a b : Ty) → Few 2 (require k a ++ require k b)
both-few k a b = omega (arith, require-few k a, require-few k b, length-append (require k a) (require k b))

op-few : (o : Op) (a b : Ty) → Few 2 (op_faults o a b)
unfolding op_faults
op-few arithmetic a b = both-few a_number a b
op-few comparison a b = omega arith
op-few equality a b = omega arith
op-few boolean a b = both-few a_bool a b
op-few string a b = both-few a_string a b
op-few concat a b = omega arith

unary-few : (k : ℕ) (t : Ty) → Few 1 (unary_faults k t)
unfolding unary_faults
unary-few k t = either (Few 1) (eqb k 0) (require-few a_number t) (require-few a_bool t)

apart-few : (a e : Ty) (x : Answer) → Few 1 (apart a e x)
apart-few a e (agreed t) = omega arith
apart-few a e (mismatch x y) = either (Few 1) (is_open a) (omega arith) (either (Few 1) (is_open e) (omega arith) (omega arith))

in-few : (a t : Ty) → Few 1 (in_faults a t)
unfolding in_faults
in-few a (base b) = either (Few 1) (among b (t_any ∷ t_unknown ∷ t_null ∷ [])) (omega arith) (omega arith)
in-few a (t_list e) = apart-few a e (unify a e).answer
in-few a (t_map fs) = omega arith
in-few a (t_node ls) = omega arith
in-few a (t_relationship n) = omega arith
in-few a (t_union ts) = omega arith

args-few : (b : Builtin) (ps : List ArgShape) (ts : List Ty) → Few (length ps) (arg_faults b ps ts)
unfolding arg_faults
args-few b [] ts = omega arith
args-few b (p ∷ ps) [] = omega arith
args-few b (p ∷ ps) (t ∷ ts) = let r = args-few b ps ts in either (Few (length (p ∷ ps))) (accepts p t) (omega arith) (omega arith)

params-few : (b : Builtin) → length (signature b).params ≤ 1
unfolding signature
params-few builtin_id = omega arith
params-few builtin_size = omega arith
params-few builtin_head = omega arith
params-few builtin_tail = omega arith
params-few builtin_last = omega arith
params-few builtin_keys = omega arith
params-few builtin_values = omega arith

call-few : (o : Option Builtin) (ts : List Ty) → Few 1 (call_faults o ts)
unfolding call_faults
call-few none ts = omega arith
call-few (some b) ts = omega (arith, args-few b (signature b).params ts, params-few b)

own-by-few : (k : Typing) (h : Head) (es : List (Bytes × Ty)) → Few 2 (own_by k h es)
unfolding own_by
own-by-few (constant t) h es = omega arith
own-by-few var_type h es = omega arith
own-by-few element h es = omega arith
own-by-few slice h es = omega arith
own-by-few listing h es = omega arith
own-by-few mapping h es = omega arith
own-by-few calling h es = omega (arith, call-few (lookup h.name) (tys es))
own-by-few operator h es = op-few (op (num h 0)) (nth es 0) (nth es 1)
own-by-few unary h es = omega (arith, unary-few (num h 0) (nth es 0))
own-by-few casing h es = omega arith
own-by-few membership h es = omega (arith, in-few (nth es 0) (nth es 1))
own-by-few comprehension h es = omega arith

pub own-few : (q : Rule) (h : Head) (es : List (Bytes × Ty)) → length (own q h es) ≤ 2
unfolding own
own-few silent h es = omega arith
own-few entering h es = omega arith
own-few (typed k) h es = own-by-few k h es

pub asked-few : (p : Role) (t : Ty) → length (asked p t) ≤ 1
unfolding asked
asked-few plain t = omega arith
asked-few condition t = require-few a_bool t
asked-few answer t = omega arith
asked-few (inner q) t = omega arith

-- ## The walk

-- a tree of k lines: 4 are kept for the line above
abbrev pub FewRes : Res → ℕ → Type 0
FewRes r k = length r.faults + 4 ≤ 8 * k

spread-few : (ps : List Role) {rs : List Res} {ks : List ℕ} → Pairs FewRes rs ks → length (spread ps rs) ≤ 8 * total ks
unfolding spread total
spread-few [] qs = omega arith
spread-few (p ∷ ps) no_pairs = omega arith
spread-few (p ∷ ps) (pairing {x = r} {y = k} {xs = rs} q qs) =
    omega (arith, spread-few ps qs, asked-few p r.ty, length-append r.faults (asked p r.ty ++ spread ps rs), length-append (asked p r.ty) (spread ps rs))

pub step-faults : (env : Env) (n : ℕ) (h : Head) {rs : List Res} {ks : List ℕ} → Pairs FewRes rs ks → FewRes (step env n h rs) (suc (total ks))
unfolding step
step-faults env n h {rs} {ks} qs =
    omega (arith, spread-few (roles h) qs, own-few (rule h) h (named rs), length-append (spread (roles h) rs) (own (rule h) h (named rs)))

pub walk-faults : (env : Env) (n : ℕ) (hs : List Head) → Pairs FewRes (walk env n hs) (sizes hs)
unfolding walk sizes
walk-faults env n [] = no_pairs
walk-faults env n (h ∷ hs) = let a = walk-faults env (suc n) hs in pairing (step-faults env n h (pairs-take (arity h) a)) (pairs-drop (arity h) a)

-- the lines of the faults
pub text-few : (r : Res) (k : ℕ) → FewRes r k → length (faults_text r.faults) + 512 ≤ 1024 * k
text-few r k q = omega (arith, faults-short r.faults)

text-pairs : {rs : List Res} {ks : List ℕ} → Pairs FewRes rs ks → Pairs (λ r k. length (faults_text r.faults) + 512 ≤ 1024 * k) rs ks
text-pairs no_pairs = no_pairs
text-pairs (pairing {x = r} {y = k} q qs) = pairing {x = r} {y = k} (text-few r k q) (text-pairs qs)

pub walk-texts : (env : Env) (n : ℕ) (hs : List Head) → Pairs (λ r k. length (faults_text r.faults) + 512 ≤ 1024 * k) (walk env n hs) (sizes hs)
walk-texts env n hs = text-pairs (walk-faults env n hs)

-- ## The lines of a tree

total-take : (a b n : ℕ) → n ≡ a + b → (ks : List ℕ) → total (take n ks) ≡ total (take a ks) + total (take b (drop a ks))
unfolding total
total-take zero b n e ks = let z : n ≡ b = omega arith in rw z (omega arith)
total-take (suc a) b zero e ks = absurd (omega arith)
total-take (suc a) b (suc n) e [] = go b
  where
    go : (b : ℕ) → 0 ≡ 0 + total (take b [])
    go zero = omega arith
    go (suc b) = omega arith
total-take (suc a) b (suc n) e (k ∷ ks) = omega (arith, total-take a b n (omega arith) ks)

pub all_in : {a b : List Want} → AllIn a → AllIn b → AllIn (a ++ b)
all_in none_in y = y
all_in (one_in i x) y = one_in i (all_in x y)

-- as many wants under a line as it has children
pub under-many : (w : Want) (h : Head) → Inner w → fits w (rank (place h)) ≡ true → length (under w h) ≡ arity h
unfolding arity
under-many w h i f = ap length (inner-under w h i f).0 ∙ length-map (roles h) (wanted (deeper w))

pub met-sizes : {ws : List Want} {hs ks : List Head} → AllIn ws → Met ws hs ks → total (take (length ws) (sizes hs)) + length ks ≡ length hs
unfolding total sizes
met-sizes i all_met = omega arith
met-sizes {ks = ks} (one_in i is) (meets {w = w} {ws = ws} {h = h} {hs = hs} f g m) =
    let r = met-sizes (all_in (inner-under w h i f).1 is) m in
    let l : length (under w h ++ ws) ≡ arity h + length ws = omega (arith, length-append (under w h) ws, under-many w h i f) in
    omega (arith, r, total-take (arity h) (length ws) (length (under w h ++ ws)) l (sizes hs))

pub met-size : (w : Want) (h : Head) (hs ks : List Head) → Inner w → Met (w ∷ []) (h ∷ hs) ks → get_or (sizes (h ∷ hs)) 0 0 + length ks ≡ suc (length hs)
unfolding total sizes
met-size w h hs ks i m = omega (arith, met-sizes (one_in i none_in) m)

-- ## The faults of one tree

pub tree-faults : (env : Env) (n : ℕ) (h : Head) (hs ks : List Head) (w : Want) → Inner w → Met (w ∷ []) (h ∷ hs) ks
    → let r = step env n h (take (arity h) (walk env (suc n) hs)) in
    (length (faults_text r.faults) + 512 + 1024 * length ks ≤ 1024 * suc (length hs)) × (length r.faults + 4 + 8 * length ks ≤ 8 * suc (length hs))
unfolding sizes
tree-faults env n h hs ks w i m =
    let k = suc (total (take (arity h) (sizes hs))) in
    let r = step env n h (take (arity h) (walk env (suc n) hs)) in
    let q : FewRes r k = step-faults env n h (pairs-take (arity h) (walk-faults env (suc n) hs)) in
    let e : k + length ks ≡ suc (length hs) = met-size w h hs ks i m in
    (omega (arith, text-few r k q), omega (arith, q))
