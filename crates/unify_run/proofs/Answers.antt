-- What `unify` answers is regular and not too large: the unified type, and the two types that differ. Assumes nothing.
use mathlib.Core.Path.{◌≡◌, refl, sym, ◌∙◌, subst}
use mathlib.Core.List.{List, [], ◌∷◌}
use mathlib.Core.Option.{Option, none, some}
use mathlib.Core.Bool.{Bool, true, false, ◌||◌}
use Prim.Native.Nat.{ℕ, suc, zero, ◌+◌, ◌≤◌}
use native.Mathlib.Omega.{arith}
use Rattle.semantics.specs.Limits.{type_limit, nesting_limit}
use Rattle.semantics.specs.Bytes.{Bytes, same}
use Rattle.semantics.specs.Ty.{t_any, t_null, t_unknown, Ty, t_list, t_map, t_union, Fields, ∅ᶠ, field, members, matches, equal, nesting, nesting_f, too_large, set_field, get_field}
use Rattle.semantics.specs.Unify.{Answer, Unified, gives, on_agreed, on_field, tested, unify_maps, Variants, variants_with, widened, unify_union_with, Meeting, pair, arms, unify_in, unify}
use Rattle.semantics.specs.Calls.{any_large}
use Rattle.semantics.proofs.All.{either}
use Rattle.semantics.proofs.Meetings.{Met, two_numbers, two_lists, two_maps, two_nodes, two_relationships, two_unions, union_left, union_right, no_rule, met}
use Rattle.semantics.proofs.Regular.{Regular}
use Rattle.semantics.proofs.RegularUnify.{RegularAnswer, unify-answer}
use Rattle.unify_run.specs.Run.{Run, done, mismatch, large, answered, unless, verdict, checked, on_done}
use Rattle.unify_run.proofs.Size.{entry_sizes, map-bytes, Small, small-sound, small-true, element-inside}
use Rattle.unify_run.proofs.Verdict.{verdict-tested}
use Rattle.unify_run.proofs.UnionsMeet.{judged, judged-arms}

-- ## The two types that differ stand in the operands

abbrev SmallAnswer : Answer → Type 0
SmallAnswer (Answer.agreed t) = Unit {0}
SmallAnswer (Answer.mismatch a b) = Small a × Small b

abbrev Apart : Unified → Type 0
Apart u = SmallAnswer u.answer

abbrev Keeps : (Ty → Ty → Unified) → Type 0
Keeps rec = (a b : Ty) → Small a → Small b → Apart (rec a b)

tested-apart : (u : Unified) → Apart u → Apart (tested u)
unfolding tested
tested-apart u = go u.answer u.tests
  where
    go : (a : Answer) (ts : List Ty) → SmallAnswer a → Apart (tested (record { answer = a; tests = ts }))
    go (Answer.agreed t) ts h = tt
    go (Answer.mismatch a b) ts h = h

agreed-apart : (u : Unified) (f : Ty → Unified) → Apart u → ((t : Ty) → Apart (f t)) → Apart (on_agreed u f)
unfolding on_agreed
agreed-apart u f = go u.answer u.tests
  where
    go : (a : Answer) (ts : List Ty) → SmallAnswer a → ((t : Ty) → Apart (f t)) → Apart (on_agreed (record { answer = a; tests = ts }) f)
    go (Answer.agreed t) ts h k = k t
    go (Answer.mismatch a b) ts h k = h

-- entries whose values are not too large
abbrev SmallF : Fields → Type 0
SmallF fs = (entry_sizes fs ≤ type_limit) × (nesting_f fs ≤ nesting_limit)

small-map : (fs : Fields) → Small (t_map fs) → SmallF fs
unfolding nesting
small-map fs s = omega (arith, map-bytes fs)

abbrev SmallOption : Option Ty → Type 0
SmallOption none = Unit {0}
SmallOption (some t) = Small t

get-small : (n : Bytes) (fs : Fields) → SmallF fs → SmallOption (get_field n fs)
unfolding get_field entry_sizes nesting
get-small n ∅ᶠ s = tt
get-small n (field m u fs) s = go (same n m) (get-small n fs (omega arith))
  where
    go : (c : Bool) → SmallOption (get_field n fs) → SmallOption (elim c [ true ↦ some u | false ↦ get_field n fs ])
    go true h = omega arith
    go false h = h

field_apart : (rec : Ty → Ty → Unified) → Keeps rec → (t : Ty) (o : Option Ty) (f : Ty → Unified) → Small t → SmallOption o → ((u : Ty) → Apart (f u)) → Apart (on_field rec t o f)
field_apart rec k t none f s q g = g t
field_apart rec k t (some u) f s q g = agreed-apart (rec t u) f (k t u s q) g

maps-apart : (rec : Ty → Ty → Unified) → Keeps rec → (all gs fs d : Fields) → SmallF gs → SmallF fs → Apart (unify_maps rec all fs gs d)
unfolding unify_maps entry_sizes nesting
maps-apart rec k all gs ∅ᶠ d g s = tt
maps-apart rec k all gs (field n t fs) d g s =
    field_apart rec k t (get_field n gs) (λ u. unify_maps rec all fs gs (set_field n u d)) (omega arith) (get-small n gs g) (λ u. maps-apart rec k all gs fs (set_field n u d) g (omega arith))

-- a union always has an answer
widened-apart : (vs : List Ty) (o : Ty) (r : Variants) → Apart (widened vs o r)
unfolding widened
widened-apart vs o r = go r.answers r.tests
  where
    go : (us ts : List Ty) → Apart (widened vs o (record { answers = us; tests = ts }))
    go [] ts = tt
    go (u ∷ us) ts = tt

union-apart : (rec : Ty → Ty → Unified) (vs : List Ty) (o : Ty) → Apart (unify_union_with rec vs o)
union-apart rec vs o = widened-apart vs o (variants_with (λ v. rec v o) vs)

list-apart : (rec : Ty → Ty → Unified) → Keeps rec → (t u : Ty) → Small (t_list t) → Small (t_list u) → Apart (on_agreed (rec t u) (λ v. gives [] (t_list v)))
list-apart rec k t u p q =
    let i = element-inside t in
    let j = element-inside u in
    agreed-apart (rec t u) (λ v. gives [] (t_list v)) (k t u (omega arith) (omega arith)) (λ v. tt)

pair-apart : (rec : Ty → Ty → Unified) → Keeps rec → {a b : Ty} {m : Meeting} → Met a b m → Small a → Small b → Apart (pair rec m)
unfolding pair
pair-apart rec k (two_numbers b c x y) p q = tt
pair-apart rec k (two_lists t u) p q = list-apart rec k t u p q
pair-apart rec k (two_maps fs gs) p q = maps-apart rec k fs gs fs ∅ᶠ (small-map gs q) (small-map fs p)
pair-apart rec k (two_nodes ls ks) p q = tt
pair-apart rec k (two_relationships m n) p q = tt
pair-apart rec k (two_unions ts us) p q = union-apart rec (members ts) (t_union us)
pair-apart rec k (union_left ts u x) p q = union-apart rec (members ts) u
pair-apart rec k (union_right t us x) p q = union-apart rec (members us) t
pair-apart rec k (no_rule a b e) p q = (p, q)

arms-apart : (rec : Ty → Ty → Unified) → Keeps rec → Keeps (arms rec)
unfolding arms
arms-apart rec k a b p q =
    either Apart (matches a (t_any ∷ [])) tt
    (either Apart (matches b (t_any ∷ [])) tt
    (either Apart (matches a (t_unknown ∷ []) || matches b (t_unknown ∷ [])) tt
    (either Apart (equal a b) tt (either Apart (matches a (t_null ∷ [])) tt (either Apart (matches b (t_null ∷ [])) tt (pair-apart rec k (met a b) p q))))))

unify-in-apart : (n : ℕ) → Keeps (unify_in n)
unfolding unify_in
unify-in-apart zero a b p q = (p, q)
unify-in-apart (suc n) a b p q = tested-apart (arms (unify_in n) a b) (arms-apart (unify_in n) (unify-in-apart n) a b p q)

-- ## The whole answer

-- a type that can stand in the work area
abbrev pub Fine : Ty → Type 0
Fine t = Regular t × (too_large t ≡ false)

abbrev pub FineRun : Run → Type 0
FineRun (done t) = Fine t
FineRun (mismatch a b) = Fine a × Fine b
FineRun large = Unit {0}

-- the answer of a verdict
abbrev OfAnswer : (Answer → Type 0) → Run → Type 0
OfAnswer P (done t) = P (Answer.agreed t)
OfAnswer P (mismatch a b) = P (Answer.mismatch a b)
OfAnswer P large = Unit {0}

of-answer : (P : Answer → Type 0) (u : Unified) → P u.answer → OfAnswer P (verdict u)
unfolding verdict
of-answer P u h = go (any_large u.tests) u.answer h
  where
    go : (c : Bool) (a : Answer) → P a → OfAnswer P (unless c (answered a))
    go true a p = tt
    go false (Answer.agreed t) p = p
    go false (Answer.mismatch a b) p = p

abbrev Sized : Run → Type 0
Sized (done t) = too_large t ≡ false
Sized (mismatch a b) = Unit {0}
Sized large = Unit {0}

checked-sized : (r : Run) → Sized (on_done r checked)
checked-sized (done t) = unfold checked in go (too_large t) refl
  where
    go : (c : Bool) → too_large t ≡ c → Sized (unless c (done t))
    go true p = tt
    go false p = p
checked-sized (mismatch a b) = tt
checked-sized large = tt

unify-sized : (a b : Ty) → Sized (judged a b)
unify-sized a b = subst Sized (sym (judged-arms a b ∙ verdict-tested (arms unify a b))) (checked-sized (verdict (arms unify a b)))

pub unify-fine : (a b : Ty) → Fine a → Fine b → FineRun (verdict (unify a b))
unify-fine a b p q =
    go (verdict (unify a b)) (unify-sized a b) (of-answer RegularAnswer (unify a b) (unify-answer a b p.0 q.0))
    (of-answer SmallAnswer (unify a b) (unfold unify in unify-in-apart (nesting a + nesting b) a b (small-sound a p.1) (small-sound b q.1)))
  where
    go : (r : Run) → Sized r → OfAnswer RegularAnswer r → OfAnswer SmallAnswer r → FineRun r
    go (done t) s h m = (h, s)
    go (mismatch x y) s h m = ((h.0, small-true x m.0), (h.1, small-true y m.1))
    go large s h m = tt
