-- `unify` answers with no more levels than its operands have. Assumes nothing.
use mathlib.Core.Path.{◌≡◌, refl, subst}
use mathlib.Core.List.{List, [], ◌∷◌}
use mathlib.Core.Option.{Option, none, some}
use mathlib.Core.Bool.{◌||◌}
use Prim.Native.Nat.{ℕ, suc, zero, ◌+◌, ◌≤◌, max}
use native.Mathlib.Omega.{arith}
use Rattle.semantics.specs.Ty.{t_any, t_null, t_unknown, Ty, base, t_list, t_map, t_union, Tys, Fields, ∅ᶠ, field, members, matches, equal, nesting, set_field, get_field}
use Rattle.semantics.specs.Unify.{Answer, agreed, mismatch, Unified, gives, on_agreed, tested, on_field, extras, unify_maps, Variants, variants_with, widened, unify_union_with, Meeting, pair, arms, unify_in, unify}
use Rattle.semantics.proofs.All.{All, empty, also, all_append, either}
use Rattle.semantics.proofs.Meetings.{Met, two_numbers, two_lists, two_maps, two_nodes, two_relationships, two_unions, union_left, union_right, no_rule, met}
use Rattle.walk_run.specs.Depth.{levels, levels_f}
use Rattle.walk_run.proofs.Levels.{Low, LowF, members-low, unite-low, set-low, LowOption, get-low}

-- an answer of at most so many levels; of a mismatch nothing is asked
abbrev pub LowAnswer : ℕ → Answer → Type 0
LowAnswer m (agreed t) = Low m t
LowAnswer m (mismatch a b) = Unit {0}

abbrev LowUnified : ℕ → Unified → Type 0
LowUnified m u = LowAnswer m u.answer

-- what is asked of the inner calls
abbrev Keeps : (Ty → Ty → Unified) → Type 0
Keeps rec = (m : ℕ) (a b : Ty) → Low m a → Low m b → LowUnified m (rec a b)

tested_low : (m : ℕ) (u : Unified) → LowUnified m u → LowUnified m (tested u)
unfolding tested
tested_low m u = go u.answer u.tests
  where
    go : (a : Answer) (ts : List Ty) → LowAnswer m a → LowUnified m (tested (record { answer = a; tests = ts }))
    go (agreed t) ts h = h
    go (mismatch a b) ts h = h

agreed-low : (k m : ℕ) (u : Unified) (f : Ty → Unified) → LowUnified k u → ((t : Ty) → Low k t → LowUnified m (f t)) → LowUnified m (on_agreed u f)
unfolding on_agreed
agreed-low k m u f = go u.answer u.tests
  where
    go : (a : Answer) (ts : List Ty) → LowAnswer k a → ((t : Ty) → Low k t → LowUnified m (f t)) → LowUnified m (on_agreed (record { answer = a; tests = ts }) f)
    go (agreed t) ts h g = g t h
    go (mismatch a b) ts h g = tt

-- ## Lists

list-low : (m : ℕ) (rec : Ty → Ty → Unified) → Keeps rec → (t u : Ty) → Low m (t_list t) → Low m (t_list u) → LowUnified m (on_agreed (rec t u) (λ v. gives [] (t_list v)))
unfolding levels
list-low m rec k t u p q =
    let j = max (levels t) (levels u) in
    agreed-low j m (rec t u) (λ v. gives [] (t_list v)) (k j t u (omega arith) (omega arith)) (λ v h. omega arith)

-- ## Maps

extras-low : (m : ℕ) (fs gs es : Fields) → LowF m gs → LowF m es → LowF m (extras fs gs es)
unfolding extras levels
extras-low m fs ∅ᶠ es h d = d
extras-low m fs (field n u gs) es h d = go (get_field n fs) refl (λ xs e. extras-low m fs gs xs (omega arith) e)
  where
    go : (o : Option Ty) → get_field n fs ≡ o → ((xs : Fields) → LowF m xs → LowF m (extras fs gs xs)) → LowF m (extras fs (field n u gs) es)
    go none p k = rw (p, extras) (k (set_field n u es) (set-low m n u es (omega arith) d))
    go (some t) p k = rw (p, extras) (k es d)

field-low : (k m : ℕ) (rec : Ty → Ty → Unified) → Keeps rec → (t : Ty) (o : Option Ty) (f : Ty → Unified) → Low k t → LowOption k o → ((u : Ty) → Low k u → LowUnified m (f u)) → LowUnified m (on_field rec t o f)
field-low k m rec r t none f p q g = g t p
field-low k m rec r t (some u) f p q g = agreed-low k m (rec t u) f (r k t u p q) g

-- the values have one level less than the map
maps-low : (k : ℕ) (rec : Ty → Ty → Unified) → Keeps rec → (all gs fs es : Fields) → LowF k gs → LowF k fs → LowF k es → LowUnified (suc k) (unify_maps rec all fs gs es)
unfolding unify_maps levels
maps-low k rec r all gs ∅ᶠ es g h d = omega (arith, extras-low k all gs es g d)
maps-low k rec r all gs (field n t fs) es g h d =
    field-low k (suc k) rec r t (get_field n gs) (λ u. unify_maps rec all fs gs (set_field n u es)) (omega arith) (get-low k n gs g)
    (λ u q. maps-low k rec r all gs fs (set_field n u es) g (omega arith) (set-low k n u es q d))

answer-more : {k m : ℕ} → k ≤ m → (a : Answer) → LowAnswer k a → LowAnswer m a
answer-more l (agreed t) h = omega arith
answer-more l (mismatch a b) h = tt

map-low : (m : ℕ) (rec : Ty → Ty → Unified) → Keeps rec → (fs gs : Fields) → Low m (t_map fs) → Low m (t_map gs) → LowUnified m (unify_maps rec fs fs gs ∅ᶠ)
unfolding levels
map-low m rec r fs gs p q =
    let k = max (levels_f fs) (levels_f gs) in
    answer-more {k = suc k} (omega arith) (unify_maps rec fs fs gs ∅ᶠ).answer (maps-low k rec r fs gs fs ∅ᶠ (omega arith) (omega arith) (omega arith))

-- ## Unions

variants-low : (m : ℕ) (f : Ty → Unified) → ((v : Ty) → Low m v → LowUnified m (f v)) → {vs : List Ty} → All (Low m) vs → All (Low m) (variants_with f vs).answers
unfolding variants_with
variants-low m f k empty = empty
variants-low m f k (also {x = v} {xs = vs} h a) = go (f v).answer refl (k v h) (variants-low m f k a)
  where
    go : (r : Answer) → (f v).answer ≡ r → LowAnswer m r → All (Low m) (variants_with f vs).answers → All (Low m) (variants_with f (v ∷ vs)).answers
    go (agreed t) p q ih = rw (p, variants_with) (also q ih)
    go (mismatch x y) p q ih = rw (p, variants_with) ih

widened-low : (m : ℕ) (vs : List Ty) (other : Ty) (r : Variants) → All (Low m) vs → Low m other → All (Low m) r.answers → LowUnified m (widened vs other r)
unfolding widened
widened-low m vs other r a h = go r.answers r.tests
  where
    go : (us ts : List Ty) → All (Low m) us → LowUnified m (widened vs other (record { answers = us; tests = ts }))
    go [] ts c = unite-low m (all_append a (also h empty))
    go (t ∷ us) ts c = unite-low m c

union-low : (m : ℕ) (rec : Ty → Ty → Unified) → Keeps rec → (other : Ty) (ts : Tys) → Low m other → Low m (t_union ts) → LowUnified m (unify_union_with rec (members ts) other)
unfolding levels
union-low m rec k other ts h l =
    let a = members-low m ts l in
    widened-low m (members ts) other (variants_with (λ v. rec v other) (members ts)) a h (variants-low m (λ v. rec v other) (λ v q. k m v other q h) a)

-- ## The arms

pair-low : (m : ℕ) (rec : Ty → Ty → Unified) → Keeps rec → {a b : Ty} {e : Meeting} → Met a b e → Low m a → Low m b → LowUnified m (pair rec e)
unfolding pair levels
pair-low m rec k (two_numbers b c x y) p q = omega arith
pair-low m rec k (two_lists t u) p q = list-low m rec k t u p q
pair-low m rec k (two_maps fs gs) p q = map-low m rec k fs gs p q
pair-low m rec k (two_nodes ls ks) p q = omega arith
pair-low m rec k (two_relationships l n) p q = omega arith
pair-low m rec k (two_unions ts us) p q = union-low m rec k (t_union us) ts q p
pair-low m rec k (union_left ts u x) p q = union-low m rec k u ts q p
pair-low m rec k (union_right t us x) p q = union-low m rec k t us p q
pair-low m rec k (no_rule a b x) p q = tt

arms-low : (rec : Ty → Ty → Unified) → Keeps rec → Keeps (arms rec)
unfolding arms levels
arms-low rec k m a b p q =
    let null : Low m (base t_null) = omega arith in
    either (LowUnified m) (matches a (t_any ∷ [])) q
    (either (LowUnified m) (matches b (t_any ∷ [])) p
    (either (LowUnified m) (matches a (t_unknown ∷ []) || matches b (t_unknown ∷ [])) (omega arith)
    (either (LowUnified m) (equal a b) p
    (either (LowUnified m) (matches a (t_null ∷ [])) (unite-low m (also {x = base t_null} null (also q empty)))
    (either (LowUnified m) (matches b (t_null ∷ [])) (unite-low m (also {x = base t_null} null (also p empty))) (pair-low m rec k (met a b) p q))))))

unify-in-low : (n : ℕ) → Keeps (unify_in n)
unfolding unify_in
unify-in-low zero m a b p q = tt
unify-in-low (suc n) m a b p q = tested_low m (arms (unify_in n) a b) (arms-low (unify_in n) (unify-in-low n) m a b p q)

-- whatever `unify` answers lies as low as its operands
pub unify-low : (m : ℕ) (a b : Ty) → Low m a → Low m b → LowAnswer m (unify a b).answer
unfolding unify
unify-low m a b p q = unify-in-low (nesting a + nesting b) m a b p q

pub levels-unify : (a b t : Ty) → (unify a b).answer ≡ agreed t → levels t ≤ max (levels a) (levels b)
levels-unify a b t e = let m = max (levels a) (levels b) in subst (LowAnswer m) e (unify-low m a b (omega arith) (omega arith))
