-- `unify` answers regular types with regular types. Assumes nothing.
use mathlib.Core.Path.{◌≡◌, refl, subst}
use mathlib.Core.List.{List, [], ◌∷◌}
use mathlib.Core.Option.{Option, none, some}
use mathlib.Core.Bool.{◌||◌}
use Prim.Native.Nat.{ℕ, suc, zero, ◌+◌}
use Rattle.semantics.specs.Bytes.{Bytes, same}
use Rattle.semantics.specs.Ty.{t_any, t_null, t_unknown, Ty, t_list, t_map, t_union, Tys, Fields, ∅ᶠ, field, members, matches, equal, nesting, set_field, get_field, insert_names}
use Rattle.semantics.specs.Unify.{Answer, agreed, mismatch, Unified, gives, on_agreed, tested, on_field, extras, unify_maps, unify_label_sets, Variants, variants_with, widened, unify_union_with, Meeting, pair, arms, unify_in, unify}
use Rattle.semantics.proofs.All.{All, empty, also, all-weaken, all_append, either}
use Rattle.semantics.proofs.Meetings.{Met, two_numbers, two_lists, two_maps, two_nodes, two_relationships, two_unions, union_left, union_right, no_rule, met}
use Rattle.semantics.proofs.Regular.{AscendingLabels, names-ascend, Regular, RegularF, regular-members, unite-regular, no-entries, set-regular}

-- an answer whose types are regular
abbrev pub RegularAnswer : Answer → Type 0
RegularAnswer (agreed t) = Regular t
RegularAnswer (mismatch a b) = Regular a × Regular b

abbrev pub RegularUnified : Unified → Type 0
RegularUnified u = RegularAnswer u.answer

-- what is asked of the inner calls
abbrev Keeps : (Ty → Ty → Unified) → Type 0
Keeps rec = (a b : Ty) → Regular a → Regular b → RegularUnified (rec a b)

tested-regular : (u : Unified) → RegularUnified u → RegularUnified (tested u)
unfolding tested
tested-regular u = go u.answer u.tests
  where
    go : (a : Answer) (ts : List Ty) → RegularAnswer a → RegularUnified (tested (record { answer = a; tests = ts }))
    go (agreed t) ts h = h
    go (mismatch a b) ts h = h

agreed-regular : (u : Unified) (f : Ty → Unified) → RegularUnified u → ((t : Ty) → Regular t → RegularUnified (f t)) → RegularUnified (on_agreed u f)
unfolding on_agreed
agreed-regular u f = go u.answer u.tests
  where
    go : (a : Answer) (ts : List Ty) → RegularAnswer a → ((t : Ty) → Regular t → RegularUnified (f t)) → RegularUnified (on_agreed (record { answer = a; tests = ts }) f)
    go (agreed t) ts h k = k t h
    go (mismatch a b) ts h k = h

-- ## Maps

abbrev RegularOption : Option Ty → Type 0
RegularOption none = Unit {0}
RegularOption (some t) = Regular t

get-regular : (n : Bytes) (fs : Fields) → RegularF fs → RegularOption (get_field n fs)
unfolding get_field
get-regular n ∅ᶠ h = tt
get-regular n (field m u fs) h = either RegularOption (same n m) h.0 (get-regular n fs h.1)

extras-regular : (fs gs done : Fields) → RegularF gs → Regular (t_map done) → Regular (t_map (extras fs gs done))
unfolding extras
extras-regular fs ∅ᶠ done h d = d
extras-regular fs (field n u gs) done h d = go (get_field n fs) refl (λ es e. extras-regular fs gs es h.1 e)
  where
    go : (o : Option Ty) → get_field n fs ≡ o → ((es : Fields) → Regular (t_map es) → Regular (t_map (extras fs gs es))) → Regular (t_map (extras fs (field n u gs) done))
    go none p k = rw (p, extras) (k (set_field n u done) (set-regular n u done h.0 d))
    go (some t) p k = rw (p, extras) (k done d)

field-regular : (rec : Ty → Ty → Unified) → Keeps rec → (t : Ty) (o : Option Ty) (f : Ty → Unified) → Regular t → RegularOption o → ((u : Ty) → Regular u → RegularUnified (f u)) → RegularUnified (on_field rec t o f)
field-regular rec k t none f p q g = g t p
field-regular rec k t (some u) f p q g = agreed-regular (rec t u) f (k t u p q) g

maps-regular : (rec : Ty → Ty → Unified) → Keeps rec → (all gs fs done : Fields) → RegularF gs → RegularF fs → Regular (t_map done) → RegularUnified (unify_maps rec all fs gs done)
unfolding unify_maps
maps-regular rec k all gs ∅ᶠ done g h d = extras-regular all gs done g d
maps-regular rec k all gs (field n t fs) done g h d =
    field-regular rec k t (get_field n gs) (λ u. unify_maps rec all fs gs (set_field n u done)) h.0 (get-regular n gs g) (λ u q. maps-regular rec k all gs fs (set_field n u done) g h.1 (set-regular n u done q d))

-- ## Labels

labels-regular : (a b : Option (List Bytes)) → AscendingLabels (unify_label_sets a b)
unfolding unify_label_sets
labels-regular none b = tt
labels-regular (some a) none = tt
labels-regular (some a) (some b) = names-ascend b (insert_names a []) (names-ascend a [] tt)

-- ## Unions

union-members : (ts : Tys) → Regular (t_union ts) → All Regular (members ts)
union-members ts h = all-weaken (λ t m. m.1) (regular-members ts h.2)

variants-regular : (f : Ty → Unified) → ((v : Ty) → Regular v → RegularUnified (f v)) → {vs : List Ty} → All Regular vs → All Regular (variants_with f vs).answers
unfolding variants_with
variants-regular f k empty = empty
variants-regular f k (also {x = v} {xs = vs} h a) = go (f v).answer refl (k v h) (variants-regular f k a)
  where
    go : (r : Answer) → (f v).answer ≡ r → RegularAnswer r → All Regular (variants_with f vs).answers → All Regular (variants_with f (v ∷ vs)).answers
    go (agreed t) p q ih = rw (p, variants_with) (also q ih)
    go (mismatch x y) p q ih = rw (p, variants_with) ih

widened-regular : (vs : List Ty) (other : Ty) (r : Variants) → All Regular vs → Regular other → All Regular r.answers → RegularUnified (widened vs other r)
unfolding widened
widened-regular vs other r a h = go r.answers r.tests
  where
    go : (us ts : List Ty) → All Regular us → RegularUnified (widened vs other (record { answers = us; tests = ts }))
    go [] ts c = unite-regular (all_append a (also h empty))
    go (t ∷ us) ts c = unite-regular c

union-regular : (rec : Ty → Ty → Unified) → Keeps rec → (other : Ty) → Regular other → {vs : List Ty} → All Regular vs → RegularUnified (unify_union_with rec vs other)
union-regular rec k other h {vs} a = widened-regular vs other (variants_with (λ v. rec v other) vs) a h (variants-regular (λ v. rec v other) (λ v q. k v other q h) a)

-- ## The arms

pair-regular : (rec : Ty → Ty → Unified) → Keeps rec → {a b : Ty} {m : Meeting} → Met a b m → Regular a → Regular b → RegularUnified (pair rec m)
unfolding pair
pair-regular rec k (two_numbers b c x y) p q = tt
pair-regular rec k (two_lists t u) p q = agreed-regular (rec t u) (λ v. gives [] (t_list v)) (k t u p q) (λ v h. h)
pair-regular rec k (two_maps fs gs) p q = maps-regular rec k fs gs fs ∅ᶠ q.1 p.1 no-entries
pair-regular rec k (two_nodes ls ks) p q = labels-regular ls ks
pair-regular rec k (two_relationships m n) p q = tt
pair-regular rec k (two_unions ts us) p q = union-regular rec k (t_union us) q (union-members ts p)
pair-regular rec k (union_left ts u x) p q = union-regular rec k u q (union-members ts p)
pair-regular rec k (union_right t us x) p q = union-regular rec k t p (union-members us q)
pair-regular rec k (no_rule a b e) p q = (p, q)

arms-regular : (rec : Ty → Ty → Unified) → Keeps rec → Keeps (arms rec)
unfolding arms
arms-regular rec k a b p q =
    either RegularUnified (matches a (t_any ∷ [])) q
    (either RegularUnified (matches b (t_any ∷ [])) p
    (either RegularUnified (matches a (t_unknown ∷ []) || matches b (t_unknown ∷ [])) tt
    (either RegularUnified (equal a b) p
    (either RegularUnified (matches a (t_null ∷ [])) (unite-regular (also tt (also q empty)))
    (either RegularUnified (matches b (t_null ∷ [])) (unite-regular (also tt (also p empty))) (pair-regular rec k (met a b) p q))))))

unify-in-regular : (n : ℕ) → Keeps (unify_in n)
unfolding unify_in
unify-in-regular zero a b p q = (p, q)
unify-in-regular (suc n) a b p q = tested-regular (arms (unify_in n) a b) (arms-regular (unify_in n) (unify-in-regular n) a b p q)

-- whatever `unify` answers is regular
pub unify-answer : (a b : Ty) → Regular a → Regular b → RegularAnswer (unify a b).answer
unfolding unify
unify-answer a b p q = unify-in-regular (nesting a + nesting b) a b p q

pub unify-regular : (a b t : Ty) → Regular a → Regular b → (unify a b).answer ≡ agreed t → Regular t
unify-regular a b t p q e = subst RegularAnswer e (unify-answer a b p q)
