-- The bound on the calls of `unify_in` never bites: `unify` is its arms with itself inside. Assumes nothing.
use mathlib.Core.Path.{◌≡◌, refl, ◌∙◌, ap, ap₂, fun_ext}
use mathlib.Core.List.{[], ◌∷◌}
use mathlib.Core.Option.{Option, none, some}
use mathlib.Core.Bool.{Bool, true, false, ◌||◌}
use Prim.Native.Nat.{ℕ, suc, zero, ◌+◌, ◌≤◌, ◌<◌}
use native.Mathlib.Nat.{le_refl}
use native.Mathlib.Omega.{arith}
use Rattle.semantics.specs.Bytes.{Bytes, same}
use Rattle.semantics.specs.Ty.{t_any, t_null, t_unknown, Ty, base, t_list, t_map, t_node, t_relationship, t_union, Tys, ∅, ◌⊕◌, Fields, ∅ᶠ, field, members, matches, equal, nesting, nesting_s, nesting_f, set_field, get_field}
use Rattle.semantics.specs.Unify.{Unified, gives, unites, on_agreed, on_field, tested, unify_maps, variants_with, widened, unify_union_with, Meeting, pair, arms, unify_in, unify}
use Rattle.semantics.proofs.Meetings.{Met, two_numbers, two_lists, two_maps, two_nodes, two_relationships, two_unions, union_left, union_right, no_rule, met}

-- ## Two functions that agree below a bound on the nesting of both arguments

abbrev pub Below : ℕ → (f g : Ty → Ty → Unified) → Type 0
Below k f g = (a b : Ty) → nesting a + nesting b < k → f a b ≡ g a b

-- a field's type nests no deeper than the fields
abbrev Within : ℕ → Option Ty → Type 0
Within k none = Unit {0}
Within k (some u) = nesting u ≤ k

get-within : (k : ℕ) (n : Bytes) (gs : Fields) → nesting_f gs ≤ k → Within k (get_field n gs)
unfolding get_field nesting
get-within k n ∅ᶠ l = tt
get-within k n (field m v gs) l = go (same n m) (get-within k n gs (omega arith))
  where
    go : (c : Bool) → Within k (get_field n gs) → Within k (elim c [ true ↦ some v | false ↦ get_field n gs ])
    go true w = omega arith
    go false w = w

module _ (k : ℕ) (f g : Ty → Ty → Unified) (h : Below k f g) where
  variants-cong : (b : Ty) (ts : Tys) → nesting_s ts + nesting b < k → variants_with (λ v. f v b) (members ts) ≡ variants_with (λ v. g v b) (members ts)
  unfolding variants_with members nesting
  variants-cong b ∅ l = refl
  variants-cong b (t ⊕ ts) l = rw (h t b (omega arith), variants-cong b ts (omega arith))

  union-cong : (b : Ty) (ts : Tys) → nesting_s ts + nesting b < k → unify_union_with f (members ts) b ≡ unify_union_with g (members ts) b
  union-cong b ts l = ap (widened (members ts) b) (variants-cong b ts l)

  field-cong : (j : ℕ) (t : Ty) (u : Option Ty) {p q : Ty → Unified} → nesting t + j < k → Within j u → ((v : Ty) → p v ≡ q v) → on_field f t u p ≡ on_field g t u q
  field-cong j t none l w e = e t
  field-cong j t (some u) l w e = ap₂ on_agreed (h t u (omega arith)) (fun_ext e)

  maps-cong : (all fs gs done : Fields) → nesting_f fs + nesting_f gs < k → unify_maps f all fs gs done ≡ unify_maps g all fs gs done
  unfolding unify_maps nesting
  maps-cong all ∅ᶠ gs done l = refl
  maps-cong all (field n t fs) gs done l =
      field-cong (nesting_f gs) t (get_field n gs) (omega arith) (get-within (nesting_f gs) n gs (le_refl (nesting_f gs))) (λ u. maps-cong all fs gs (set_field n u done) (omega arith))

  pair-cong : {a b : Ty} {m : Meeting} → Met a b m → nesting a + nesting b ≤ k → pair f m ≡ pair g m
  unfolding pair nesting
  pair-cong (two_numbers c d p q) l = refl
  pair-cong (two_lists t u) l = ap (λ z. on_agreed z (λ v. gives [] (t_list v))) (h t u (omega arith))
  pair-cong (two_maps fs gs) l = maps-cong fs fs gs ∅ᶠ (omega arith)
  pair-cong (two_nodes ls ks) l = refl
  pair-cong (two_relationships m n) l = refl
  pair-cong (two_unions ts us) l = union-cong (t_union us) ts (omega arith)
  pair-cong (union_left ts u p) l = union-cong u ts (omega arith)
  pair-cong (union_right t us p) l = union-cong t us (omega arith)
  pair-cong (no_rule c d e) l = refl

else : {A : Type 0} (c : Bool) (x : A) {y z : A} → y ≡ z → ◌≡◌ {A = A} (elim c [ true ↦ x | false ↦ y ]) (elim c [ true ↦ x | false ↦ z ])
else true x e = refl
else false x e = e

pub arms-cong : (f g : Ty → Ty → Unified) (a b : Ty) → Below (nesting a + nesting b) f g → arms f a b ≡ arms g a b
unfolding arms
arms-cong f g a b h =
    let inner = pair-cong (nesting a + nesting b) f g h (met a b) (le_refl (nesting a + nesting b)) in
    let null-right = else (matches b (t_null ∷ [])) (unites [] (base t_null ∷ a ∷ [])) inner in
    let null-left = else (matches a (t_null ∷ [])) (unites [] (base t_null ∷ b ∷ [])) null-right in
    let unknown = else (matches a (t_unknown ∷ []) || matches b (t_unknown ∷ [])) (gives [] (base t_unknown)) (else (equal a b) (gives [] a) null-left) in
    else (matches a (t_any ∷ [])) (gives [] b) (else (matches b (t_any ∷ [])) (gives [] a) unknown)

-- ## The bound

nests : (t : Ty) → 1 ≤ nesting t
unfolding nesting
nests (base b) = omega arith
nests (t_list t) = omega arith
nests (t_map fs) = omega arith
nests (t_node ls) = omega arith
nests (t_relationship n) = omega arith
nests (t_union ts) = omega arith

-- a bound of at least the nesting of both is enough
pub fuel-enough : (k m : ℕ) (a b : Ty) → nesting a + nesting b ≤ k → nesting a + nesting b ≤ m → unify_in k a b ≡ unify_in m a b
unfolding unify_in
fuel-enough zero m a b p q = absurd (omega (arith, nests a))
fuel-enough (suc k) zero a b p q = absurd (omega (arith, nests a))
fuel-enough (suc k) (suc m) a b p q = ap tested (arms-cong (unify_in k) (unify_in m) a b (λ c d l. fuel-enough k m c d (omega arith) (omega arith)))

-- `unify` is the recursion with no bound
pub unify-arms : (a b : Ty) → unify a b ≡ tested (arms unify a b)
unfolding unify unify_in
unify-arms a b =
    let n = nesting a + nesting b in
    fuel-enough n (suc n) a b (le_refl n) (omega arith)
    ∙ ap tested (arms-cong (unify_in n) unify a b (λ c d l. fuel-enough n (nesting c + nesting d) c d (omega arith) (le_refl (nesting c + nesting d))))
