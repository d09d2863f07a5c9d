-- Variables renumbered one to one, the `b` lines put back in ascending order: the same top expressions.
use mathlib.Core.Path.{◌≡◌, refl, sym, ◌∙◌, ap}
use mathlib.Core.List.{List, [], ◌∷◌, ◌++◌, map as map_l, Memᴰ}
use mathlib.Core.Option.{Option, none, some}
use mathlib.Core.Bool.{Bool, true, false}
use Prim.Native.Nat.{ℕ, suc, ◌<◌}
use native.Mathlib.Omega.{arith}
use lib.Dec.{eqb, ltb}
use borrow.Author.Tests.{eqb-true, eqb-false, eq-eqb, ne_eqb, ltb-true}
use Rattle.semantics.specs.Bytes.{Bytes}
use Rattle.semantics.specs.Ty.{Ty}
use Rattle.semantics.specs.Sheet.{Head, num, Role, Typing, constant, var_type, element, slice, listing, mapping, calling, operator, unary, casing, membership, comprehension, Rule, silent, entering, typed, row, rank, place, rule, roles, arity}
use Rattle.semantics.specs.Walk.{Env, kind_type, var_type_in, var_type_of, Res, named, type_by, type_of, own_by, own, step, walk, binds, bound_by, bound, env_of, results, tops, tops_by, all_tops, typing}
use Rattle.rewording.specs.Reword.{renumber_optional, renumbered, with_variable, variables, OneToOne, binding_line, insert_binding, in_ascending_order, renumbered_binding, with_bindings, Each, no_more, more}
use Rattle.rewording.proofs.Congruence.{each_take, each-drop, Rel, Respects, TopLike, Like, named-eq, all-tops, of_eq, spread-like, tops-by-like}

abbrev Bindings : Type 0
Bindings = List (ℕ × ℕ)

-- ## What bindings say of a variable

type-hit : (v : ℕ) (x : ℕ × ℕ) (xs : Bindings) → eqb v x.0 ≡ true → var_type_in v (x ∷ xs) ≡ kind_type x.1
unfolding var_type_in
type-hit v x xs e = rw (e, var_type_in)

type-miss : (v : ℕ) (x : ℕ × ℕ) (xs : Bindings) → eqb v x.0 ≡ false → var_type_in v (x ∷ xs) ≡ var_type_in v xs
unfolding var_type_in
type-miss v x xs e = rw (e, var_type_in)

type-under : (v : ℕ) (x : ℕ × ℕ) (xs ys : Bindings) → var_type_in v xs ≡ var_type_in v ys → var_type_in v (x ∷ xs) ≡ var_type_in v (x ∷ ys)
type-under v x xs ys e = go (eqb v x.0) refl
  where
    go : (b : Bool) → eqb v x.0 ≡ b → var_type_in v (x ∷ xs) ≡ var_type_in v (x ∷ ys)
    go true h = rw (type-hit v x xs h, type-hit v x ys h)
    go false h = rw (type-miss v x xs h, type-miss v x ys h) e

-- a binding behind one of a smaller variable
type-swap : (v : ℕ) (b c : ℕ × ℕ) (cs : Bindings) → c.0 < b.0 → var_type_in v (c ∷ b ∷ cs) ≡ var_type_in v (b ∷ c ∷ cs)
type-swap v b c cs lt = go (eqb v b.0) (eqb v c.0) refl refl
  where
    go : (x y : Bool) → eqb v b.0 ≡ x → eqb v c.0 ≡ y → var_type_in v (c ∷ b ∷ cs) ≡ var_type_in v (b ∷ c ∷ cs)
    go true true h k = absurd (omega (arith, eqb-true v b.0 h, eqb-true v c.0 k))
    go true false h k = rw (type-miss v c (b ∷ cs) k, type-hit v b cs h, type-hit v b (c ∷ cs) h)
    go false true h k = rw (type-hit v c (b ∷ cs) k, type-miss v b (c ∷ cs) h, type-hit v c cs k)
    go false false h k = rw (type-miss v c (b ∷ cs) k, type-miss v b cs h, type-miss v b (c ∷ cs) h, type-miss v c cs k)

insert-before : (b c : ℕ × ℕ) (cs : Bindings) → ltb c.0 b.0 ≡ true → insert_binding b (c ∷ cs) ≡ c ∷ insert_binding b cs
unfolding insert_binding
insert-before b c cs e = rw (e, insert_binding)

insert-here : (b c : ℕ × ℕ) (cs : Bindings) → ltb c.0 b.0 ≡ false → insert_binding b (c ∷ cs) ≡ b ∷ c ∷ cs
unfolding insert_binding
insert-here b c cs e = rw (e, insert_binding)

type-insert : (v : ℕ) (b : ℕ × ℕ) (cs : Bindings) → var_type_in v (insert_binding b cs) ≡ var_type_in v (b ∷ cs)
type-insert v b [] = unfold insert_binding in refl
type-insert v b (c ∷ cs) = go (type-insert v b cs) (ltb c.0 b.0) refl
  where
    go : var_type_in v (insert_binding b cs) ≡ var_type_in v (b ∷ cs) → (x : Bool) → ltb c.0 b.0 ≡ x → var_type_in v (insert_binding b (c ∷ cs)) ≡ var_type_in v (b ∷ c ∷ cs)
    go ih true h = rw (insert-before b c cs h) (type-under v c (insert_binding b cs) (b ∷ cs) ih ∙ type-swap v b c cs (ltb-true c.0 b.0 h))
    go ih false h = rw (insert-here b c cs h)

type-sorted : (v : ℕ) (bs : Bindings) → var_type_in v (in_ascending_order bs) ≡ var_type_in v bs
unfolding in_ascending_order
type-sorted v [] = refl
type-sorted v (b ∷ bs) = type-insert v b (in_ascending_order bs) ∙ type-under v b (in_ascending_order bs) bs (type-sorted v bs)

type-renumbered : (f : ℕ → ℕ) (v : ℕ) (bs : Bindings) → ((x : ℕ × ℕ) → Memᴰ x bs → f v ≡ f x.0 → v ≡ x.0) → var_type_in (f v) (map_l (renumbered_binding f) bs) ≡ var_type_in v bs
type-renumbered f v [] d = unfold var_type_in in refl
type-renumbered f v (x ∷ bs) d = go (type-renumbered f v bs (λ y i. d y (Memᴰ.tail i))) (eqb v x.0) refl
  where
    go : var_type_in (f v) (map_l (renumbered_binding f) bs) ≡ var_type_in v bs → (b : Bool) → eqb v x.0 ≡ b → var_type_in (f v) (map_l (renumbered_binding f) (x ∷ bs)) ≡ var_type_in v (x ∷ bs)
    go ih true h = rw (type-hit v x bs h, type-hit (f v) (renumbered_binding f x) (map_l (renumbered_binding f) bs) (eq-eqb (f v) (f x.0) (ap f (eqb-true v x.0 h))))
    go ih false h = rw (type-miss v x bs h, type-miss (f v) (renumbered_binding f x) (map_l (renumbered_binding f) bs) (ne_eqb (f v) (f x.0) (λ e. eqb-false v x.0 h (d x (Memᴰ.head refl) e)))) ih

-- ## One line

-- two environments say the same of the variables vs, renumbered
abbrev SayAlike : (ℕ → ℕ) → Env → Env → List ℕ → Type 0
SayAlike f env env' vs = (v : ℕ) → Memᴰ v vs → var_type_in v env.bindings ≡ var_type_in (f v) env'.bindings

var-renumbered : (f : ℕ → ℕ) (env env' : Env) (v : Option ℕ) (vs : List ℕ) → SayAlike f env env' (with_variable v vs) → var_type_of v env ≡ var_type_of (renumber_optional f v) env'
unfolding var_type_of with_variable
var-renumbered f env env' none vs k = refl
var-renumbered f env env' (some v) vs k = k v (Memᴰ.head refl)

module _ (f : ℕ → ℕ) (env env' : Env) (h : Head) where
  by-renumbered : (t : Typing) (ps : List Role) (es : List (Bytes × Ty)) (vs : List ℕ) → SayAlike f env env' (with_variable h.var vs) → type_by t env h ps es ≡ type_by t env' (renumbered f h) ps es
  unfolding type_by
  by-renumbered (constant t) ps es vs k = refl
  by-renumbered var_type ps es vs k = var-renumbered f env env' h.var vs k
  by-renumbered element ps es vs k = refl
  by-renumbered slice ps es vs k = refl
  by-renumbered listing ps es vs k = refl
  by-renumbered mapping ps es vs k = refl
  by-renumbered calling ps es vs k = refl
  by-renumbered operator ps es vs k = refl
  by-renumbered unary ps es vs k = refl
  by-renumbered casing ps es vs k = refl
  by-renumbered membership ps es vs k = refl
  by-renumbered comprehension ps es vs k = refl

  of-renumbered : (q : Rule) (ps : List Role) (es : List (Bytes × Ty)) (vs : List ℕ) → SayAlike f env env' (with_variable h.var vs) → type_of q env h ps es ≡ type_of q env' (renumbered f h) ps es
  unfolding type_of
  of-renumbered silent ps es vs k = refl
  of-renumbered entering ps es vs k = refl
  of-renumbered (typed t) ps es vs k = by-renumbered t ps es vs k

own-by-renumbered : (f : ℕ → ℕ) (t : Typing) (h : Head) (es : List (Bytes × Ty)) → own_by t h es ≡ own_by t (renumbered f h) es
unfolding own_by
own-by-renumbered f (constant t) h es = refl
own-by-renumbered f var_type h es = refl
own-by-renumbered f element h es = refl
own-by-renumbered f slice h es = refl
own-by-renumbered f listing h es = refl
own-by-renumbered f mapping h es = refl
own-by-renumbered f calling h es = refl
own-by-renumbered f operator h es = refl
own-by-renumbered f unary h es = refl
own-by-renumbered f casing h es = refl
own-by-renumbered f membership h es = refl
own-by-renumbered f comprehension h es = refl

own-renumbered : (f : ℕ → ℕ) (q : Rule) (h : Head) (es : List (Bytes × Ty)) → own q h es ≡ own q (renumbered f h) es
unfolding own
own-renumbered f silent h es = refl
own-renumbered f entering h es = refl
own-renumbered f (typed t) h es = own-by-renumbered f t h es

-- ## All lines

variables-tail : {v : ℕ} (o : Option ℕ) (vs : List ℕ) → Memᴰ v vs → Memᴰ v (with_variable o vs)
unfolding with_variable
variables-tail none vs i = i
variables-tail (some w) vs i = Memᴰ.tail i

module _ {S : Rel} (ok : Respects S) (f : ℕ → ℕ) (env env' : Env) where
  step-renumbered : (n m : ℕ) (h : Head) (vs : List ℕ) {rs ss : List Res} → SayAlike f env env' (with_variable h.var vs) → Each (Like S) rs ss
      → Like S (step env n h rs) (step env' m (renumbered f h) ss)
  unfolding step roles
  step-renumbered n m h vs {rs} {ss} k e =
      record {
        name = refl;
        ty = ap (type_of (rule h) env h (roles h)) (named-eq ok e) ∙ of-renumbered f env env' h (rule h) (roles h) (named ss) vs k;
        faults = ok.join (spread-like ok (roles h) e) (of_eq ok (ap (own (rule h) h) (named-eq ok e) ∙ own-renumbered f (rule h) h (named ss)));
        tops = tops-by-like ok (rule h) (roles h) e;
      }

  walk-renumbered : (hs : List Head) → SayAlike f env env' (variables hs) → (n m : ℕ) → Each (Like S) (walk env n hs) (walk env' m (map_l (renumbered f) hs))
  unfolding walk variables arity roles
  walk-renumbered [] k n m = no_more
  walk-renumbered (h ∷ hs) k n m =
      let e = walk-renumbered hs (λ v i. k v (variables-tail h.var (variables hs) i)) (suc n) (suc m) in
      more (step-renumbered n m h (variables hs) k (each_take (arity h) e)) (each-drop (arity h) e)

-- ## The first line and the `b` lines

-- they come to no top expression
front-tops : (env : Env) (bs : Bindings) (body : List Head) (n : ℕ) → (m : ℕ) × (all_tops (walk env n (map_l binding_line bs ++ body)) ≡ all_tops (walk env m body))
unfolding walk step arity roles row tops tops_by all_tops
front-tops env [] body n = (n, refl)
front-tops env (b ∷ bs) body n = front-tops env bs body (suc n)

front-bound : (bs : Bindings) (body : List Head) → bound body ≡ [] → bound (with_bindings bs body) ≡ bs
unfolding bound bound_by binds row rank
front-bound [] body e = e
front-bound (b ∷ bs) body e = ap (λ z. b ∷ z) (front-bound bs body e)

at_first : (p : ℕ) → eqb p 0 ≡ true → (w : Option ℕ) (k : ℕ) (c : Bindings) → bound_by p w k c ≡ c
unfolding bound_by
at_first p x w k c = rw (x, bound_by)

at-binding : (p : ℕ) → eqb p 0 ≡ false → eqb p 1 ≡ true → (w : Option ℕ) (k : ℕ) (c : Bindings) → bound_by p w k c ≡ binds w k c
unfolding bound_by
at-binding p x y w k c = rw (x, y, bound_by)

at_other : (p : ℕ) → eqb p 0 ≡ false → eqb p 1 ≡ false → (w : Option ℕ) (k : ℕ) (c : Bindings) → bound_by p w k c ≡ []
unfolding bound_by
at_other p x y w k c = rw (x, y, bound_by)

no_binding : (p : ℕ) (f : ℕ → ℕ) (v : Option ℕ) (k : ℕ) (a b : Bindings) → (a ≡ [] → b ≡ []) → bound_by p v k a ≡ [] → bound_by p (renumber_optional f v) k b ≡ []
unfolding binds
no_binding p f v k a b ih e = go (eqb p 0) (eqb p 1) refl refl
  where
    bind : (w : Option ℕ) → binds w k a ≡ [] → binds (renumber_optional f w) k b ≡ []
    bind none d = ih d
    bind (some u) d = let z : ◌≡◌ {A = ℕ} 0 1 = cc in absurd (omega arith)

    go : (x y : Bool) → eqb p 0 ≡ x → eqb p 1 ≡ y → bound_by p (renumber_optional f v) k b ≡ []
    go true y x₀ y₀ = at_first p x₀ (renumber_optional f v) k b ∙ ih (sym (at_first p x₀ v k a) ∙ e)
    go false true x₀ y₀ = at-binding p x₀ y₀ (renumber_optional f v) k b ∙ bind v (sym (at-binding p x₀ y₀ v k a) ∙ e)
    go false false x₀ y₀ = at_other p x₀ y₀ (renumber_optional f v) k b

bound-renumbered : (f : ℕ → ℕ) (body : List Head) → bound body ≡ [] → bound (map_l (renumbered f) body) ≡ []
unfolding bound
bound-renumbered f [] e = refl
bound-renumbered f (h ∷ hs) e = no_binding (rank (place h)) f h.var (num h 0) (bound hs) (bound (map_l (renumbered f) hs)) (bound-renumbered f hs) e

variables-body : {v : ℕ} (bs : Bindings) (body : List Head) → Memᴰ v (variables body) → Memᴰ v (variables (map_l binding_line bs ++ body))
unfolding variables with_variable
variables-body [] body m = m
variables-body (b ∷ bs) body m = Memᴰ.tail (variables-body bs body m)

variables-bound : {x : ℕ × ℕ} {bs : Bindings} (body : List Head) → Memᴰ x bs → Memᴰ x.0 (variables (map_l binding_line bs ++ body))
unfolding variables with_variable
variables-bound body (Memᴰ.head e) = Memᴰ.head (ap (λ (z : ℕ × ℕ). z.0) e)
variables-bound body (Memᴰ.tail m) = Memᴰ.tail (variables-bound body m)

pub renumber-agrees : {S : Rel} (ok : Respects S) (f : ℕ → ℕ) (bs : Bindings) (body : List Head) → bound body ≡ [] → OneToOne f (variables (with_bindings bs body))
    → Each (TopLike S) (typing (with_bindings bs body)) (typing (with_bindings (in_ascending_order (map_l (renumbered_binding f) bs)) (map_l (renumbered f) body)))
unfolding typing results walk step arity roles row tops tops_by all_tops variables with_variable
renumber-agrees ok f bs body e inj =
    let cs = in_ascending_order (map_l (renumbered_binding f) bs) in
    let env : Env = env_of (with_bindings bs body) in
    let env' : Env = env_of (with_bindings cs (map_l (renumbered f) body)) in
    let (n, p) = front-tops env bs body 2 in
    let (m, q) = front-tops env' cs (map_l (renumbered f) body) 2 in
    rw (p, q)
    (all-tops ok (walk-renumbered ok f env env' body
    (λ v i. rw (front-bound bs body e, front-bound cs (map_l (renumbered f) body) (bound-renumbered f body e)) (sym (type-sorted (f v) (map_l (renumbered_binding f) bs) ∙ type-renumbered f v bs (λ x k h. inj v x.0 (variables-body bs body i) (variables-bound body k) h)))) n m))
