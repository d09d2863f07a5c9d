-- How high the trees stand that meet their wants: the depth limit bounds the levels of each type. Assumes nothing.
use mathlib.Core.Path.{◌≡◌, refl}
use mathlib.Core.List.{List, [], ◌∷◌, ◌++◌, map}
use mathlib.Core.Bool.{Bool, true, false, cond, ◌&&◌}
use Prim.Native.Nat.{ℕ, suc, zero, ◌+◌, ◌-◌, ◌≤◌, ◌<◌}
use native.Mathlib.Omega.{arith}
use lib.Dec.{eqb}
use lib.ListN.{length, get_or, take, drop, length-append}
use borrow.Author.Tests.{eqb-true, eqb-false}
use Rattle.semantics.specs.Sheet.{Word, Rule, silent, entering, typed, Place, expression_place, Role, plain, condition, answer, inner, Head, rank, place, row, rule, roles, arity, bad, ok, Want, first, clauses, bindings, at, fits, beyond, deeper, wanted, under}
use Rattle.semantics.specs.Walk.{Env, step, walk}
use Rattle.semantics.proofs.Words.{every}
use Rattle.semantics.proofs.All.{All, empty, also}
use Rattle.hir.specs.Lines.{Met, all_met, meets}
use Rattle.hir.proofs.LinesLaws.{Inner, AllIn, none_in, one_in, inner-under}
use Rattle.walk_run.specs.Depth.{levels, greatest, rise, height, Pairs, no_pairs, pairing}
use Rattle.walk_run.proofs.LevelsWalk.{pairs-take, greatest-low, step-levels, walk-levels}
use Rattle.bounds.proofs.Growth.{all_in, under-many}

-- ## What a line adds to the height

rises : Rule → ℕ
rises silent = 0
rises entering = 0
rises (typed t) = 1

rise-by : (q : Rule) (k : ℕ) → rise q k ≡ k + rises q
unfolding rise rises
rise-by silent k = omega arith
rise-by entering k = omega arith
rise-by (typed t) k = omega arith

rise-place : (v : Word) (k : ℕ) → rise (row v).rule k ≤ k + cond (eqb (rank (row v).place) 13) 1 0
unfolding rises row rank
rise-place v k =
    let e : rises (row v).rule ≡ cond (eqb (rank (row v).place) 13) 1 0 = every (λ (v : Word). rises (row v).rule) (λ (v : Word). cond (eqb (rank (row v).place) 13) 1 0) refl v in
    omega (arith, rise-by (row v).rule k, e)

-- ## What the depth limit leaves

-- the height that a want allows
abbrev pub Within : Want → ℕ → Type 0
Within (first d) k = Unit {0}
Within (clauses d) k = Unit {0}
Within (bindings v d) k = Unit {0}
Within (at q e) k = k ≤ e

some_left : (e : ℕ) → (e ≡ 0 → ⊥) → 1 ≤ e
some_left zero n = absurd (n refl)
some_left (suc e) n = omega arith

-- where an expression stands a level is left
pub depth-fits : (q : Place) (e : ℕ) (h : Head) → rank q ≡ 13 → beyond (at q e) h ≡ ok h → 1 ≤ e
unfolding beyond
depth-fits q e h r g = go (eqb (rank q) 13) refl (eqb e 0) refl g
  where
    go : (b : Bool) → eqb (rank q) 13 ≡ b → (c : Bool) → eqb e 0 ≡ c → elim (b && c) [ true ↦ bad 5 | false ↦ ok h ] ≡ ok h → 1 ≤ e
    go true d true f k = absurd (let z : ◌≡◌ {A = ℕ} 0 1 = cc in omega arith)
    go true d false f k = some_left e (eqb-false e 0 f)
    go false d c f k = absurd (eqb-false (rank q) 13 d r)

-- a line where what hangs under it stands at most as high as its own wants allow
own-height : (q : Place) (e : ℕ) (h : Head) (k : ℕ) → fits (at q e) (rank (place h)) ≡ true → beyond (at q e) h ≡ ok h → k ≤ deeper (at q e) → rise (rule h) k ≤ e
unfolding fits
own-height q e h k f g l = go (eqb (rank q) 13) refl l
  where
    same : rank (place h) ≡ rank q
    same = eqb-true (rank (place h)) (rank q) f

    by : rise (rule h) k ≤ k + cond (eqb (rank q) 13) 1 0
    by = rw same at (rise-place h.word k)

    go : (b : Bool) → eqb (rank q) 13 ≡ b → k ≤ cond b (e - 1) e → rise (rule h) k ≤ e
    go true d l = let r : rise (rule h) k ≤ k + 1 = rw d at by in omega (arith, depth-fits q e h (eqb-true (rank q) 13 d) g)
    go false d l = let r : rise (rule h) k ≤ k + 0 = rw d at by in omega arith

-- ## Pairs

split-left : (a b : List Want) (n : ℕ) → n ≡ length a + length b → (ks : List ℕ) → Pairs Within (a ++ b) (take n ks) → Pairs Within a (take (length a) ks)
split-left [] b n e ks ps = no_pairs
split-left (w ∷ a) b zero e ks ps = absurd (omega arith)
split-left (w ∷ a) b (suc n) e [] ps = elim ps [ ]
split-left (w ∷ a) b (suc n) e (k ∷ ks) (pairing p ps) = pairing p (split-left a b n (omega arith) ks ps)

split-right : (a b : List Want) (n : ℕ) → n ≡ length a + length b → (ks : List ℕ) → Pairs Within (a ++ b) (take n ks) → Pairs Within b (take (length b) (drop (length a) ks))
split-right [] b n e ks ps = let z : n ≡ length b = omega arith in rw z at ps
split-right (w ∷ a) b zero e ks ps = absurd (omega arith)
split-right (w ∷ a) b (suc n) e [] ps = elim ps [ ]
split-right (w ∷ a) b (suc n) e (k ∷ ks) (pairing p ps) = split-right a b n (omega arith) ks ps

role-within : (d : ℕ) (p : Role) (k : ℕ) → Within (wanted d p) k → k ≤ d
role-within d plain k i = i
role-within d condition k i = i
role-within d answer k i = i
role-within d (inner q) k i = i

roles-within : (d : ℕ) (ps : List Role) {ks : List ℕ} → Pairs Within (map (wanted d) ps) ks → greatest ks ≤ d
unfolding greatest
roles-within d [] no_pairs = omega arith
roles-within d (p ∷ ps) (pairing {y = k} i is) = omega (arith, role-within d p k i, roles-within d ps is)

-- ## The trees

-- what hangs under a line, from all that stands behind it
under-height : (w : Want) (ws : List Want) (h : Head) (ks : List ℕ) → Inner w → fits w (rank (place h)) ≡ true → Pairs Within (under w h ++ ws) (take (length (under w h ++ ws)) ks)
    → greatest (take (arity h) ks) ≤ deeper w
under-height w ws h ks i f ps =
    let a = split-left (under w h) ws (length (under w h ++ ws)) (length-append (under w h) ws) ks ps in
    let b : Pairs Within (under w h) (take (arity h) ks) = rw (under-many w h i f) at a in
    roles-within (deeper w) (roles h) (rw (inner-under w h i f).0 at b)

beside-height : (w : Want) (ws : List Want) (h : Head) (ks : List ℕ) → Inner w → fits w (rank (place h)) ≡ true → Pairs Within (under w h ++ ws) (take (length (under w h ++ ws)) ks)
    → Pairs Within ws (take (length ws) (drop (arity h) ks))
beside-height w ws h ks i f ps =
    let a = split-right (under w h) ws (length (under w h ++ ws)) (length-append (under w h) ws) ks ps in
    rw (under-many w h i f) at a

line-within : (w : Want) (h : Head) (k : ℕ) → Inner w → fits w (rank (place h)) ≡ true → beyond w h ≡ ok h → k ≤ deeper w → Within w (rise (rule h) k)
line-within (first _) h k i f g l = elim i [ ]
line-within (clauses _) h k i f g l = elim i [ ]
line-within (bindings _ _) h k i f g l = elim i [ ]
line-within (at q e) h k i f g l = own-height q e h k f g l

-- each tree stands at most as high as its want allows
pub met-height : {ws : List Want} {hs ks : List Head} → AllIn ws → Met ws hs ks → Pairs Within ws (take (length ws) (height hs))
unfolding height
met-height i all_met = no_pairs
met-height (one_in i is) (meets {w = w} {ws = ws} {h = h} {hs = hs} f g m) =
    let r = met-height (all_in (inner-under w h i f).1 is) m in
    pairing (line-within w h (greatest (take (arity h) (height hs))) i f g (under-height w ws h (height hs) i f r)) (beside-height w ws h (height hs) i f r)

-- one tree
pub tree-height : (q : Place) (e : ℕ) (h : Head) (hs ks : List Head) → 3 < rank q → Met (at q e ∷ []) (h ∷ hs) ks → get_or (height (h ∷ hs)) 0 0 ≤ e
unfolding height
tree-height q e h hs ks i m = go (met-height (one_in i none_in) m)
  where
    go : {k : ℕ} → Pairs Within (at q e ∷ []) (k ∷ []) → k ≤ e
    go (pairing p ps) = p

-- what hangs under it
pub kids-height : (w : Want) (h : Head) (hs ks : List Head) → Inner w → Met (w ∷ []) (h ∷ hs) ks → greatest (take (arity h) (height hs)) ≤ deeper w
kids-height w h hs ks i (meets f g m) = under-height w [] h (height hs) i f (met-height (all_in (inner-under w h i f).1 none_in) m)

-- ## The types

pub tree-low : (env : Env) (n : ℕ) (q : Place) (e : ℕ) (h : Head) (hs ks : List Head) → 3 < rank q → Met (at q e ∷ []) (h ∷ hs) ks
    → levels (step env n h (take (arity h) (walk env (suc n) hs))).ty ≤ e
unfolding height
tree-low env n q e h hs ks i m = omega (arith, tree-height q e h hs ks i m, step-levels env n h (pairs-take (arity h) (walk-levels env (suc n) hs)))

-- of the children of any line
pub kids-low : (env : Env) (n : ℕ) (w : Want) (h : Head) (hs ks : List Head) → Inner w → Met (w ∷ []) (h ∷ hs) ks
    → All (λ r. levels r.ty ≤ deeper w) (take (arity h) (walk env (suc n) hs))
kids-low env n w h hs ks i m = greatest-low (deeper w) (pairs-take (arity h) (walk-levels env (suc n) hs)) (kids-height w h hs ks i m)

-- of those of an expression
pub children-low : (env : Env) (n e : ℕ) (h : Head) (hs ks : List Head) → Met (at expression_place e ∷ []) (h ∷ hs) ks
    → All (λ r. levels r.ty ≤ e - 1) (take (arity h) (walk env (suc n) hs))
unfolding rank
children-low env n e h hs ks m =
    let i : Inner (at expression_place e) = omega arith in
    greatest-low (e - 1) (pairs-take (arity h) (walk-levels env (suc n) hs)) (omega (arith, kids-height (at expression_place e) h hs ks i m))

greatest-all : (m : ℕ) (ks : List ℕ) → greatest ks ≤ m → All (λ k. k ≤ m) ks
unfolding greatest
greatest-all m [] l = empty
greatest-all m (k ∷ ks) l = also {x = k} (omega arith) (greatest-all m ks (omega arith))

-- the heights of an expression's children
pub children-height : (e : ℕ) (h : Head) (hs ks : List Head) → Met (at expression_place e ∷ []) (h ∷ hs) ks → All (λ k. k ≤ e - 1) (take (arity h) (height hs))
unfolding rank
children-height e h hs ks m =
    let i : Inner (at expression_place e) = omega arith in
    greatest-all (e - 1) (take (arity h) (height hs)) (omega (arith, kids-height (at expression_place e) h hs ks i m))
