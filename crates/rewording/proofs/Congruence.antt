-- The walk takes alike lines to alike results, whole trees come to what they come to whatever follows, and groups of trees may be
-- exchanged under a line where its step allows it.
use mathlib.Core.Path.{◌≡◌, refl, ◌∙◌, ap, subst}
use mathlib.Core.List.{List, [], ◌∷◌, ◌++◌}
use mathlib.Core.Bool.{Bool, cond}
use Prim.Native.Nat.{ℕ, suc, zero, ◌+◌, ◌≤◌, ◌-◌}
use native.Mathlib.Omega.{arith}
use native.Mathlib.Nat.{zero-add}
use lib.ListN.{length, take, drop, length-drop}
use lib.Seq.{take-append-le, drop-append-le, take-append-add, drop-append-add}
use Rattle.semantics.specs.Sheet.{Head, Role, plain, condition, answer, inner, Rule, silent, entering, typed, rule, roles, arity}
use Rattle.semantics.specs.Walk.{Fault, Top, Res, Env, named, asked, spread, own, type_of, tops_of, tops, tops_by, all_tops, step, walk}
use Rattle.rewording.specs.Reword.{Each, no_more, more, Whole, done, grown}

-- ## Lists related item by item

module _ {A : Type 0} {R : A → A → Type 0} where
  pub each-refl : ((x : A) → R x x) → (xs : List A) → Each R xs xs
  each-refl r [] = no_more
  each-refl r (x ∷ xs) = more (r x) (each-refl r xs)

  pub each_append : {xs ys us vs : List A} → Each R xs ys → Each R us vs → Each R (xs ++ us) (ys ++ vs)
  each_append no_more q = q
  each_append (more p ps) q = more p (each_append ps q)

  pub each_take : (n : ℕ) {xs ys : List A} → Each R xs ys → Each R (take n xs) (take n ys)
  each_take zero e = no_more
  each_take (suc n) no_more = no_more
  each_take (suc n) (more p ps) = more p (each_take n ps)

  pub each-drop : (n : ℕ) {xs ys : List A} → Each R xs ys → Each R (drop n xs) (drop n ys)
  each-drop zero e = e
  each-drop (suc n) no_more = no_more
  each-drop (suc n) (more p ps) = each-drop n ps

  pub each-length : {xs ys : List A} → Each R xs ys → length xs ≡ length ys
  each-length no_more = refl
  each-length (more p ps) = ap suc (each-length ps)

-- ## Relations of fault lists that respect `++`: the same faults each as often, and the same faults

abbrev pub Rel : Type 1
Rel = List Fault → List Fault → Type 0

pub record Respects (S : Rel) : Type 0 where
  pub self : (xs : List Fault) → S xs xs
  pub join : {a b c d : List Fault} → S a b → S c d → S (a ++ c) (b ++ d)

unfoldable pub count_if : {A : Type 0} → (A → Bool) → List A → ℕ
count_if p [] = 0
count_if p (x ∷ xs) = cond (p x) 1 0 + count_if p xs

-- as many pass as of the other, for every test
abbrev pub Same : Rel
Same xs ys = (p : Fault → Bool) → count_if p xs ≡ count_if p ys

pub count-append : {A : Type 0} (p : A → Bool) (xs ys : List A) → count_if p (xs ++ ys) ≡ count_if p xs + count_if p ys
unfolding count_if
count-append p [] ys = omega arith
count-append p (x ∷ xs) ys = let e = count-append p xs ys in omega arith

pub count_none : {A : Type 0} (p : A → Bool) → count_if p [] ≡ 0
unfolding count_if
count_none p = refl

pub same_ok : Respects Same
same_ok = record { self = λ xs p. refl; join = λ e f p. simp count-append (let a = e p in let b = f p in omega arith) }

pub eq-ok : Respects (◌≡◌ {A = List Fault})
eq-ok = record { self = λ xs. refl; join = λ e f. cc }

-- ## Alike results

pub record TopLike (S : Rel) (t u : Top) : Type 0 where
  pub ty : t.ty ≡ u.ty
  pub faults : S t.faults u.faults

pub record Like (S : Rel) (r s : Res) : Type 0 where
  pub name : r.name ≡ s.name
  pub ty : r.ty ≡ s.ty
  pub faults : S r.faults s.faults
  pub tops : Each (TopLike S) r.tops s.tops

module _ {S : Rel} (ok : Respects S) where
  pub like-refl : (r : Res) → Like S r r
  like-refl r = record { name = refl; ty = refl; faults = ok.self r.faults; tops = each-refl (λ t. record { ty = refl; faults = ok.self t.faults }) r.tops }

  pub named-eq : {rs ss : List Res} → Each (Like S) rs ss → named rs ≡ named ss
  named-eq no_more = refl
  named-eq (more p ps) = let n = p.name in let t = p.ty in let e = named-eq ps in cc

  pub all-tops : {rs ss : List Res} → Each (Like S) rs ss → Each (TopLike S) (all_tops rs) (all_tops ss)
  unfolding all_tops
  all-tops no_more = no_more
  all-tops (more p ps) = each_append p.tops (all-tops ps)

  pub of_eq : {a b : List Fault} → a ≡ b → S a b
  of_eq {a} p = subst (λ x. S a x) p (ok.self a)

  pub spread-like : (ps : List Role) {rs ss : List Res} → Each (Like S) rs ss → S (spread ps rs) (spread ps ss)
  unfolding spread
  spread-like [] e = ok.self []
  spread-like (p ∷ ps) no_more = ok.self []
  spread-like (p ∷ ps) (more q qs) = ok.join q.faults (ok.join (of_eq (ap (asked p) q.ty)) (spread-like ps qs))

  tops-of-like : (p : Role) {r s : Res} → Like S r s → Each (TopLike S) (tops_of p r) (tops_of p s)
  unfolding tops_of
  tops-of-like plain q = more (record { ty = q.ty; faults = q.faults }) no_more
  tops-of-like condition q = more (record { ty = q.ty; faults = q.faults }) no_more
  tops-of-like answer q = more (record { ty = q.ty; faults = q.faults }) no_more
  tops-of-like (inner a) q = q.tops

  tops-like : (ps : List Role) {rs ss : List Res} → Each (Like S) rs ss → Each (TopLike S) (tops ps rs) (tops ps ss)
  unfolding tops
  tops-like [] e = no_more
  tops-like (p ∷ ps) no_more = no_more
  tops-like (p ∷ ps) (more q qs) = each_append (tops-of-like p q) (tops-like ps qs)

  pub tops-by-like : (q : Rule) (ps : List Role) {rs ss : List Res} → Each (Like S) rs ss → Each (TopLike S) (tops_by q ps rs) (tops_by q ps ss)
  unfolding tops_by
  tops-by-like silent ps e = tops-like ps e
  tops-by-like entering ps e = no_more
  tops-by-like (typed k) ps e = no_more

  pub step-like : (env : Env) (n m : ℕ) (h : Head) {rs ss : List Res} → Each (Like S) rs ss → Like S (step env n h rs) (step env m h ss)
  unfolding step
  step-like env n m h e =
      record {
        name = refl;
        ty = ap (type_of (rule h) env h (roles h)) (named-eq e);
        faults = ok.join (spread-like (roles h) e) (of_eq (ap (own (rule h) h) (named-eq e)));
        tops = tops-by-like (rule h) (roles h) e;
      }

  -- the same lines, counted from anywhere
  abbrev pub Alike : Env → List Head → List Head → Type 0
  Alike env x y = (n m : ℕ) → Each (Like S) (walk env n x) (walk env m y)

  pub walk-under : (env : Env) (h : Head) (x y : List Head) → Alike env x y → Alike env (h ∷ x) (h ∷ y)
  unfolding walk
  walk-under env h x y e n m = more (step-like env n m h (each_take (arity h) (e (suc n) (suc m)))) (each-drop (arity h) (e (suc n) (suc m)))

  pub walk_after : (env : Env) (pre x y : List Head) → Alike env x y → Alike env (pre ++ x) (pre ++ y)
  walk_after env [] x y e = e
  walk_after env (h ∷ pre) x y e = walk-under env h (pre ++ x) (pre ++ y) (walk_after env pre x y e)

  pub walk-self : (env : Env) (x : List Head) → Alike env x x
  unfolding walk
  walk-self env [] n m = no_more
  walk-self env (h ∷ x) n m = walk-under env h x x (walk-self env x) n m

-- ## Whole trees

pub whole_length : (env : Env) (n : ℕ) {k : ℕ} {hs : List Head} → Whole k hs → length (walk env n hs) ≡ k
unfolding walk
whole_length env n done = refl
whole_length env n (grown h {k} {hs} w) =
    let e = whole_length env (suc n) w in
    ap suc (length-drop (arity h) (walk env (suc n) hs) ∙ omega arith)

-- whole trees come to what they come to, whatever follows
pub whole-walk : (env : Env) (n : ℕ) {k : ℕ} {hs : List Head} → Whole k hs → (q : List Head)
    → walk env n (hs ++ q) ≡ walk env n hs ++ walk env (length hs + n) q
unfolding walk
whole-walk env n done q = rw zero-add
whole-walk env n (grown h {k} {hs} w) q =
    let e = whole_length env (suc n) w in
    let f = whole-walk env (suc n) w q in
    let le : arity h ≤ length (walk env (suc n) hs) = omega arith in
    let g : length hs + suc n ≡ suc (length hs) + n = omega arith in
    rw (f, take-append-le, drop-append-le, g)

-- ## Two groups x and y of trees under a line, exchanged around a group m

take5 : (l p m q r : List Res) (a z : ℕ) → a ≡ length l + (length p + (length m + (length q + z))) → take a (l ++ (p ++ (m ++ (q ++ r)))) ≡ l ++ (p ++ (m ++ (q ++ take z r)))
take5 l p m q r a z e = rw e (simp take-append-add)

drop5 : (l p m q r : List Res) (a z : ℕ) → a ≡ length l + (length p + (length m + (length q + z))) → drop a (l ++ (p ++ (m ++ (q ++ r)))) ≡ drop z r
drop5 l p m q r a z e = rw e (simp drop-append-add)

-- what the line comes to is alike with the groups exchanged
abbrev pub StepSwap : Env → Head → List Head → List Head → List Head → List Head → Type 0
StepSwap env h s x m y = (n n' i j k o i' j' k' o' : ℕ) (r r' : List Res) → Each (Like Same) r r'
    → Like Same (step env n h (walk env i s ++ (walk env j x ++ (walk env k m ++ (walk env o y ++ r)))))
    (step env n' h (walk env i' s ++ (walk env j' y ++ (walk env k' m ++ (walk env o' x ++ r')))))

pub exchange-like : (env : Env) (h : Head) (s x m y post : List Head) (a b c d : ℕ) → Whole a s → Whole b x → Whole c m → Whole d y → a + (b + (c + d)) ≤ arity h
    → StepSwap env h s x m y → Alike same_ok env (h ∷ (s ++ (x ++ (m ++ (y ++ post))))) (h ∷ (s ++ (y ++ (m ++ (x ++ post)))))
unfolding walk
exchange-like env h s x m y post a b c d u v w t le f n n' =
    let z = arity h - (a + (b + (c + d))) in
    let i = suc n in let j = length s + i in let k = length x + j in let o = length m + k in let p = length y + o in
    let i' = suc n' in let j' = length s + i' in let k' = length y + j' in let o' = length m + k' in let p' = length x + o' in
    let q = walk-self same_ok env post p p' in
    let e : arity h ≡ length (walk env i s) + (length (walk env j x) + (length (walk env k m) + (length (walk env o y) + z))) =
    rw (whole_length env i u, whole_length env j v, whole_length env k w, whole_length env o t) (omega arith) in
    let e' : arity h ≡ length (walk env i' s) + (length (walk env j' y) + (length (walk env k' m) + (length (walk env o' x) + z))) =
    rw (whole_length env i' u, whole_length env j' t, whole_length env k' w, whole_length env o' v) (omega arith) in
    rw (
      whole-walk env i u (x ++ (m ++ (y ++ post))),
      whole-walk env j v (m ++ (y ++ post)),
      whole-walk env k w (y ++ post),
      whole-walk env o t post,
      whole-walk env i' u (y ++ (m ++ (x ++ post))),
      whole-walk env j' t (m ++ (x ++ post)),
      whole-walk env k' w (x ++ post),
      whole-walk env o' v post,
    )
    (rw (
      take5 (walk env i s) (walk env j x) (walk env k m) (walk env o y) (walk env p post) (arity h) z e,
      drop5 (walk env i s) (walk env j x) (walk env k m) (walk env o y) (walk env p post) (arity h) z e,
      take5 (walk env i' s) (walk env j' y) (walk env k' m) (walk env o' x) (walk env p' post) (arity h) z e',
      drop5 (walk env i' s) (walk env j' y) (walk env k' m) (walk env o' x) (walk env p' post) (arity h) z e',
    )
    (more (f n n' i j k o i' j' k' o' (take z (walk env p post)) (take z (walk env p' post)) (each_take z q)) (each-drop z q)))
