-- Two arms of a CASE exchanged, and two entries of a map literal whose names all differ: the same type, the same faults each as often.
use mathlib.Core.Path.{◌≡◌, refl, sym, ◌∙◌, ap, ap₂}
use mathlib.Core.List.Memᴰ
use mathlib.Core.List.{List, [], ◌∷◌, ◌++◌, map as map_l, append_assoc, Memᴰ}
use mathlib.Core.Option.{none}
use mathlib.Core.Bool.{cond}
use Prim.Native.Nat.{ℕ, suc, zero, ◌+◌, ◌*◌, ◌≤◌, ◌<◌, ◌-◌}
use native.Mathlib.Omega.{arith}
use lib.ListN.{length, take, length-append, replicate, drop_of_length-le, length-replicate, replicate-append-replicate}
use lib.Dec.{eqb}
use Rattle.semantics.specs.Bytes.{Bytes}
use Rattle.semantics.specs.Ty.{Ty, unite, Fields, ∅ᶠ, t_map, set_field}
use Rattle.semantics.specs.Sheet.{case_word, map_word, key_word, Head, entry_place, Role, plain, condition, answer, inner, low, high, present, arm_roles, row, roles, arity}
use Rattle.semantics.specs.Walk.{Res, Env, answers, mapped, named, tys, spread, type_by, type_of, own_by, own, tops_by, label, step, walk}
use Rattle.semantics.proofs.Order.{unite-exchange, set-swap}
use Rattle.rewording.specs.Reword.{mk, Whole, done, grown, Entries, no_entry, entry, Distinct, Each, no_more}
use Rattle.rewording.proofs.Congruence.{each-length, Like, Same, count-append, same_ok, named-eq, spread-like, walk-self, whole_length, whole-walk, StepSwap}

-- ## Roles in parts

spread-append : (ps qs : List Role) (l r : List Res) → length ps ≡ length l → spread (ps ++ qs) (l ++ r) ≡ spread ps l ++ spread qs r
unfolding spread
spread-append [] qs [] r e = refl
spread-append [] qs (x ∷ l) r e = absurd (omega arith)
spread-append (p ∷ ps) qs [] r e = absurd (omega arith)
spread-append (p ∷ ps) qs (x ∷ l) r e = let f : length ps ≡ length l = omega arith in rw (spread-append ps qs l r f) (simp append_assoc)

answers-append : (ps qs : List Role) (l r : List Res) → length ps ≡ length l → answers (ps ++ qs) (tys (named (l ++ r))) ≡ answers ps (tys (named l)) ++ answers qs (tys (named r))
unfolding answers
answers-append [] qs [] r e = refl
answers-append [] qs (x ∷ l) r e = absurd (omega arith)
answers-append (p ∷ ps) qs [] r e = absurd (omega arith)
answers-append (p ∷ ps) qs (x ∷ l) r e =
    let f : length ps ≡ length l = omega arith in
    let i = answers-append ps qs l r f in
    elim p as (λ p. answers (p ∷ (ps ++ qs)) (x.ty ∷ tys (named (l ++ r))) ≡ answers (p ∷ ps) (x.ty ∷ tys (named l)) ++ answers qs (tys (named r)))
    [ plain ↦ i | condition ↦ i | answer ↦ ap (λ z. x.ty ∷ z) i | inner q ↦ i ]

-- five groups of results under five groups of roles
spread5 : (a b c d e : List Role) (l p m q r : List Res) → length a ≡ length l → length b ≡ length p → length c ≡ length m → length d ≡ length q
    → spread (a ++ (b ++ (c ++ (d ++ e)))) (l ++ (p ++ (m ++ (q ++ r)))) ≡ spread a l ++ (spread b p ++ (spread c m ++ (spread d q ++ spread e r)))
spread5 a b c d e l p m q r hl hp hm hq =
    rw (spread-append a (b ++ (c ++ (d ++ e))) l (p ++ (m ++ (q ++ r))) hl, spread-append b (c ++ (d ++ e)) p (m ++ (q ++ r)) hp, spread-append c (d ++ e) m (q ++ r) hm, spread-append d e q r hq)

answers5 : (a b c d e : List Role) (l p m q r : List Res) → length a ≡ length l → length b ≡ length p → length c ≡ length m → length d ≡ length q
    → answers (a ++ (b ++ (c ++ (d ++ e)))) (tys (named (l ++ (p ++ (m ++ (q ++ r))))))
    ≡ answers a (tys (named l)) ++ (answers b (tys (named p)) ++ (answers c (tys (named m)) ++ (answers d (tys (named q)) ++ answers e (tys (named r)))))
answers5 a b c d e l p m q r hl hp hm hq =
    rw (answers-append a (b ++ (c ++ (d ++ e))) l (p ++ (m ++ (q ++ r))) hl, answers-append b (c ++ (d ++ e)) p (m ++ (q ++ r)) hp, answers-append c (d ++ e) m (q ++ r) hm, answers-append d e q r hq)

-- the second and the fourth group exchanged, which stand under the same roles
module _ (ps g ms qs : List Role) {l l' p p' m m' q q' r r' : List Res} (el : Each (Like Same) l l') (ep : Each (Like Same) p p') (em : Each (Like Same) m m') (eq : Each (Like Same) q q')
    (er : Each (Like Same) r r') (hl : length ps ≡ length l) (hp : length g ≡ length p) (hm : length ms ≡ length m) (hq : length g ≡ length q) where
  spread-swap : Same (spread (ps ++ (g ++ (ms ++ (g ++ qs)))) (l ++ (p ++ (m ++ (q ++ r))))) (spread (ps ++ (g ++ (ms ++ (g ++ qs)))) (l' ++ (q' ++ (m' ++ (p' ++ r')))))
  spread-swap t =
      let a = spread-like same_ok ps el t in
      let b = spread-like same_ok g ep t in
      let c = spread-like same_ok ms em t in
      let d = spread-like same_ok g eq t in
      let e = spread-like same_ok qs er t in
      rw (spread5 ps g ms g qs l p m q r hl hp hm hq, spread5 ps g ms g qs l' q' m' p' r' (hl ∙ each-length el) (hq ∙ each-length eq) (hm ∙ each-length em) (hp ∙ each-length ep))
      (simp count-append (omega arith))

  answers-swap : unite (answers (ps ++ (g ++ (ms ++ (g ++ qs)))) (tys (named (l ++ (p ++ (m ++ (q ++ r))))))) ≡ unite (answers (ps ++ (g ++ (ms ++ (g ++ qs)))) (tys (named (l' ++ (q' ++ (m' ++ (p' ++ r')))))))
  answers-swap =
      rw (
        answers5 ps g ms g qs l p m q r hl hp hm hq,
        answers5 ps g ms g qs l' q' m' p' r' (hl ∙ each-length el) (hq ∙ each-length eq) (hm ∙ each-length em) (hp ∙ each-length ep),
        named-eq same_ok el,
        named-eq same_ok ep,
        named-eq same_ok em,
        named-eq same_ok eq,
        named-eq same_ok er,
      )
      (unite-exchange (answers ps (tys (named l'))) (answers g (tys (named p'))) (answers ms (tys (named m'))) (answers g (tys (named q'))) (answers qs (tys (named r'))))

-- ## Arms

arms-append : (c : Role) (i k : ℕ) (r : List Role) → arm_roles c (i + k) r ≡ arm_roles c i [] ++ arm_roles c k r
unfolding arm_roles
arms-append c zero k r = let e : 0 + k ≡ k = omega arith in rw e
arms-append c (suc i) k r = let e : suc i + k ≡ suc (i + k) = omega arith in rw e (ap (λ z. c ∷ answer ∷ z) (arms-append c i k r))

arms-one : (c : Role) (n k : ℕ) (r : List Role) → n ≡ 1 + k → arm_roles c n r ≡ (c ∷ answer ∷ []) ++ arm_roles c k r
unfolding arm_roles
arms-one c n k r e = let f : n ≡ suc k = omega arith in rw f

arms-split : (c : Role) (n i j k : ℕ) (r : List Role) → n ≡ i + (1 + (j + (1 + k))) → arm_roles c n r ≡ arm_roles c i [] ++ ((c ∷ answer ∷ []) ++ (arm_roles c j [] ++ ((c ∷ answer ∷ []) ++ arm_roles c k r)))
arms-split c n i j k r e =
    rw (e, arms-append c i (1 + (j + (1 + k))) r, arms-one c (1 + (j + (1 + k))) (j + (1 + k)) r refl, arms-append c j (1 + k) r, arms-one c (1 + k) k r refl)

arms-length : (c : Role) (j : ℕ) → length (arm_roles c j []) ≡ 2 * j
unfolding arm_roles
arms-length c zero = refl
arms-length c (suc j) = let e = arms-length c j in omega arith

present-append : (b : ℕ) (p : Role) (x a q : List Role) → x ≡ a ++ q → present b p x ≡ present b p a ++ q
present-append zero p x a q e = e
present-append (suc b) p x a q e = ap (λ z. p ∷ z) e

present-length : (b : ℕ) (p : Role) (a : List Role) → b < 2 → length (present b p a) ≡ b + length a
present-length zero p a h = omega arith
present-length (suc zero) p a h = omega arith
present-length (suc (suc b)) p a h = absurd (omega arith)

-- the roles under a CASE, around two of its arms
record CaseParts (f c i j : ℕ) : Type 0 where
  ps : List Role
  g : List Role
  ms : List Role
  qs : List Role
  is : roles (mk case_word none (f ∷ c ∷ []) []) ≡ ps ++ (g ++ (ms ++ (g ++ qs)))
  ps_length : length ps ≡ low f + 2 * i
  g_length : length g ≡ 2
  ms_length : length ms ≡ 2 * j

case-parts : (f c i j : ℕ) → i + (j + 2) ≤ c → CaseParts f c i j
unfolding roles row
case-parts f c i j le =
    let a = cond (eqb (low f) 0) condition plain in
    let r = present (high f) answer [] in
    let k = c - (i + (j + 2)) in
    let e : c ≡ i + (1 + (j + (1 + k))) = omega arith in
    let lt : low f < 2 = omega arith in
    record {
      ps = present (low f) plain (arm_roles a i []);
      g = a ∷ answer ∷ [];
      ms = arm_roles a j [];
      qs = arm_roles a k r;
      is = present-append (low f) plain (arm_roles a c r) (arm_roles a i []) _ (arms-split a c i j k r e);
      ps_length = present-length (low f) plain (arm_roles a i []) lt ∙ ap (λ z. low f + z) (arms-length a i);
      g_length = refl;
      ms_length = arms-length a j;
    }

pub case-arity : (f c i j : ℕ) → i + (j + 2) ≤ c → (low f + 2 * i) + (2 + (2 * j + 2)) ≤ arity (mk case_word none (f ∷ c ∷ []) [])
unfolding arity
case-arity f c i j le =
    let p = case-parts f c i j le in
    let a = p.ps_length in
    let b = p.g_length in
    let d = p.ms_length in
    rw p.is (simp length-append (omega arith))

pub case_step : (env : Env) (f c i j : ℕ) (s x m y : List Head) → Whole (low f + 2 * i) s → Whole 2 x → Whole (2 * j) m → Whole 2 y → i + (j + 2) ≤ c
    → StepSwap env (mk case_word none (f ∷ c ∷ []) []) s x m y
unfolding step type_of type_by own own_by tops_by label row
case_step env f c i j s x m y u v w t le n n' a b d o a' b' d' o' r r' er =
    let p = case-parts f c i j le in
    let el = walk-self same_ok env s a a' in
    let ep = walk-self same_ok env x b o' in
    let em = walk-self same_ok env m d d' in
    let eq = walk-self same_ok env y o b' in
    let hl = p.ps_length ∙ sym (whole_length env a u) in
    let hp = p.g_length ∙ sym (whole_length env b v) in
    let hm = p.ms_length ∙ sym (whole_length env d w) in
    let hq = p.g_length ∙ sym (whole_length env o t) in
    record {
      name = refl;
      ty = rw p.is (answers-swap p.ps p.g p.ms p.qs el ep em eq er hl hp hm hq);
      faults = rw p.is (same_ok.join (spread-swap p.ps p.g p.ms p.qs el ep em eq er hl hp hm hq) (λ t. refl));
      tops = no_more;
    }

-- ## Entries

mapped-append : (fs : Fields) (a b : List (Bytes × Ty)) → mapped fs (a ++ b) ≡ mapped (mapped fs a) b
unfolding mapped
mapped-append fs [] b = refl
mapped-append fs (e ∷ a) b = mapped-append (set_field e.0 e.1 fs) a b

named-append : (a b : List Res) → named (a ++ b) ≡ named a ++ named b
named-append [] b = refl
named-append (x ∷ a) b = ap (λ z. (x.name, x.ty) ∷ z) (named-append a b)

abbrev name_of : (Bytes × Ty) → Bytes
name_of e = e.0

-- a field of a name that does not come up again may be put later
set-later : (n : Bytes) (t : Ty) (es : List (Bytes × Ty)) → (Memᴰ n (map_l name_of es) → ⊥) → (fs : Fields) → mapped (set_field n t fs) es ≡ set_field n t (mapped fs es)
unfolding mapped
set-later n t [] d fs = refl
set-later n t (e ∷ es) d fs =
    ap (λ z. mapped z es) (set-swap e.0 n e.1 t (λ p. d (Memᴰ.head (sym p))) fs) ∙ set-later n t es (λ i. d (Memᴰ.tail i)) (set_field e.0 e.1 fs)

mapped-exchange : (fs : Fields) (n m : Bytes) (t u : Ty) (ms : List (Bytes × Ty)) → (n ≡ m → ⊥) → (Memᴰ n (map_l name_of ms) → ⊥) → (Memᴰ m (map_l name_of ms) → ⊥)
    → mapped fs ((n, t) ∷ (ms ++ ((m, u) ∷ []))) ≡ mapped fs ((m, u) ∷ (ms ++ ((n, t) ∷ [])))
unfolding mapped
mapped-exchange fs n m t u ms d dn dm =
    mapped-append (set_field n t fs) ms ((m, u) ∷ [])
    ∙ ap (set_field m u) (set-later n t ms dn fs)
    ∙ set-swap m n u t (λ p. d (sym p)) (mapped fs ms)
    ∙ ap (set_field n t) (sym (set-later m u ms dm fs))
    ∙ sym (mapped-append (set_field m u fs) ms ((n, t) ∷ []))

-- names that all differ
distinct-rest : (ns r : List Bytes) → Distinct (ns ++ r) → Distinct r
distinct-rest [] r d = d
distinct-rest (n ∷ ns) r d = distinct-rest ns r d.1

distinct_apart : {b : Bytes} (ms es : List Bytes) → Distinct (ms ++ (b ∷ es)) → Memᴰ b ms → ⊥
distinct_apart [] es d i = elim i [ ]
distinct_apart (m ∷ ms) es d (Memᴰ.head e) = d.0 (Memᴰ.append_right ms (Memᴰ.head (sym e)))
distinct_apart (m ∷ ms) es d (Memᴰ.tail i) = distinct_apart ms es d.1 i

-- entries are whole, and the line above reads their names
whole_append : {a b : ℕ} {x y : List Head} → Whole a x → Whole b y → Whole (a + b) (x ++ y)
whole_append {b = b} done v = let e : 0 + b ≡ b = omega arith in rw e v
whole_append {b = b} (grown h {k} {hs} u) v =
    let e : (arity h + k) + b ≡ arity h + (k + b) = omega arith in
    let f : suc k + b ≡ suc (k + b) = omega arith in
    rw f (grown h (rw e at (whole_append u v)))

pub key-whole : (n : Bytes) {x : List Head} → Whole 1 x → Whole 1 (mk key_word none [] n ∷ x)
unfolding arity roles row
key-whole n w = grown (mk key_word none [] n) w

pub entries-whole : {ns : List Bytes} {hs : List Head} → Entries ns hs → Whole (length ns) hs
entries-whole no_entry = done
entries-whole (entry n {ns = ns} w es) = let e : 1 + length ns ≡ suc (length ns) = omega arith in rw e at (whole_append (key-whole n w) (entries-whole es))

key-walk : (env : Env) (i : ℕ) (n : Bytes) {x : List Head} → Whole 1 x → (r : Res) × (walk env i (mk key_word none [] n ∷ x) ≡ r ∷ []) × (r.name ≡ n)
unfolding walk arity roles step label row
key-walk env i n {x} w =
    let e = whole_length env (suc i) w in
    let r = step env i (mk key_word none [] n) (take 1 (walk env (suc i) x)) in
    (r, ap (λ z. r ∷ z) (drop_of_length-le (walk env (suc i) x) {i = 1} (omega arith)), refl)

entries-names : (env : Env) (i : ℕ) {ns : List Bytes} {hs : List Head} → Entries ns hs → map_l name_of (named (walk env i hs)) ≡ ns
entries-names env i no_entry = unfold walk in refl
entries-names env i (entry n {x} {hs} w es) =
    let (r, p, q) = key-walk env i n w in
    let j = length (mk key_word none [] n ∷ x) + i in
    rw (whole-walk env i (key-whole n w) hs, p) (ap₂ (λ (a : Bytes) (b : List Bytes). a ∷ b) q (entries-names env j es))

key-named : (env : Env) (i : ℕ) (n : Bytes) {x : List Head} → Whole 1 x → (t : Ty) × (named (walk env i (mk key_word none [] n ∷ x)) ≡ (n, t) ∷ [])
key-named env i n w =
    let (r, p, q) = key-walk env i n w in
    (r.ty, ap named p ∙ ap (λ (a : Bytes). (a, r.ty) ∷ []) q)

-- five groups of named types, the second and the fourth of one entry each
entries-mapped : (l l' p p' k k' q q' r r' : List Res) (n m : Bytes) (t u : Ty) → named l ≡ named l' → named p ≡ (n, t) ∷ [] → named p' ≡ (n, t) ∷ [] → named k ≡ named k' → named q ≡ (m, u) ∷ []
    → named q' ≡ (m, u) ∷ [] → named r ≡ named r' → (n ≡ m → ⊥) → (Memᴰ n (map_l name_of (named k')) → ⊥) → (Memᴰ m (map_l name_of (named k')) → ⊥)
    → mapped ∅ᶠ (named (l ++ (p ++ (k ++ (q ++ r))))) ≡ mapped ∅ᶠ (named (l' ++ (q' ++ (k' ++ (p' ++ r')))))
entries-mapped l l' p p' k k' q q' r r' n m t u el ep ep' ek eq eq' er d dn dm =
    let L = named l' in
    let K = named k' in
    let R = named r' in
    rw (
      named-append l (p ++ (k ++ (q ++ r))),
      named-append p (k ++ (q ++ r)),
      named-append k (q ++ r),
      named-append q r,
      named-append l' (q' ++ (k' ++ (p' ++ r'))),
      named-append q' (k' ++ (p' ++ r')),
      named-append k' (p' ++ r'),
      named-append p' r',
      el,
      ep,
      ep',
      ek,
      eq,
      eq',
      er,
    )
    (mapped-append ∅ᶠ L ((n, t) ∷ (K ++ ((m, u) ∷ R)))
    ∙ (let f = mapped ∅ᶠ L in
    ap (mapped f) (ap (λ z. (n, t) ∷ z) (sym (append_assoc K ((m, u) ∷ []) R)))
    ∙ mapped-append f ((n, t) ∷ (K ++ ((m, u) ∷ []))) R
    ∙ ap (λ z. mapped z R) (mapped-exchange f n m t u K d dn dm)
    ∙ sym (mapped-append f ((m, u) ∷ (K ++ ((n, t) ∷ []))) R)
    ∙ ap (mapped f) (ap (λ z. (m, u) ∷ z) (append_assoc K ((n, t) ∷ []) R)))
    ∙ sym (mapped-append ∅ᶠ L ((m, u) ∷ (K ++ ((n, t) ∷ R)))))

replicate-split : {A : Type 0} (x : A) (n i j k : ℕ) → n ≡ i + (1 + (j + (1 + k))) → replicate n x ≡ replicate i x ++ ((x ∷ []) ++ (replicate j x ++ ((x ∷ []) ++ replicate k x)))
replicate-split x n i j k e =
    rw (e, ← replicate-append-replicate i (1 + (j + (1 + k))) x, ← replicate-append-replicate 1 (j + (1 + k)) x, ← replicate-append-replicate j (1 + k) x, ← replicate-append-replicate 1 k x)

pub map-arity : (c i j k : ℕ) → c ≡ i + (1 + (j + (1 + k))) → i + (1 + (j + 1)) ≤ arity (mk map_word none (c ∷ []) [])
unfolding arity roles row
map-arity c i j k e = rw (length-replicate c (inner entry_place)) (omega arith)

pub entries-step : (env : Env) (a b : Bytes) (c : ℕ) (s x m y : List Head) (ns ms es : List Bytes) → Entries ns s → Whole 1 x → Entries ms m → Whole 1 y
    → Distinct (ns ++ (a ∷ (ms ++ (b ∷ es)))) → c ≡ length ns + (1 + (length ms + (1 + length es)))
    → StepSwap env (mk map_word none (c ∷ []) []) s (mk key_word none [] a ∷ x) m (mk key_word none [] b ∷ y)
unfolding step type_of type_by own own_by tops_by label roles row
entries-step env a b c s x m y ns ms es u v w t d ec n n' i j k o i' j' k' o' r r' er =
    let X = mk key_word none [] a ∷ x in
    let Y = mk key_word none [] b ∷ y in
    let g : List Role = inner entry_place ∷ [] in
    let f = replicate-split (inner entry_place) c (length ns) (length ms) (length es) ec in
    let el = walk-self same_ok env s i i' in
    let ep = walk-self same_ok env X j o' in
    let em = walk-self same_ok env m k k' in
    let eq = walk-self same_ok env Y o j' in
    let (ta, pa) = key-named env o' a v in
    let (tb, pb) = key-named env j' b t in
    let names = entries-names env k' w in
    let rest = distinct-rest ns (a ∷ (ms ++ (b ∷ es))) d in
    let hl : length (replicate (length ns) (inner entry_place)) ≡ length (walk env i s) = length-replicate (length ns) (inner entry_place) ∙ sym (whole_length env i (entries-whole u)) in
    let hp : length g ≡ length (walk env j X) = sym (whole_length env j (key-whole a v)) in
    let hm : length (replicate (length ms) (inner entry_place)) ≡ length (walk env k m) = length-replicate (length ms) (inner entry_place) ∙ sym (whole_length env k (entries-whole w)) in
    let hq : length g ≡ length (walk env o Y) = sym (whole_length env o (key-whole b t)) in
    record {
      name = refl;
      ty = ap t_map (entries-mapped (walk env i s) (walk env i' s) (walk env j X) (walk env o' X) (walk env k m) (walk env k' m) (walk env o Y) (walk env j' Y) r r' a b ta tb
          (named-eq same_ok el) (named-eq same_ok ep ∙ pa) pa (named-eq same_ok em) (named-eq same_ok eq ∙ pb) pb (named-eq same_ok er)
          (λ e. rest.0 (Memᴰ.append_right ms (Memᴰ.head e)))
          (λ q. rest.0 (Memᴰ.append_left (b ∷ es) (rw names at q)))
          (λ q. distinct_apart ms es rest.1 (rw names at q)));
      faults = rw f (same_ok.join (spread-swap (replicate (length ns) (inner entry_place)) g (replicate (length ms) (inner entry_place)) (replicate (length es) (inner entry_place)) el ep em eq er hl hp hm hq) (λ t. refl));
      tops = no_more;
    }
