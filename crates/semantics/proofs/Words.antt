-- One law over the words: what is computed alike for each word of the list is alike for every word. And over the shapes: what holds of
-- each role that a shape names holds of all its children. Assumes nothing.
use mathlib.Core.Path.{◌≡◌, refl, sym, ◌∙◌, ap, subst}
use mathlib.Core.List.{List, [], ◌∷◌, map}
use mathlib.Core.Option.{some}
use mathlib.Core.Bool.{Bool, true, false, cond, ◌&&◌}
use Prim.Native.Nat.{ℕ, suc, zero}
use native.Mathlib.Omega.{arith}
use lib.ListN.{get_or, replicate}
use lib.Dec.{eqb}
use Rattle.semantics.specs.Bytes.{Bytes, text, lex, same}
use Rattle.semantics.specs.Ty.{Base, Ty, base, t_list, t_map, t_node, t_relationship, t_union, ∅ᶠ, field}
use Rattle.semantics.specs.Sheet.{Word, cyrs_word, b_word, end_word, mat_word, cre_word, mer_word, whe_word, wit_word, ret_word, unw_word, set_word, rem_word, del_word, cal_word, pro_word, sp_word, sl_word, sm_word, rp_word, rl_word, lab_word, parts_word, part_word, nod_word, rel_word, null_word, bool_word, int_word, flt_word, str_word, var_word, par_word, unr_word, exi_word, prop_word, idx_word, sli_word, lis_word, map_word, key_word, call_word, bin_word, una_word, case_word, isn_word, in_word, pat_word, lcp_word, pcp_word, lpr_word, mpr_word, cop_word, com_word, sho_word, ali_word, words, word_in, Role, plain, condition, answer, Shape, nothing, one, two, bounds, arms, times, times_then, around, one_then, one_times, kids, present, arm_roles, low, high, Rule, silent, entering, typed, constant, var_type, element, slice, listing, mapping, calling, operator, unary, casing, membership, comprehension, row}
use Rattle.semantics.proofs.All.{All, empty, also, all_append}

-- ## Words

-- every word is listed, and found by its spelling: the only place that names them all
complete : (v : Word) → word_in (text (row v).spelled) words ≡ some v
unfolding word_in row text same lex
complete v =
    elim v as (λ w. word_in (text (row w).spelled) words ≡ some w) [ cyrs_word ↦ refl | b_word ↦ refl | end_word ↦ refl | mat_word ↦ refl | cre_word ↦ refl | mer_word ↦ refl | whe_word ↦ refl | wit_word ↦ refl | ret_word ↦ refl | unw_word ↦ refl | set_word ↦ refl | rem_word ↦ refl | del_word ↦ refl | cal_word ↦ refl | pro_word ↦ refl | sp_word ↦ refl | sl_word ↦ refl | sm_word ↦ refl | rp_word ↦ refl | rl_word ↦ refl | lab_word ↦ refl | parts_word ↦ refl | part_word ↦ refl | nod_word ↦ refl | rel_word ↦ refl | null_word ↦ refl | bool_word ↦ refl | int_word ↦ refl | flt_word ↦ refl | str_word ↦ refl | var_word ↦ refl | par_word ↦ refl | unr_word ↦ refl | exi_word ↦ refl | prop_word ↦ refl | idx_word ↦ refl | sli_word ↦ refl | lis_word ↦ refl | map_word ↦ refl | key_word ↦ refl | call_word ↦ refl | bin_word ↦ refl | una_word ↦ refl | case_word ↦ refl | isn_word ↦ refl | in_word ↦ refl | pat_word ↦ refl | lcp_word ↦ refl | pcp_word ↦ refl | lpr_word ↦ refl | mpr_word ↦ refl | cop_word ↦ refl | com_word ↦ refl | sho_word ↦ refl | ali_word ↦ refl ]

among : {A : Type 0} (f g : Word → A) (x : Bytes) (vs : List Word) (v : Word) → word_in x vs ≡ some v → map f vs ≡ map g vs → f v ≡ g v
unfolding word_in
among f g x [] v e m = absurd (let z : ◌≡◌ {A = ℕ} 0 1 = cc in omega arith)
among f g x (w ∷ vs) v e m = go (same x (text (row w).spelled)) e (λ d. among f g x vs v d (let t : map f vs ≡ map g vs = cc in t))
  where
    go : (b : Bool) → elim b [ true ↦ some w | false ↦ word_in x vs ] ≡ some v → (word_in x vs ≡ some v → f v ≡ g v) → f v ≡ g v
    go true d r = let i : w ≡ v = cc in subst (λ (u : Word). f u ≡ g u) i (let h : f w ≡ g w = cc in h)
    go false d r = r d

-- two functions that compute to the same lists over the words agree on every word: cite with `refl`
pub every : {A : Type 0} (f g : Word → A) → map f words ≡ map g words → (v : Word) → f v ≡ g v
every f g m v = among f g (text (row v).spelled) words v (complete v) m

-- a computed test: cite with `refl`
pub holds : (p : Word → Bool) → map p words ≡ map (λ (v : Word). true) words → (v : Word) → p v ≡ true
holds p m v = every p (λ (v : Word). true) m v

-- among the words that pass a test a function has one value: cite with `refl`
pub every-where : {A : Type 0} (t : Word → Bool) (f : Word → A) (a : A) → map (λ (v : Word). cond (t v) (f v) a) words ≡ map (λ (v : Word). a) words → (v : Word) → t v ≡ true → f v ≡ a
every-where t f a m v e = subst (λ (b : Bool). cond b (f v) a ≡ a) e (every (λ (v : Word). cond (t v) (f v) a) (λ (v : Word). a) m v)

-- ## Shapes

-- the roles that a shape names
abbrev pub named : Shape → List Role
named nothing = []
named two = plain ∷ []
named bounds = plain ∷ []
named arms = plain ∷ condition ∷ answer ∷ []
named (one p) = p ∷ []
named (times i p) = p ∷ []
named (times_then i p j) = p ∷ plain ∷ []
named (around p j) = p ∷ condition ∷ plain ∷ []
named (one_then j) = plain ∷ []
named (one_times i p) = plain ∷ p ∷ []

times-all : {P : Role → Type 0} (m : ℕ) (p : Role) → P p → All P (replicate m p)
times-all zero p h = empty
times-all (suc m) p h = also h (times-all m p h)

present-all : {P : Role → Type 0} (m : ℕ) (p : Role) (ps : List Role) → P p → All P ps → All P (present m p ps)
present-all zero p ps h a = a
present-all (suc m) p ps h a = also h a

arms-all : {P : Role → Type 0} (m : ℕ) (c : Role) (ps : List Role) → P c → P answer → All P ps → All P (arm_roles c m ps)
unfolding arm_roles
arms-all zero c ps h g a = a
arms-all (suc m) c ps h g a = also h (also g (arms-all m c ps h g a))

either-role : (P : Role → Type 0) (b : Bool) (p q : Role) → P p → P q → P (cond b p q)
either-role P true p q h g = h
either-role P false p q h g = g

pub kids-all : {P : Role → Type 0} (s : Shape) → All P (named s) → (ns : List ℕ) → All P (kids s ns)
kids-all nothing a ns = empty
kids-all two (also h a) ns = also h (also h empty)
kids-all bounds (also h a) ns =
    let f = get_or ns 0 0 in
    also h (present-all (low f) plain (present (high f) plain []) h (present-all (high f) plain [] h empty))
kids-all {P} arms (also h (also c (also w a))) ns =
    let f = get_or ns 0 0 in
    let q : Role = cond (eqb (low f) 0) condition plain in
    present-all (low f) plain (arm_roles q (get_or ns 1 0) (present (high f) answer [])) h (arms-all (get_or ns 1 0) q (present (high f) answer []) (either-role P (eqb (low f) 0) condition plain c h) w (present-all (high f) answer [] w empty))
kids-all (one p) (also h a) ns = also h empty
kids-all (times i p) (also h a) ns = times-all (get_or ns i 0) p h
kids-all (times_then i p j) (also h (also g a)) ns = all_append (times-all (get_or ns i 0) p h) (present-all (get_or ns j 0) plain [] g empty)
kids-all (around p j) (also h (also c (also g a))) ns = also h (present-all (get_or ns j 0) condition (plain ∷ []) c (also g empty))
kids-all (one_then j) (also g a) ns = also g (present-all (get_or ns j 0) plain [] g empty)
kids-all (one_times i p) (also g (also h a)) ns = also g (times-all (get_or ns i 0) p h)

-- a computed test of the roles that a shape names
unfoldable pub each : (Role → Bool) → List Role → Bool
each t [] = true
each t (p ∷ ps) = t p && each t ps

each_all : {P : Role → Type 0} (t : Role → Bool) → ((p : Role) → t p ≡ true → P p) → (ps : List Role) → each t ps ≡ true → All P ps
unfolding each
each_all t f [] e = empty
each_all {P} t f (p ∷ ps) e = go (t p) refl e (λ g. each_all t f ps g)
  where
    go : (b : Bool) → t p ≡ b → b && each t ps ≡ true → (each t ps ≡ true → All P ps) → All P (p ∷ ps)
    go true d g r = also (f p d) (r g)
    go false d g r = absurd (let z : ◌≡◌ {A = ℕ} 0 1 = cc in omega arith)

pub kids-each : {P : Role → Type 0} (t : Role → Bool) → ((p : Role) → t p ≡ true → P p) → (s : Shape) → each t (named s) ≡ true → (ns : List ℕ) → All P (kids s ns)
kids-each t f s e ns = kids-all s (each_all t f (named s) e) ns

-- ## Constants

-- the types that the table gives: a base type, or the map without entries
pub data Simple : Ty → Type 0 where
  a_base : (b : Base) → Simple (base b)
  a_map : Simple (t_map ∅ᶠ)

abbrev simple_ty : Ty → Bool
simple_ty (base b) = true
simple_ty (t_list t) = false
simple_ty (t_map ∅ᶠ) = true
simple_ty (t_map (field k t fs)) = false
simple_ty (t_node ls) = false
simple_ty (t_relationship n) = false
simple_ty (t_union ts) = false

abbrev simple_rule : Rule → Bool
simple_rule silent = true
simple_rule entering = true
simple_rule (typed (constant t)) = simple_ty t
simple_rule (typed var_type) = true
simple_rule (typed element) = true
simple_rule (typed slice) = true
simple_rule (typed listing) = true
simple_rule (typed mapping) = true
simple_rule (typed calling) = true
simple_rule (typed operator) = true
simple_rule (typed unary) = true
simple_rule (typed casing) = true
simple_rule (typed membership) = true
simple_rule (typed comprehension) = true

simple-true : (t : Ty) → simple_ty t ≡ true → Simple t
simple-true (base b) e = a_base b
simple-true (t_list t) e = absurd (let z : ◌≡◌ {A = ℕ} 0 1 = cc in omega arith)
simple-true (t_map ∅ᶠ) e = a_map
simple-true (t_map (field k t fs)) e = absurd (let z : ◌≡◌ {A = ℕ} 0 1 = cc in omega arith)
simple-true (t_node ls) e = absurd (let z : ◌≡◌ {A = ℕ} 0 1 = cc in omega arith)
simple-true (t_relationship n) e = absurd (let z : ◌≡◌ {A = ℕ} 0 1 = cc in omega arith)
simple-true (t_union ts) e = absurd (let z : ◌≡◌ {A = ℕ} 0 1 = cc in omega arith)

pub row-simple : (w : Word) (t : Ty) → (row w).rule ≡ typed (constant t) → Simple t
unfolding row
row-simple w t e = simple-true t (ap simple_rule (sym e) ∙ holds (λ (v : Word). simple_rule (row v).rule) refl w)
