-- The operands of a binary operator exchanged: the same type, the same faults each as often.
use mathlib.Core.Path.{◌≡◌, refl, ◌∙◌, ap, ap₂}
use mathlib.Core.List.{List, [], ◌∷◌, ◌++◌}
use mathlib.Core.Option.{none}
use Prim.Native.Nat.{ℕ, suc, ◌+◌}
use native.Mathlib.Omega.{arith}
use lib.ListN.{length, take, drop, get_or}
use Rattle.semantics.specs.Bytes.{lex, same}
use Rattle.semantics.specs.Ty.{t_any, t_null, t_bool, t_int, t_float, t_num, t_string, t_date, t_datetime, t_path, t_unknown, Ty, base, t_list, t_map, t_node, t_relationship, t_union, letter, among, matches, line_to, line, equal, nesting}
use Rattle.semantics.specs.Unify.{tested, meeting, pair, arms, unify_in, unify}
use Rattle.semantics.specs.Sheet.{bin_word, Head, row, roles, arity}
use Rattle.semantics.specs.Walk.{Res, Env, Op, arithmetic, comparison, equality, boolean, string, concat, op, op_type, op_faults, numeric, meets, or_else, type_by, type_of, asked, spread, own_by, own, tops_by, label, step, walk}
use Rattle.rewording.specs.Reword.{mk, Each, no_more, more, Whole}
use Rattle.rewording.proofs.Congruence.{Like, Same, count_if, count-append, count_none, same_ok, Alike, walk-self, whole_length, whole-walk}

-- what `require_numeric` returns is one of five
data Num5 : Type 0 where
  any5 int5 float5 num5 unknown5 : Num5

abbrev of5 : Num5 → Ty
of5 any5 = base t_any
of5 int5 = base t_int
of5 float5 = base t_float
of5 num5 = base t_num
of5 unknown5 = base t_unknown

numeric5 : (t : Ty) → (n : Num5) × (numeric t ≡ of5 n)
unfolding numeric meets matches among letter
numeric5 (base b) = elim b as (λ k. (n : Num5) × (numeric (base k) ≡ of5 n)) [
  | t_any ↦ (any5, refl)
  | t_null ↦ (unknown5, refl)
  | t_bool ↦ (unknown5, refl)
  | t_int ↦ (int5, refl)
  | t_float ↦ (float5, refl)
  | t_num ↦ (num5, refl)
  | t_string ↦ (unknown5, refl)
  | t_date ↦ (unknown5, refl)
  | t_datetime ↦ (unknown5, refl)
  | t_path ↦ (unknown5, refl)
  | t_unknown ↦ (unknown5, refl)
]
numeric5 (t_list t) = (unknown5, refl)
numeric5 (t_map fs) = (unknown5, refl)
numeric5 (t_node ls) = (unknown5, refl)
numeric5 (t_relationship n) = (unknown5, refl)
numeric5 (t_union ts) = (unknown5, refl)

abbrev sum5 : Num5 → Num5 → Ty
sum5 x y = or_else (base t_unknown) (unify (of5 x) (of5 y)).answer

unify5 : (x y : Num5) → sum5 x y ≡ sum5 y x
unfolding unify unify_in tested arms pair meeting among matches equal same lex line line_to letter nesting
unify5 any5 any5 = refl
unify5 any5 int5 = refl
unify5 any5 float5 = refl
unify5 any5 num5 = refl
unify5 any5 unknown5 = refl
unify5 int5 any5 = refl
unify5 int5 int5 = refl
unify5 int5 float5 = refl
unify5 int5 num5 = refl
unify5 int5 unknown5 = refl
unify5 float5 any5 = refl
unify5 float5 int5 = refl
unify5 float5 float5 = refl
unify5 float5 num5 = refl
unify5 float5 unknown5 = refl
unify5 num5 any5 = refl
unify5 num5 int5 = refl
unify5 num5 float5 = refl
unify5 num5 num5 = refl
unify5 num5 unknown5 = refl
unify5 unknown5 any5 = refl
unify5 unknown5 int5 = refl
unify5 unknown5 float5 = refl
unify5 unknown5 num5 = refl
unify5 unknown5 unknown5 = refl

op-type-swap : (o : Op) (a b : Ty) → op_type o a b ≡ op_type o b a
unfolding op_type
op-type-swap arithmetic a b =
    let (x, p) = numeric5 a in
    let (y, q) = numeric5 b in
    rw (p, q) (unify5 x y)
op-type-swap comparison a b = refl
op-type-swap equality a b = refl
op-type-swap boolean a b = refl
op-type-swap string a b = refl
op-type-swap concat a b = refl

op-faults-swap : (o : Op) (a b : Ty) → Same (op_faults o a b) (op_faults o b a)
unfolding op_faults
op-faults-swap arithmetic a b p = simp count-append (omega arith)
op-faults-swap comparison a b p = refl
op-faults-swap equality a b p = refl
op-faults-swap boolean a b p = simp count-append (omega arith)
op-faults-swap string a b p = simp count-append (omega arith)
op-faults-swap concat a b p = refl

module _ (env : Env) (ns : List ℕ) where
  abbrev bin : Head
  bin = mk bin_word none ns []

  operands_step : (n m : ℕ) (a b a' b' : Res) → Like Same a a' → Like Same b b' → Like Same (step env n bin (a ∷ b ∷ [])) (step env m bin (b' ∷ a' ∷ []))
  unfolding step type_of type_by spread own own_by tops_by label roles asked row
  operands_step n m a b a' b' p q =
      let o = op (get_or ns 0 0) in
      record {
        name = refl;
        ty = op-type-swap o a.ty b.ty ∙ ap₂ (op_type o) q.ty p.ty;
        faults = λ t.
            let e = p.faults t in
            let f = q.faults t in
            let g = op-faults-swap o a.ty b.ty t ∙ ap (count_if t) (ap₂ (op_faults o) q.ty p.ty) in
            simp (count-append, count_none) (omega arith);
        tops = no_more;
      }

  operands-lists : (n m : ℕ) {l l' k k' q q' : List Res} → Each (Like Same) l l' → Each (Like Same) k k' → Each (Like Same) q q' → length l ≡ 1 → length k ≡ 1
      → Each (Like Same) (step env n bin (take 2 (l ++ (k ++ q))) ∷ drop 2 (l ++ (k ++ q))) (step env m bin (take 2 (k' ++ (l' ++ q'))) ∷ drop 2 (k' ++ (l' ++ q')))
  operands-lists n m (more {x = a} {y = a'} p no_more) (more {x = b} {y = b'} q no_more) e u v = more (operands_step n m a b a' b' p q) e
  operands-lists n m (more p no_more) no_more e u v = absurd (omega arith)
  operands-lists n m (more p no_more) (more q (more q' qs)) e u v = absurd (omega arith)
  operands-lists n m no_more f e u v = absurd (omega arith)
  operands-lists n m (more p (more p' ps)) f e u v = absurd (omega arith)

  pub operands-like : (x y post : List Head) → Whole 1 x → Whole 1 y → Alike same_ok env (mk bin_word none ns [] ∷ (x ++ (y ++ post))) (mk bin_word none ns [] ∷ (y ++ (x ++ post)))
  unfolding walk arity roles row
  operands-like x y post u v n m =
      let c = length x + suc n in
      let d = length y + suc m in
      rw (whole-walk env (suc n) u (y ++ post), whole-walk env c v post, whole-walk env (suc m) v (x ++ post), whole-walk env d u post)
      (operands-lists n m (walk-self same_ok env x (suc n) d) (walk-self same_ok env y c (suc m)) (walk-self same_ok env post (length y + c) (length x + d))
      (whole_length env (suc n) u) (whole_length env c v))
