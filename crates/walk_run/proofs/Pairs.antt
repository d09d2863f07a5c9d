-- Lines that look at their first two children: operators and membership. Assumes nothing.
use mathlib.Core.Path.{◌≡◌, refl, sym, ◌∙◌, ap}
use mathlib.Core.List.{List, [], ◌∷◌, ◌++◌}
use mathlib.Core.Bool.{Bool, true, false, ◌||◌}
use Prim.Native.Nat.{ℕ}
use lib.ListN.{length}
use Rattle.semantics.specs.Ty.{t_any, t_bool, t_unknown, Ty, base, t_list, t_map, t_node, t_relationship, t_union, too_large}
use Rattle.semantics.specs.Unify.{Answer, Unified, unify}
use Rattle.semantics.specs.Sheet.{Head, num, Role, operator, membership}
use Rattle.semantics.specs.Walk.{Fault, Res, Env, a_number, meets, numeric, Op, arithmetic, comparison, equality, boolean, string, concat, op, or_else, op_type, op_faults, op_tests, apart, in_faults, in_tests, type_by, own_by, last_by, child_by, named}
use Rattle.semantics.specs.Calls.{any_large}
use Rattle.semantics.proofs.All.{All, also, either}
use Rattle.semantics.proofs.Regular.{Regular}
use Rattle.unify_run.specs.Run.{answered, unless, verdict}
use Rattle.unify_run.proofs.Verdict.{large-append}
use Rattle.unify_run.proofs.UnionsMeet.{base-small}
use Rattle.unify_run.proofs.Answers.{Fine, FineRun, unify-fine}
use Rattle.walk_run.specs.Run.{start, keep_two, child, Told, told, or_much, end_op, end_in, end, concluded}
use Rattle.walk_run.proofs.Steps.{line_if, outcome, ending}
use Rattle.walk_run.proofs.Fine.{FineRes, large-one}
use Rattle.walk_run.proofs.Quiet.{Said, said-alike, ending-small, AtTwo, alike-two}
use Rattle.walk_run.proofs.Firsts.{numeric-tiny}

-- ## After a unification

-- by an answer: what is told of it
abbrev Tells : Ty → List Fault → (Ty → Told) → Told → Answer → Type 0
Tells t fs x y (Answer.agreed s) = x s ≡ told t fs
Tells t fs x y (Answer.mismatch a b) = y ≡ told t fs

-- the tests of a unification and then a type that is not too large if none of those is
pub unified-ending : (n : ℕ) (u : Unified) (t : Ty) (fs : List Fault) (x : Ty → Told) (y : Told) → (any_large u.tests ≡ false → too_large t ≡ false) → Tells t fs x y u.answer
    → ending n (u.tests ++ (t ∷ [])) t fs ≡ concluded n (or_much (verdict u) x y) []
unfolding verdict
unified-ending n u t fs x y small tells =
    ap (λ b. outcome (line_if n b) t fs) (large-append u.tests (t ∷ []) ∙ ap (λ b. any_large u.tests || b) (large-one t)) ∙ go (any_large u.tests) refl u.answer tells
  where
    go : (c : Bool) → any_large u.tests ≡ c → (a : Answer) → Tells t fs x y a → outcome (line_if n (c || too_large t)) t fs ≡ concluded n (or_much (unless c (answered a)) x y) []
    go true p a e = refl
    go false p (Answer.agreed s) e = ap (λ b. outcome (line_if n b) t fs) (small p) ∙ ap (λ w. concluded n w []) (sym e)
    go false p (Answer.mismatch a b) e = ap (λ b. outcome (line_if n b) t fs) (small p) ∙ ap (λ w. concluded n w []) (sym e)

-- the answer, or what stands in for it
or-small : (d : Ty) → too_large d ≡ false → (u : Unified) → FineRun (verdict u) → any_large u.tests ≡ false → too_large (or_else d u.answer) ≡ false
unfolding verdict
or-small d q u f p = go (any_large u.tests) u.answer f p
  where
    go : (c : Bool) (a : Answer) → FineRun (unless c (answered a)) → c ≡ false → too_large (or_else d a) ≡ false
    go true a f p = cc
    go false (Answer.agreed t) f p = f.1
    go false (Answer.mismatch x y) f p = q

-- ## Operators

numeric-fine : (t : Ty) → Fine t → Fine (numeric t)
numeric-fine t f = ((unfold numeric in either Regular (meets a_number t) f.0 tt), numeric-tiny t f.1)

pub operator-ending : (n : ℕ) (o : Op) (a b : Ty) → Fine a → Fine b → ending n (op_tests o a b ++ (op_type o a b ∷ [])) (op_type o a b) (op_faults o a b) ≡ concluded n (end_op o a b) []
unfolding op_tests op_type end_op
operator-ending n arithmetic a b p q =
    let u = unify (numeric a) (numeric b) in
    let fs = op_faults arithmetic a b in
    unified-ending n u (or_else (base t_unknown) u.answer) fs (λ t. told t fs) (told (base t_unknown) fs)
    (or-small (base t_unknown) (base-small t_unknown) u (unify-fine (numeric a) (numeric b) (numeric-fine a p) (numeric-fine b q))) (go u.answer fs)
  where
    go : (x : Answer) (fs : List Fault) → Tells (or_else (base t_unknown) x) fs (λ t. told t fs) (told (base t_unknown) fs) x
    go (Answer.agreed t) fs = refl
    go (Answer.mismatch x y) fs = refl
operator-ending n comparison a b p q =
    unfold op_faults in
    let u = unify a b in
    unified-ending n u (base t_bool) [] (λ t. told (base t_bool) []) (told (base t_bool) []) (λ s. base-small t_bool) (go u.answer)
  where
    go : (x : Answer) → Tells (base t_bool) [] (λ t. told (base t_bool) []) (told (base t_bool) []) x
    go (Answer.agreed t) = refl
    go (Answer.mismatch x y) = refl
operator-ending n equality a b p q = unfold op_faults in ending-small n (base t_bool) [] (base-small t_bool)
operator-ending n boolean a b p q = ending-small n (base t_bool) (op_faults boolean a b) (base-small t_bool)
operator-ending n string a b p q = ending-small n (base t_bool) (op_faults string a b) (base-small t_bool)
operator-ending n concat a b p q = unfold op_faults in ending-small n (base t_any) [] (base-small t_any)

-- ## Membership

pub membership-ending : (n : ℕ) (a b : Ty) → ending n (in_tests a b ++ (base t_bool ∷ [])) (base t_bool) (in_faults a b) ≡ concluded n (end_in a b) []
unfolding in_tests end_in
membership-ending n a (base c) = ending-small n (base t_bool) (in_faults a (base c)) (base-small t_bool)
membership-ending n a (t_list e) =
    unfold in_faults in
    let u = unify a e in
    let fs = apart a e u.answer in
    unified-ending n u (base t_bool) fs (λ t. told (base t_bool) []) (told (base t_bool) fs) (λ s. base-small t_bool) (go u.answer)
  where
    go : (x : Answer) → Tells (base t_bool) (apart a e x) (λ t. told (base t_bool) []) (told (base t_bool) (apart a e x)) x
    go (Answer.agreed t) = refl
    go (Answer.mismatch x y) = refl
membership-ending n a (t_map fs) = ending-small n (base t_bool) (in_faults a (t_map fs)) (base-small t_bool)
membership-ending n a (t_node ls) = ending-small n (base t_bool) (in_faults a (t_node ls)) (base-small t_bool)
membership-ending n a (t_relationship m) = ending-small n (base t_bool) (in_faults a (t_relationship m)) (base-small t_bool)
membership-ending n a (t_union ts) = ending-small n (base t_bool) (in_faults a (t_union ts)) (base-small t_bool)

-- ## The lines

unknown-fine : Fine (base t_unknown)
unknown-fine = (tt, base-small t_unknown)

module _ (env : Env) (n : ℕ) (h : Head) (ps : List Role) where
  operator-at : (rs : List Res) → All FineRes rs
      → let t = type_by operator env h ps (named rs) in AtTwo n operator (last_by operator h ps (named rs) ++ (t ∷ [])) t (own_by operator h (named rs)) (end operator env h) (unfold child_by in λ j e. refl) rs
  unfolding type_by last_by own_by end
  operator-at [] a = operator-ending n (op (num h 0)) (base t_unknown) (base t_unknown) unknown-fine unknown-fine
  operator-at (r ∷ []) (also f a) = λ x. operator-ending n (op (num h 0)) r.ty (base t_unknown) (f.0, f.1 x) unknown-fine
  operator-at (r ∷ s ∷ rs) (also f (also g a)) = λ x y. operator-ending n (op (num h 0)) r.ty s.ty (f.0, f.1 x) (g.0, g.1 y)

  pub operator-run : (rs : List Res) → All FineRes rs → length ps ≡ length rs → Said operator env n h ps rs
  operator-run rs a l =
      let t = type_by operator env h ps (named rs) in
      said-alike operator env n h ps rs
      (unfold start in alike-two n operator (last_by operator h ps (named rs) ++ (t ∷ [])) t (own_by operator h (named rs)) (end operator env h) (unfold child_by in λ j e. refl)
      (unfold child keep_two in λ q b u. refl) (unfold child keep_two in λ v q b u. refl) (unfold child keep_two in λ v w q b u. refl) ps rs l (operator-at rs a))

  membership-at : (rs : List Res)
      → let t = type_by membership env h ps (named rs) in AtTwo n membership (last_by membership h ps (named rs) ++ (t ∷ [])) t (own_by membership h (named rs)) (end membership env h) (unfold child_by in λ j e. refl) rs
  unfolding type_by last_by own_by end
  membership-at [] = membership-ending n (base t_unknown) (base t_unknown)
  membership-at (r ∷ []) = λ x. membership-ending n r.ty (base t_unknown)
  membership-at (r ∷ s ∷ rs) = λ x y. membership-ending n r.ty s.ty

  pub membership-run : (rs : List Res) → length ps ≡ length rs → Said membership env n h ps rs
  membership-run rs l =
      let t = type_by membership env h ps (named rs) in
      said-alike membership env n h ps rs
      (unfold start in alike-two n membership (last_by membership h ps (named rs) ++ (t ∷ [])) t (own_by membership h (named rs)) (end membership env h) (unfold child_by in λ j e. refl)
      (unfold child keep_two in λ q b u. refl) (unfold child keep_two in λ v q b u. refl) (unfold child keep_two in λ v w q b u. refl) ps rs l (membership-at rs))
