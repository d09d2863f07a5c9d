-- Lines that are no expressions: what stands under them passes through. Assumes nothing.
use mathlib.Core.Path.{◌≡◌, refl, sym, ◌∙◌, ap}
use mathlib.Core.List.{List, [], ◌∷◌, ◌++◌, append-nil}
use mathlib.Core.Bool.{Bool, true, false}
use Prim.Native.Nat.{ℕ}
use native.Mathlib.Omega.{arith}
use lib.ListN.{length}
use Rattle.semantics.specs.Ty.{Ty}
use Rattle.semantics.specs.Sheet.{kids, Word, Shape, one, Head, Role, plain, condition, answer, inner, Rule, silent, entering, row, rule, roles, arity}
use Rattle.semantics.specs.Walk.{Res, Env, type_of, asked, spread, own, last_tests, no_part, Part, child, through, label, step, all_tests}
use Rattle.semantics.specs.Calls.{first_large}
use Rattle.semantics.proofs.Words.{every, holds, named, each, kids-each}
use Rattle.semantics.proofs.All.{All, empty, also}
use Rattle.walk_run.specs.Run.{all_faults}
use Rattle.walk_run.proofs.Fine.{step_by, step_by_lem}

-- ## The table: no line without a type asks for a Bool, and the one that passes a type on has one child

-- nothing is asked of a child of this role
abbrev Free : Role → Type 0
Free p = (t : Ty) → asked p t ≡ []

free_role : Role → Bool
free_role plain = true
free_role condition = false
free_role answer = true
free_role (inner q) = true

free-true : (p : Role) → free_role p ≡ true → Free p
unfolding free_role asked
free-true plain e t = refl
free-true condition e t = absurd (let z : ◌≡◌ {A = ℕ} 0 1 = cc in omega arith)
free-true answer e t = refl
free-true (inner q) e t = refl

abbrev ok_under : Rule → Shape → Bool
ok_under silent s = each free_role (named s)
ok_under entering s = true
ok_under (Rule.typed k) s = true

-- what hangs under an entry, or under any other line one expression
abbrev entry_under : Rule → Shape → Shape
entry_under silent s = one plain
entry_under entering s = s
entry_under (Rule.typed k) s = one plain

silent-free : (h : Head) → rule h ≡ silent → All Free (roles h)
unfolding row roles each free_role
silent-free h e =
    let w = h.word in
    let t : ok_under (row w).rule (row w).under ≡ true = holds (λ (v : Word). ok_under (row v).rule (row v).under) refl w in
    kids-each free_role free-true (row w).under (ap (λ (r : Rule). ok_under r (row w).under) (sym e) ∙ t) h.nums

pub entry-one : (h : Head) → rule h ≡ entering → roles h ≡ plain ∷ []
unfolding row roles
entry-one h e =
    let w = h.word in
    let t : entry_under (row w).rule (row w).under ≡ one plain = every (λ (v : Word). entry_under (row v).rule (row v).under) (λ (v : Word). one plain) refl w in
    ap (λ (s : Shape). kids s h.nums) (ap (λ (r : Rule). entry_under r (row w).under) (sym e) ∙ t)

-- ## A line without a type

spread-free : {ps : List Role} → All Free ps → (rs : List Res) → length rs ≡ length ps → spread ps rs ≡ all_faults rs
unfolding spread all_faults
spread-free empty [] e = refl
spread-free empty (r ∷ rs) e = absurd (omega arith)
spread-free (also f a) [] e = absurd (omega arith)
spread-free (also {x = p} {xs = ps} f a) (r ∷ rs) e = ap (λ l. r.faults ++ (l ++ spread ps rs)) (f r.ty) ∙ ap (λ l. r.faults ++ l) (spread-free a rs (omega arith))

through-silent : (n : ℕ) (j : Part) (rs : List Res) → through n silent j rs ≡ all_tests rs
unfolding through child all_tests
through-silent n j [] = refl
through-silent n j (r ∷ rs) = ap (λ l. r.tests ++ l) (through-silent n no_part rs)

-- its faults and its tests are those of its children
pub silent-run : (env : Env) (n : ℕ) (h : Head) → rule h ≡ silent → (rs : List Res) → length rs ≡ arity h → ((step env n h rs).faults ≡ all_faults rs) × ((step env n h rs).tests ≡ all_tests rs)
unfolding arity
silent-run env n h e rs l = (
  ap (λ r. r.faults) s ∙ unfold own in append-nil (spread (roles h) rs) ∙ spread-free (silent-free h e) rs l,
  ap (λ r. r.tests) s ∙ unfold last_tests in append-nil (through n silent no_part rs) ∙ through-silent n no_part rs,
)
  where
    s : step env n h rs ≡ step_by silent (roles h) env n h rs
    s = step_by_lem env n h silent e rs

-- so the first of its tests that is too large is that of its children
pub silent-large : (env : Env) (n : ℕ) (h : Head) → rule h ≡ silent → (rs : List Res) → length rs ≡ arity h → first_large (step env n h rs).tests ≡ first_large (all_tests rs)
silent-large env n h e rs l = ap first_large (silent-run env n h e rs l).1

-- ## A line that passes its expression's type on

pub entering-run : (env : Env) (n : ℕ) (h : Head) → rule h ≡ entering → (r : Res)
    → ((step env n h (r ∷ [])).name ≡ h.name) × ((step env n h (r ∷ [])).ty ≡ r.ty) × ((step env n h (r ∷ [])).faults ≡ r.faults) × ((step env n h (r ∷ [])).tests ≡ r.tests)
entering-run env n h e r = (ap (λ x. x.name) s ∙ (unfold label in refl), ap (λ x. x.ty) s ∙ (unfold type_of in refl), ap (λ x. x.faults) s ∙ faults, ap (λ x. x.tests) s ∙ tests)
  where
    s : step env n h (r ∷ []) ≡ step_by entering (roles h) env n h (r ∷ [])
    s = step_by_lem env n h entering e (r ∷ [])

    faults : (step_by entering (roles h) env n h (r ∷ [])).faults ≡ r.faults
    faults = ap (λ ps. (step_by entering ps env n h (r ∷ [])).faults) (entry-one h e) ∙ unfold own spread asked in append-nil (r.faults ++ []) ∙ append-nil r.faults

    tests : (step_by entering (roles h) env n h (r ∷ [])).tests ≡ r.tests
    tests = unfold last_tests through child in append-nil (r.tests ++ []) ∙ append-nil r.tests
