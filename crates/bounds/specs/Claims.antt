-- What is claimed of sizes: how long a report can get, how deep a type, and that the work area is enough (DESIGN 5).
use Rattle.std.specs.Prelude.{◌≡◌, List, [], ◌∷◌, false, ℕ, suc, ◌+◌, ◌-◌, ◌*◌, ◌≤◌, length, take}
use Rattle.semantics.specs.Limits.{type_limit}
use Rattle.semantics.specs.All.{All}
use Rattle.semantics.specs.Regular.{Regular}
use Rattle.semantics.specs.Ty.{Ty, too_large}
use Rattle.semantics.specs.Sheet.{Head, expression_place, at, arity}
use Rattle.semantics.specs.Walk.{Env, walk}
use Rattle.report.specs.Report.{faults_text}
use Rattle.hir.specs.Lines.{Met}
use Rattle.unify.specs.Work.{slots}
use Rattle.walk_run.specs.Depth.{levels, Pairs}
use Rattle.bounds.specs.Sizes.{sizes}

-- the most bytes that a type may have
abbrev pub slot : ℕ
slot = type_limit

pub record Bounds : Type 0 where
  -- the fault lines of a tree of k lines have less than k slots
  pub faults : (env : Env) (n : ℕ) (hs : List Head) → Pairs (λ r k. length (faults_text r.faults) + 512 ≤ slot * k) (walk env n hs) (sizes hs)
  -- where e levels of depth are left, the children of an expression have types of fewer levels
  pub children : (env : Env) (n e : ℕ) (h : Head) (hs ks : List Head) → Met (at expression_place e ∷ []) (h ∷ hs) ks
      → All (λ r. levels r.ty ≤ e - 1) (take (arity h) (walk env (suc n) hs))
  -- so two of them and all that their unification writes fit in the work area that is left there
  pub room : (d : ℕ) (a b : Ty) → 1 ≤ d → Regular a → Regular b → too_large a ≡ false → too_large b ≡ false → levels a ≤ d - 1 → levels b ≤ d - 1
      → 2 * slot + slot * slots a b ≤ slot * (d + 40)
