-- What is claimed of the running form: on regular types that are not too large it answers what the definition's answer and tests come to.
use Rattle.std.specs.Prelude.{◌≡◌, false, ◌+◌}
use Rattle.semantics.specs.Ty.{Ty, nesting, too_large}
use Rattle.semantics.specs.Regular.{Regular}
use Rattle.semantics.specs.Unify.{unify}
use Rattle.unify_run.specs.Run.{verdict, run_arms, run_unify, run}

pub record RunningUnify : Type 0 where
  -- a bound on the recursion as deep as both types are nested is enough
  pub answers : (a b : Ty) → Regular a → Regular b → too_large a ≡ false → too_large b ≡ false → run_unify (nesting a + nesting b) a b ≡ verdict (unify a b)
  -- one step over what the definition answers inside
  pub steps : (a b : Ty) → Regular a → Regular b → too_large a ≡ false → too_large b ≡ false → verdict (unify a b) ≡ run_arms (λ c d. verdict (unify c d)) a b
  -- the recursion itself, which has no bound
  pub recurs : (a b : Ty) → Regular a → Regular b → too_large a ≡ false → too_large b ≡ false → run a b ≡ run_arms run a b
