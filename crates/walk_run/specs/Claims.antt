-- What is claimed of the running form of the walk: a line over its children, kept step by step, comes to what the definition says.
use Rattle.std.specs.Prelude.{◌≡◌, List, false, ℕ, ◌+◌, ◌*◌, ◌≤◌, length}
use Rattle.std.proofs.Math.Option.{none}
use Rattle.semantics.specs.All.{All}
use Rattle.semantics.specs.Regular.{Regular}
use Rattle.semantics.specs.Ty.{nesting, too_large}
use Rattle.semantics.specs.Sheet.{Head, Typing, Rule, rule, roles, arity}
use Rattle.semantics.specs.Walk.{Res, Env, step, walk}
use Rattle.semantics.specs.Calls.{first_large}
use Rattle.walk_run.specs.Run.{run_step, judged}
use Rattle.walk_run.specs.Depth.{levels, height, Pairs}

-- a regular type, which is not too large if none of the tests is
abbrev pub FineRes : Res → Type 0
FineRes r = Regular r.ty × (first_large r.tests ≡ none → too_large r.ty ≡ false)

pub record RunningWalk : Type 0 where
  -- the first test that is too large, or type and faults
  pub steps : (env : Env) (n : ℕ) (h : Head) (q : Typing) → rule h ≡ Rule.typed q → (rs : List Res) → All FineRes rs → length rs ≡ arity h
      → judged (step env n h rs) ≡ run_step env n q h (roles h) rs
  -- every line of a walk is such a child
  pub fine : (env : Env) (n : ℕ) (hs : List Head) → All FineRes (walk env n hs)
  -- a line's type has no more lists and maps on a way down than the line stands high, and nests at most twice as deep, and two more
  pub low : (env : Env) (n : ℕ) (hs : List Head) → Pairs (λ r k. levels r.ty ≤ k) (walk env n hs) (height hs)
  pub nests : (env : Env) (n : ℕ) (hs : List Head) → Pairs (λ r k. nesting r.ty ≤ 2 * k + 2) (walk env n hs) (height hs)
