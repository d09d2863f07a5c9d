-- The clauses of a sheet: what they require, and the report that they ensure.
use Rattle.std.specs.Prelude.{◌≡◌, Result, Ok, Err, List, ℕ, ◌+◌, ◌*◌, ◌≤◌, ◌<◌, length}
use Rattle.std.proofs.Math.Option.{Option, none, some}
use Rattle.std.proofs.lemmas.List.Edits.{sets}
use Rattle.semantics.specs.Limits.{type_limit}
use Rattle.semantics.specs.Bytes.{Bytes}
use Rattle.semantics.specs.Sheet.{Head}
use Rattle.semantics.specs.Walk.{Env, Top, walk, all_tests}
use Rattle.semantics.specs.Calls.{first_large, report}
use Rattle.hir.specs.Lines.{Lines}
use Rattle.tops.specs.Tops.{out_tops}
use Rattle.tops.specs.Standing.{Standing}
use Rattle.infer.specs.Steps.{EnvAs}
use Rattle.infer.specs.declared.step.Env.{Env as Binds}
use Rattle.hir.specs.declared.valid.Next.{Next}
use Rattle.infer.specs.declared.walk.TooLarge.{TooLarge}

-- the clauses stand at the cursor, up to the end of the sheet, with so many levels for each top expression
pub record StatementAt (levels : ℕ) (s : Bytes) (c : Next) : Type 0 where
  pub rest : List Head
  pub lines : Lines s c.at rest (length s)
  pub standing : Standing levels rest
  pub above : c.line.0 ≤ c.at + 1
  pub room : length s < 65536

pub record StatementAsk (levels : ℕ) (s : Bytes) (b : Binds) (c : Next) (work : Bytes) : Type 0 where
  pub at : StatementAt levels s c
  pub env : Env
  pub bound : EnvAs s b env
  pub room : type_limit * (levels + 40) ≤ length work

-- the line of the first type that is too large; or the report from the start of the output on, and its length
abbrev pub MadeAs : Option ℕ → List Top → Bytes → Bytes → Result ℕ TooLarge → Type 0
MadeAs none ts out out' (Ok n) = (n ≡ length (report ts)) × (out' ≡ sets out 0 (report ts))
MadeAs none ts out out' (Err m) = ⊥
MadeAs (some l) ts out out' (Ok n) = ⊥
MadeAs (some l) ts out out' (Err m) = m.0.0 ≡ l

pub record Reported (levels : ℕ) (s : Bytes) (b : Binds) (c : Next) (work work' out out' : Bytes) (r : Result ℕ TooLarge) : Type 0 where
  pub long : length work' ≡ length work
  pub as_long : length out' ≡ length out
  pub made : (a : StatementAt levels s c) (env : Env) → EnvAs s b env
      → MadeAs (first_large (all_tests (walk env c.line.0 a.rest))) (out_tops env c.line.0 a.rest) out out' r
