-- What the functions under the call ensure.
use Rattle.std.specs.Prelude.{ℕ, ◌≤◌, ◌≡◌, ◌++◌, length, Result, Ok, Err}
use Rattle.semantics.specs.Limits.{type_limit, unify_output}
use Rattle.semantics.specs.Bytes.{Bytes}
use Rattle.semantics.specs.Ty.{Ty, line}
use Rattle.semantics.specs.Calls.{Settled, zeros, written}
use Rattle.unify_run.specs.Run.{Run, done, mismatch, large}
use Rattle.semantics.specs.declared.refusals.Refusal.{Refusal}
use Rattle.semantics.specs.declared.refusals.Refusal.TheVariants.{TypeTooLarge}
use Rattle.unify.specs.Work.{Unified, Answered}
use Rattle.unifying.specs.declared.NotUnified.{NotUnified}
use Rattle.unifying.specs.declared.NotUnified.TheVariants.{Mismatch, Refused}
use Rattle.unifying.specs.Call.{settled, settled_by}

abbrev Short : Ty → Type 0
Short t = length (line t) ≤ type_limit

-- lines that are not too long
abbrev pub ShortRun : Run → Type 0
ShortRun (done t) = Short t
ShortRun (mismatch x y) = Short x × Short y
ShortRun large = Unit {0}

-- an answer at the mark, and room for two lines
pub record SomeAnswer (s : Bytes) (mark : ℕ) (u : Unified) (out : Bytes) : Type 0 where
  pub run : Run
  pub answered : Answered run s mark u
  pub short : ShortRun run
  pub room : unify_output ≤ length out

-- a refusal
abbrev pub refused_by : Refusal → ℕ → NotUnified
refused_by why place = Refused (record { why = why; place = place })

-- what is told of a run
abbrev pub told_by : Run → Result ℕ NotUnified
told_by (done t) = Ok (length (line t))
told_by (mismatch x y) = Err (Mismatch (length (line x)) (length (line y)))
told_by large = Err (refused_by TypeTooLarge 0)

abbrev pub told_to : Run → Bytes → Bytes
told_to (done t) out = written (line t) out
told_to (mismatch x y) out = written (line x ++ line y) out
told_to large out = out

pub record Told (R : Run) (out out' : Bytes) (r : Result ℕ NotUnified) : Type 0 where
  pub call : r ≡ told_by R
  pub output : out' ≡ told_to R out

abbrev pub Tells : Bytes → ℕ → Unified → Bytes → Bytes → Result ℕ NotUnified → Type 0
Tells s mark u out out' r = (R : Run) → Answered R s mark u → ShortRun R → Told R out out' r

-- the output is the outcome's own, or is still to be cleared where the call refuses
abbrev pub Delivers : Result ℕ NotUnified → Settled → Bytes → Bytes → Type 0
Delivers (Ok n) U out out' = out' ≡ U.out
Delivers (Err (Mismatch expected actual)) U out out' = out' ≡ U.out
Delivers (Err (Refused r)) U out out' = U.out ≡ zeros out

-- an outcome, but for the buffers
pub record Settles (U : Settled) (work out out' : Bytes) (r : Result ℕ NotUnified) : Type 0 where
  pub told : (w o : Bytes) → settled r w o ≡ settled_by U.number U.first U.second w o
  pub cleared : U.work ≡ zeros work
  pub output : Delivers r U out out'
