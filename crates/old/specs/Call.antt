-- The call that makes an old line regular: what the functions of call.rt ensure.
use Rattle.std.specs.Prelude.{ℕ, ◌≡◌, Result, Ok, Err}
use Rattle.std.proofs.Math.Option.{some}
use Rattle.semantics.specs.Bytes.{Bytes}
use Rattle.semantics.specs.Ty.{Ty}
use Rattle.semantics.specs.Calls.{Settled, zeros}
use Rattle.semantics.specs.Refusals.{number_of}
use Rattle.semantics.specs.declared.refusals.Refusal.{Refusal}
use Rattle.semantics.specs.declared.refusals.Refused.{Refused}
use Rattle.old_lines.specs.Old.{old_line}

-- a call's outcome as one value
abbrev pub settled_by : Result ℕ Refused → Bytes → Bytes → Settled
settled_by (Ok n) work out = record { number = 0; first = n; second = 0; work = work; out = out }
settled_by (Err r) work out = record { number = number_of r.why; first = r.place; second = 0; work = work; out = out }

pub record SomeOld (s : Bytes) : Type 0 where
  pub ty : Ty
  pub read : old_line s ≡ some ty

-- the line stands in the output, and the work area is still to be cleared; where the call refuses, the output is, too
abbrev pub Settles : Settled → Bytes → Bytes → Bytes → Result ℕ Refusal → Type 0
Settles u work out out' (Ok n) = u ≡ record { number = 0; first = n; second = 0; work = zeros work; out = out' }
Settles u work out out' (Err why) = u ≡ record { number = number_of why; first = 0; second = 0; work = zeros work; out = zeros out }
