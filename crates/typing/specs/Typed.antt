-- What the call that types a sheet, and the function under it, ensure.
use Rattle.std.specs.Prelude.{ℕ, ◌≡◌, Result, Ok, Err}
use Rattle.semantics.specs.Bytes.{Bytes}
use Rattle.semantics.specs.Calls.{Settled, zeros}
use Rattle.semantics.specs.Refusals.{number_of}
use Rattle.semantics.specs.declared.refusals.Refused.{Refused}
use Rattle.unifying.specs.Call.{settled_by}

-- a call's outcome as one value: 0 and the report's length, or the number of the refusal and its place
abbrev pub settled_as : Result ℕ Refused → Bytes → Bytes → Settled
settled_as (Ok n) work out = settled_by 0 n 0 work out
settled_as (Err r) work out = settled_by (number_of r.why) r.place 0 work out

-- the outcome, once the work area and, at a refusal, the output are cleared
abbrev pub Types : Settled → Bytes → Bytes → Bytes → Result ℕ Refused → Type 0
Types U work out out' (Ok n) = settled_as (Ok n) (zeros work) out' ≡ U
Types U work out out' (Err r) = settled_as (Err r) (zeros work) (zeros out) ≡ U
