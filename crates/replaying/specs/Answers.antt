-- What a call answers, as a case says it.
use Rattle.std.specs.Prelude.{ℕ, Result, Ok, Err}
use Rattle.semantics.specs.Refusals.{number_of}
use Rattle.semantics.specs.declared.refusals.Refused.{Refused}
use Rattle.replaying.specs.declared.answer.Answer.{Answer}

-- of a call that tells one number
abbrev pub answered : Result ℕ Refused → Answer
answered (Ok n) = record { number = 0; first = n; second = 0 }
answered (Err r) = record { number = number_of r.why; first = r.place; second = 0 }
