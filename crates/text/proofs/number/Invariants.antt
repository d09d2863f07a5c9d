use Rattle.std.proofs.Common.{◌≡◌, ◌<◌, ◌^◌, drop}
use Rattle.semantics.specs.Bytes.{digits}
use Rattle.text.proofs.number.Given as goal

abbrev pub invariant-loop-c : goal.invariant-loop-c
invariant-loop-c l = (l.n < 2 ^ 64) × (digits 0 l.t ≡ digits l.n (drop l.c-index l.t))
