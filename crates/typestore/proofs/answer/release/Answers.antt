-- `release`: what is said is the answer of the call.
use Rattle.std.proofs.Common.{refl, arith}
use Rattle.semantics.specs.Bytes.{text}
use Rattle.typestore.proofs.AnswerLaws.{accepted}
use Rattle.typestore.proofs.answer.release.Goals as goal

pub returns-in-Ok : goal.returns-in-Ok
unfolding text
returns-in-Ok c = let h = c.numbers_line.ensures.short in accepted _ _ _ _ _ _ _ _ c.in-Ok.ensures refl refl (cc) c.numbers_line.ensures.appended (omega arith)
