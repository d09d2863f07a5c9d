use Rattle.std.proofs.Common.{ap, ◌∙◌}
use Rattle.semantics.specs.Sheet.{words}
use Rattle.line.specs.Rows.{word_at}
use Rattle.line.proofs.WordLaws.{no-code}
use Rattle.line.proofs.line.word_spelled.Goals as goal

pub returns-in_err-word_code : goal.returns-in_err-word_code
returns-in_err-word_code c = rw c.from_residual.ensures (ap (λ k. word_at k words) c.in_err-word_code.ensures ∙ no-code)
