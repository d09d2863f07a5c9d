use Rattle.line.proofs.ReadLaws.{read-line}
use Rattle.line.proofs.line.read_any.Goals as goal

pub returns : goal.returns
returns c = read-line _ _ _ c.line_end-end.ensures c.if-end-sheet.false _ c.read_words.ensures.0 c.read_words.ensures.1
