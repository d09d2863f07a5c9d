use Rattle.writer.proofs.Laws.{wrote_both}
use Rattle.writer.proofs.Writer.line.Goals as goal

pub returns-clause-wrote : goal.returns-clause-wrote
returns-clause-wrote c = wrote_both c.write.ensures.wrote (wrote_both c.write-2.ensures.wrote c.end_line.ensures.wrote)
