use Rattle.std.proofs.Common.{arith}
use Rattle.writer.proofs.Laws.{wrote_both}
use Rattle.report.proofs.ReportLaws.{wrote_line}
use Rattle.report.proofs.numbers_line.Goals as goal

pub returns-clause-line : goal.returns-clause-line
returns-clause-line c =
    let all = wrote_both c.write.ensures.wrote (wrote_both c.decimal.ensures.wrote (wrote_both c.put.ensures.wrote (wrote_both c.decimal-2.ensures.wrote c.end_line.ensures.wrote))) in
    record {
      appended = wrote_line all;
      short = omega (arith, c.write.ensures.wrote.end, c.decimal.ensures.short, c.put.ensures.wrote.end, c.decimal-2.ensures.short, c.end_line.ensures.wrote.end);
    }
