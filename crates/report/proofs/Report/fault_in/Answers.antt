use Rattle.std.proofs.Common.{rules}
use Rattle.semantics.specs.Bytes.{text, shown, shown_in}
use Rattle.semantics.specs.Walk.{fault_2012}
use Rattle.writer.proofs.Laws.{wrote_both}
use Rattle.report.proofs.ReportLaws.{adds-line, in-line}
use Rattle.report.proofs.Report.fault_in.Goals as goal

pub returns-clause-adds : goal.returns-clause-adds
unfolding text shown shown_in
returns-clause-adds c u v e f =
    let all = wrote_both c.write.ensures.wrote (wrote_both c.write-2.ensures.wrote (wrote_both c.put.ensures.wrote (wrote_both c.write-3.ensures.wrote c.end_line.ensures.wrote))) in
    adds-line (fault_2012 u v) (in-line u v (c.type_name.ensures.names u e) (c.type_name-2.ensures.names v f)) all (search rules)
