use Rattle.std.proofs.Common.{ap, length, arith, rules}
use Rattle.writer.proofs.Laws.{wrote_both}
use Rattle.report.specs.Report.{code_fault}
use Rattle.report.proofs.ReportLaws.{adds-line, head-long, code-line}
use Rattle.report.proofs.Report.fault.Goals as goal

pub write-requires : goal.write-requires
write-requires c = omega (arith, ap length c.head.ensures, head-long c.args.code)

pub write-requires-2 : goal.write-requires-2
write-requires-2 c = omega (arith, ap length c.head.ensures, head-long c.args.code, c.type_name.ensures.short, c.write.ensures.wrote.end)

pub end_line-requires : goal.end_line-requires
end_line-requires c =
    omega (arith, ap length c.head.ensures, head-long c.args.code, c.type_name.ensures.short, c.write.ensures.wrote.end, c.write-2.ensures.wrote.end)

pub returns-clause-adds : goal.returns-clause-adds
returns-clause-adds c u e =
    let all = wrote_both c.write.ensures.wrote (wrote_both c.write-2.ensures.wrote c.end_line.ensures.wrote) in
    adds-line (code_fault c.args.code u) (code-line c.args.code u c.head.ensures (c.type_name.ensures.names u e)) all (search rules)
