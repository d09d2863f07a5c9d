use Rattle.std.proofs.Common.{ap, length, ◌∙◌, arith, rules}
use Rattle.semantics.specs.Builtins.{describe}
use Rattle.semantics.specs.Bytes.{text, shown, shown_in}
use Rattle.semantics.specs.Walk.{fault_5012}
use Rattle.builtins.specs.Rows.{builtin_of, shape_of}
use Rattle.builtins.proofs.Laws.{name-short, describe-short}
use Rattle.writer.proofs.Laws.{wrote_both}
use Rattle.report.proofs.ReportLaws.{adds-line, call-line, only}
use Rattle.report.proofs.Report.fault_call.Goals as goal

pub write-requires-2 : goal.write-requires-2
write-requires-2 c = omega (arith, ap length c.name.ensures, name-short (builtin_of c.args.builtin), c.write.ensures.wrote.end)

pub put-requires : goal.put-requires
put-requires c = omega (arith, ap length c.name.ensures, name-short (builtin_of c.args.builtin), c.write.ensures.wrote.end, c.write-2.ensures.wrote.end)

pub write-requires-3 : goal.write-requires-3
write-requires-3 c = omega (arith, ap length c.name.ensures, name-short (builtin_of c.args.builtin), c.type_name.ensures.short, c.write.ensures.wrote.end, c.write-2.ensures.wrote.end, c.put.ensures.wrote.end)

pub put-requires-2 : goal.put-requires-2
put-requires-2 c =
    omega (arith, ap length c.name.ensures, name-short (builtin_of c.args.builtin), c.type_name.ensures.short, c.write.ensures.wrote.end, c.write-2.ensures.wrote.end, c.put.ensures.wrote.end, c.write-3.ensures.wrote.end)

pub write-requires-4 : goal.write-requires-4
write-requires-4 c =
    omega (arith, ap length c.name.ensures, name-short (builtin_of c.args.builtin), c.type_name.ensures.short, ap length c.describe.ensures, describe-short (shape_of c.param.result), c.write.ensures.wrote.end, c.write-2.ensures.wrote.end, c.put.ensures.wrote.end, c.write-3.ensures.wrote.end, c.put-2.ensures.wrote.end)

pub end_line-requires : goal.end_line-requires
end_line-requires c =
    omega (arith, ap length c.name.ensures, name-short (builtin_of c.args.builtin), c.type_name.ensures.short, ap length c.describe.ensures, describe-short (shape_of c.param.result), c.write.ensures.wrote.end, c.write-2.ensures.wrote.end, c.put.ensures.wrote.end, c.write-3.ensures.wrote.end, c.put-2.ensures.wrote.end, c.write-4.ensures.wrote.end)

pub returns-clause-adds : goal.returns-clause-adds
unfolding text shown shown_in
returns-clause-adds c u e s q =
    let all = wrote_both c.write.ensures.wrote (wrote_both c.write-2.ensures.wrote (wrote_both c.put.ensures.wrote (wrote_both c.write-3.ensures.wrote (wrote_both c.put-2.ensures.wrote (wrote_both c.write-4.ensures.wrote c.end_line.ensures.wrote))))) in
    let expected = c.describe.ensures ∙ ap describe (only (c.param.ensures ∙ q)) in
    adds-line (fault_5012 (builtin_of c.args.builtin) u s) (call-line (builtin_of c.args.builtin) u s c.name.ensures (c.type_name.ensures.names u e) expected) all (search rules)
