use Rattle.std.proofs.Common.{eq-eqb}
use Rattle.report.proofs.ReportLaws.{open_any, open-other}
use Rattle.report.proofs.is_open.Goals as goal

pub returns-then-kind-eq-ANY : goal.returns-then-kind-eq-ANY
returns-then-kind-eq-ANY c = rw (eq-eqb c.args.kind 65 c.if-kind-eq-ANY.true) (open_any c.args.kind c.if-kind-eq-ANY.true)

pub returns-else-kind-eq-ANY : goal.returns-else-kind-eq-ANY
returns-else-kind-eq-ANY c = open-other c.args.kind c.if-kind-eq-ANY.false
