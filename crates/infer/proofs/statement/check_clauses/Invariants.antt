use Prim.Native.Nat.{◌+◌, ◌-◌}
use lib.ListN.{length}
use Rattle.infer.proofs.StatementLaws.{Going}
use Rattle.infer.proofs.statement.check_clauses.Given as goal

abbrev pub invariant-loop-word : goal.invariant-loop-word
invariant-loop-word l = Going l.levels l.sheet.text.now l.sheet.binds l.initial.c l.initial.work l.work l.initial.report.writer.now.out.now l.initial.report l.c l.report l.types

abbrev pub decreases-loop-word : goal.decreases-loop-word
decreases-loop-word l = length l.sheet.text.now + 2 - l.c.line.0
