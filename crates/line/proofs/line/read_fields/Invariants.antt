use Rattle.line.proofs.LineLaws.{FillInv}
use Rattle.line.proofs.line.read_fields.Given as goal

abbrev pub invariant-loop-shape : goal.invariant-loop-shape
invariant-loop-shape l = FillInv l.line l.from l.shapes l.fields l.at l.shape-index
