use Rattle.line.proofs.QuickLaws.{QuickInv}
use Rattle.line.proofs.quick.quick_fields.Given as goal

abbrev pub invariant-loop-shape : goal.invariant-loop-shape
invariant-loop-shape g l = QuickInv l.sheet l.end l.shapes l.fields l.at l.shape-index
