use Rattle.std.proofs.Common.{arith}
use Rattle.line.proofs.QuickLaws.{lead-three, lead-four}
use Rattle.line.proofs.quick.lead_of.Goals as goal

pub returns-then-d-lt97 : goal.returns-then-d-lt97
returns-then-d-lt97 c = lead-three c.args.sheet.now c.args.at _ (omega arith) (omega arith) (omega arith) (omega arith) (λ x. omega (arith, c.type_inv.sheet x)) (omega arith)

pub returns-then-sheet-at-lt97 : goal.returns-then-sheet-at-lt97
returns-then-sheet-at-lt97 c = rw c.from-then-sheet-at-lt97.ensures (lead-four c.args.sheet.now c.args.at _ (omega arith) (omega arith) (omega arith) (omega arith) (λ x. omega (arith, c.type_inv.sheet x)) (omega arith) (omega arith) (omega arith))
