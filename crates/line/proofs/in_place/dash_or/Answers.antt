use Rattle.std.proofs.Common.{arith}
use Rattle.line.proofs.QuickFields.{dash-got, optional-got}
use Rattle.line.proofs.in_place.dash_or.Goals as goal

pub returns-then-sheet-at-eq-DASH : goal.returns-then-sheet-at-eq-DASH
returns-then-sheet-at-eq-DASH c = dash-got _ _ _ _ (omega arith) c.if-sheet-at-eq-DASH.true c.requires.1

pub returns-in-Optional : goal.returns-in-Optional
returns-in-Optional c = rw c.in-Optional.is (optional-got _ _ _ _ c.if-sheet-at-eq-DASH.false (c.ranged_at.ensures _))
