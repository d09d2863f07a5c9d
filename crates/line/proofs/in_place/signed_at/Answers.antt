use Rattle.std.proofs.Common.{arith}
use Rattle.line.proofs.QuickFields.{minus-small, minus-got, plus-small, plus-got}
use Rattle.line.proofs.in_place.signed_at.Goals as goal

pub overflow_sub-result : goal.overflow_sub-result
overflow_sub-result c = minus-small _ _ 0 _ (c.in_ok-got.ensures 0)

pub returns-then-sheet-at-eq-DASH : goal.returns-then-sheet-at-eq-DASH
returns-then-sheet-at-eq-DASH c = λ l. minus-got _ _ l _ c.if-sheet-at-eq-DASH.true (c.in_ok-got.ensures l) c.if-got-eq0.false

pub overflow_add-result : goal.overflow_add-result
overflow_add-result c = omega (arith, plus-small _ _ 0 _ (c.in_ok-got-2.ensures 0))

pub returns : goal.returns
returns c = λ l. plus-got _ _ l _ c.if-sheet-at-eq-DASH.false (c.in_ok-got-2.ensures l)
