use Rattle.std.proofs.Common.{arith}
use Rattle.line.proofs.KnownFields.{minus_digits, minus-small, got-minus, plus_digits, plus-small, got-plus}
use Rattle.line.proofs.known.known_signed.Goals as goal

pub known_digits-got-requires : goal.known_digits-got-requires
known_digits-got-requires c = minus_digits _ _ _ c.requires c.if-sheet-at-eq-DASH.true

pub overflow_sub-result : goal.overflow_sub-result
overflow_sub-result c = omega (arith, minus-small _ _ _ c.requires c.if-sheet-at-eq-DASH.true _ c.known_digits-got.ensures)

pub returns-then-sheet-at-eq-DASH : goal.returns-then-sheet-at-eq-DASH
returns-then-sheet-at-eq-DASH c = got-minus _ _ _ c.requires c.if-sheet-at-eq-DASH.true _ c.known_digits-got.ensures

pub known_digits-got-requires-2 : goal.known_digits-got-requires-2
known_digits-got-requires-2 c = plus_digits _ _ _ c.requires c.if-sheet-at-eq-DASH.false

pub overflow_add-result : goal.overflow_add-result
overflow_add-result c = let x = plus-small _ _ _ c.requires c.if-sheet-at-eq-DASH.false _ c.known_digits-got-2.ensures in omega (arith, x)

pub returns : goal.returns
returns c = got-plus _ _ _ c.requires c.if-sheet-at-eq-DASH.false _ c.known_digits-got-2.ensures
