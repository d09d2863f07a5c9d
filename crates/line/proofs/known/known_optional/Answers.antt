use Rattle.line.specs.declared.shapes.Shape.TheVariants.{Optional}
use Rattle.line.proofs.QuickFields.{dash-got, dashed-optional}
use Rattle.line.proofs.KnownFields.{dash-inside, counted_digits, optional-digits, got-counted}
use Rattle.line.proofs.known.known_optional.Goals as goal

pub returns-then-sheet-at-eq-DASH : goal.returns-then-sheet-at-eq-DASH
returns-then-sheet-at-eq-DASH c = dash-got _ _ _ Optional (dash-inside _ _ _ _ c.requires c.if-sheet-at-eq-DASH.true) c.if-sheet-at-eq-DASH.true dashed-optional

pub known_digits-requires : goal.known_digits-requires
known_digits-requires c = counted_digits _ _ _ Optional c.requires (optional-digits _ _ _ c.if-sheet-at-eq-DASH.false c.requires)

pub returns : goal.returns
returns c = got-counted _ _ _ Optional c.requires (optional-digits _ _ _ c.if-sheet-at-eq-DASH.false c.requires) _ c.known_digits.ensures
