use Rattle.line.specs.declared.shapes.Shape.TheVariants.{Alias}
use Rattle.line.proofs.QuickFields.{dash-got, dashed-alias}
use Rattle.line.proofs.KnownFields.{dash-inside, spelled_high, alias-spelled, got-high}
use Rattle.line.proofs.known.known_alias.Goals as goal

pub returns-then-sheet-at-eq-DASH : goal.returns-then-sheet-at-eq-DASH
returns-then-sheet-at-eq-DASH c = dash-got _ _ _ Alias (dash-inside _ _ _ _ c.requires c.if-sheet-at-eq-DASH.true) c.if-sheet-at-eq-DASH.true dashed-alias

pub known_end-requires : goal.known_end-requires
known_end-requires c = spelled_high _ _ _ Alias c.requires (alias-spelled _ _ _ c.if-sheet-at-eq-DASH.false c.requires).0

pub returns : goal.returns
returns c = got-high _ _ _ 1 _ Alias c.requires (alias-spelled _ _ _ c.if-sheet-at-eq-DASH.false c.requires) c.known_end.ensures
