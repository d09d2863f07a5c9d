use mathlib.Core.Path.{◌∙◌}
use Rattle.ty.proofs.Sizes.{fits-long, fits-short, fits-deep}
use Rattle.ty.proofs.end.fits.Goals as goal

pub returns-then-s-gt-TYPE_LIMIT : goal.returns-then-s-gt-TYPE_LIMIT
returns-then-s-gt-TYPE_LIMIT c = λ t e. fits-long _ t e c.if-s-gt-TYPE_LIMIT.true

pub returns-then-s : goal.returns-then-s
returns-then-s c = λ t e. fits-short _ t e c.if-s.true

pub returns : goal.returns
returns c = λ t e. c.is_some.ensures ∙ fits-deep _ t e _ c.nesting_end.ensures c.if-s-gt-TYPE_LIMIT.false
