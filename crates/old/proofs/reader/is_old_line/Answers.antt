use mathlib.Core.Path.{◌∙◌}
use native.Mathlib.Omega.{arith}
use Rattle.old.proofs.LooseForm.{loose_laws}
use Rattle.old.proofs.OldLine.{old-long, old-read}
use Rattle.old.proofs.reader.is_old_line.Goals as goal

pub returns-then-s-gt-OLD_LIMIT : goal.returns-then-s-gt-OLD_LIMIT
returns-then-s-gt-OLD_LIMIT c = old-long _ c.if-s-gt-OLD_LIMIT.true

pub returns : goal.returns
returns c = c.eq.ensures ∙ old-read _ _ c.read_type.ensures c.if-s-gt-OLD_LIMIT.false

pub read_type-requires : goal.read_type-requires
read_type-requires c = (omega arith, loose_laws)
