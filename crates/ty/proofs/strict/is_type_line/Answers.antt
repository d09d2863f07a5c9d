use mathlib.Core.Path.{◌∙◌}
use native.Mathlib.Omega.{arith}
use Rattle.ty.proofs.StrictForm.{strict_laws, line-long, line_read}
use Rattle.ty.proofs.strict.is_type_line.Goals as goal

pub returns-then-s-gt-TYPE_LIMIT : goal.returns-then-s-gt-TYPE_LIMIT
returns-then-s-gt-TYPE_LIMIT c = line-long _ c.if-s-gt-TYPE_LIMIT.true

pub returns : goal.returns
returns c = c.eq.ensures ∙ line_read _ _ c.read_type.ensures c.if-s-gt-TYPE_LIMIT.false

pub read_type-requires : goal.read_type-requires
read_type-requires c = (omega arith, strict_laws)
