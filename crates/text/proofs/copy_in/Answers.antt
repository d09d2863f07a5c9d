use Rattle.std.proofs.Common.{◌∙◌, ◌+◌, arith}
use Rattle.text.proofs.Laws.{within}
use Rattle.text.proofs.copy_in.Goals as goal

pub returns : goal.returns
returns c = let a = c.args in c.copy_within.ensures.after ∙ within a.s.now a.from (a.from + a.len) a.to (omega arith) c.requires.0 (omega (arith, c.requires.1))
