use Rattle.std.proofs.Common.{◌∙◌, ◌+◌, arith}
use Rattle.text.proofs.Laws.{within}
use Rattle.text.proofs.slide_up.Goals as goal

pub returns-else-len-le-ASIDE : goal.returns-else-len-le-ASIDE
returns-else-len-le-ASIDE c = let a = c.args in c.copy_within.ensures.after ∙ within a.s.now a.from (a.from + a.len) a.to (omega arith) (omega arith) (omega (arith, c.requires.1))
