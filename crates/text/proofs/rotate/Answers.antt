use Rattle.text.proofs.Laws.{turned}
use Rattle.text.proofs.rotate.Goals as goal

pub returns-else-m-a-le-ASIDE : goal.returns-else-m-a-le-ASIDE
returns-else-m-a-le-ASIDE c = let a = c.args in turned a.s.now _ a.a a.m a.e c.requires.0 c.requires.1 c.requires.2 c.rotate_left.ensures.after
