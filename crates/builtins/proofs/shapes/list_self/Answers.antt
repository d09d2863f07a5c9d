use Rattle.builtins.proofs.Laws.{self-returned, self-other}
use Rattle.builtins.proofs.shapes.list_self.Goals as goal

pub returns-in_default : goal.returns-in_default
returns-in_default c ts h = let w = c.append.ensures in self-other _ _ _ _ ts h (rw c.in_default.is at c.list_len.ensures) c.requires.room w.0 w.1

pub returns : goal.returns
returns c ts h = let (e, g) = rw c.in-Some.is at c.list_len.ensures in self-returned _ _ ts (rw e at h) g
