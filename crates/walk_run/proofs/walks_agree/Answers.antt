-- The claim. Assumes nothing.
use Rattle.walk_run.proofs.Theorem.{running-walk}
use Rattle.walk_run.proofs.walks_agree.Goals as goal

pub returns : goal.returns
returns c = running-walk
