-- The claim. Assumes nothing.
use Rattle.unify_run.proofs.Theorem.{running-unify}
use Rattle.unify_run.proofs.runs_agree.Goals as goal

pub returns : goal.returns
returns c = running-unify
