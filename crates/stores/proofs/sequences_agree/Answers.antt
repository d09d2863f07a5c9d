-- The claim. Assumes nothing.
use Rattle.stores.proofs.Calls.{any-calls}
use Rattle.stores.proofs.sequences_agree.Goals as goal

pub returns : goal.returns
returns c = any-calls
