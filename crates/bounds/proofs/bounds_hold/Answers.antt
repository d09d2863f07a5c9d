-- The claim. Assumes nothing.
use Rattle.bounds.proofs.Claim.{bounds}
use Rattle.bounds.proofs.bounds_hold.Goals as goal

pub returns : goal.returns
returns c = bounds
