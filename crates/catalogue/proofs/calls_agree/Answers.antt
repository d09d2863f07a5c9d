use Rattle.catalogue.proofs.ClaimLaws.{store-calls}
use Rattle.catalogue.proofs.calls_agree.Goals as goal

pub returns : goal.returns
returns c = store-calls
