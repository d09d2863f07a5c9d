-- The claims. Assumes nothing.
use Rattle.rewording.proofs.Theorem.{demand-three}
use Rattle.rewording.proofs.Unread.{secrecy}
use Rattle.rewording.proofs.rewordings_agree.Goals as goal

pub returns : goal.returns
returns c = (demand-three, secrecy)
