-- The claim. Assumes nothing.
use Rattle.tops.proofs.TopsLaws.{tops-in-order}
use Rattle.tops.proofs.tops_agree.Goals as goal

pub returns : goal.returns
returns c = tops-in-order
