use Rattle.exprs.proofs.StateLaws.{second-new}
use Rattle.exprs.proofs.state.keep_second.Goals as goal

pub returns : goal.returns
returns c = second-new c.state.ensures
