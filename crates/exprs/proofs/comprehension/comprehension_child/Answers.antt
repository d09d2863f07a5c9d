use Rattle.exprs.proofs.StateLaws.{last-new}
use Rattle.exprs.proofs.comprehension.comprehension_child.Goals as goal

pub returns : goal.returns
returns c = last-new c.state.ensures
