use Rattle.exprs.proofs.StateLaws.{two-second, two-first}
use Rattle.exprs.proofs.state.keep_two.Goals as goal

pub returns-then-st-gt0 : goal.returns-then-st-gt0
returns-then-st-gt0 c = two-second c.if-st-gt0.true c.keep_second.ensures

pub returns : goal.returns
returns c = two-first c.if-st-gt0.false c.keep_first.ensures
