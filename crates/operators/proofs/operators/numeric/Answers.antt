use Rattle.operators.proofs.RequireLaws.{numeric-same, numeric-unknown}
use Rattle.operators.proofs.operators.numeric.Goals as goal

pub returns-then-meets : goal.returns-then-meets
returns-then-meets c = numeric-same _ _ c.meets.ensures c.if-meets.true c.requires

pub returns-else-meets : goal.returns-else-meets
returns-else-meets c = numeric-unknown _ _ c.meets.ensures c.if-meets.false
