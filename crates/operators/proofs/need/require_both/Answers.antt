use Rattle.operators.proofs.OpLaws.{asked-room, asked-two}
use Rattle.operators.proofs.need.require_both.Goals as goal

pub require-requires-2 : goal.require-requires-2
require-requires-2 c = asked-room _ c.requires.0 c.requires.1 c.require.ensures.adds

pub returns-clause-adds : goal.returns-clause-adds
returns-clause-adds c = asked-two _ c.require.ensures.adds c.require-2.ensures.adds
