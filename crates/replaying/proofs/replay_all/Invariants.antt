-- `replay_all`: the measure is what is left of the text.
use Rattle.std.proofs.Common.{length}
use Rattle.replaying.proofs.replay_all.Given as goal

abbrev pub decreases-loop-cases : goal.decreases-loop-cases
decreases-loop-cases g l = length l.cases.rest.now
