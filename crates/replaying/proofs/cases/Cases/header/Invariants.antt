-- `header`: the letter is behind.
use Rattle.std.proofs.Common.{length, ◌<◌}
use Rattle.replaying.proofs.cases.Cases.header.Given as goal

abbrev pub invariant-loop-i : goal.invariant-loop-i
invariant-loop-i g l = length l.self.rest.now < length l.fn.self.rest.now
