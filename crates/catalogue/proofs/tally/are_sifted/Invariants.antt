use Rattle.std.proofs.Common.{◌-◌}
use Rattle.catalogue.proofs.SlotLaws.{Sieves}
use Rattle.catalogue.proofs.tally.are_sifted.Given as goal

abbrev pub invariant-loop-entry : goal.invariant-loop-entry
invariant-loop-entry l = Sieves l.entries l.later l.counts

abbrev pub decreases-loop-entry : goal.decreases-loop-entry
decreases-loop-entry l = l.later.end - l.later.at
