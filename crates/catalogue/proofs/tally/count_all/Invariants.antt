use Rattle.catalogue.proofs.SlotLaws.{Counts_on}
use Rattle.catalogue.proofs.tally.count_all.Given as goal

abbrev pub invariant-loop-entry : goal.invariant-loop-entry
invariant-loop-entry l = Counts_on l.entries.store.now l.entries.at l.entries.end l.entry-iterator l.counts
