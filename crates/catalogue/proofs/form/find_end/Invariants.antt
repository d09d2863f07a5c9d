use Rattle.std.proofs.Common.{◌-◌, length}
use Rattle.catalogue.proofs.CheckLaws.{Tail}
use Rattle.catalogue.proofs.form.find_end.Given as goal

abbrev pub invariant-loop-passed : goal.invariant-loop-passed
invariant-loop-passed l = Tail l.s l.last l.at l.prev

abbrev pub decreases-loop-passed : goal.decreases-loop-passed
decreases-loop-passed l = length l.s - l.at
