use Rattle.std.proofs.Common.{refl}
use Rattle.catalogue.proofs.SlotLaws.{count-on, count-end}
use Rattle.catalogue.proofs.tally.count_all.Goals as goal

pub loop-entry-preserved : goal.loop-entry-preserved
loop-entry-preserved c = count-on _ _ _ _ _ _ _ _ c.loop-entry.invariant c.next.ensures.steps c.in-Some.is _ refl _ c.count_in.ensures

pub returns : goal.returns
returns c = count-end _ _ _ _ _ _ _ c.loop-entry.invariant c.next.ensures.steps c.in-None.is
