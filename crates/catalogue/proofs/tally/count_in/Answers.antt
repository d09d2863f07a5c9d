use Rattle.std.proofs.Common.{◌∙◌, ap}
use Rattle.catalogue.specs.Slots.{raised}
use Rattle.catalogue.proofs.SlotLaws.{raised-low, raised-high}
use Rattle.catalogue.proofs.tally.count_in.Goals as goal

pub returns-then-n-lt-TWICE : goal.returns-then-n-lt-TWICE
returns-then-n-lt-TWICE c = raised-low _ _ c.if-n-lt-TWICE.true ∙ ap (raised _) c.slot_of-h.ensures.0

pub returns-else-n-lt-TWICE : goal.returns-else-n-lt-TWICE
returns-else-n-lt-TWICE c = raised-high _ _ c.if-n-lt-TWICE.false ∙ ap (raised _) c.slot_of-h.ensures.0
