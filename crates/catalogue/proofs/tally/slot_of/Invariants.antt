use Rattle.std.proofs.Common.{◌≡◌, ◌<◌, drop}
use Rattle.catalogue.specs.Slots.{slot_of}
use Rattle.catalogue.proofs.tally.slot_of.Given as goal

abbrev pub invariant-loop-b : goal.invariant-loop-b
invariant-loop-b l = (l.h < 32768) × (slot_of 0 l.t ≡ slot_of l.h (drop l.b-index l.t))
