-- The claim: growth, heights and rooms together. Assumes nothing.
use Rattle.bounds.specs.Claims.{Bounds}
use Rattle.bounds.proofs.Growth.{walk-texts}
use Rattle.bounds.proofs.Heights.{children-low}
use Rattle.bounds.proofs.Rooms.{low-fit}

pub bounds : Bounds
bounds = record { faults = walk-texts; children = children-low; room = low-fit }
