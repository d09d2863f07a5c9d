use Prim.Native.Nat.{◌-◌, ◌≤◌}
use lib.ListN.{length}
use Rattle.line.specs.Known.{HighAt}
use Rattle.line.proofs.known.known_end.Given as goal

abbrev pub invariant-loop-end : goal.invariant-loop-end
invariant-loop-end l = HighAt l.sheet l.at × (l.at ≤ l.end) × ((d : HighAt l.sheet l.at) → l.end ≤ d.end)

abbrev pub decreases-loop-end : goal.decreases-loop-end
decreases-loop-end l = length l.sheet - l.end
