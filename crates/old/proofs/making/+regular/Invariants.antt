use Prim.Native.Nat.{◌-◌}
use lib.ListN.{length}
use Rattle.old.proofs.MakeLoop.{Makings}
use Rattle.old.proofs.making.+regular.Given as goal

abbrev pub invariant-loop-v : goal.invariant-loop-v
invariant-loop-v l = Makings l.s l.initial.work l.work l.at l.left l.k l.q l.i l.n

abbrev pub decreases-loop-v : goal.decreases-loop-v
decreases-loop-v l = length l.s - l.q

abbrev pub decreases-regular : goal.decreases-regular
decreases-regular l = l.left
