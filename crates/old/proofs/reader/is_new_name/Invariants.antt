use Prim.Native.Nat.{◌-◌}
use Rattle.old.proofs.Entered.{Scanning}
use Rattle.old.proofs.reader.is_new_name.Given as goal

abbrev pub invariant-loop-p : goal.invariant-loop-p
invariant-loop-p l = Scanning l.s l.from l.q l.e l.p

abbrev pub decreases-loop-p : goal.decreases-loop-p
decreases-loop-p l = l.q - l.p
