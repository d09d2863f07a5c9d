use Prim.Native.Nat.{◌+◌, ◌*◌}
use Rattle.hir.proofs.CheckLaws.{KidsInv, reach}
use Rattle.hir.proofs.valid.+check_kids.Given as goal

abbrev pub invariant-loop-j : goal.invariant-loop-j
invariant-loop-j l = KidsInv l.sheet l.kids l.depth l.kids.all l.initial.next.at l.initial.next.line.0 l.next.at l.next.line.0 l.j

-- the depth left, and then the places
abbrev pub decreases-check_kids : goal.decreases-check_kids
decreases-check_kids l = 14 * l.depth + reach l.kids
