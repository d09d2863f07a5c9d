use Prim.Native.Nat.{◌+◌, ◌-◌, ◌*◌}
use lib.ListN.{length}
use Rattle.unify.proofs.MapLoop.{MapsInv}
use Rattle.unify.proofs.UnionLoops.{MeetInv, OutersInv}
use Rattle.unify.proofs.parts.+unify.Given as goal

-- each function calls those above it with less, and a pair of parts is lent a slot less behind its own mark
abbrev pub decreases-unify_part : goal.decreases-unify_part
decreases-unify_part l = 5 * (length l.work.now - l.mark)

abbrev pub decreases-meet_variants : goal.decreases-meet_variants
decreases-meet_variants l = 5 * (length l.work.now - l.mark) + 1

abbrev pub decreases-unify_union_with : goal.decreases-unify_union_with
decreases-unify_union_with l = 5 * (length l.work.now - l.mark) + 2

abbrev pub decreases-unify_maps : goal.decreases-unify_maps
decreases-unify_maps l = 5 * (length l.work.now - l.mark) + 2

abbrev pub decreases-unify_lists : goal.decreases-unify_lists
decreases-unify_lists l = 5 * (length l.work.now - l.mark) + 2

abbrev pub decreases-unify : goal.decreases-unify
decreases-unify l = 5 * (length l.work.now - l.mark) + 3

abbrev pub invariant-meet_variants-loop-next : goal.invariant-meet_variants-loop-next
invariant-meet_variants-loop-next l = MeetInv l.fn.work l.outer l.variants l.mark l.fn.n l.work l.next l.len l.met

abbrev pub decreases-meet_variants-loop-next : goal.decreases-meet_variants-loop-next
decreases-meet_variants-loop-next l = l.variants.to - l.next

abbrev pub invariant-unify_maps-loop-values : goal.invariant-unify_maps-loop-values
invariant-unify_maps-loop-values l = MapsInv l.fn.work l.fn.a l.fn.b l.mark l.work l.m

abbrev pub decreases-unify_maps-loop-values : goal.decreases-unify_maps-loop-values
decreases-unify_maps-loop-values l = l.mark - l.m.p

abbrev pub invariant-unify_union_with-loop-next : goal.invariant-unify_union_with-loop-next
invariant-unify_union_with-loop-next l = OutersInv l.fn.work l.outers l.variants l.mark l.work l.next l.n

abbrev pub decreases-unify_union_with-loop-next : goal.decreases-unify_union_with-loop-next
decreases-unify_union_with-loop-next l = l.outers.to - l.next
