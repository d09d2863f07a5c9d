use native.Mathlib.Omega.{arith}
use Rattle.ty.proofs.UnionEnds.{type-room, opened-room, opened-adding, opened-grew, plain-adding, plain-grew}
use Rattle.ty.proofs.union.add_union.Goals as goal

pub bounds-part-len : goal.bounds-part-len
bounds-part-len c = type-room c.requires.new.at

pub overflow_sub-m-then-part-len-eq-UNION : goal.overflow_sub-m-then-part-len-eq-UNION
overflow_sub-m-then-part-len-eq-UNION c = omega (arith, opened-room c.requires c.if-part-len-eq-UNION.true)

pub copy_in-requires : goal.copy_in-requires
copy_in-requires c = let b = opened-room c.requires c.if-part-len-eq-UNION.true in (omega arith, omega arith)

pub add_members-requires : goal.add_members-requires
add_members-requires c = opened-adding c.requires c.if-part-len-eq-UNION.true c.copy_in.ensures c.copy_in.auto.s

pub returns-then-part-len-eq-UNION : goal.returns-then-part-len-eq-UNION
returns-then-part-len-eq-UNION c = opened-grew c.if-part-len-eq-UNION.true c.copy_in.ensures c.copy_in.auto.s c.add_members.ensures

pub add_members-requires-2 : goal.add_members-requires-2
add_members-requires-2 c = plain-adding c.requires

pub returns : goal.returns
returns c = plain-grew c.if-part-len-eq-UNION.false c.add_members-2.ensures
