use Rattle.unify.proofs.NullLaws.{union-long, opened-null, plain-null, opened-nullable, plain-nullable}
use Rattle.unify.proofs.flat.unify_null.Goals as goal

pub members-requires : goal.members-requires
members-requires c = union-long c.requires c.if-work-from-eq-UNION.true

pub with_null-requires : goal.with_null-requires
with_null-requires c = rw c.members.ensures (opened-null c.requires c.if-work-from-eq-UNION.true)

pub with_null-requires-else-work-from-eq-UNION : goal.with_null-requires-else-work-from-eq-UNION
with_null-requires-else-work-from-eq-UNION c = plain-null c.requires c.if-work-from-eq-UNION.false

pub returns-then-work-from-eq-UNION : goal.returns-then-work-from-eq-UNION
returns-then-work-from-eq-UNION c = opened-nullable c.if-work-from-eq-UNION.true (rw c.members.ensures at c.with_null.ensures)

pub returns-else-work-from-eq-UNION : goal.returns-else-work-from-eq-UNION
returns-else-work-from-eq-UNION c = plain-nullable c.if-work-from-eq-UNION.false c.with_null-else-work-from-eq-UNION.ensures
