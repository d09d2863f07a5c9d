use native.Mathlib.Omega.{arith}
use Rattle.ty.proofs.Skips.{type-room, rel-at, rel-ends}
use Rattle.ty.proofs.Heads.{flat-ends}
use Rattle.ty.proofs.end.type_end.Goals as goal

pub bounds-s-at : goal.bounds-s-at
bounds-s-at c = omega (arith, type-room _ _ c.requires)

pub overflow_add-result : goal.overflow_add-result
overflow_add-result c = omega (arith, type-room _ _ c.requires, c.ranges.at)

pub returns-then-k-lt-LIST : goal.returns-then-k-lt-LIST
returns-then-k-lt-LIST c = flat-ends _ _ c.if-k-lt-LIST.true

pub relationship_end-requires : goal.relationship_end-requires
relationship_end-requires c = (rel-at _ _ c.requires c.if-k-eq-RELATIONSHIP.true, c.if-k-eq-RELATIONSHIP.true)

pub returns-then-k-eq-RELATIONSHIP : goal.returns-then-k-eq-RELATIONSHIP
returns-then-k-eq-RELATIONSHIP c = rel-ends _ _ c.requires c.if-k-eq-RELATIONSHIP.true _ c.relationship_end.ensures
