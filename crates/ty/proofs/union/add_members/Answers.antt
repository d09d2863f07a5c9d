use Rattle.ty.proofs.UnionLaws.{add-pending, add-less, add-again, add-members, add-grew}
use Rattle.ty.proofs.union.add_members.Goals as goal

pub add_next-rest-requires : goal.add_next-rest-requires
add_next-rest-requires c = add-pending c.requires c.loop-rest.invariant c.loop-rest-test.true

pub loop-rest-smaller : goal.loop-rest-smaller
loop-rest-smaller c = add-less c.requires c.loop-rest.invariant c.loop-rest-test.true c.add_next-rest.ensures

pub loop-rest-preserved : goal.loop-rest-preserved
loop-rest-preserved c = add-again c.requires c.loop-rest.invariant c.loop-rest-test.true c.add_next-rest.ensures

pub union_size-requires : goal.union_size-requires
union_size-requires c = add-members c.requires c.loop-rest.invariant c.loop-rest-test.false

pub returns : goal.returns
returns c = add-grew c.requires c.loop-rest.invariant c.loop-rest-test.false c.union_size.ensures
