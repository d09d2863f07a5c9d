use mathlib.Core.Path.{refl}
use Rattle.unify.proofs.UnionJoins.{join-adding, joined-law}
use Rattle.unify.proofs.unions.add_copy.Goals as goal

pub add_members-requires : goal.add_members-requires
add_members-requires c = join-adding refl c.copy_in.ensures c.requires c.copy_in.auto.s

pub returns : goal.returns
returns c = joined-law refl c.copy_in.ensures c.requires c.copy_in.auto.s c.add_members.new.part c.add_members.auto.part refl c.add_members.ensures
