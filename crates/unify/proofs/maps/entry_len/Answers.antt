use Rattle.unify.proofs.MapLaws.{entry-room, entry-from, entry-long}
use native.Mathlib.Omega.{arith}
use Rattle.unify.proofs.maps.entry_len.Goals as goal

pub field_end-requires : goal.field_end-requires
field_end-requires c = let h = c.requires in omega (arith, entry-room c.args.s.now c.args.at h.name h.ty h.rest h.is)

pub type_end-requires : goal.type_end-requires
type_end-requires c = entry-from _ _ _ c.field_end.ensures c.requires

pub overflow_sub-result : goal.overflow_sub-result
overflow_sub-result c = (entry-long _ _ _ _ c.field_end.ensures c.type_end.ensures c.requires).0

pub returns : goal.returns
returns c = (entry-long _ _ _ _ c.field_end.ensures c.type_end.ensures c.requires).1
