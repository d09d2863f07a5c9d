use native.Mathlib.Omega.{arith}
use Rattle.ty.proofs.UnionLaws.{next-from, next-bounds, next-placing, next-slot, next-at, next-moved, next-kept, goes_at, goes-there}
use Rattle.ty.proofs.union.add_next.Goals as goal

pub type_end-m-requires : goal.type_end-m-requires
type_end-m-requires c = next-from c.requires

pub place-requires : goal.place-requires
place-requires c = next-placing c.requires c.type_end-m.ensures

pub rotate-requires : goal.rotate-requires
rotate-requires c = let b = next-bounds c.requires c.type_end-m.ensures in (next-slot c.requires _ _ c.type_end-m.ensures c.place.ensures c.in-Some.is, omega arith, omega arith)

pub overflow_sub-rest : goal.overflow_sub-rest
overflow_sub-rest c = (next-bounds c.requires c.type_end-m.ensures).1

pub copy_in-requires : goal.copy_in-requires
copy_in-requires c = let b = next-bounds c.requires c.type_end-m.ensures in (omega arith, omega arith)

pub overflow_sub-result : goal.overflow_sub-result
overflow_sub-result c = omega (arith, next-bounds c.requires c.type_end-m.ensures)

pub overflow_sub-result-in-None : goal.overflow_sub-result-in-None
overflow_sub-result-in-None c = omega (arith, next-bounds c.requires c.type_end-m.ensures)

pub returns-in-Some : goal.returns-in-Some
returns-in-Some c = λ ms x ts f g. next-moved f g c.type_end-m.ensures (goes_at _ _ (c.place.ensures ms x f (next-at g c.type_end-m.ensures)) c.in-Some.is) c.rotate.ensures c.rotate.auto.s

pub returns-in-None : goal.returns-in-None
returns-in-None c = λ ms x ts f g. next-kept f g c.type_end-m.ensures (goes-there ms x _ (c.place.ensures ms x f (next-at g c.type_end-m.ensures)) c.in-None.is) c.copy_in.ensures c.copy_in.auto.s
