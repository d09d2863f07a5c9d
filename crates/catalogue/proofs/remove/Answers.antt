use native.Mathlib.Omega.{arith}
use Rattle.catalogue.proofs.WriteLaws.{gone-room, removed}
use Rattle.catalogue.proofs.StandLaws.{stands_here}
use mathlib.Core.Path.{refl}
use Rattle.catalogue.proofs.remove.Goals as goal

pub next_entry-next-requires : goal.next_entry-next-requires
next_entry-next-requires c = let h = (stands_here _ _ _ _ c.requires.stands).inside in omega arith

pub overflow_sub-end : goal.overflow_sub-end
overflow_sub-end c = let p = c.requires in let r = gone-room _ _ _ _ p.stands _ _ c.next_entry-next.ensures p.ends in let a = r.head in let b = r.next_is in let w = r.within in let i = r.inside in omega arith

pub copy_in-requires : goal.copy_in-requires
copy_in-requires c = let p = c.requires in let r = gone-room _ _ _ _ p.stands _ _ c.next_entry-next.ensures p.ends in let a = r.head in let b = r.next_is in let w = r.within in let i = r.inside in (omega arith, omega arith)

pub overflow_sub-behind : goal.overflow_sub-behind
overflow_sub-behind c = let p = c.requires in let r = gone-room _ _ _ _ p.stands _ _ c.next_entry-next.ensures p.ends in let a = r.head in let b = r.next_is in let w = r.within in let i = r.inside in omega arith

pub slice_bounds-fill-count : goal.slice_bounds-fill-count
slice_bounds-fill-count c = let p = c.requires in let r = gone-room _ _ _ _ p.stands _ _ c.next_entry-next.ensures p.ends in let a = r.head in let b = r.next_is in let w = r.within in let i = r.inside in let k = c.copy_in.auto.s in omega arith

pub slice_bounds-fill-start : goal.slice_bounds-fill-start
slice_bounds-fill-start c = let p = c.requires in let r = gone-room _ _ _ _ p.stands _ _ c.next_entry-next.ensures p.ends in let a = r.head in let b = r.next_is in let w = r.within in let i = r.inside in let k = c.copy_in.auto.s in omega arith

pub returns : goal.returns
returns c = removed _ _ _ _ _ _ _ c.requires c.next_entry-next.ensures refl c.copy_in.ensures (c.fill.ensures.after (λ y p. p))
