use Rattle.std.proofs.Common.{rules, arith, refl}
use Rattle.catalogue.proofs.StandLaws.{stands_here}
use Rattle.catalogue.proofs.CallLaws.{looked}
use Rattle.catalogue.proofs.line_at.Goals as goal

pub overflow_add-result : goal.overflow_add-result
overflow_add-result c = let h = (stands_here _ _ _ _ c.requires.stands).inside in search rules

pub next_entry-requires : goal.next_entry-requires
next_entry-requires c = let h = (stands_here _ _ _ _ c.requires.stands).inside in omega arith

pub read_u32-requires : goal.read_u32-requires
read_u32-requires c = let h = (stands_here _ _ _ _ c.requires.stands).inside in omega arith

pub returns : goal.returns
returns c = (looked _ _ _ _ c.read_u32.ensures c.next_entry.ensures _ refl refl refl, refl)
