use Rattle.std.proofs.Common.{rules, arith}
use Rattle.catalogue.proofs.NumberLaws.{put_four}
use Rattle.catalogue.proofs.StandLaws.{stands_here, stands-formed}
use Rattle.catalogue.proofs.CallLaws.{last-use, use-less}
use Rattle.catalogue.proofs.release_at.Goals as goal

pub overflow_add-at : goal.overflow_add-at
overflow_add-at c = let h = (stands_here _ _ _ _ c.requires.stands).inside in search rules

pub read_u32-left-requires : goal.read_u32-left-requires
read_u32-left-requires c = let h = (stands_here _ _ _ _ c.requires.stands).inside in omega arith

pub overflow_sub-left : goal.overflow_sub-left
overflow_sub-left c = let p = c.requires.stands in let f = (stands-formed _ _ _ _ p).used in let k = (stands_here _ _ _ _ p).uses in let e = c.read_u32-left.ensures in omega arith

pub overflow_add-at-else-left-eq0 : goal.overflow_add-at-else-left-eq0
overflow_add-at-else-left-eq0 c = let h = (stands_here _ _ _ _ c.requires.stands).inside in search rules

pub write-requires : goal.write-requires
write-requires c = let h = (stands_here _ _ _ _ c.requires.stands).inside in omega arith

pub returns-then-left-eq0 : goal.returns-then-left-eq0
returns-then-left-eq0 c = last-use _ _ _ _ c.read_u32-left.ensures c.if-left-eq0.true c.remove.ensures

pub returns-else-left-eq0 : goal.returns-else-left-eq0
returns-else-left-eq0 c = use-less _ _ _ _ c.read_u32-left.ensures c.if-left-eq0.false (put_four _ _ _ _ _ c.to_le_bytes.ensures c.write.ensures)
