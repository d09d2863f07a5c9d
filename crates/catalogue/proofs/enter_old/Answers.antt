use Rattle.std.proofs.Common.{rules, arith}
use Rattle.std.proofs.lemmas.Result.{err_from_is_err_and}
use Rattle.catalogue.proofs.Exits.{absent, present, over, within}
use Rattle.catalogue.proofs.NumberLaws.{put_four}
use Rattle.catalogue.proofs.StandLaws.{stands_here}
use Rattle.catalogue.proofs.CallLaws.{old-full, old-more}
use Rattle.catalogue.proofs.enter_old.Goals as goal

pub read_u16-number-requires : goal.read_u16-number-requires
read_u16-number-requires c = let h = (stands_here _ _ _ _ c.requires.stands).inside in omega arith

pub overflow_add-at : goal.overflow_add-at
overflow_add-at c = let h = (stands_here _ _ _ _ c.requires.stands).inside in search rules

pub read_u32-requires : goal.read_u32-requires
read_u32-requires c = let h = (stands_here _ _ _ _ c.requires.stands).inside in omega arith

pub returns-in_err-uses : goal.returns-in_err-uses
returns-in_err-uses c =
    let p = err_from_is_err_and c.from_residual.result c.from_residual.ensures.1 in
    let q = absent c.checked_add.result _ _ c.in_err-uses.ensures.value in
    let o = over c.checked_add.result _ _ q.0 c.checked_add.ensures in
    rw (p.1, p.2, q.1) (old-full _ _ _ c.read_u32.ensures (omega arith))

pub overflow_add-at-2 : goal.overflow_add-at-2
overflow_add-at-2 c = let h = (stands_here _ _ _ _ c.requires.stands).inside in search rules

pub write-requires : goal.write-requires
write-requires c = let h = (stands_here _ _ _ _ c.requires.stands).inside in omega arith

pub returns : goal.returns
returns c =
    let w = within c.checked_add.result _ _ _ (present c.checked_add.result _ _ c.in_ok-uses.ensures.value) c.checked_add.ensures in
    rw w.1 (old-more _ _ _ _ _ c.read_u32.ensures c.read_u16-number.ensures (omega arith) (rw w.1 at (put_four _ _ _ _ _ c.to_le_bytes.ensures c.write.ensures)))
