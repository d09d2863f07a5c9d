use Rattle.std.proofs.Common.{arith}
use Rattle.std.proofs.lemmas.Result.{err_from_is_err_and}
use Rattle.catalogue.proofs.Exits.{absent, present, over, within}
use Rattle.catalogue.proofs.WriteLaws.{open-end, open-long}
use Rattle.catalogue.proofs.CallLaws.{no_number, no_room, new-type}
use Rattle.catalogue.proofs.enter_new.Goals as goal

pub returns-in_err-number : goal.returns-in_err-number
returns-in_err-number c =
    let p = err_from_is_err_and c.from_residual.result c.from_residual.ensures.1 in
    let q = absent c.checked_add.result _ _ c.in_err-number.ensures.value in
    let o = over c.checked_add.result _ _ q.0 c.checked_add.ensures in
    rw (p.1, p.2, q.1) (no_number _ _ _ _ (omega arith))

pub overflow_sub-store : goal.overflow_sub-store
overflow_sub-store c = let p = c.requires in let h = open-end _ _ p.form in let e = p.ends in omega arith

pub returns-then-store-checked : goal.returns-then-store-checked
returns-then-store-checked c =
    let w = within c.checked_add.result _ _ _ (present c.checked_add.result _ _ c.in_ok-number.ensures.value) c.checked_add.ensures in
    rw c.into.ensures (no_room _ _ _ _ (omega arith) c.if-store-checked.true)

pub add-requires : goal.add-requires
add-requires c =
    let p = c.requires in
    let h = open-end _ _ p.form in
    let l = open-long _ _ p.form in
    let e = p.ends in
    let f = c.if-store-checked.false in
    (omega arith, omega arith, omega arith)

pub returns : goal.returns
returns c =
    let w = within c.checked_add.result _ _ _ (present c.checked_add.result _ _ c.in_ok-number.ensures.value) c.checked_add.ensures in
    rw w.1 (new-type _ _ _ _ _ (omega arith) c.if-store-checked.false (rw w.1 at c.add.ensures))
