use mathlib.Core.Path.{◌∙◌, ap}
use Rattle.std.specs.Prelude.{Err}
use Rattle.unify.specs.declared.UnifyError.{UnifyError}
use native.Mathlib.Omega.{arith}
use Rattle.exprs.proofs.ItemLaws.{copied-list, first-list, first-kept, running, ready, stood, headed, item-done, item-apart, item-large}
use Rattle.exprs.proofs.list.list_item.Goals as goal

pub fitted-requires : goal.fitted-requires
fitted-requires c = first-list c.requires c.if-k-eq2.true

pub returns-then-k-eq2 : goal.returns-then-k-eq2
returns-then-k-eq2 c = first-kept c.if-k-eq2.true c.fitted.ensures

pub unify-requires : goal.unify-requires
unify-requires c = ready (running c.if-k-eq2.false c.requires)

pub overflow_sub-end : goal.overflow_sub-end
overflow_sub-end c =
    let r = running c.if-k-eq2.false c.requires in
    let p = stood c.unify.ensures c.in-Ok.is r in
    p.at.ordered

pub copy_in-requires : goal.copy_in-requires
copy_in-requires c =
    let r = running c.if-k-eq2.false c.requires in
    let p = stood c.unify.ensures c.in-Ok.is r in
    let o = p.at.ordered in
    let i = p.at.inside in
    let l = p.low in
    (omega arith, omega arith)

pub overflow_sub-end-in-Ok : goal.overflow_sub-end-in-Ok
overflow_sub-end-in-Ok c =
    let r = running c.if-k-eq2.false c.requires in
    let p = stood c.unify.ensures c.in-Ok.is r in
    p.at.ordered

pub overflow_add-end : goal.overflow_add-end
overflow_add-end c =
    let r = running c.if-k-eq2.false c.requires in
    let p = stood c.unify.ensures c.in-Ok.is r in
    let o = p.at.ordered in
    let i = p.at.inside in
    let l = p.low in
    omega arith

pub fitted-requires-in-Ok : goal.fitted-requires-in-Ok
fitted-requires-in-Ok c =
    let r = running c.if-k-eq2.false c.requires in
    let p = stood c.unify.ensures c.in-Ok.is r in
    record { element = p.ty; at = copied-list (omega (arith, p.low)) p.head p.at c.copy_in.ensures }

pub any_items-requires : goal.any_items-requires
any_items-requires c = headed c.unify.ensures (running c.if-k-eq2.false c.requires)

pub returns-in-Ok : goal.returns-in-Ok
returns-in-Ok c = item-done c.unify.ensures c.if-k-eq2.false c.in-Ok.is c.copy_in.ensures c.fitted-in-Ok.ensures

pub returns-in-Err-Mismatch : goal.returns-in-Err-Mismatch
returns-in-Err-Mismatch c =
    let e = c.in-Err-Mismatch.is ∙ ap (λ (x : UnifyError). Err x) c.in-Err-Mismatch.field-0-is in
    item-apart c.unify.ensures c.if-k-eq2.false e c.any_items.ensures

pub returns-in-Err-TooLarge : goal.returns-in-Err-TooLarge
returns-in-Err-TooLarge c =
    let e = c.in-Err-TooLarge.is ∙ ap (λ (x : UnifyError). Err x) c.in-Err-TooLarge.field-0-is in
    item-large c.unify.ensures c.if-k-eq2.false e
