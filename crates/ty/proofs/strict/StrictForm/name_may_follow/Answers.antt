use mathlib.Core.Path.{◌∙◌}
use Rattle.ty.specs.Read.{key_end, in_order}
use Rattle.ty.proofs.Lent.{lent_both}
use Rattle.ty.proofs.StrictForm.{told-order}
use Rattle.ty.proofs.strict.StrictForm.name_may_follow.Goals as goal

pub returns : goal.returns
unfolding key_end
returns c ks h =
    let a = c.args in
    let o = lent_both a.s.now a.before.last c.field_end-end.result a.before.to a.e (in_order a.before.count) c.in_order.ensures in
    (rw c.field_end-end.ensures.place at o) ∙ told-order 75 _ _ ks _ h
