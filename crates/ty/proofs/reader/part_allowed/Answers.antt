use mathlib.Core.Path.{sym, ◌∙◌}
use native.Mathlib.Omega.{arith}
use Rattle.ty.proofs.Loops.{named-yes, named-no, member-may, others-may}
use Rattle.ty.proofs.reader.part_allowed.Goals as goal

pub returns-then-is_name : goal.returns-then-is_name
returns-then-is_name g c = rw c.in-75.is (λ ks h. named-yes _ _ _ _ ks _ c.field_end-c.ensures.place (sym c.is_name.ensures ∙ c.if-is_name.true) _ (c.name_may_follow.ensures ks h))

pub returns-else-is_name : goal.returns-else-is_name
returns-else-is_name g c = rw c.in-75.is (λ ks h. c.if-is_name.false ∙ named-no _ _ _ _ ks _ c.field_end-c.ensures.place (sym c.is_name.ensures ∙ c.if-is_name.false))

pub returns-in-79 : goal.returns-in-79
returns-in-79 g c = rw c.in-79.is (λ ks h. member-may _ _ _ _ ks _ (c.member_may_follow.ensures ks h))

pub returns-in_default : goal.returns-in_default
returns-in_default g c = λ ks h. others-may _ _ _ _ ks _ (λ e. omega arith) (λ e. omega arith)
