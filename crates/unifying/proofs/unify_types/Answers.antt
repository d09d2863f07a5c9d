use mathlib.Core.Path.{ap, ◌∙◌}
use borrow.Author.Rules.{rules}
use Rattle.std.specs.Prelude.{Err}
use Rattle.semantics.specs.Bytes.{Bytes}
use Rattle.semantics.specs.Calls.{unify_call}
use Rattle.unifying.specs.declared.NotUnified.{NotUnified}
use Rattle.unifying.proofs.CallLaws.{call-untouched, whole-done, whole-parted, whole-refused}
use Rattle.unifying.proofs.unify_types.Goals as goal

pub returns-in_default : goal.returns-in_default
returns-in_default c = rw c.refused.ensures (call-untouched _ _ _ _ c.in_default.ensures.cases)

pub returns-in-Ok : goal.returns-in-Ok
returns-in-Ok c =
    whole-done c.solve-answer.new.work c.solve-answer.ensures (search rules) (c.fill.ensures.after (λ y h. h)) c.in-Ok.is
    ∙ ap (λ (w : Bytes). unify_call c.args.a.now c.args.b.now w c.args.out.now) c.in-Some.ensures.cases.same

pub returns-in-Err-Mismatch : goal.returns-in-Err-Mismatch
returns-in-Err-Mismatch c =
    whole-parted c.solve-answer.new.work c.solve-answer.ensures (search rules) (c.fill.ensures.after (λ y h. h)) (c.in-Err-Mismatch.is ∙ ap (λ (e : NotUnified). Err e) (rw c.in-Err-Mismatch.is at c.in-Err-Mismatch.field-0-is))
    ∙ ap (λ (w : Bytes). unify_call c.args.a.now c.args.b.now w c.args.out.now) c.in-Some.ensures.cases.same

pub returns-in-Err-Refused : goal.returns-in-Err-Refused
returns-in-Err-Refused c =
    whole-refused c.solve-answer.new.work c.solve-answer.ensures (search rules) (c.fill.ensures.after (λ y h. h)) (c.in-Err-Refused.is ∙ ap (λ (e : NotUnified). Err e) (rw c.in-Err-Refused.is at c.in-Err-Refused.field-0-is)) (search rules) _ (c.fill-in-Err-Refused.ensures.after (λ y h. h))
    ∙ ap (λ (w : Bytes). unify_call c.args.a.now c.args.b.now w c.args.out.now) c.in-Some.ensures.cases.same
