use mathlib.Core.Path.{◌∙◌, ap}
use Rattle.std.specs.Prelude.{Err}
use Rattle.unify.specs.declared.UnifyError.{UnifyError}
use Rattle.unifying.proofs.Delivered.{tells-done, tells-apart}
use Rattle.unifying.proofs.deliver.Goals as goal

pub returns-in-Ok : goal.returns-in-Ok
returns-in-Ok c = tells-done _ _ _ _ c.requires _ _ _ c.in-Ok.is c.append.ensures.0 c.append.ensures.1

pub returns-in-Err-Mismatch : goal.returns-in-Err-Mismatch
returns-in-Err-Mismatch c = tells-apart _ _ _ _ c.requires _ _ _ _ _ _ (c.in-Err-Mismatch.is ∙ ap (λ (e : UnifyError). Err e) (rw c.in-Err-Mismatch.is at c.in-Err-Mismatch.field-0-is)) c.append-n.ensures.0 c.append-n.ensures.1 c.append-m.ensures.0 c.append-m.ensures.1
