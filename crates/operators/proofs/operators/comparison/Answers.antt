use mathlib.Core.Path.{◌∙◌, ap}
use Rattle.std.specs.Prelude.{Err}
use Rattle.unify.specs.declared.UnifyError.{UnifyError}
use Rattle.operators.proofs.Meets.{two_ready, compared-done, compared-apart, compared-large}
use Rattle.operators.proofs.operators.comparison.Goals as goal

pub unify-requires : goal.unify-requires
unify-requires c = two_ready c.requires

pub returns-in-Ok : goal.returns-in-Ok
returns-in-Ok c = λ a b out h. compared-done c.unify.ensures h c.in-Ok.is c.is_bool.ensures

pub returns-in-Err-Mismatch : goal.returns-in-Err-Mismatch
returns-in-Err-Mismatch c = λ a b out h. compared-apart c.unify.ensures h (c.in-Err-Mismatch.is ∙ ap (λ (x : UnifyError). Err x) c.in-Err-Mismatch.field-0-is) c.is_bool-in-Err-Mismatch.ensures

pub returns-in-Err-TooLarge : goal.returns-in-Err-TooLarge
returns-in-Err-TooLarge c = λ a b out h. compared-large c.unify.ensures h (c.in-Err-TooLarge.is ∙ ap (λ (x : UnifyError). Err x) c.in-Err-TooLarge.field-0-is)
