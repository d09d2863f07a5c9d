use mathlib.Core.Path.{◌∙◌, ap}
use Rattle.std.specs.Prelude.{Err}
use Rattle.unify.specs.declared.UnifyError.{UnifyError}
use Rattle.operators.proofs.InLaws.{list-line, list-first, list-ready, list_done, list-apart, list-large}
use Rattle.operators.proofs.membership.in_list.Goals as goal

pub element-element-requires : goal.element-element-requires
element-element-requires c = list-line c.requires.0 c.requires.2

pub bounds-element-0 : goal.bounds-element-0
bounds-element-0 c = list-first c.requires.0 c.requires.2 c.element-element.ensures

pub unify-requires : goal.unify-requires
unify-requires c = list-ready c.requires.0 c.requires.2

pub returns-in-Ok-clause-ends : goal.returns-in-Ok-clause-ends
returns-in-Ok-clause-ends c = λ a b h. list_done c.unify.ensures h c.requires.2 c.in-Ok.is c.is_bool.ensures

pub returns-in-Err-Mismatch-clause-ends : goal.returns-in-Err-Mismatch-clause-ends
returns-in-Err-Mismatch-clause-ends c = λ a b h. list-apart c.unify.ensures h c.requires.2 c.element-element.ensures (c.in-Err-Mismatch.is ∙ ap (λ (x : UnifyError). Err x) c.in-Err-Mismatch.field-0-is) c.mismatch_in.ensures.adds c.is_bool-in-Err-Mismatch.ensures

pub returns-in-Err-TooLarge-clause-ends : goal.returns-in-Err-TooLarge-clause-ends
returns-in-Err-TooLarge-clause-ends c = λ a b h. list-large c.unify.ensures h c.requires.2 (c.in-Err-TooLarge.is ∙ ap (λ (x : UnifyError). Err x) c.in-Err-TooLarge.field-0-is)
