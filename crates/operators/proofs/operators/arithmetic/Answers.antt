use mathlib.Core.Path.{◌∙◌, ap}
use Rattle.std.specs.Prelude.{Err}
use Rattle.unify.specs.declared.UnifyError.{UnifyError}
use Rattle.operators.proofs.Meets.{done-inside}
use Rattle.operators.proofs.OpLaws.{pair-ready, computed-done, computed-apart, computed-large}
use native.Mathlib.Omega.{arith}
use Rattle.operators.proofs.operators.arithmetic.Goals as goal

pub unify-requires : goal.unify-requires
unify-requires c = pair-ready c.requires.0 c.put_pair.ensures c.requires.1 c.numeric.ensures c.numeric-2.ensures

pub overflow_sub-n : goal.overflow_sub-n
overflow_sub-n c =
    let p = pair-ready c.requires.0 c.put_pair.ensures c.requires.1 c.numeric.ensures c.numeric-2.ensures in
    let (l, h) = done-inside p c.unify.ensures c.in-Ok.is in
    omega arith

pub copy_in-requires : goal.copy_in-requires
copy_in-requires c =
    let p = pair-ready c.requires.0 c.put_pair.ensures c.requires.1 c.numeric.ensures c.numeric-2.ensures in
    let (l, h) = done-inside p c.unify.ensures c.in-Ok.is in
    (omega arith, omega arith)

pub returns-in-Ok : goal.returns-in-Ok
returns-in-Ok c = computed-done c.requires.0 c.put_pair.ensures c.requires.1 c.numeric.ensures c.numeric-2.ensures c.unify.ensures c.in-Ok.is c.copy_in.ensures

pub returns-in-Err-Mismatch : goal.returns-in-Err-Mismatch
returns-in-Err-Mismatch c = computed-apart c.requires.0 c.put_pair.ensures c.requires.1 c.numeric.ensures c.numeric-2.ensures c.unify.ensures (c.in-Err-Mismatch.is ∙ ap (λ (x : UnifyError). Err x) c.in-Err-Mismatch.field-0-is) c.put_letter.ensures

pub returns-in-Err-TooLarge : goal.returns-in-Err-TooLarge
returns-in-Err-TooLarge c = computed-large c.requires.0 c.put_pair.ensures c.requires.1 c.numeric.ensures c.numeric-2.ensures c.unify.ensures (c.in-Err-TooLarge.is ∙ ap (λ (x : UnifyError). Err x) c.in-Err-TooLarge.field-0-is)
