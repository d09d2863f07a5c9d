use Rattle.std.proofs.Common.{◌≡◌, ◌∙◌, sym, ap, length, arith}
use Rattle.std.specs.Prelude.{replicate, is_err}
use Rattle.std.proofs.lemmas.Result.{err_from_is_err_and}
use mathlib.Core.Bool.{false≢true}
use Rattle.semantics.specs.Calls.{zeros}
use Rattle.old_lines.specs.Old.{regular_call}
use Rattle.old.proofs.CallLaws.{call-untouched, settled-ok, settled-err}
use Rattle.old.proofs.call.regular_line.Goals.{then-is_err, else-is_err}
use Rattle.old.proofs.call.regular_line.Goals as goal

pub returns-in_default : goal.returns-in_default
returns-in_default c = rw c.into.ensures (call-untouched _ _ _ c.in_default.ensures.cases)

pub returns : goal.returns
returns c =
    let a = c.args in
    let work = c.in-Some.ensures.cases.same in
    let z : c.fill.new.self ≡ zeros c.in-Some.work.now = c.fill.ensures.after (λ y e. e) ∙ ap (λ n. replicate n 0) (omega (arith, c.make_regular-made.array_long, c.in-Some.ensures.cases.long, ap length work)) in
    let out : c.if-is_err.out ≡ c.make_regular-made.new.out = elim c.if-is_err.branch [
      | then-is_err w ↦ absurd (false≢true (sym (sym w.if-is_err.true ∙ c.is_err.ensures.value ∙ ap is_err c.in_ok-made.was)))
      | else-is_err w ↦ w.out-is
    ] in
    rw out (settled-ok (regular_call a.s.now c.in-Some.work.now a.out.now) c.in-Some.work.now a.out.now c.make_regular-made.new.out _ c.fill.new.self c.make_regular-made.ensures z _ c.in_ok-made.was ∙ ap (λ w. regular_call a.s.now w a.out.now) work)

pub returns-in_err-made : goal.returns-in_err-made
returns-in_err-made c =
    let a = c.args in
    let work = c.in-Some.ensures.cases.same in
    let z : c.fill.new.self ≡ zeros c.in-Some.work.now = c.fill.ensures.after (λ y e. e) ∙ ap (λ n. replicate n 0) (omega (arith, c.make_regular-made.array_long, c.in-Some.ensures.cases.long, ap length work)) in
    let out : c.if-is_err.out ≡ zeros a.out.now = elim c.if-is_err.branch [
      | then-is_err w ↦ w.out-is ∙ w.fill-then-is_err.ensures.after (λ y e. e) ∙ ap (λ n. replicate n 0) c.make_regular-made.auto.out
      | else-is_err w ↦ absurd (false≢true (sym w.if-is_err.false ∙ c.is_err.ensures.value ∙ ap is_err c.in_err-made.was))
    ] in
    let p = err_from_is_err_and c.from_residual.result c.from_residual.ensures.1 in
    rw (p.1, p.2) (settled-err (regular_call a.s.now c.in-Some.work.now a.out.now) c.in-Some.work.now a.out.now c.make_regular-made.new.out _ c.fill.new.self c.make_regular-made.ensures z _ c.if-is_err.out c.in_err-made.was out ∙ ap (λ w. regular_call a.s.now w a.out.now) work)
