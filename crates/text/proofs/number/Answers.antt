use Rattle.std.proofs.Common.{◌≡◌, ◌+◌, ◌*◌, ◌-◌, ◌^◌, ◌≤◌, get_or, drop, sym, ap, ◌∙◌, arith, rules, tests}
use Rattle.std.proofs.lemmas.Iterator.{YieldsList-from_slice}
use Rattle.std.proofs.lemmas.Iterator.Search.{all_from_yields_List}
use Rattle.std.proofs.lemmas.Result.{err_from_is_err_and}
use Rattle.semantics.specs.Bytes.{digits, is_digit}
use Rattle.std.specs.Prelude.{Err}
use Rattle.text.specs.declared.DecimalError.TheVariants.{Over}
use Rattle.text.specs.Text.{dec_of}
use Rattle.text.proofs.Words.{no_number, number-on, number-end, digits_at, digits-drop, digits-over, capped_is}
use Rattle.text.proofs.number.Goals as goal

pub returns-then-not-all : goal.returns-then-not-all
unfolding dec_of
returns-then-not-all c =
    let all = all_from_yields_List is_digit _ _ c.all.result c.all.ensures.ran (YieldsList-from_slice c.args.t.now cc) (λ x b q k. search (rules, tests)) in
    sym (ap dec_of (no_number c.args.t.now 0 (sym all ∙ c.if-not-all.true)))

pub loop-c-preserved : goal.loop-c-preserved
loop-c-preserved c =
    let t = c.args.t.now in
    let i = c.loop-c.c-index in
    let n = c.loop-c.n in
    let all = all_from_yields_List is_digit _ _ c.all.result c.all.ensures.ran (YieldsList-from_slice t cc) (λ x b q k. search (rules, tests)) in
    let more : c.in_ok-n.n ≡ n * 10 + (get_or t i 0 - 48) = grind arith in (
      omega arith,
      c.loop-c.invariant.1 ∙ number-on n t i (omega arith) (digits_at t i (omega arith) (sym all ∙ c.if-not-all.false)) ∙ ap (λ v. digits v (drop (i + 1) t)) (sym more),
    )

pub returns-in_err-n : goal.returns-in_err-n
returns-in_err-n c =
    let t = c.args.t.now in
    let i = c.loop-c.c-index in
    let n = c.loop-c.n in
    let all = all_from_yields_List is_digit _ _ c.all.result c.all.ensures.ran (YieldsList-from_slice t cc) (λ x b q k. search (rules, tests)) in
    let digit = digits_at t i (omega arith) (sym all ∙ c.if-not-all.false) in
    let over : 2 ^ 64 ≤ n * 10 + (get_or t i 0 - 48) = grind arith in
    let p = err_from_is_err_and c.from_residual.result c.from_residual.ensures.1 in
    let is_over : c.in_err-n.field-0.0 ≡ Over = grind arith in
    p.1 ∙ ap Err (p.2 ∙ is_over) ∙ sym (ap dec_of (c.loop-c.invariant.1 ∙ number-on n t i (omega arith) digit) ∙ digits-over (drop (i + 1) t) (n * 10 + (get_or t i 0 - 48)) (digits-drop t (i + 1) (sym all ∙ c.if-not-all.false)) over)

pub returns : goal.returns
unfolding dec_of
returns c =
    let i = c.loop-c.c-index in
    sym (ap dec_of (c.loop-c.invariant.1 ∙ number-end c.loop-c.n c.args.t.now i c.loop-c-test.false) ∙ capped_is c.loop-c.n c.loop-c.invariant.0)
