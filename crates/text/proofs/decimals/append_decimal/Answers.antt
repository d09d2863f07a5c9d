use native.Mathlib.Omega.{arith}
use Prim.Native.Nat.{ℕ, ◌+◌, ◌-◌, ◌/◌, ◌%◌, ◌≤◌, ◌<◌, ◌^◌}
use mathlib.Core.Path.{◌≡◌, sym, ap, ap₂, subst, ◌∙◌}
use lib.ListN.{length, set}
use lib.Seq.{sets}
use Rattle.semantics.specs.Bytes.{Bytes}
use Rattle.text.specs.Text.{tens}
use Rattle.text.proofs.Words.{shown-short}
use Rattle.text.proofs.Tens.{tens-length, shown-first, tens-step, rest-low, tens-end}
use Rattle.text.proofs.decimals.append_decimal.Goals as goal

pub loop-i-init : goal.loop-i-init
loop-i-init c =
    let a = c.args in
    let b = c.digits_behind-i.ensures in
    let e = shown-first a.n c.digits_behind-i.result b in
    (b.above, ap (λ (k : ℕ). a.fill + k) (sym (tens-length c.digits_behind-i.result a.n) ∙ ap length (sym e)), ap (sets a.out.now a.fill) (sym e))

pub put-at-requires : goal.put-at-requires
put-at-requires c = let b = c in omega (arith, b.loop-i.invariant.1, shown-short b.args.n)

pub loop-i-preserved : goal.loop-i-preserved
loop-i-preserved c =
    let b = c in
    let l = b.loop-i in
    let d = c.digit_of-d.ensures in
    let low : 0 < l.i = omega (arith, c.loop-i-test.true) in
    let q : l.i - 1 + 1 ≡ l.i = omega arith in
    let p = c.power.ensures ∙ ap (λ (k : ℕ). 10 ^ k) q in
    let m = d.1 ∙ ap (λ (k : ℕ). l.m % k) p in
    let x = d.0 ∙ ap (λ (k : ℕ). l.m / k) p in
    let w = c.put-at.ensures in (
      subst (λ (k : ℕ). k < 10 ^ (l.i - 1 + 1)) (sym m) (rest-low l.i l.m low),
      omega (arith, w.0, l.invariant.1, low),
      ap₂ (λ (o : Bytes) (k : ℕ). sets o k (tens (l.i - 1) c.digit_of-d.result.rest)) (w.1 ∙ ap (λ (k : ℕ). set l.out l.at (48 + k)) x) w.0
          ∙ ap (λ (k : ℕ). sets (set l.out l.at (48 + l.m / 10 ^ l.i)) (l.at + 1) (tens (l.i - 1) k)) m
          ∙ sym (tens-step l.out l.at l.i l.m low)
          ∙ l.invariant.2,
    )

pub put-requires : goal.put-requires
put-requires c = let b = c in omega (arith, b.loop-i.invariant.1, shown-short b.args.n)

pub returns : goal.returns
returns c =
    let l = c.loop-i in
    let a = c.args in
    let w = c.put.ensures in
    let low : l.i ≤ 0 = omega (arith, c.loop-i-test.false) in
    let is : c.digit_of-last.result.digit ≡ l.m = omega (arith, c.digit_of-last.ensures.0) in
    (omega (arith, w.0, l.invariant.1, low), w.1 ∙ ap (λ (k : ℕ). set l.out l.at (48 + k)) is ∙ tens-end l.out l.at l.i l.m low ∙ l.invariant.2, omega (arith, w.0, l.invariant.1, low, shown-short a.n))
