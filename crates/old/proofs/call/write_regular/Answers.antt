use Rattle.std.proofs.Common.{rules, length}
use Rattle.semantics.specs.Limits.{work_size}
use mathlib.Core.Path.{◌≡◌, sym}
use native.Mathlib.Omega.{arith}
use lib.Seq.{length-take-le}
use Rattle.std.specs.Prelude.{Some, None}
use Rattle.std.proofs.lemmas.Result.{err_from_is_err_and}
use Rattle.semantics.specs.declared.refusals.Refusal.TheVariants.{TypeTooLarge}
use Rattle.old.proofs.CallLaws.{whole-old, whole-done, written-done, written-large}
use Rattle.old.proofs.call.write_regular.Goals as goal

pub regular-requires : goal.regular-requires
regular-requires c =
    let h : length c.args.work.now ≡ work_size = search rules in
    (whole-old _ c.requires.0, omega arith)

pub returns-in_err-made : goal.returns-in_err-made
returns-in_err-made c =
    let h : length c.args.work.now ≡ work_size = search rules in
    let p = err_from_is_err_and c.from_residual.result c.from_residual.ensures.1 in
    let e : c.regular.result ≡ None = grind arith in
    let w : c.in_err-made.field-0.0 ≡ TypeTooLarge = grind arith in
    rw (p.1, p.2, w) (written-large c.args.s.now c.args.work.now c.args.out.now c.requires.0 h c.requires.1 c.regular.new.work _ c.regular.ensures e c.args.out.now)

pub slice_bounds-append-end : goal.slice_bounds-append-end
slice_bounds-append-end c =
    let e : c.regular.result ≡ Some c.in_ok-made.made = grind arith in
    sym (length-take-le _ c.regular.new.work (whole-done c.args.s.now c.requires.0 c.args.work.now c.regular.new.work _ c.regular.ensures _ e).3)

pub shared_ref_as_front-append : goal.shared_ref_as_front-append
shared_ref_as_front-append c =
    let e : c.regular.result ≡ Some c.in_ok-made.made = grind arith in
    let h : length c.regular.new.work ≡ work_size = search rules in
    omega (arith, (whole-done c.args.s.now c.requires.0 c.args.work.now c.regular.new.work _ c.regular.ensures _ e).3)

pub returns : goal.returns
returns c =
    let h : length c.args.work.now ≡ work_size = search rules in
    let e : c.regular.result ≡ Some c.in_ok-made.made = grind arith in
    written-done c.args.s.now c.args.work.now c.args.out.now c.requires.0 h c.requires.1 c.regular.new.work _ c.regular.ensures _ e _ _ c.append.ensures
