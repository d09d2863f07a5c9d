use Rattle.std.proofs.Common.{rules, ◌≡◌, length}
use Rattle.semantics.specs.Limits.{work_size}
use mathlib.Core.Path.{ap}
use mathlib.Core.Bool.{not}
use Rattle.old.proofs.CallLaws.{call-short, call-given, call-bad}
use Rattle.old.proofs.call.make_regular.Goals as goal

pub returns-then-out-lt-OLD_OUTPUT : goal.returns-then-out-lt-OLD_OUTPUT
returns-then-out-lt-OLD_OUTPUT c =
    let h : length c.args.work.now ≡ work_size = search rules in
    call-short _ _ _ h c.if-out-lt-OLD_OUTPUT.true c.args.out.now

pub returns-then-is_type_line : goal.returns-then-is_type_line
returns-then-is_type_line c =
    let h : length c.args.work.now ≡ work_size = search rules in
    call-given _ _ _ h c.if-out-lt-OLD_OUTPUT.false _ c.is_type_line.ensures c.if-is_type_line.true _ _ c.append.ensures

pub returns-then-not-is_old_line : goal.returns-then-not-is_old_line
returns-then-not-is_old_line c =
    let h : length c.args.work.now ≡ work_size = search rules in
    call-bad _ _ _ h c.if-out-lt-OLD_OUTPUT.false _ c.is_old_line.ensures (ap not c.if-not-is_old_line.true) c.args.out.now
