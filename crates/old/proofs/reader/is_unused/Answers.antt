use native.Mathlib.Omega.{arith}
use Rattle.old.proofs.Entered.{none-new}
use Rattle.old.proofs.reader.is_unused.Goals as goal

pub returns-then-not-alike_before : goal.returns-then-not-alike_before
returns-then-not-alike_before c =
    let p = c.requires in
    let r = c.reach.ensures in
    none-new _ _ _ _ r.0 (omega (arith, r.1, p.1)) p.2 _ (c.alike_before.ensures c.if-not-alike_before.true)
