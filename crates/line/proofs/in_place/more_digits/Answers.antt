use Rattle.line.proofs.QuickFields.{digits-on, digits-end}
use Rattle.line.proofs.in_place.more_digits.Goals as goal

pub returns-then-b-lt48 : goal.returns-then-b-lt48
returns-then-b-lt48 c = digits-end _ _ _ _ c.loop-i.invariant c.loop-i-test.true

pub loop-i-preserved : goal.loop-i-preserved
loop-i-preserved c = rw c.from.ensures (digits-on _ _ _ _ c.loop-i.invariant c.loop-i-test.true c.if-b-lt48.false c.if-b-gt57.false)
