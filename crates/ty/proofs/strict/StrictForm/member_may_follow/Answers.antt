use Rattle.ty.specs.Read.{in_order}
use Rattle.ty.proofs.Lent.{lent_both}
use Rattle.ty.proofs.StrictForm.{told-member}
use Rattle.ty.proofs.strict.StrictForm.member_may_follow.Goals as goal

pub returns-then-s-before-ne-UNION : goal.returns-then-s-before-ne-UNION
returns-then-s-before-ne-UNION c ks h = told-member _ _ _ ks h c.requires.1 c.requires.2 c.if-s-before-ne-UNION.true _ (lent_both c.args.s.now c.args.before.last c.args.before.to c.args.before.to c.args.e (in_order c.args.before.count) c.in_order.ensures)
