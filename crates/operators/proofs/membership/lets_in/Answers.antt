use Rattle.std.proofs.Common.{arith}
use Rattle.std.proofs.lemmas.Bool.Decides.{nat_tests}
use Rattle.operators.proofs.InLaws.{lets}
use Rattle.operators.proofs.membership.lets_in.Goals as goal

pub returns-in-65 : goal.returns-in-65
returns-in-65 c = lets _ _ (grind (arith, nat_tests))

pub returns-in-65-2 : goal.returns-in-65-2
returns-in-65-2 c = lets _ _ (grind (arith, nat_tests))

pub returns-in_default : goal.returns-in_default
returns-in_default c = lets _ _ (grind (arith, nat_tests))

pub returns-in_default-2 : goal.returns-in_default-2
returns-in_default-2 c = lets _ _ (grind (arith, nat_tests))
