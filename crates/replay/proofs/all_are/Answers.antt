use Rattle.std.proofs.Common.{◌≡◌, rules, tests}
use Rattle.std.proofs.lemmas.Iterator.{cases_from_all, YieldsList-from_slice}
use Rattle.replay.proofs.Fills.{all-decides}
use Rattle.replay.proofs.all_are.Goals as goal

pub returns : goal.returns
returns c = all-decides c.args.s.now c.args.b c.all.result (cases_from_all _ _ c.all.result (λ x. x ≡ c.args.b) (λ x. x ≡ c.args.b → ⊥) c.all.ensures.ran (YieldsList-from_slice c.args.s.now cc) (λ x q k. search (rules, tests)) (λ x q k. search (rules, tests)))
