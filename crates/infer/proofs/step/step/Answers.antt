use Rattle.infer.proofs.StepLaws.{child-first, step-by}
use Rattle.infer.proofs.step.step.Goals as goal

pub bounds-work-k : goal.bounds-work-k
bounds-work-k c = child-first c.requires.0

pub returns-clause-steps : goal.returns-clause-steps
returns-clause-steps c q p k t m e h d = step-by c.keep.ensures c.check_role.ensures.asks q p k t m e h d
