use Rattle.infer.proofs.StepLaws.{ask-bool, ask-none}
use Rattle.infer.proofs.step.check_role.Goals as goal

pub returns-in-Condition-clause-asks : goal.returns-in-Condition-clause-asks
returns-in-Condition-clause-asks c = ask-bool c.in-Condition.is c.require.ensures.adds

pub returns-in-Plain-clause-asks : goal.returns-in-Plain-clause-asks
returns-in-Plain-clause-asks c = ask-none c.in-Plain.is
