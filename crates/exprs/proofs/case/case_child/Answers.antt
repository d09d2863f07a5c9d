use Rattle.exprs.proofs.ChildLaws.{answer-kept, answer-other}
use Rattle.exprs.proofs.case.case_child.Goals as goal

pub returns-in-Answer : goal.returns-in-Answer
returns-in-Answer c = answer-kept c.in-Answer.is c.case_arm.ensures

pub returns-in-Plain : goal.returns-in-Plain
returns-in-Plain c = answer-other c.in-Plain.is
