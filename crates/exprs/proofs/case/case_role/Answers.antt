use Rattle.exprs.proofs.RoleLaws.{scrutinee, case-last, case-answer, case-plain, case-condition}
use Rattle.exprs.proofs.case.case_role.Goals as goal

pub returns-then-j-first : goal.returns-then-j-first
returns-then-j-first c l = scrutinee _ _ _ c.if-j-first.true

pub returns-then-i-count : goal.returns-then-i-count
returns-then-i-count c l = case-last _ _ _ l c.if-j-first.false c.if-i-count.true

pub returns-then-i-eq1 : goal.returns-then-i-eq1
returns-then-i-eq1 c l = case-answer _ _ _ l c.if-j-first.false c.if-i-count.false c.if-i-eq1.true

pub returns-then-first-eq1 : goal.returns-then-first-eq1
returns-then-first-eq1 c l = case-plain _ _ _ l c.if-j-first.false c.if-i-count.false c.if-i-eq1.false c.if-first-eq1.true

pub returns-else-first-eq1 : goal.returns-else-first-eq1
returns-else-first-eq1 c l = case-condition _ _ _ l c.if-j-first.false c.if-i-count.false c.if-i-eq1.false c.if-first-eq1.false
