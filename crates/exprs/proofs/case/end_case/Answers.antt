use Rattle.exprs.proofs.States.{case-large, case-closing, case-ends}
use Rattle.exprs.proofs.case.end_case.Goals as goal

pub returns-then-st : goal.returns-then-st
returns-then-st c = λ k f h r. case-large k f h c.if-st.true

pub close_union-requires : goal.close_union-requires
close_union-requires c = case-closing c.requires c.if-st.false

pub returns : goal.returns
returns c k f h r = case-ends c.close_union.ensures c.if-st.false k f h
