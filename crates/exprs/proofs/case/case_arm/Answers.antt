use mathlib.Core.Path.{refl}
use Rattle.exprs.proofs.ChildLaws.{arm-over, arm_in, arm-on, arm-large}
use Rattle.exprs.proofs.case.case_arm.Goals as goal

pub returns-then-st : goal.returns-then-st
returns-then-st c = arm-over c.if-st.true

pub add_union-requires : goal.add_union-requires
add_union-requires c = arm_in c.if-st.false c.requires

pub returns-in-Some : goal.returns-in-Some
returns-in-Some c = arm-on c.if-st.false c.requires c.add_union.ensures c.in-Some.is c.state.ensures

pub returns-in-None : goal.returns-in-None
returns-in-None c = arm-large c.if-st.false c.requires c.add_union.ensures c.in-None.is refl
