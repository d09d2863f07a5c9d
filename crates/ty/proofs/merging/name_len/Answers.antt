use native.Mathlib.Nat.{le_of_lt}
use native.Mathlib.Omega.{arith}
use mathlib.Core.Option.{some}
use Rattle.ty.proofs.NameLaws.{head_in, name-ends}
use Rattle.ty.proofs.merging.name_len.Goals as goal

pub field_end-e-requires : goal.field_end-e-requires
field_end-e-requires c = let st = c in le_of_lt (head_in st.args.s.now st.args.at (some st.requires.name) st.requires.at)

pub returns : goal.returns
returns c n h = let st = c in let e = name-ends st.args.s.now st.args.at _ n h c.field_end-e.ensures in omega arith
