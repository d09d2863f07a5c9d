use native.Mathlib.Omega.{arith}
use Rattle.ty.proofs.Heads.{told-name}
use Rattle.ty.proofs.keys.is_name_below.Goals as goal

pub returns : goal.returns
returns c l = let st = c in let a = st.args in told-name a.s.now a.q a.name.now _ a.low st.requires.0 (λ j. omega (arith, c.type_inv.name j)) c.key_of.ensures st.requires.1 l
