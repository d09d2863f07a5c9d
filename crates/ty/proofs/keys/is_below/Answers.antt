use Rattle.std.proofs.Common.{get_or}
use native.Mathlib.Omega.{arith}
use Rattle.ty.proofs.Heads.{told_head, from_there}
use Rattle.ty.proofs.keys.is_below.Goals as goal

pub returns : goal.returns
returns c l m w = let a = c.args in told_head a.s.now a.q a.n c.requires.0 (λ j. omega (arith, c.type_inv.s j)) _ a.x (from_there (λ i. get_or a.s.now i 0) a.q _ c.number_of-first.ensures) l m w
