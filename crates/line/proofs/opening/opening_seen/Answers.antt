use Rattle.std.proofs.Common.{arith}
use mathlib.Core.Logic.{⊎_elim}
use Rattle.line.proofs.OpeningLaws.{opened-bare, opened-more}
use Rattle.line.proofs.opening.opening_seen.Goals as goal

pub returns-in-44 : goal.returns-in-44
returns-in-44 c =
    ⊎_elim
    (λ e. opened-bare _ _ _ c.in_ok-lead.ensures (λ x. omega (arith, c.type_inv.sheet x)) _ c.in_ok-word.ensures e)
    (λ e. opened-more _ _ _ c.in_ok-lead.ensures (λ x. omega (arith, c.type_inv.sheet x)) _ c.in_ok-word.ensures e) c.in-44.is
