use Rattle.unify.proofs.UnionJoins.{widen-again, widened-both, widened-over}
use Rattle.unify.proofs.unions.widen.Goals as goal

pub returns-in_err-k : goal.returns-in_err-k
returns-in_err-k c = rw c.from_residual.ensures (widened-over c.add_copy.ensures c.in_err-k.was)

pub add_copy-requires-2 : goal.add_copy-requires-2
add_copy-requires-2 c = widen-again c.add_copy.ensures c.requires _ c.in_ok-k.was

pub returns : goal.returns
returns c = widened-both c.add_copy.ensures _ c.in_ok-k.was c.add_copy-2.ensures
