-- The claim. Assumes nothing.
use Rattle.exchange.proofs.Theorem.{unify-exchange}
use Rattle.exchange.proofs.exchange_agrees.Goals as goal

pub returns : goal.returns
returns c = unify-exchange
