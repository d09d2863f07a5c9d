use Rattle.catalogue.proofs.CallLaws.{looked-part}
use Rattle.catalogue.proofs.look_up.Goals as goal

pub returns-clause-looked : goal.returns-clause-looked
returns-clause-looked c = looked-part c.args.store.now c.in_ok-line.line _ c.in_ok-line.ensures.looks.is
