use Rattle.replay_store.proofs.Laws.{looked-so}
use Rattle.replay_store.proofs.is_found.Goals as goal

pub returns-then-answer-want-2 : goal.returns-then-answer-want-2
returns-then-answer-want-2 c = looked-so _ _ _ _ _ _ _ c.if-answer-want-2.true.0 c.if-answer-want-2.true.1 c.same.ensures
