use Rattle.std.proofs.Common.{sym, ◌∙◌}
use Rattle.replaying.proofs.Laws.{alike}
use Rattle.replay_store.proofs.Laws.{kept-so}
use Rattle.replay_store.proofs.is_kept.Goals as goal

pub returns-then-eq : goal.returns-then-eq
returns-then-eq c = kept-so _ _ _ _ _ (alike c.args.answer c.args.want.answer (sym c.eq.ensures ∙ c.if-eq.true)) c.same.ensures
