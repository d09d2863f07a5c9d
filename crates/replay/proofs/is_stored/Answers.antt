use Rattle.std.proofs.Common.{sym, ◌∙◌}
use Rattle.replaying.proofs.Laws.{alike}
use Rattle.replay.proofs.Agreed.{same-answer}
use Rattle.replay.proofs.is_stored.Goals as goal

pub returns-then-eq : goal.returns-then-eq
returns-then-eq c = same-answer _ _ c.args.want.text.now c.args.answer c.args.want.answer (alike c.args.answer c.args.want.answer (sym c.eq.ensures ∙ c.if-eq.true)) c.is_left.ensures
