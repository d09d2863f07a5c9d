use Rattle.std.proofs.Common.{◌∙◌}
use Rattle.text.proofs.Words.{same-slices}
use Rattle.text.proofs.same.Goals as goal

pub returns : goal.returns
returns c = c.eq.ensures ∙ same-slices c.args.a.now c.args.b.now
