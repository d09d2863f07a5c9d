use Rattle.std.proofs.Common.{ap, ◌∙◌}
use Rattle.text.specs.Text.{order_of}
use Rattle.text.proofs.Words.{lex-slices}
use Rattle.text.proofs.compare.Goals as goal

pub returns : goal.returns
returns c = ap order_of c.cmp.ensures ∙ lex-slices c.args.a.now c.args.b.now
