use Rattle.std.proofs.Common.{◌∙◌, arith}
use Rattle.line.proofs.LineLaws.{code-on, code-over, code-end}
use Rattle.line.proofs.line.word_code.Goals as goal

pub returns-then-code-ge-FULL : goal.returns-then-code-ge-FULL
returns-then-code-ge-FULL c = c.loop-b.invariant ∙ code-over c.args.letters.now c.loop-b.b-index c.loop-b.code (omega arith) c.if-code-ge-FULL.true

pub loop-b-preserved : goal.loop-b-preserved
loop-b-preserved c = rw c.from.ensures (c.loop-b.invariant ∙ code-on c.args.letters.now c.loop-b.b-index c.loop-b.code (omega arith) c.if-code-ge-FULL.false)

pub returns : goal.returns
returns c = (c.loop-b.invariant ∙ code-end c.args.letters.now c.loop-b.b-index c.loop-b.code (omega arith))
