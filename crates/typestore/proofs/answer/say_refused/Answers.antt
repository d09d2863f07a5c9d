-- `say_refused`: the line of a refusal.
use Rattle.std.proofs.Common.{refl, arith, rules}
use Rattle.semantics.specs.Bytes.{text}
use Rattle.typestore.proofs.answer.say_refused.Goals as goal

pub returns : goal.returns
unfolding text
returns c =
    let line = c.refused_line.ensures.line in
    let put = line.appended.text in
    let end = line.appended.end in
    let short = line.short in
    let begun = c.new-writer.ensures in
    record { why = refl; text = record { text = search rules; end = search rules }; short = omega arith }
