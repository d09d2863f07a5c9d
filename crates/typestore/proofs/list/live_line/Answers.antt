-- `live_line`: seven texts, one behind the other.
use Rattle.std.proofs.Common.{rules}
use Rattle.semantics.specs.Bytes.{text}
use Rattle.writer.proofs.Laws.{wrote_both}
use Rattle.typestore.proofs.list.live_line.Goals as goal

pub returns-clause-line : goal.returns-clause-line
unfolding text
returns-clause-line c =
    let all = wrote_both c.write.ensures.wrote (wrote_both c.decimal.ensures.wrote (wrote_both c.put.ensures.wrote (wrote_both c.decimal-2.ensures.wrote (wrote_both c.put-2.ensures.wrote (wrote_both c.write-2.ensures.wrote c.end_line.ensures.wrote))))) in
    let text = all.text in
    let end = all.end in
    record { text = search rules; end = search rules }
