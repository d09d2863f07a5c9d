-- `list_all`: the lines of the live types, and the last line behind them.
use Rattle.std.proofs.Common.{refl, arith, rules}
use Rattle.std.proofs.lemmas.Iterator.Consumers.{count_from_yields_List}
use Rattle.semantics.specs.Bytes.{text}
use Rattle.typestore.proofs.ListLaws.{opened-room, counted, lines-of, listed}
use Rattle.typestore.proofs.list.list_all.Goals as goal

pub new-live-requires : goal.new-live-requires
new-live-requires c = (opened-room _ _ _ c.requires).0

pub lines-fill-requires : goal.lines-fill-requires
lines-fill-requires c = let k = (opened-room _ _ _ c.requires).1 in (c.new-live.ensures.1, omega arith)

pub numbers_line-requires : goal.numbers_line-requires
numbers_line-requires c = let h = c.lines-fill.ensures.short in let k = (opened-room _ _ _ c.requires).1 in omega arith

pub returns : goal.returns
unfolding text
returns c =
    let put = c.numbers_line.ensures.line.appended.text in
    let end = c.numbers_line.ensures.line.appended.end in
    let short = c.numbers_line.ensures.line.short in
    let begun = c.new-writer.ensures in
    let last = c.from.ensures in
    let many = counted c.new-live.result _ _ _ c.new-live.ensures (λ all y. count_from_yields_List _ _ c.count-types.ensures.ran y) in
    listed _ _ _ _ c.lines-fill.new.out _ c.lines-fill.result c.count-types.result _ c.requires (lines-of c.new-live.result _ _ c.new-live.ensures c.lines-fill.ensures) many refl (record { text = search rules; end = search rules }) (omega arith)
