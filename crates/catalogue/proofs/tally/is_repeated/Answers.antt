use Rattle.std.proofs.Common.{rules, arith, refl, ◌∙◌}
use borrow.Author.Tests.{lt-leb}
use Rattle.std.proofs.lemmas.Iterator.Search.{any_from_yields_List}
use Rattle.semantics.specs.Bytes.{same}
use Rattle.text.proofs.Words.{same-slices}
use Rattle.catalogue.proofs.FindLaws.{Placed, any-by}
use Rattle.catalogue.proofs.SlotLaws.{alone}
use Rattle.catalogue.proofs.tally.is_repeated.Goals as goal

pub returns-then-counts-slot_of-ge-TWICE : goal.returns-then-counts-slot_of-ge-TWICE
returns-then-counts-slot_of-ge-TWICE c = λ ls r k.
    let t = c.args.entry.now.text.now in
    any-by t _ _ _ _ (refl, refl, refl) c.any.result (λ all y. any_from_yields_List (λ (q : Placed). same t q.1.text) _ _ c.any.result c.any.ensures.ran y (λ x b q k. (search rules, search (rules, same-slices)))) ls r

pub returns-else-counts-slot_of-ge-TWICE : goal.returns-else-counts-slot_of-ge-TWICE
returns-else-counts-slot_of-ge-TWICE c = λ ls r k. lt-leb 2 _ c.if-counts-slot_of-ge-TWICE.false ∙ alone _ ls c.args.counts.now c.slot_of.result k c.slot_of.ensures.0 (omega arith) c.if-counts-slot_of-ge-TWICE.false
