use Rattle.std.proofs.Common.{rules, refl, ◌∙◌}
use Rattle.std.proofs.lemmas.Iterator.Search.{find_from_yields_List}
use Rattle.catalogue.specs.Places.{has_text}
use Rattle.text.proofs.Words.{same-slices}
use Rattle.catalogue.proofs.FindLaws.{Placed, found-by}
use Rattle.catalogue.proofs.find.find_text.Goals as goal

pub returns : goal.returns
returns c = λ ls r. search rules ∙ found-by (has_text c.args.t.now) _ _ _ _ (refl, refl, refl) c.find.result (λ all y. find_from_yields_List (λ (q : Placed). has_text c.args.t.now q.1) _ _ c.find.result c.find.ensures.ran y (λ x b q k. (search rules, search (rules, same-slices)))) ls r
