use Rattle.std.proofs.Common.{rules, tests, refl, ◌∙◌}
use Rattle.std.proofs.lemmas.Iterator.Search.{find_from_yields_List}
use Rattle.catalogue.specs.Places.{has_number}
use Rattle.catalogue.proofs.FindLaws.{Placed, found-by}
use Rattle.catalogue.proofs.find.find_number.Goals as goal

pub returns : goal.returns
returns c = λ ls r. search rules ∙ found-by (has_number c.args.number) _ _ _ _ (refl, refl, refl) c.find.result (λ all y. find_from_yields_List (λ (q : Placed). has_number c.args.number q.1) _ _ c.find.result c.find.ensures.ran y (λ x b q k. (search rules, search (rules, tests)))) ls r
