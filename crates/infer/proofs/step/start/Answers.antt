use mathlib.Core.Path.{refl}
use borrow.Author.Rules.{rules}
use Rattle.infer.proofs.StepLaws.{start-list, start-map, start-arms, start-last, start-empty}
use Rattle.infer.proofs.step.start.Goals as goal

pub returns-in-Listing : goal.returns-in-Listing
returns-in-Listing c = (c.start_list.ensures.2, λ q e. start-list q _ e c.in-Listing.is c.start_list.ensures.0)

pub returns-in-Mapping : goal.returns-in-Mapping
returns-in-Mapping c = (c.start_map.ensures.1, λ q e. start-map q _ e c.in-Mapping.is c.start_map.ensures.0)

pub returns-in-Casing : goal.returns-in-Casing
returns-in-Casing c = (refl, λ q e. start-arms q _ e c.in-Casing.is (c.start_case.ensures _))

pub returns-in-Comprehension : goal.returns-in-Comprehension
returns-in-Comprehension c = (c.start_comprehension.ensures.1, λ q e. start-last q _ e c.in-Comprehension.is c.start_comprehension.ensures.0)

pub returns-in_default : goal.returns-in_default
returns-in_default c = (refl, λ q e. start-empty q _ e (search rules) (search rules) (search rules) (search rules) (c.start_empty.ensures _))
