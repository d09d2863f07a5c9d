use Rattle.std.proofs.Common.{◌∙◌, sym}
use borrow.Author.Rules.{rules}
use borrow.Author.Tests.{eq-eqb, ne_eqb}
use denote.Enum.Bare.{same_true, same_false}
use Rattle.line.specs.contracts.places.Place.{the_type}
use Rattle.hir.proofs.PlaceLaws.{expression-rank, other-rank}
use Rattle.hir.proofs.valid.below.Goals as goal

pub overflow_sub-result : goal.overflow_sub-result
overflow_sub-result c = c.requires (expression-rank _ (same_true the_type (search rules) _ _ (sym c.eq.ensures ∙ c.if-eq.true)))

pub returns-then-eq : goal.returns-then-eq
returns-then-eq c = rw (eq-eqb _ _ (expression-rank _ (same_true the_type (search rules) _ _ (sym c.eq.ensures ∙ c.if-eq.true))))

pub returns-else-eq : goal.returns-else-eq
returns-else-eq c = rw (ne_eqb _ _ (other-rank _ (same_false the_type _ _ (sym c.eq.ensures ∙ c.if-eq.false))))
