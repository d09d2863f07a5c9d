use Rattle.std.proofs.Common.{◌∙◌, sym, refl, arith}
use borrow.Author.Rules.{rules}
use denote.Enum.Bare.{same_true, same_false}
use Rattle.line.specs.contracts.places.Place.{the_type}
use Rattle.hir.specs.Check.{wrong, deep}
use Rattle.hir.proofs.PlaceLaws.{expression-rank, other-rank}
use Rattle.hir.proofs.valid.admit.Goals.{else-eq-via-then-eq+else-depth-eq0, else-eq-via-else-eq}
use Rattle.hir.proofs.valid.admit.Goals as goal

pub returns-in-Err : goal.returns-in-Err
returns-in-Err c = wrong _ c.in-Err.is (c.is_at.ensures.0 c.if-not-is_at.false) refl

pub returns-then-depth-eq0 : goal.returns-then-depth-eq0
returns-then-depth-eq0 c = deep _ c.in-Ok.is (c.is_at.ensures.0 c.if-not-is_at.false) (expression-rank _ (same_true the_type (search rules) _ _ (sym c.eq.ensures ∙ c.if-eq.true))) c.if-depth-eq0.true refl

pub returns-else-eq : goal.returns-else-eq
returns-else-eq c = (
  c.in-Ok.is,
  c.is_at.ensures.0 c.if-not-is_at.false,
  λ e. elim c.else-eq.branch [
    | else-eq-via-then-eq+else-depth-eq0 w ↦ omega (arith, w.if-depth-eq0.false)
    | else-eq-via-else-eq w ↦ absurd (other-rank _ (same_false the_type _ _ (sym c.eq.ensures ∙ w.if-eq.false)) e)
  ],
)
