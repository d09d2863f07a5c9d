use mathlib.Core.Path.{sym}
use Rattle.unify.proofs.LetterLaws.{type-begins, arm-any-first, arm-any-second, arm-unknown-first, arm-unknown-second, arm-equal, arm-unequal}
use Rattle.unify.proofs.arms.arm_of.Goals as goal
use Rattle.unify.proofs.arms.arm_of.Goals.{then-is_unknown-via-then-is_unknown, then-is_unknown-via-else-is_unknown+then-is_unknown-2}

pub bounds-work-left : goal.bounds-work-left
bounds-work-left c = type-begins c.requires.first

pub bounds-work-right : goal.bounds-work-right
bounds-work-right c = type-begins c.requires.second

pub returns-then-is_any : goal.returns-then-is_any
returns-then-is_any c = λ t u f g. arm-any-first f g (sym c.if-is_any.ensures)

pub returns-then-is_any-2 : goal.returns-then-is_any-2
returns-then-is_any-2 c = λ t u f g. arm-any-second f g (sym c.if-is_any.ensures) (sym c.if-is_any-2.ensures)

pub returns-then-is_unknown : goal.returns-then-is_unknown
returns-then-is_unknown c =
    λ t u f g.
    elim c.then-is_unknown.branch [
      | then-is_unknown-via-then-is_unknown w ↦ arm-unknown-first f g (sym c.if-is_any.ensures) (sym c.if-is_any-2.ensures) (sym w.if-is_unknown.ensures)
      | then-is_unknown-via-else-is_unknown+then-is_unknown-2 w ↦
          arm-unknown-second f g (sym c.if-is_any.ensures) (sym c.if-is_any-2.ensures) (sym w.if-is_unknown.ensures) (sym w.if-is_unknown-2.ensures)
    ]

pub returns-then-same : goal.returns-then-same
returns-then-same c =
    λ t u f g. arm-equal f g (sym c.if-is_any.ensures) (sym c.if-is_any-2.ensures) (sym c.if-is_unknown.ensures) (sym c.if-is_unknown-2.ensures) _ c.same.ensures c.if-same.true

pub returns : goal.returns
returns c =
    λ t u f g.
    arm-unequal f g (sym c.if-is_any.ensures) (sym c.if-is_any-2.ensures) (sym c.if-is_unknown.ensures) (sym c.if-is_unknown-2.ensures) _ c.same.ensures c.if-same.false _
    c.arm_of_unequal.ensures
