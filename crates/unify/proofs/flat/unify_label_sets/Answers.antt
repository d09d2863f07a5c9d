use native.Mathlib.Omega.{arith}
use Rattle.std.proofs.lemmas.Result.{err_from_is_err_and}
use Rattle.unify.proofs.Refusals.{was_there, too_large}
use Rattle.unify.proofs.NodeLaws.{first_any, second-any, merge-ready, merged-short, merged-done, merged-large}
use Rattle.unify.proofs.flat.unify_label_sets.Goals as goal
use Rattle.unify.proofs.flat.unify_label_sets.Goals.{then-work-left-eq-CLOSE-via-then-work-left-eq-CLOSE, then-work-left-eq-CLOSE-via-else-work-left-eq-CLOSE+then-work-right-eq-CLOSE}

pub returns-then-work-left-eq-CLOSE : goal.returns-then-work-left-eq-CLOSE
returns-then-work-left-eq-CLOSE c =
    rw c.append.ensures.0
    (elim c.then-work-left-eq-CLOSE.branch [
      | then-work-left-eq-CLOSE-via-then-work-left-eq-CLOSE w ↦ first_any c.requires c.append.ensures.1 w.if-work-left-eq-CLOSE.true
      | then-work-left-eq-CLOSE-via-else-work-left-eq-CLOSE+then-work-right-eq-CLOSE w ↦ second-any c.requires c.append.ensures.1 w.if-work-right-eq-CLOSE.true
    ])

pub merge_labels-requires : goal.merge_labels-requires
merge_labels-requires c = merge-ready c.requires c.if-work-left-eq-CLOSE.false c.if-work-right-eq-CLOSE.false

pub returns-in_err-k : goal.returns-in_err-k
returns-in_err-k c =
    let (n, z) = too_large _ c.from_residual.result c.ok_or.ensures.value c.in_err-k.was (err_from_is_err_and _ c.from_residual.ensures.1) in
    rw z (merged-large c.requires c.if-work-left-eq-CLOSE.false c.if-work-right-eq-CLOSE.false c.merge_labels.ensures n)

pub overflow_add-result : goal.overflow_add-result
overflow_add-result c = omega (arith, merged-short c.requires c.if-work-left-eq-CLOSE.false c.if-work-right-eq-CLOSE.false c.merge_labels.ensures (was_there _ c.ok_or.ensures.value c.in_ok-k.was))

pub returns : goal.returns
returns c = merged-done c.requires c.if-work-left-eq-CLOSE.false c.if-work-right-eq-CLOSE.false c.merge_labels.ensures (was_there _ c.ok_or.ensures.value c.in_ok-k.was)
