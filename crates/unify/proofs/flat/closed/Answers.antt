use native.Mathlib.Omega.{arith}
use Rattle.std.proofs.lemmas.Result.{err_from_is_err_and}
use Rattle.unify.proofs.Refusals.{was_there, too_large}
use Rattle.unify.proofs.FlatLaws.{closed-short, closed-done, closed-large}
use Rattle.unify.proofs.flat.closed.Goals as goal

pub returns-in_err-k : goal.returns-in_err-k
returns-in_err-k c =
    let (n, z) = too_large _ c.from_residual.result c.ok_or.ensures.value c.in_err-k.was (err_from_is_err_and _ c.from_residual.ensures.1) in
    rw z (closed-large _ c.requires _ c.close_union.auto.part c.close_union.ensures n)

pub overflow_add-result : goal.overflow_add-result
overflow_add-result c = omega (arith, closed-short _ c.requires _ c.close_union.auto.part c.close_union.ensures (was_there _ c.ok_or.ensures.value c.in_ok-k.was))

pub returns : goal.returns
returns c = closed-done _ c.requires _ c.close_union.auto.part c.close_union.ensures (was_there _ c.ok_or.ensures.value c.in_ok-k.was)
