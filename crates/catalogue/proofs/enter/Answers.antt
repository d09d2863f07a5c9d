use Rattle.std.proofs.Common.{rules, sym, ◌∙◌}
use Rattle.std.proofs.lemmas.Result.{err_from_is_err_and}
use Rattle.catalogue.proofs.CallLaws.{opened, store-refused}
use Rattle.catalogue.proofs.enter.Goals as goal

pub returns-in_err-checked : goal.returns-in_err-checked
returns-in_err-checked c =
    let p = err_from_is_err_and c.from_residual.result c.from_residual.ensures.1 in
    rw (p.1, p.2) (store-refused _ _ (sym c.in_err-checked.was ∙ c.check.ensures))

pub enter_line-requires : goal.enter_line-requires
enter_line-requires c = opened _ (λ i. search rules) _ (sym c.in_ok-checked.was ∙ c.check.ensures)
