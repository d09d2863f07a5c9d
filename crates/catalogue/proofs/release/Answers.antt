use Rattle.std.proofs.Common.{rules, sym, ◌∙◌}
use Rattle.std.proofs.lemmas.Result.{err_from_is_err_and}
use Rattle.catalogue.proofs.CallLaws.{ends_at, opened, store-refused}
use Rattle.catalogue.proofs.release.Goals as goal

pub returns-in_err-checked : goal.returns-in_err-checked
returns-in_err-checked c =
    let p = err_from_is_err_and c.from_residual.result c.from_residual.ensures.1 in
    rw (p.1, p.2) (store-refused _ _ (sym c.in_err-checked.was ∙ c.check.ensures))

pub release_number-requires : goal.release_number-requires
release_number-requires c = ends_at _ _ _ (opened _ (λ i. search rules) _ (sym c.in_ok-checked.was ∙ c.check.ensures))
