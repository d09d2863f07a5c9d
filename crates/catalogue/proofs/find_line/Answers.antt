use Rattle.std.proofs.Common.{sym, ◌∙◌, arith}
use Rattle.std.proofs.lemmas.Result.{err_from_is_err_and}
use Rattle.catalogue.proofs.CallLaws.{ends_at, opened, not-looked, no-store-place}
use Rattle.catalogue.proofs.find_line.Goals as goal

pub returns-in_err-checked : goal.returns-in_err-checked
returns-in_err-checked c =
    let p = err_from_is_err_and c.from_residual.result c.from_residual.ensures.1 in
    let e = sym c.in_err-checked.was ∙ c.check.ensures in
    rw (p.1, p.2) (record { looks = not-looked _ _ e; place = sym (no-store-place _ _ e) })

pub line_number-requires : goal.line_number-requires
line_number-requires c = ends_at _ _ _ (opened _ (λ i. omega (arith, c.type_inv.store i)) _ (sym c.in_ok-checked.was ∙ c.check.ensures))
