use Rattle.std.proofs.Common.{sym, ◌∙◌}
use Rattle.std.proofs.lemmas.Result.{err_from_is_err_and}
use Rattle.catalogue.specs.Places.{has_number}
use Rattle.catalogue.proofs.Exits.{absent, present}
use Rattle.catalogue.proofs.StandLaws.{open-laid}
use Rattle.catalogue.proofs.CallLaws.{found-there, standing, found-standing, looked-up, not-looked-up, found-place, no_place}
use Rattle.catalogue.proofs.line_number.Goals as goal

pub new-requires : goal.new-requires
new-requires c = open-laid _ _ c.requires.form _ c.requires.ends

pub returns-in_err-at : goal.returns-in_err-at
returns-in_err-at c =
    let p = err_from_is_err_and c.from_residual.result c.from_residual.ensures.1 in
    let q = absent c.find_number.result _ _ c.in_err-at.ensures.value in
    let o = c.requires in
    let f = (found-there (has_number c.args.number) c.new.result _ _ _ c.new.ensures c.find_number.ensures) in
    rw (p.1, p.2, q.1) (record { looks = not-looked-up _ _ _ o _ f q.0; place = sym (no_place _ _ _ o _ f q.0) })

pub line_at-requires : goal.line_at-requires
line_at-requires c = standing _ _ _ (found-standing _ _ _ c.requires _ (found-there (has_number c.args.number) c.new.result _ _ _ c.new.ensures c.find_number.ensures) _ (present c.find_number.result _ _ c.in_ok-at.ensures.value))

pub returns : goal.returns
returns c =
    let o = c.requires in
    let f = (found-there (has_number c.args.number) c.new.result _ _ _ c.new.ensures c.find_number.ensures) in
    let a = present c.find_number.result _ _ c.in_ok-at.ensures.value in
    record { looks = looked-up _ _ _ o _ f _ a _ c.line_at.ensures.0; place = c.line_at.ensures.1 ∙ sym (found-place _ _ _ o _ f _ a) }
