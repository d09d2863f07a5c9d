use Rattle.std.proofs.lemmas.Result.{err_from_is_err_and}
use Rattle.catalogue.specs.Places.{has_number}
use Rattle.catalogue.proofs.Exits.{absent, present}
use Rattle.catalogue.proofs.StandLaws.{open-laid}
use Rattle.catalogue.proofs.CallLaws.{found-there, found-standing, released, not-released}
use Rattle.catalogue.proofs.release_number.Goals as goal

pub new-requires : goal.new-requires
new-requires c = open-laid _ _ c.requires.form _ c.requires.ends

pub returns-in_err-at : goal.returns-in_err-at
returns-in_err-at c =
    let p = err_from_is_err_and c.from_residual.result c.from_residual.ensures.1 in
    let q = absent c.find_number.result _ _ c.in_err-at.ensures.value in
    rw (p.1, p.2, q.1) (not-released _ _ _ c.requires _ (found-there (has_number c.args.number) c.new.result _ _ _ c.new.ensures c.find_number.ensures) q.0)

pub release_at-requires : goal.release_at-requires
release_at-requires c = found-standing _ _ _ c.requires _ (found-there (has_number c.args.number) c.new.result _ _ _ c.new.ensures c.find_number.ensures) _ (present c.find_number.result _ _ c.in_ok-at.ensures.value)

pub returns : goal.returns
returns c = released _ _ _ c.requires _ (found-there (has_number c.args.number) c.new.result _ _ _ c.new.ensures c.find_number.ensures) _ (present c.find_number.result _ _ c.in_ok-at.ensures.value) _ c.release_at.ensures
