use Rattle.std.proofs.Common.{◌≡◌, sym, ◌∙◌}
use Rattle.std.proofs.lemmas.Result.{err_from_is_err_and}
use Rattle.catalogue.specs.Places.{is_distinct}
use Rattle.catalogue.proofs.PlaceLaws.{moved}
use Rattle.catalogue.proofs.StoreLaws.{other_length, no-zeros, no_end, end_read, read-laid, good-store, twice_there}
use Rattle.catalogue.proofs.form.check.Goals as goal
use Rattle.catalogue.proofs.form.check.Goals.{then-s-ne-STORE_SIZE-via-then-s-ne-STORE_SIZE, then-s-ne-STORE_SIZE-via-else-s-ne-STORE_SIZE+then-not-all_zeros}

pub returns-then-s-ne-STORE_SIZE : goal.returns-then-s-ne-STORE_SIZE
returns-then-s-ne-STORE_SIZE c =
    elim c.then-s-ne-STORE_SIZE.branch [
      | then-s-ne-STORE_SIZE-via-then-s-ne-STORE_SIZE w ↦ other_length _ w.if-s-ne-STORE_SIZE.true
      | then-s-ne-STORE_SIZE-via-else-s-ne-STORE_SIZE+then-not-all_zeros w ↦ no-zeros _ w.if-s-ne-STORE_SIZE.false (sym w.all_zeros.ensures ∙ w.if-not-all_zeros.true)
    ]

pub returns-in_err-end : goal.returns-in_err-end
returns-in_err-end c =
    let p = err_from_is_err_and c.from_residual.result c.from_residual.ensures.1 in
    rw p.1 (no_end _ _ c.if-s-ne-STORE_SIZE.false (sym c.all_zeros.ensures ∙ c.if-not-all_zeros.false) c.read_u16-last.ensures (sym c.in_err-end.was ∙ c.find_end.ensures))

pub new-requires : goal.new-requires
new-requires c =
    let h = c.if-s-ne-STORE_SIZE.false in
    let zs = sym c.all_zeros.ensures ∙ c.if-not-all_zeros.false in
    let l = c.read_u16-last.ensures in
    read-laid _ _ h zs l _ (end_read _ _ h zs l _ (sym c.in_ok-end.was ∙ c.find_end.ensures))

pub returns-then-are_distinct : goal.returns-then-are_distinct
returns-then-are_distinct c =
    good-store _ _ c.if-s-ne-STORE_SIZE.false (sym c.all_zeros.ensures ∙ c.if-not-all_zeros.false) c.read_u16-last.ensures _ (sym c.in_ok-end.was ∙ c.find_end.ensures) c.are_distinct.result (moved (λ n ls. c.are_distinct.result ≡ is_distinct ls) c.new.result _ _ _ c.new.ensures c.are_distinct.ensures) c.if-are_distinct.true

pub returns-else-are_distinct : goal.returns-else-are_distinct
returns-else-are_distinct c =
    twice_there _ _ c.if-s-ne-STORE_SIZE.false (sym c.all_zeros.ensures ∙ c.if-not-all_zeros.false) c.read_u16-last.ensures _ (sym c.in_ok-end.was ∙ c.find_end.ensures) c.are_distinct.result (moved (λ n ls. c.are_distinct.result ≡ is_distinct ls) c.new.result _ _ _ c.new.ensures c.are_distinct.ensures) c.if-are_distinct.false
