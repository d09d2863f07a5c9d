use Rattle.std.proofs.lemmas.Result.{err_from_is_err_and}
use Rattle.semantics.specs.Sheet.{rank}
use Rattle.hir.proofs.SheetLaws.{first-stop, first_on}
use Rattle.hir.proofs.valid.check_sheet.Goals as goal

pub returns-in_err-first : goal.returns-in_err-first
returns-in_err-first c =
    let p = err_from_is_err_and c.from_residual.result c.from_residual.ensures.1 in
    rw (p.1, p.2) (first-stop _ _ _ c.read_line.ensures _ c.in_err-first.ensures)

pub returns : goal.returns
unfolding rank
returns c = let m = c.in_ok-first.ensures in first_on c.args.sheet.now c.args.depth c.in_ok-first.first (rw m.0 at c.read_line.ensures) (rw m.0 at m.1) _ c.check_rest.ensures
