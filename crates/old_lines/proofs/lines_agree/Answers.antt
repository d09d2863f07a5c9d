-- The claims. Assumes nothing.
use Rattle.old_lines.proofs.ClaimLaws.{regular-lines}
use Rattle.old_lines.proofs.lines_agree.Goals as goal

pub returns : goal.returns
returns c = regular-lines
