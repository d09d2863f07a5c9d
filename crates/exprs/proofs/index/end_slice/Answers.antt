use Rattle.exprs.proofs.States.{slice-list, slice-any}
use borrow.Author.Rules.{rules}
use Rattle.exprs.proofs.index.end_slice.Goals as goal

pub returns-then-work-eq-LIST : goal.returns-then-work-eq-LIST
returns-then-work-eq-LIST c = (search rules, λ t k. (slice-list k c.if-work-eq-LIST.true).at)

pub returns : goal.returns
returns c = (search rules, λ t k. (slice-any k c.if-work-eq-LIST.false c.put_letter.ensures).at)
