use Rattle.exprs.proofs.States.{list_any, list-kept}
use borrow.Author.Rules.{rules}
use Rattle.exprs.proofs.list.end_list.Goals as goal

pub returns-then-st-eq2 : goal.returns-then-st-eq2
returns-then-st-eq2 c = (search rules, λ e k t h. list_any e k c.if-st-eq2.true c.put_pair.ensures t h)

pub returns : goal.returns
returns c = (search rules, λ e k t h. list-kept e k c.if-st-eq2.false t h)
