use borrow.Author.Rules.{rules}
use Rattle.hir.proofs.PlaceLaws.{met-as}
use Rattle.hir.proofs.valid.meet.Goals as goal

pub returns : goal.returns
returns c = met-as _ c.args.at _ _ c.admit.result _ c.admit.ensures c.map_err.ensures.cases (λ why e h. (search rules))
