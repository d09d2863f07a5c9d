-- `list`: the store is checked first.
use Rattle.std.proofs.Common.{sym, ◌∙◌, rules}
use Rattle.catalogue.proofs.CallLaws.{opened}
use Rattle.typestore.proofs.ListLaws.{not_listed}
use Rattle.typestore.proofs.list.list.Goals as goal

pub list_all-requires : goal.list_all-requires
list_all-requires c = opened _ (λ i. search rules) _ (sym c.in-Ok.is ∙ c.check.ensures)

pub returns-in-Err : goal.returns-in-Err
returns-in-Err c = not_listed _ _ _ _ _ (sym c.in-Err.is ∙ c.check.ensures) c.into.ensures c.say_refused.ensures
