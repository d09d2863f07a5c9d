use Rattle.exprs.proofs.ItemLaws.{any-kept}
use Rattle.exprs.proofs.list.any_items.Goals as goal

pub returns : goal.returns
returns c = rw c.put_field.ensures (any-kept c.requires c.state.ensures)
