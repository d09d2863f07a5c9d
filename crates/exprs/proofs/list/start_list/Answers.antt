use Rattle.exprs.proofs.StateLaws.{list_put}
use Rattle.exprs.proofs.list.start_list.Goals as goal

pub returns : goal.returns
returns c = list_put c.requires c.put_letter.ensures c.state.ensures
