use Rattle.exprs.proofs.StateLaws.{map-put}
use Rattle.exprs.proofs.map.start_map.Goals as goal

pub returns : goal.returns
returns c = map-put c.requires c.put_pair.ensures c.state.ensures
