use Rattle.exprs.proofs.ChildLaws.{entry_in, entry-on, entry-large}
use Rattle.exprs.proofs.map.map_value.Goals as goal

pub put_entry-requires : goal.put_entry-requires
put_entry-requires c = entry_in c.requires

pub returns-in_err-len : goal.returns-in_err-len
returns-in_err-len c = rw c.from_residual.ensures (entry-large c.put_entry.ensures c.in_err-len.was)

pub returns : goal.returns
returns c = entry-on c.put_entry.ensures c.in_ok-len.was c.state.ensures
