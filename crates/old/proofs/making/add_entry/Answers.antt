use Rattle.old.proofs.EntryDepth.{value-type, shallow, deep}
use Rattle.old.proofs.making.add_entry.Goals as goal

pub nesting_end-requires : goal.nesting_end-requires
nesting_end-requires c = value-type c.requires

pub place_entry-requires : goal.place_entry-requires
place_entry-requires c = shallow _ _ _ _ _ _ c.requires c.nesting_end.ensures c.in_ok-_end.was

pub returns-in_err-_end : goal.returns-in_err-_end
returns-in_err-_end c = rw c.from_residual.ensures (deep _ c.args.name.now _ c.args.end _ c.nesting_end.ensures c.in_err-_end.was)
