use Rattle.text.proofs.Laws.{part_slice}
use Rattle.old.proofs.MakeParts.{join-list, entry_ready, join-map}
use Rattle.old.proofs.making.step.Goals as goal

pub add_entry-requires : goal.add_entry-requires
add_entry-requires c = entry_ready _ _ _ _ _ _ c.in-75.is _ _ (part_slice c.args.q c.field_end-c.result c.args.s.now) c.field_end-c.ensures.place c.requires.0

pub returns-in-74 : goal.returns-in-74
returns-in-74 c = join-list _ _ _ _ _ _ c.in-74.is

pub returns-in-75 : goal.returns-in-75
returns-in-75 c = join-map _ _ _ _ _ _ c.in-75.is _ _ (part_slice c.args.q c.field_end-c.result c.args.s.now) c.field_end-c.ensures.place _ _ c.add_entry.ensures
