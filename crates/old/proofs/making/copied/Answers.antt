use Rattle.text.proofs.Laws.{part_slice}
use Rattle.old.proofs.MakeParts.{copy-bounds, copies}
use Rattle.old.proofs.making.copied.Goals as goal

pub slice_bounds-append-end : goal.slice_bounds-append-end
slice_bounds-append-end c = (copy-bounds c.args.s.now _ _ c.requires.0 c.type_end-e.ensures).1

pub returns : goal.returns
returns c = copies c.args.s.now c.args.work.now _ _ _ _ _ c.requires.0 c.requires.1 c.type_end-e.ensures (part_slice c.args.at c.type_end-e.result c.args.s.now) c.append-n.ensures
