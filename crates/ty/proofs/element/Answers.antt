use Rattle.ty.proofs.Lines.{list-room, list_part}
use Rattle.ty.proofs.element.Goals as goal

pub slice_bounds-result-count : goal.slice_bounds-result-count
slice_bounds-result-count c = list-room _ _ c.requires.is

pub slice_bounds-result-start : goal.slice_bounds-result-start
slice_bounds-result-start c = list-room _ _ c.requires.is

pub returns : goal.returns
returns c = λ t e. list_part _ t e
