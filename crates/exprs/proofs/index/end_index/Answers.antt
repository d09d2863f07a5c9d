use Rattle.exprs.proofs.States.{only-first, element-returned}
use Rattle.exprs.proofs.index.end_index.Goals as goal

pub resolve-requires : goal.resolve-requires
resolve-requires c = only-first c.requires

pub returns : goal.returns
returns c = ((element-returned c.resolve.ensures c.requires.at).long, λ t k. (element-returned c.resolve.ensures k).at)
