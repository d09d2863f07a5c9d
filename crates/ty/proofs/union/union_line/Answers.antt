use Rattle.ty.proofs.UnionEnds.{line-none, line-many, line-one, above_zero}
use Rattle.ty.proofs.UnionLaws.{front-from}
use Rattle.ty.proofs.union.union_line.Goals as goal

pub returns-then-len-eq0 : goal.returns-then-len-eq0
returns-then-len-eq0 c = λ ms f. line-none f c.requires.room c.append.auto.out c.if-len-eq0.true c.append.ensures.1 c.append.ensures.0

pub type_end-requires : goal.type_end-requires
type_end-requires c = front-from c.requires.front (above_zero _ c.if-len-eq0.false)

pub returns-then-type_end-len : goal.returns-then-type_end-len
returns-then-type_end-len c = λ ms f. line-many f c.requires.room c.wrap_union.auto.part c.type_end.ensures c.if-type_end-len.true c.wrap_union.ensures.1 c.wrap_union.ensures.0

pub returns : goal.returns
returns c = λ ms f. line-one f c.type_end.ensures (above_zero _ c.if-len-eq0.false) c.if-type_end-len.false
