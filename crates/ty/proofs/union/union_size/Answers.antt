use mathlib.Core.Bool.{Bool}
use mathlib.Core.Path.{sym, ap}
use native.Mathlib.Omega.{arith}
use Rattle.ty.proofs.UnionLaws.{front-from, size-short, size-long, size-two, size-one}
use Rattle.ty.specs.Made.{made}
use Rattle.ty.proofs.union.union_size.Goals as goal

pub returns-then-len-le-TYPE_LIMIT : goal.returns-then-len-le-TYPE_LIMIT
returns-then-len-le-TYPE_LIMIT c = λ ms f. ap (λ (b : Bool). made b c.args.len) (sym (size-short f c.if-len-le-TYPE_LIMIT.true))

pub returns-then-len-gt-TYPE_LIMIT : goal.returns-then-len-gt-TYPE_LIMIT
returns-then-len-gt-TYPE_LIMIT c = λ ms f. ap (λ (b : Bool). made b c.args.len) (sym (size-long f c.if-len-gt-TYPE_LIMIT.true))

pub type_end-requires : goal.type_end-requires
type_end-requires c = front-from c.requires.front (omega arith)

pub returns-then-type_end-len : goal.returns-then-type_end-len
returns-then-type_end-len c = λ ms f. ap (λ (b : Bool). made b c.args.len) (sym (size-two f c.type_end.ensures c.if-type_end-len.true (omega arith)))

pub returns : goal.returns
returns c = λ ms f. ap (λ (b : Bool). made b c.args.len) (sym (size-one f c.type_end.ensures (omega arith) c.if-type_end-len.false (omega arith)))
