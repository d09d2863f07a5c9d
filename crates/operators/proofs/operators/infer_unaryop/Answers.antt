use Rattle.operators.proofs.OpLaws.{one-kind, unary-minus, unary-not}
use Rattle.operators.proofs.operators.infer_unaryop.Goals as goal

pub numeric-requires : goal.numeric-requires
numeric-requires c = record { ty = c.requires.0.ty; is = one-kind c.requires.0.at }

pub returns-in-Neg-clause-ends : goal.returns-in-Neg-clause-ends
returns-in-Neg-clause-ends c = λ t h. unary-minus _ h c.in-Neg.ensures c.numeric.ensures c.put_letter.ensures c.require.ensures.adds

pub returns-in-Not-clause-ends : goal.returns-in-Not-clause-ends
returns-in-Not-clause-ends c = λ t h. unary-not _ h c.in-Not.ensures c.is_bool.ensures c.require-in-Not.ensures.adds
