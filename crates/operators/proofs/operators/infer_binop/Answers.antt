use mathlib.Core.Path.{sym}
use Rattle.operators.proofs.OpLaws.{binary-arithmetic, binary-equality, binary-boolean, binary-string, binary-concat}
use Rattle.operators.proofs.Meets.{two-inside, two-kinds}
use native.Mathlib.Omega.{arith}
use Rattle.operators.proofs.operators.infer_binop.Goals as goal

pub bounds-work-k : goal.bounds-work-k
bounds-work-k c = let (l, m, n) = two-inside c.requires.0 in omega arith

pub require_both-requires : goal.require_both-requires
require_both-requires c = (two-kinds c.requires.0, c.requires.1)

pub require_both-requires-in-Boolean : goal.require_both-requires-in-Boolean
require_both-requires-in-Boolean c = (two-kinds c.requires.0, c.requires.1)

pub require_both-requires-in-Strings : goal.require_both-requires-in-Strings
require_both-requires-in-Strings c = (two-kinds c.requires.0, c.requires.1)

pub arithmetic-requires : goal.arithmetic-requires
arithmetic-requires c = (c.requires.0.at.small, two-kinds c.requires.0)

pub returns-in-Arithmetic-clause-ends : goal.returns-in-Arithmetic-clause-ends
returns-in-Arithmetic-clause-ends c = λ a b h. binary-arithmetic h (sym c.in-Arithmetic.ensures) c.require_both.ensures.adds c.arithmetic.ensures

pub returns-in-Equality-clause-ends : goal.returns-in-Equality-clause-ends
returns-in-Equality-clause-ends c = λ a b h. binary-equality h (sym c.in-Equality.ensures) c.is_bool.ensures

pub returns-in-Boolean-clause-ends : goal.returns-in-Boolean-clause-ends
returns-in-Boolean-clause-ends c = λ a b h. binary-boolean h (sym c.in-Boolean.ensures) c.require_both-in-Boolean.ensures.adds c.is_bool-in-Boolean.ensures

pub returns-in-Strings-clause-ends : goal.returns-in-Strings-clause-ends
returns-in-Strings-clause-ends c = λ a b h. binary-string h (sym c.in-Strings.ensures) c.require_both-in-Strings.ensures.adds c.is_bool-in-Strings.ensures

pub returns-in-Concatenation-clause-ends : goal.returns-in-Concatenation-clause-ends
returns-in-Concatenation-clause-ends c = λ a b h. binary-concat a b (sym c.in-Concatenation.ensures) (omega (arith, c.requires.0.at.small)) c.put_letter.ensures
