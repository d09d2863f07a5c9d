-- `in_out`: the bytes of an output that is cleared, and of one that is not. Assumes nothing.
use borrow.Author.Rules.{rules}
use mathlib.Core.Path.{◌≡◌}
use Rattle.std.proofs.Common.{arith}
use Rattle.replay.proofs.Cases.{out-cleared, out-twelve, out-low, out-high}
use Rattle.replay.proofs.in_out.Goals as goal

pub returns-in_default : goal.returns-in_default
returns-in_default c = out-low _ (omega arith)

pub returns-in_default-2 : goal.returns-in_default-2
returns-in_default-2 c = let d : c.args.number ≡ 12 → ⊥ = search rules in out-high _ (omega arith) d

pub returns-in-3-to-8 : goal.returns-in-3-to-8
returns-in-3-to-8 c = out-twelve _ (omega arith)

pub returns-in-3-to-8-2 : goal.returns-in-3-to-8-2
returns-in-3-to-8-2 c = out-cleared _ (omega arith) (omega arith)
