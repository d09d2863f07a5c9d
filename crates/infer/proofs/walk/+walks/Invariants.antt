-- Below so many levels an expression comes before the choice of `infer_line`, then a pattern, then any tree.
use Prim.Native.Nat.{◌+◌, ◌*◌, ◌-◌}
use lib.ListN.{length}
use Rattle.infer.proofs.WalkCycle.{InferInv, PatternInv}
use Rattle.infer.proofs.walk.+walks.Given as goal

abbrev pub decreases-check_pattern : goal.decreases-check_pattern
decreases-check_pattern l = 4 * l.depth + 2

abbrev pub decreases-check_tree : goal.decreases-check_tree
decreases-check_tree l = 4 * l.depth + 3

abbrev pub decreases-infer_line : goal.decreases-infer_line
decreases-infer_line l = 4 * l.depth + 1

abbrev pub decreases-infer_expr : goal.decreases-infer_expr
decreases-infer_expr l = 4 * l.depth

abbrev pub invariant-check_pattern-loop-todo : goal.invariant-check_pattern-loop-todo
invariant-check_pattern-loop-todo l =
    PatternInv l.sheet.text.now l.sheet.binds l.depth l.initial.work l.initial.c l.initial.report l.work l.c l.report l.todo

abbrev pub decreases-check_pattern-loop-todo : goal.decreases-check_pattern-loop-todo
decreases-check_pattern-loop-todo l = length l.sheet.text.now + 2 - l.c.line.0

abbrev pub invariant-infer_expr-loop-j : goal.invariant-infer_expr-loop-j
invariant-infer_expr-loop-j l =
    InferInv l.sheet.text.now l.sheet.binds l.h l.depth l.initial.work l.here l.initial.report l.work l.c l.report l.st l.j
