-- The walks. Each answer is a law of `WalkCycle`, `WalkPattern` or `WalkEnter` at the facts of its place. Assumes nothing.
use mathlib.Core.Path.{sym, ◌∙◌}
use native.Mathlib.Omega.{arith}
use Rattle.std.proofs.lemmas.Result.{err_from_is_err_and}
use Rattle.infer.proofs.WalkEnter.{enters, via-ask, via-walked, neither-ask, neither-walked}
use Rattle.infer.proofs.WalkTable.{expression-class, other-class}
use Rattle.infer.proofs.WalkInfer.{ok-some, ok-none}
use Rattle.infer.proofs.WalkCycle.{infer-kids, infer-past, infer-wide, infer-pos, infer-start, infer-inside, infer-len, infer-role, infer-child, infer-stop, infer-halt, infer-step, infer-large, infer-on, infer-finish, infer-typed, infer-untyped, pattern-start, pattern-inside, pattern-line, pattern-todo, pattern-small, pattern-room, pattern-ask, pattern-stop, pattern-down, pattern-on, pattern-kids, pattern-past, pattern-pass, pattern-end, infer-fine, pattern-fine}
use Rattle.infer.proofs.walk.+walks.Goals as goal

pub check_pattern-loop-todo-init : goal.check_pattern-loop-todo-init
check_pattern-loop-todo-init t c = pattern-start

pub check_pattern-known_line-g-requires : goal.check_pattern-known_line-g-requires
check_pattern-known_line-g-requires t c = (pattern-inside c.requires c.loop-todo.invariant, pattern-fine c.requires c.loop-todo.invariant c.loop-todo-test.true)

pub check_pattern-infer_line-requires : goal.check_pattern-infer_line-requires
check_pattern-infer_line-requires t c = (omega arith, pattern-ask c.requires c.loop-todo.invariant c.loop-todo-test.true _ c.known_line-g.ensures.known (expression-class c.in-Expression.ensures))

pub check_pattern-loop-todo-smaller-in-Expression : goal.check_pattern-loop-todo-smaller-in-Expression
check_pattern-loop-todo-smaller-in-Expression t c =
    omega (arith, pattern-line c.requires c.loop-todo.invariant, pattern-down c.requires c.loop-todo.invariant c.loop-todo-test.true _ c.known_line-g.ensures.known (expression-class c.in-Expression.ensures) c.infer_line.ensures.walked c.in_ok-typed-in-Expression.was)

pub check_pattern-loop-todo-preserved-in-Expression : goal.check_pattern-loop-todo-preserved-in-Expression
check_pattern-loop-todo-preserved-in-Expression t c =
    pattern-on c.requires c.loop-todo.invariant c.loop-todo-test.true _ c.known_line-g.ensures.known (expression-class c.in-Expression.ensures) c.infer_line.ensures.walked c.in_ok-typed-in-Expression.was c.infer_line.ensures.keeps c.infer_line.ensures.keeps_out

pub check_pattern-returns-in_err-typed-in-Expression-clause-walked : goal.check_pattern-returns-in_err-typed-in-Expression-clause-walked
check_pattern-returns-in_err-typed-in-Expression-clause-walked t c =
    let p = err_from_is_err_and c.from_residual.result c.from_residual.ensures.1 in
    rw (p.1, p.2) (pattern-stop c.requires c.loop-todo.invariant c.loop-todo-test.true _ c.known_line-g.ensures.known (expression-class c.in-Expression.ensures) c.infer_line.ensures.walked _ c.in_err-typed-in-Expression.was)

pub check_pattern-put_letter-requires : goal.check_pattern-put_letter-requires
check_pattern-put_letter-requires t c = pattern-room c.requires c.loop-todo.invariant

pub check_pattern-returns-clause-walked : goal.check_pattern-returns-clause-walked
check_pattern-returns-clause-walked t c = pattern-end c.requires c.loop-todo.invariant (omega (arith, c.loop-todo-test.false)) c.put_letter.ensures

pub check_pattern-kids_of-kids-requires : goal.check_pattern-kids_of-kids-requires
check_pattern-kids_of-kids-requires t c = pattern-kids c.requires c.loop-todo.invariant c.loop-todo-test.true _ c.known_line-g.ensures.known

pub check_pattern-past-c-requires : goal.check_pattern-past-c-requires
check_pattern-past-c-requires t c = pattern-past c.requires c.loop-todo.invariant c.loop-todo-test.true _ c.known_line-g.ensures.known (other-class c.place_of.ensures c.in_default.not-Expression) c.kids_of-kids.ensures

pub check_pattern-overflow_add-todo : goal.check_pattern-overflow_add-todo
check_pattern-overflow_add-todo t c = omega (arith, pattern-todo c.requires c.loop-todo.invariant, pattern-small c.requires c.loop-todo.invariant c.loop-todo-test.true _ c.known_line-g.ensures.known c.kids_of-kids.ensures)

pub check_pattern-loop-todo-smaller : goal.check_pattern-loop-todo-smaller
check_pattern-loop-todo-smaller t c = omega (arith, pattern-line c.requires c.loop-todo.invariant, c.past-c.ensures.1)

pub check_pattern-loop-todo-preserved : goal.check_pattern-loop-todo-preserved
check_pattern-loop-todo-preserved t c = pattern-pass c.requires c.loop-todo.invariant c.loop-todo-test.true _ c.known_line-g.ensures.known (other-class c.place_of.ensures c.in_default.not-Expression) c.kids_of-kids.ensures _ c.past-c.ensures

pub check_tree-entered-m-requires : goal.check_tree-entered-m-requires
check_tree-entered-m-requires t c = enters c.requires.at

pub check_tree-infer_line-requires : goal.check_tree-infer_line-requires
check_tree-infer_line-requires t c = (omega arith, via-ask c.requires c.entered-m.ensures (expression-class c.in-Expression.ensures))

pub check_tree-returns-in-Expression-clause-walked : goal.check_tree-returns-in-Expression-clause-walked
check_tree-returns-in-Expression-clause-walked t c = via-walked c.entered-m.ensures (expression-class c.in-Expression.ensures) c.infer_line.ensures.walked

pub check_tree-check_pattern-requires : goal.check_tree-check_pattern-requires
check_tree-check_pattern-requires t c = (omega arith, neither-ask c.entered-m.ensures (other-class c.place_of.ensures c.in_default.not-Expression) c.requires)

pub check_tree-returns-in_default-clause-walked : goal.check_tree-returns-in_default-clause-walked
check_tree-returns-in_default-clause-walked t c = neither-walked c.entered-m.ensures (other-class c.place_of.ensures c.in_default.not-Expression) c.check_pattern.ensures.walked

pub infer_expr-kids_of-kids-requires : goal.infer_expr-kids_of-kids-requires
infer_expr-kids_of-kids-requires t c = infer-kids c.requires

pub infer_expr-past-c-requires : goal.infer_expr-past-c-requires
infer_expr-past-c-requires t c = infer-past c.requires

pub infer_expr-start-st-requires : goal.infer_expr-start-st-requires
infer_expr-start-st-requires t c = infer-wide c.requires

pub infer_expr-loop-j-init : goal.infer_expr-loop-j-init
infer_expr-loop-j-init t c = infer-start c.requires c.past-c.ensures c.rule_of-rule.ensures c.start-st.ensures

pub infer_expr-known_line-k-requires : goal.infer_expr-known_line-k-requires
infer_expr-known_line-k-requires t c = (infer-inside c.requires c.loop-j.invariant c.start-st.ensures.0, infer-fine c.requires c.loop-j.invariant c.start-st.ensures.0 c.kids_of-kids.ensures c.loop-j-test.true)

pub infer_expr-overflow_sub-depth : goal.infer_expr-overflow_sub-depth
infer_expr-overflow_sub-depth t c = infer-pos c.requires

pub infer_expr-slice_bounds-check_tree-count : goal.infer_expr-slice_bounds-check_tree-count
infer_expr-slice_bounds-check_tree-count t c = infer-len c.requires c.loop-j.invariant c.start-st.ensures.0

pub infer_expr-slice_bounds-check_tree-start : goal.infer_expr-slice_bounds-check_tree-start
infer_expr-slice_bounds-check_tree-start t c = omega (arith, infer-len c.requires c.loop-j.invariant c.start-st.ensures.0)

pub infer_expr-slice_bounds-check_tree-end : goal.infer_expr-slice_bounds-check_tree-end
infer_expr-slice_bounds-check_tree-end t c = omega (arith, infer-len c.requires c.loop-j.invariant c.start-st.ensures.0)

pub infer_expr-check_tree-requires : goal.infer_expr-check_tree-requires
infer_expr-check_tree-requires t c = (omega (arith, infer-pos c.requires), infer-child c.requires c.loop-j.invariant c.start-st.ensures.0 c.kids_of-kids.ensures c.loop-j-test.true _ c.known_line-k.ensures.known)

pub infer_expr-role_of-role-requires : goal.infer_expr-role_of-role-requires
infer_expr-role_of-role-requires t c = infer-role c.requires c.loop-j.invariant c.start-st.ensures.0 c.kids_of-kids.ensures c.loop-j-test.true

pub infer_expr-name_of-name-requires : goal.infer_expr-name_of-name-requires
infer_expr-name_of-name-requires t c = infer-stop c.requires c.loop-j.invariant c.start-st.ensures.0 c.kids_of-kids.ensures c.loop-j-test.true _ c.known_line-k.ensures.known

pub infer_expr-step-kept-requires : goal.infer_expr-step-kept-requires
infer_expr-step-kept-requires t c = infer-step c.requires c.loop-j.invariant c.start-st.ensures.0 c.kids_of-kids.ensures c.loop-j-test.true _ c.known_line-k.ensures.known c.check_tree.ensures.walked c.in_ok-child.was c.before_child.ensures c.name_of-name.ensures c.rule_of-rule.ensures c.role_of-role.ensures

pub infer_expr-finish-requires : goal.infer_expr-finish-requires
infer_expr-finish-requires t c = infer-finish c.requires c.loop-j.invariant c.start-st.ensures.0 c.kids_of-kids.ensures c.loop-j-test.false

pub infer_line-infer_leaf-requires : goal.infer_line-infer_leaf-requires
infer_line-infer_leaf-requires t c = record { depth = _; y = _; ask = c.requires; leaf = c.is_leaf.ensures c.if-is_leaf.true }

pub infer_line-returns-then-is_leaf-clause-walked : goal.infer_line-returns-then-is_leaf-clause-walked
infer_line-returns-then-is_leaf-clause-walked t c = c.infer_leaf.ensures _ _

pub infer_expr-returns-in_err-child-clause-walked : goal.infer_expr-returns-in_err-child-clause-walked
infer_expr-returns-in_err-child-clause-walked t c =
    let p = err_from_is_err_and c.from_residual.result c.from_residual.ensures.1 in
    rw (p.1, p.2) (infer-halt c.requires c.loop-j.invariant c.start-st.ensures.0 c.kids_of-kids.ensures c.loop-j-test.true _ c.known_line-k.ensures.known c.check_tree.ensures.walked _ c.in_err-child.was)

pub infer_expr-returns-in_err-st-clause-walked : goal.infer_expr-returns-in_err-st-clause-walked
infer_expr-returns-in_err-st-clause-walked t c =
    let p = err_from_is_err_and c.from_residual-in_err-st.result c.from_residual-in_err-st.ensures.1 in
    let n = ok-none _ _ _ (sym c.ok_or.ensures.value ∙ c.in_err-st.was) in
    rw (p.1, p.2, n.1) (infer-large c.requires c.loop-j.invariant c.start-st.ensures.0 c.kids_of-kids.ensures c.loop-j-test.true _ c.known_line-k.ensures.known c.check_tree.ensures.walked c.in_ok-child.was c.before_child.ensures c.name_of-name.ensures c.rule_of-rule.ensures c.role_of-role.ensures c.step-kept.ensures.steps n.0)

pub infer_expr-loop-j-preserved : goal.infer_expr-loop-j-preserved
infer_expr-loop-j-preserved t c =
    let n = ok-some _ _ _ (sym c.ok_or.ensures.value ∙ c.in_ok-st.was) in
    infer-on c.requires c.loop-j.invariant c.start-st.ensures.0 c.kids_of-kids.ensures c.loop-j-test.true _ c.known_line-k.ensures.known c.check_tree.ensures.walked c.in_ok-child.was c.before_child.ensures c.name_of-name.ensures c.rule_of-rule.ensures c.role_of-role.ensures c.step-kept.ensures.steps n (c.step-kept.ensures.keeps ∙ c.check_tree.ensures.keeps) (c.step-kept.ensures.keeps_out ∙ c.check_tree.ensures.keeps_out)

pub infer_expr-returns-in_err-len-clause-walked : goal.infer_expr-returns-in_err-len-clause-walked
infer_expr-returns-in_err-len-clause-walked t c =
    let p = err_from_is_err_and c.from_residual-in_err-len.result c.from_residual-in_err-len.ensures.1 in
    let n = ok-none _ _ _ (sym c.ok_or-2.ensures.value ∙ c.in_err-len.was) in
    rw (p.1, p.2, n.1) (infer-untyped c.requires c.loop-j.invariant c.start-st.ensures.0 c.kids_of-kids.ensures c.loop-j-test.false c.finish.ensures.ends n.0)

pub infer_expr-returns-clause-walked : goal.infer_expr-returns-clause-walked
infer_expr-returns-clause-walked t c =
    let n = ok-some _ _ _ (sym c.ok_or-2.ensures.value ∙ c.in_ok-len.was) in
    infer-typed c.requires c.loop-j.invariant c.start-st.ensures.0 c.kids_of-kids.ensures c.loop-j-test.false c.finish.ensures.ends n

-- ## The writer and its output stay the lent ones

pub check_pattern-returns-in_err-typed-in-Expression-clause-keeps : goal.check_pattern-returns-in_err-typed-in-Expression-clause-keeps
check_pattern-returns-in_err-typed-in-Expression-clause-keeps t c = c.infer_line.ensures.keeps ∙ c.loop-todo.invariant.keeps

pub check_pattern-returns-clause-keeps : goal.check_pattern-returns-clause-keeps
check_pattern-returns-clause-keeps t c = c.loop-todo.invariant.keeps

pub infer_expr-returns-in_err-child-clause-keeps : goal.infer_expr-returns-in_err-child-clause-keeps
infer_expr-returns-in_err-child-clause-keeps t c = c.check_tree.ensures.keeps ∙ c.loop-j.invariant.keeps

pub infer_expr-returns-in_err-st-clause-keeps : goal.infer_expr-returns-in_err-st-clause-keeps
infer_expr-returns-in_err-st-clause-keeps t c = c.step-kept.ensures.keeps ∙ c.check_tree.ensures.keeps ∙ c.loop-j.invariant.keeps

pub infer_expr-returns-in_err-len-clause-keeps : goal.infer_expr-returns-in_err-len-clause-keeps
infer_expr-returns-in_err-len-clause-keeps t c = c.finish.ensures.keeps ∙ c.loop-j.invariant.keeps

pub infer_expr-returns-clause-keeps : goal.infer_expr-returns-clause-keeps
infer_expr-returns-clause-keeps t c = c.finish.ensures.keeps ∙ c.loop-j.invariant.keeps

pub check_pattern-returns-in_err-typed-in-Expression-clause-keeps_out : goal.check_pattern-returns-in_err-typed-in-Expression-clause-keeps_out
check_pattern-returns-in_err-typed-in-Expression-clause-keeps_out t c = c.infer_line.ensures.keeps_out ∙ c.loop-todo.invariant.keeps_out

pub check_pattern-returns-clause-keeps_out : goal.check_pattern-returns-clause-keeps_out
check_pattern-returns-clause-keeps_out t c = c.loop-todo.invariant.keeps_out

pub infer_expr-returns-in_err-child-clause-keeps_out : goal.infer_expr-returns-in_err-child-clause-keeps_out
infer_expr-returns-in_err-child-clause-keeps_out t c = c.check_tree.ensures.keeps_out ∙ c.loop-j.invariant.keeps_out

pub infer_expr-returns-in_err-st-clause-keeps_out : goal.infer_expr-returns-in_err-st-clause-keeps_out
infer_expr-returns-in_err-st-clause-keeps_out t c = c.step-kept.ensures.keeps_out ∙ c.check_tree.ensures.keeps_out ∙ c.loop-j.invariant.keeps_out

pub infer_expr-returns-in_err-len-clause-keeps_out : goal.infer_expr-returns-in_err-len-clause-keeps_out
infer_expr-returns-in_err-len-clause-keeps_out t c = c.finish.ensures.keeps_out ∙ c.loop-j.invariant.keeps_out

pub infer_expr-returns-clause-keeps_out : goal.infer_expr-returns-clause-keeps_out
infer_expr-returns-clause-keeps_out t c = c.finish.ensures.keeps_out ∙ c.loop-j.invariant.keeps_out
