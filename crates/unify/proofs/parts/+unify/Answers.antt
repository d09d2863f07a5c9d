use mathlib.Core.Path.{refl, sym, ap, ◌∙◌}
use native.Mathlib.Omega.{arith}
use Rattle.std.specs.Prelude.{Err}
use Rattle.std.proofs.lemmas.Result.{err_from_is_err_and}
use Rattle.unify.specs.declared.UnifyError.{UnifyError}
use Rattle.unify.proofs.Refusals.{was_there, passed_on, too_large}
use Rattle.unify.proofs.ListLaws.{list-long, lists-room, lists-part, lists-apart, lists-made, lists-done}
use Rattle.unify.proofs.MapLoop.{maps-bounds, maps-some, maps-init, maps-met, values-part, maps-apart, value-ends, value-few, maps-after, maps-again, maps-less, end-room, end-over, end-made, end-done}
use Rattle.unify.proofs.UnionLoops.{meet-null, meet-first, variant-type, variant-less, variant-at, variant-part, meet-apart, meet-large, answer-bounds, answer-placing, took, took-over, meet-done, meet-widening, meet-widened, outer-type, outers-less, outer-some, outers-apart, outers-again, outers-union, outers-closed}
use Rattle.unify.proofs.Whole.{first-operand, second-operand, left-answer, right-answer, null-left-answer, null-right-answer, unknown-answer, number-answer, relationship-answer, apart-answer, two-lists, lists-answer, two-maps, maps-answer, two-nodes, nodes-answer, unions-long, unions-ready, unions-answer, left-long, left-ready, left-union-answer, right-long, right-ready, right-union-answer}
use Rattle.unify.proofs.parts.+unify.Goals as goal
use Rattle.unify.proofs.parts.+unify.Goals.{meet_variants-then-work-first-eq-NULL, meet_variants-else-work-first-eq-NULL}

-- ## Two lists

pub unify_lists-copy_in-requires : goal.unify_lists-copy_in-requires
unify_lists-copy_in-requires t c = let (i, j) = lists-room c.requires in (omega arith, omega arith)

pub unify_lists-element-requires : goal.unify_lists-element-requires
unify_lists-element-requires t c = list-long c.requires.first

pub unify_lists-element-requires-2 : goal.unify_lists-element-requires-2
unify_lists-element-requires-2 t c = list-long c.requires.second

pub unify_lists-unify_part-requires : goal.unify_lists-unify_part-requires
unify_lists-unify_part-requires t c = (omega arith, lists-part c.requires c.copy_in.ensures c.element.ensures c.element-2.ensures)

pub unify_lists-returns-in_err-end : goal.unify_lists-returns-in_err-end
unify_lists-returns-in_err-end t c = rw (passed_on (err_from_is_err_and c.from_residual.result c.from_residual.ensures.1)) (lists-apart c.requires c.copy_in.ensures c.element.ensures c.element-2.ensures c.unify_part.ensures c.in_err-end.was)

pub unify_lists-tested-requires : goal.unify_lists-tested-requires
unify_lists-tested-requires t c = lists-made c.requires c.copy_in.ensures c.element.ensures c.element-2.ensures c.unify_part.ensures c.in_ok-end.was

pub unify_lists-returns : goal.unify_lists-returns
unify_lists-returns t c = lists-done c.requires c.copy_in.ensures c.element.ensures c.element-2.ensures c.unify_part.ensures c.in_ok-end.was c.tested.ensures

-- ## Two maps

pub unify_maps-copy_in-requires : goal.unify_maps-copy_in-requires
unify_maps-copy_in-requires t c = let (i, j, k) = maps-bounds c.requires in (omega arith, omega arith)

pub unify_maps-keep_lone-m-requires : goal.unify_maps-keep_lone-m-requires
unify_maps-keep_lone-m-requires t c = maps-some c.requires c.copy_in.ensures

pub unify_maps-loop-values-init : goal.unify_maps-loop-values-init
unify_maps-loop-values-init t c = maps-init c.requires c.copy_in.ensures c.keep_lone-m.ensures

pub unify_maps-next_values-requires : goal.unify_maps-next_values-requires
unify_maps-next_values-requires t c = maps-met c.loop-values.invariant

pub unify_maps-unify_part-requires : goal.unify_maps-unify_part-requires
unify_maps-unify_part-requires t c = (omega arith, values-part c.loop-values.invariant c.in-Some.ensures)

pub unify_maps-returns-in_err-end : goal.unify_maps-returns-in_err-end
unify_maps-returns-in_err-end t c = rw (passed_on (err_from_is_err_and c.from_residual.result c.from_residual.ensures.1)) (maps-apart c.loop-values.invariant c.in-Some.ensures c.unify_part.ensures c.in_err-end.was)

pub unify_maps-overflow_sub-end : goal.unify_maps-overflow_sub-end
unify_maps-overflow_sub-end t c = (value-ends c.loop-values.invariant c.in-Some.ensures c.unify_part.ensures c.in_ok-end.was).0

pub unify_maps-kept-requires : goal.unify_maps-kept-requires
unify_maps-kept-requires t c = value-few c.loop-values.invariant c.in-Some.ensures c.unify_part.ensures c.in_ok-end.was (omega arith)

pub unify_maps-keep_lone-m-requires-in-Some : goal.unify_maps-keep_lone-m-requires-in-Some
unify_maps-keep_lone-m-requires-in-Some t c = maps-after c.loop-values.invariant c.in-Some.ensures c.unify_part.ensures c.in_ok-end.was c.kept.ensures

pub unify_maps-loop-values-smaller : goal.unify_maps-loop-values-smaller
unify_maps-loop-values-smaller t c = maps-less c.loop-values.invariant c.in-Some.ensures c.unify_part.ensures c.in_ok-end.was c.kept.ensures c.keep_lone-m-in-Some.ensures

pub unify_maps-loop-values-preserved : goal.unify_maps-loop-values-preserved
unify_maps-loop-values-preserved t c = maps-again c.loop-values.invariant c.in-Some.ensures c.unify_part.ensures c.in_ok-end.was c.kept.ensures c.keep_lone-m-in-Some.ensures

pub unify_maps-close_line-requires : goal.unify_maps-close_line-requires
unify_maps-close_line-requires t c = end-room c.loop-values.invariant c.in_default.ensures

pub unify_maps-returns-in_err-n : goal.unify_maps-returns-in_err-n
unify_maps-returns-in_err-n t c = let (n, z) = too_large _ c.from_residual-in_err-n.result c.ok_or.ensures.value c.in_err-n.was (err_from_is_err_and _ c.from_residual-in_err-n.ensures.1) in rw z (end-over c.loop-values.invariant c.in_default.ensures c.close_line.ensures.1 (sym c.close_line.ensures.0 ∙ n))

pub unify_maps-overflow_add-mark : goal.unify_maps-overflow_add-mark
unify_maps-overflow_add-mark t c = omega (arith, (end-made c.loop-values.invariant c.in_default.ensures c.close_line.ensures.1 (sym c.close_line.ensures.0 ∙ was_there _ c.ok_or.ensures.value c.in_ok-n.was)).at.inside)

pub unify_maps-tested-requires : goal.unify_maps-tested-requires
unify_maps-tested-requires t c = end-made c.loop-values.invariant c.in_default.ensures c.close_line.ensures.1 (sym c.close_line.ensures.0 ∙ was_there _ c.ok_or.ensures.value c.in_ok-n.was)

pub unify_maps-returns : goal.unify_maps-returns
unify_maps-returns t c = end-done c.loop-values.invariant c.in_default.ensures c.close_line.ensures.1 (sym c.close_line.ensures.0 ∙ was_there _ c.ok_or.ensures.value c.in_ok-n.was) c.tested.ensures

-- ## An outer type meets the variants

pub meet_variants-loop-next-init : goal.meet_variants-loop-next-init
meet_variants-loop-next-init t c = elim c.if-work-first-eq-NULL.branch [
  | meet_variants-then-work-first-eq-NULL w ↦ rw w.next-is (meet-null c.requires w.if-work-first-eq-NULL.true)
  | meet_variants-else-work-first-eq-NULL w ↦ rw w.next-is (meet-first c.requires w.if-work-first-eq-NULL.false)
]

pub meet_variants-type_end-requires : goal.meet_variants-type_end-requires
meet_variants-type_end-requires t c = variant-type c.loop-next.invariant c.loop-next-test.true

pub meet_variants-overflow_add-mark : goal.meet_variants-overflow_add-mark
meet_variants-overflow_add-mark t c = omega (arith, variant-at c.loop-next.invariant c.loop-next-test.true c.type_end.ensures)

pub meet_variants-unify_part-requires : goal.meet_variants-unify_part-requires
meet_variants-unify_part-requires t c = (omega arith, variant-part c.loop-next.invariant c.loop-next-test.true c.type_end.ensures)

pub meet_variants-overflow_sub-end : goal.meet_variants-overflow_sub-end
meet_variants-overflow_sub-end t c = (answer-bounds c.loop-next.invariant c.loop-next-test.true c.type_end.ensures c.unify_part.ensures c.in-Ok.is).0

pub meet_variants-add_union-requires : goal.meet_variants-add_union-requires
meet_variants-add_union-requires t c = answer-placing c.loop-next.invariant c.loop-next-test.true c.type_end.ensures c.unify_part.ensures c.in-Ok.is

pub meet_variants-returns-in_err-len-in-Ok : goal.meet_variants-returns-in_err-len-in-Ok
meet_variants-returns-in_err-len-in-Ok t c = let (n, z) = too_large _ c.from_residual.result c.ok_or.ensures.value c.in_err-len-in-Ok.was (err_from_is_err_and _ c.from_residual.ensures.1) in rw z (took-over c.loop-next.invariant c.loop-next-test.true c.type_end.ensures c.unify_part.ensures c.in-Ok.is c.add_union.new.part c.add_union.auto.part refl c.add_union.ensures n)

pub meet_variants-returns-in-Err-TooLarge : goal.meet_variants-returns-in-Err-TooLarge
meet_variants-returns-in-Err-TooLarge t c = meet-large c.loop-next.invariant c.loop-next-test.true c.type_end.ensures c.unify_part.ensures (c.in-Err-TooLarge.is ∙ ap (λ (e : UnifyError). Err e) c.in-Err-TooLarge.field-0-is)

pub meet_variants-loop-next-smaller-in_ok-len-in-Ok : goal.meet_variants-loop-next-smaller-in_ok-len-in-Ok
meet_variants-loop-next-smaller-in_ok-len-in-Ok t c = variant-less c.loop-next.invariant c.loop-next-test.true c.type_end.ensures

pub meet_variants-loop-next-preserved-in_ok-len-in-Ok : goal.meet_variants-loop-next-preserved-in_ok-len-in-Ok
meet_variants-loop-next-preserved-in_ok-len-in-Ok t c = took c.loop-next.invariant c.loop-next-test.true c.type_end.ensures c.unify_part.ensures c.in-Ok.is c.add_union.new.part c.add_union.auto.part refl c.add_union.ensures (was_there _ c.ok_or.ensures.value c.in_ok-len-in-Ok.was)

pub meet_variants-loop-next-smaller : goal.meet_variants-loop-next-smaller
meet_variants-loop-next-smaller t c = variant-less c.loop-next.invariant c.loop-next-test.true c.type_end.ensures

pub meet_variants-loop-next-preserved : goal.meet_variants-loop-next-preserved
meet_variants-loop-next-preserved t c = meet-apart c.loop-next.invariant c.loop-next-test.true c.type_end.ensures c.unify_part.ensures (c.in-Err-Mismatch.is ∙ ap (λ (e : UnifyError). Err e) c.in-Err-Mismatch.field-0-is)

pub meet_variants-returns-then-met : goal.meet_variants-returns-then-met
meet_variants-returns-then-met t c = meet-done c.loop-next.invariant c.loop-next-test.false c.if-met.true

pub meet_variants-widen-requires : goal.meet_variants-widen-requires
meet_variants-widen-requires t c = meet-widening c.loop-next.invariant c.loop-next-test.false

pub meet_variants-returns : goal.meet_variants-returns
meet_variants-returns t c = meet-widened c.loop-next.invariant c.loop-next-test.false c.if-met.false c.widen.ensures c.ok_or-2.ensures.value

-- ## Each outer type does

pub unify_union_with-type_end-requires : goal.unify_union_with-type_end-requires
unify_union_with-type_end-requires t c = outer-type c.loop-next.invariant c.loop-next-test.true

pub unify_union_with-meet_variants-requires : goal.unify_union_with-meet_variants-requires
unify_union_with-meet_variants-requires t c = (omega arith, outer-some c.loop-next.invariant c.loop-next-test.true c.type_end.ensures)

pub unify_union_with-returns-in_err-n : goal.unify_union_with-returns-in_err-n
unify_union_with-returns-in_err-n t c = rw (passed_on (err_from_is_err_and c.from_residual.result c.from_residual.ensures.1)) (outers-apart c.loop-next.invariant c.loop-next-test.true c.type_end.ensures c.meet_variants.ensures c.in_err-n.was)

pub unify_union_with-loop-next-smaller : goal.unify_union_with-loop-next-smaller
unify_union_with-loop-next-smaller t c = outers-less c.loop-next.invariant c.loop-next-test.true c.type_end.ensures

pub unify_union_with-loop-next-preserved : goal.unify_union_with-loop-next-preserved
unify_union_with-loop-next-preserved t c = outers-again c.loop-next.invariant c.loop-next-test.true c.type_end.ensures c.meet_variants.ensures c.in_ok-n.was

pub unify_union_with-closed-requires : goal.unify_union_with-closed-requires
unify_union_with-closed-requires t c = outers-union c.loop-next.invariant c.loop-next-test.false

pub unify_union_with-returns : goal.unify_union_with-returns
unify_union_with-returns t c = outers-closed c.loop-next.invariant c.loop-next-test.false c.closed.ensures

-- ## The arms

pub unify-copied-requires : goal.unify-copied-requires
unify-copied-requires t c = first-operand c.requires

pub unify-copied-requires-in-Right : goal.unify-copied-requires-in-Right
unify-copied-requires-in-Right t c = second-operand c.requires

pub unify-unify_null-requires : goal.unify-unify_null-requires
unify-unify_null-requires t c = second-operand c.requires

pub unify-unify_null-requires-in-NullRight : goal.unify-unify_null-requires-in-NullRight
unify-unify_null-requires-in-NullRight t c = first-operand c.requires

pub unify-unify_lists-requires : goal.unify-unify_lists-requires
unify-unify_lists-requires t c = (omega arith, two-lists c.requires c.in-Lists.ensures)

pub unify-unify_maps-requires : goal.unify-unify_maps-requires
unify-unify_maps-requires t c = (omega arith, two-maps c.requires c.in-Maps.ensures)

pub unify-unify_label_sets-requires : goal.unify-unify_label_sets-requires
unify-unify_label_sets-requires t c = two-nodes c.requires c.in-Nodes.ensures

pub unify-members-requires : goal.unify-members-requires
unify-members-requires t c = (unions-long c.requires c.in-Unions.ensures).0

pub unify-members-requires-in-Unions : goal.unify-members-requires-in-Unions
unify-members-requires-in-Unions t c = (unions-long c.requires c.in-Unions.ensures).1

pub unify-unify_union_with-requires : goal.unify-unify_union_with-requires
unify-unify_union_with-requires t c = (omega arith, rw (c.members.ensures, c.members-in-Unions.ensures) (unions-ready c.requires c.in-Unions.ensures))

pub unify-members-requires-in-UnionLeft : goal.unify-members-requires-in-UnionLeft
unify-members-requires-in-UnionLeft t c = left-long c.requires c.in-UnionLeft.ensures

pub unify-unify_union_with-requires-in-UnionLeft : goal.unify-unify_union_with-requires-in-UnionLeft
unify-unify_union_with-requires-in-UnionLeft t c = (omega arith, rw c.members-in-UnionLeft.ensures (left-ready c.requires c.in-UnionLeft.ensures))

pub unify-members-requires-in-UnionRight : goal.unify-members-requires-in-UnionRight
unify-members-requires-in-UnionRight t c = right-long c.requires c.in-UnionRight.ensures

pub unify-unify_union_with-requires-in-UnionRight : goal.unify-unify_union_with-requires-in-UnionRight
unify-unify_union_with-requires-in-UnionRight t c = (omega arith, rw c.members-in-UnionRight.ensures (right-ready c.requires c.in-UnionRight.ensures))

pub unify-returns-in-Left : goal.unify-returns-in-Left
unify-returns-in-Left t c = left-answer c.requires c.in-Left.ensures c.copied.ensures

pub unify-returns-in-Right : goal.unify-returns-in-Right
unify-returns-in-Right t c = right-answer c.requires c.in-Right.ensures c.copied-in-Right.ensures

pub unify-returns-in-AnyUnknown : goal.unify-returns-in-AnyUnknown
unify-returns-in-AnyUnknown t c = unknown-answer c.requires c.in-AnyUnknown.ensures c.append.ensures.0 c.append.ensures.1

pub unify-returns-in-NullLeft : goal.unify-returns-in-NullLeft
unify-returns-in-NullLeft t c = null-left-answer c.requires c.in-NullLeft.ensures c.unify_null.ensures

pub unify-returns-in-NullRight : goal.unify-returns-in-NullRight
unify-returns-in-NullRight t c = null-right-answer c.requires c.in-NullRight.ensures c.unify_null-in-NullRight.ensures

pub unify-returns-in-Numbers : goal.unify-returns-in-Numbers
unify-returns-in-Numbers t c = number-answer c.requires c.in-Numbers.ensures c.append-in-Numbers.ensures.0 c.append-in-Numbers.ensures.1

pub unify-returns-in-Lists : goal.unify-returns-in-Lists
unify-returns-in-Lists t c = lists-answer c.requires c.in-Lists.ensures c.unify_lists.ensures

pub unify-returns-in-Maps : goal.unify-returns-in-Maps
unify-returns-in-Maps t c = maps-answer c.requires c.in-Maps.ensures c.unify_maps.ensures

pub unify-returns-in-Nodes : goal.unify-returns-in-Nodes
unify-returns-in-Nodes t c = nodes-answer c.requires c.in-Nodes.ensures c.unify_label_sets.ensures

pub unify-returns-in-Relationships : goal.unify-returns-in-Relationships
unify-returns-in-Relationships t c = relationship-answer c.requires c.in-Relationships.ensures c.append-in-Relationships.ensures.0 c.append-in-Relationships.ensures.1

pub unify-returns-in-Unions : goal.unify-returns-in-Unions
unify-returns-in-Unions t c = unions-answer c.requires c.in-Unions.ensures (rw (c.members.ensures, c.members-in-Unions.ensures) at c.unify_union_with.ensures)

pub unify-returns-in-UnionLeft : goal.unify-returns-in-UnionLeft
unify-returns-in-UnionLeft t c = left-union-answer c.requires c.in-UnionLeft.ensures (rw c.members-in-UnionLeft.ensures at c.unify_union_with-in-UnionLeft.ensures)

pub unify-returns-in-UnionRight : goal.unify-returns-in-UnionRight
unify-returns-in-UnionRight t c = right-union-answer c.requires c.in-UnionRight.ensures (rw c.members-in-UnionRight.ensures at c.unify_union_with-in-UnionRight.ensures)

pub unify-returns-in-Apart : goal.unify-returns-in-Apart
unify-returns-in-Apart t c = apart-answer c.requires c.in-Apart.ensures
