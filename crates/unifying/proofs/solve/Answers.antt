use Rattle.unifying.proofs.CallLaws.{settles-short, settles-first, settles-second, line_read, call-ready, some-answer, settles-unified}
use Rattle.unifying.proofs.solve.Goals as goal

pub returns-then-out-lt-UNIFY_OUTPUT : goal.returns-then-out-lt-UNIFY_OUTPUT
returns-then-out-lt-UNIFY_OUTPUT c = rw c.refused.ensures (settles-short _ _ _ _ c.told-work _ c.if-out-lt-UNIFY_OUTPUT.true)

pub returns-then-not-is_type_line : goal.returns-then-not-is_type_line
returns-then-not-is_type_line c = rw c.refused-then-not-is_type_line.ensures (settles-first _ _ _ _ c.told-work c.if-out-lt-UNIFY_OUTPUT.false _ _ c.is_type_line.ensures c.if-not-is_type_line.true)

pub returns-then-not-is_type_line-2 : goal.returns-then-not-is_type_line-2
returns-then-not-is_type_line-2 c = rw c.refused-then-not-is_type_line-2.ensures (settles-second _ _ _ _ c.told-work c.if-out-lt-UNIFY_OUTPUT.false (line_read _ _ c.is_type_line.ensures c.if-not-is_type_line.false) _ _ c.is_type_line-2.ensures c.if-not-is_type_line-2.true)

pub unify-answer-requires : goal.unify-answer-requires
unify-answer-requires c = call-ready _ _ _ c.told-work (line_read _ _ c.is_type_line.ensures c.if-not-is_type_line.false) (line_read _ _ c.is_type_line-2.ensures c.if-not-is_type_line-2.false) _ _ _ _ c.append-m.ensures.0 c.append-m.ensures.1 c.append-mark.ensures.0 c.append-mark.ensures.1

pub deliver-requires : goal.deliver-requires
deliver-requires c = some-answer _ _ _ c.told-work (line_read _ _ c.is_type_line.ensures c.if-not-is_type_line.false) (line_read _ _ c.is_type_line-2.ensures c.if-not-is_type_line-2.false) _ _ _ _ c.append-m.ensures.0 c.append-m.ensures.1 c.append-mark.ensures.0 c.append-mark.ensures.1 _ _ c.unify-answer.ensures _ c.if-out-lt-UNIFY_OUTPUT.false

pub returns : goal.returns
returns c = settles-unified _ _ _ c.told-work (line_read _ _ c.is_type_line.ensures c.if-not-is_type_line.false) (line_read _ _ c.is_type_line-2.ensures c.if-not-is_type_line-2.false) _ _ _ _ c.append-m.ensures.0 c.append-m.ensures.1 c.append-mark.ensures.0 c.append-mark.ensures.1 _ _ c.unify-answer.ensures _ c.if-out-lt-UNIFY_OUTPUT.false _ _ c.deliver.ensures
