use mathlib.Core.Path.{sym, ap, ◌∙◌}
use native.Mathlib.Omega.{arith}
use Rattle.std.specs.Prelude.{Some}
use Rattle.ty.specs.Read.{Within}
use Rattle.ty.proofs.Fields.{letter_at_lem}
use Rattle.ty.proofs.Flat.{no-letter, flat-none, flat-base, flat-node, flat-rel}
use Rattle.ty.proofs.Loops.{no-nesting, value-bounds, base-within, node-within, within-node, rel-within, within-rel, parts-start, some-seen, parts-bad, parts-refused, parts-places, parts-on, parts-few, parts-read}
use Rattle.ty.proofs.reader.+read_type.Goals.{else-k-eq-UNION-via-then-k-eq-UNION+else-not-is_enough, else-k-eq-UNION-via-else-k-eq-UNION}
use Rattle.ty.proofs.reader.+read_type.Goals as goal

pub returns-then-left-eq0 : goal.returns-then-left-eq0
returns-then-left-eq0 g t c = no-nesting _ c.args.s.now c.args.at _ c.if-left-eq0.true

pub returns-in_err-k : goal.returns-in_err-k
returns-in_err-k g t c = rw c.from_residual.ensures (no-letter (Within g.F.Form.Fine c.args.left) _ _ (sym c.letter.ensures ∙ c.in_err-k.was))

pub returns-in_err-of : goal.returns-in_err-of
returns-in_err-of g t c = rw c.from_residual-in_err-of.ensures (flat-none (Within g.F.Form.Fine c.args.left) _ _ _ (sym c.letter.ensures ∙ c.in_ok-k.was) (sym c.of.ensures ∙ c.in_err-of.was))

pub returns-in-Nothing : goal.returns-in-Nothing
returns-in-Nothing g t c = flat-base (Within g.F.Form.Fine c.args.left) _ _ _ (sym c.letter.ensures ∙ c.in_ok-k.was) (sym c.of.ensures ∙ c.in_ok-of.was ∙ ap Some c.in-Nothing.is) (base-within c.requires.1 _ (omega arith))

pub returns-in-Labels : goal.returns-in-Labels
returns-in-Labels g t c = flat-node (Within g.F.Form.Fine c.args.left) _ _ _ (sym c.letter.ensures ∙ c.in_ok-k.was) (sym c.of.ensures ∙ c.in_ok-of.was ∙ ap Some c.in-Labels.is) _ (node-within c.requires.1 _ (omega arith)) (within-node c.requires.1 _) _ c.read_node.ensures

pub returns-in-RelationshipName : goal.returns-in-RelationshipName
returns-in-RelationshipName g t c =
    flat-rel (Within g.F.Form.Fine c.args.left) _ _ _ (sym c.letter.ensures ∙ c.in_ok-k.was) (sym c.of.ensures ∙ c.in_ok-of.was ∙ ap Some c.in-RelationshipName.is) _ (rel-within c.requires.1 _ (omega arith)) (within-rel c.requires.1 _) _ c.read_relationship.ensures

pub loop-v-init : goal.loop-v-init
loop-v-init g t c = parts-start c.requires.1 _ _ _ _ c.if-left-eq0.false (letter_at_lem _ _ _ (sym c.letter.ensures ∙ c.in_ok-k.was)) (sym c.of.ensures ∙ c.in_ok-of.was ∙ ap Some c.in-Types.is)

pub read_type-requires : goal.read_type-requires
read_type-requires g t c = λ κs o. (omega (arith, c.loop-v.invariant.reads.deep), (o, (rw c.value_at-v.ensures (value-bounds _ _ _ c.loop-v.invariant.reads.inside).1, c.requires.1)))

pub part_allowed-requires : goal.part_allowed-requires
part_allowed-requires g t c = let w = parts-places _ _ _ _ _ _ _ _ c.loop-v.invariant (sym c.part_follows.ensures ∙ c.loop-v-test.true) _ (rw c.in_ok-e.was at (rw c.value_at-v.ensures at c.read_type.ensures)) in (some-seen _ _ _ _ _ _ _ _ c.loop-v.invariant, w.0, w.1)

pub returns-then-not-part_allowed : goal.returns-then-not-part_allowed
returns-then-not-part_allowed g t c = parts-refused _ _ _ _ _ _ _ _ c.loop-v.invariant (sym c.part_follows.ensures ∙ c.loop-v-test.true) _ (rw c.in_ok-e.was at (rw c.value_at-v.ensures at c.read_type.ensures)) _ c.part_allowed.ensures c.if-not-part_allowed.true

pub returns-in_err-e : goal.returns-in_err-e
returns-in_err-e g t c = rw c.from_residual-in_err-e.ensures (parts-bad _ _ _ _ _ _ _ _ c.loop-v.invariant (sym c.part_follows.ensures ∙ c.loop-v-test.true) (rw c.in_err-e.was at (rw c.value_at-v.ensures at c.read_type.ensures)))

pub loop-v-smaller : goal.loop-v-smaller
loop-v-smaller g t c = omega (arith, parts-places _ _ _ _ _ _ _ _ c.loop-v.invariant (sym c.part_follows.ensures ∙ c.loop-v-test.true) _ (rw c.in_ok-e.was at (rw c.value_at-v.ensures at c.read_type.ensures)))

pub loop-v-preserved : goal.loop-v-preserved
loop-v-preserved g t c = parts-on _ _ _ _ _ _ _ _ c.loop-v.invariant (sym c.part_follows.ensures ∙ c.loop-v-test.true) _ (rw c.in_ok-e.was at (rw c.value_at-v.ensures at c.read_type.ensures)) _ c.part_allowed.ensures c.if-not-part_allowed.false

pub returns-then-not-is_enough : goal.returns-then-not-is_enough
returns-then-not-is_enough g t c = parts-few _ _ _ _ _ _ _ _ c.loop-v.invariant (sym c.part_follows.ensures ∙ c.loop-v-test.false) c.if-k-eq-UNION.true (sym c.is_enough.ensures ∙ c.if-not-is_enough.true)

pub returns : goal.returns
returns g t c =
    rw c.parts_end.ensures (parts-read _ _ _ _ _ _ _ _ c.loop-v.invariant (sym c.part_follows.ensures ∙ c.loop-v-test.false) (λ z. elim c.else-k-eq-UNION.branch [
      | else-k-eq-UNION-via-then-k-eq-UNION+else-not-is_enough w ↦ sym w.is_enough.ensures ∙ w.if-not-is_enough.false
      | else-k-eq-UNION-via-else-k-eq-UNION w ↦ absurd (w.if-k-eq-UNION.false z)
    ]))
