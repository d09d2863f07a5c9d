use Rattle.std.proofs.Common.{ℕ, ◌+◌, ◌*◌, ◌%◌, ◌∙◌, sym, ap, arith, drop}
use Rattle.std.proofs.Math.Nat.{mod-lt}
use Rattle.catalogue.specs.Slots.{slot_of}
use Rattle.catalogue.proofs.SlotLaws.{slot-on, slot-end}
use Rattle.catalogue.proofs.tally.slot_of.Goals as goal

pub loop-b-preserved : goal.loop-b-preserved
loop-b-preserved c =
    let l = c.loop-b in
    let t = c.args.t.now in
    (mod-lt _ (omega arith), l.invariant.1 ∙ slot-on l.h t l.b-index c.loop-b-test.true ∙ ap (λ (x : ℕ). slot_of ((l.h * 31 + x) % 32768) (drop (l.b-index + 1) t)) (sym c.from.ensures))

pub returns : goal.returns
returns c = (slot-end c.loop-b.h c.args.t.now c.loop-b.b-index c.loop-b-test.false ∙ sym c.loop-b.invariant.1, c.loop-b.invariant.0)
