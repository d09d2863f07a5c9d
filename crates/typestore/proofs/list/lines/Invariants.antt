-- `lines`: what is listed and the lines of what is left make the whole.
use Rattle.std.proofs.Common.{◌≡◌}
use Rattle.typestore.proofs.ListLaws.{Gone}
use Rattle.typestore.proofs.list.lines.Given as goal

abbrev pub invariant-loop-entry : goal.invariant-loop-entry
invariant-loop-entry l = Gone l.live.store.now l.live.end l.initial.writer.out.now l.writer.out.now l.entry-iterator l.writer.fill × (l.writer.out.ghost_name ≡ l.initial.writer.out.ghost_name)
