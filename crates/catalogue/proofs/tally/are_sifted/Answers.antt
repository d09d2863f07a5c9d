use Rattle.catalogue.proofs.SlotLaws.{sieve-out, sieve-on, sieve-end}
use Rattle.catalogue.proofs.tally.are_sifted.Goals as goal

pub returns-then-is_repeated : goal.returns-then-is_repeated
returns-then-is_repeated c = sieve-out c.args.entries c.loop-entry.later c.next.new.self _ _ c.loop-entry.invariant c.next.ensures.steps _ c.in-Some.is _ c.is_repeated.ensures c.if-is_repeated.true

pub loop-entry-preserved : goal.loop-entry-preserved
loop-entry-preserved c = sieve-on c.args.entries c.loop-entry.later c.next.new.self _ _ c.loop-entry.invariant c.next.ensures.steps _ c.in-Some.is _ c.is_repeated.ensures c.if-is_repeated.false

pub returns : goal.returns
returns c = sieve-end c.args.entries c.loop-entry.later c.next.new.self _ _ c.loop-entry.invariant c.next.ensures.steps c.in_default.is
