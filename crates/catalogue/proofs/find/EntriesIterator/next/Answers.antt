use Rattle.std.proofs.Common.{arith, refl}
use Rattle.catalogue.proofs.PlaceLaws.{nothing_left, spread, laid_next, follows}
use Rattle.catalogue.proofs.find.EntriesIterator.next.Goals as goal

pub returns-then-at-self-clause-steps : goal.returns-then-at-self-clause-steps
returns-then-at-self-clause-steps c = λ ls r. nothing_left _ _ _ ls (omega arith) r

pub next_entry-next-requires : goal.next_entry-next-requires
next_entry-next-requires c = (spread _ _ _ c.args.self.now.laid c.if-at-self.false).head

pub read_u16-requires : goal.read_u16-requires
read_u16-requires c = let x = (spread _ _ _ c.args.self.now.laid c.if-at-self.false).head in omega arith

pub read_u32-requires : goal.read_u32-requires
read_u32-requires c = let x = (spread _ _ _ c.args.self.now.laid c.if-at-self.false).head in omega arith

pub slice_bounds-result-end : goal.slice_bounds-result-end
slice_bounds-result-end c = let x = (spread _ _ _ c.args.self.now.laid c.if-at-self.false).inside in omega arith

pub returns-clause-steps : goal.returns-clause-steps
returns-clause-steps c = follows _ _ _ c.if-at-self.false refl c.read_u16.ensures c.read_u32.ensures c.next_entry-next.ensures refl refl refl

pub invariant_of-self : goal.invariant_of-self
invariant_of-self c = let s = c.args.self.now in record { laid = laid_next s.store.now s.at s.end s.laid c.if-at-self.false _ c.next_entry-next.ensures }
