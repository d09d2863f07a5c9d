use Rattle.ty.proofs.Skips.{skip-inside, worded, word-step}
use Rattle.ty.proofs.end.skip_field.Goals as goal

pub bounds-s-q : goal.bounds-s-q
bounds-s-q c = let a = c in skip-inside a.args.s.now a.args.q a.requires

pub next_field-requires : goal.next_field-requires
next_field-requires c = let a = c in (worded a.args.s.now a.args.q c.if-s-q-eq-RELATIONSHIP.false a.requires.is).comma

pub returns : goal.returns
returns c = let a = c in word-step a.args.s.now a.args.q a.requires c.if-s-q-eq-RELATIONSHIP.false c.next_field.result c.next_field.ensures
