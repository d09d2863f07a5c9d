use Rattle.std.proofs.Common.{Some, None}
use Rattle.std.proofs.lemmas.Slice.Eq.{strip_prefix_is}
use Rattle.std.proofs.lemmas.Bool.Decides.{Decides-eqb}
use Rattle.replay.proofs.Fills.{rest-decides, other_front}
use Rattle.replay.proofs.is_then.Goals as goal

pub returns-in-Some : goal.returns-in-Some
returns-in-Some c = rest-decides c.args.s.now c.args.t.now c.in-Some.rest.now _ (strip_prefix_is Decides-eqb c.args.s.now c.args.t.now (Some c.in-Some.rest) c.in-Some.ensures.cases) c.all_are.ensures

pub returns-in-None : goal.returns-in-None
returns-in-None c = other_front c.args.s.now c.args.t.now _ (strip_prefix_is Decides-eqb c.args.s.now c.args.t.now None c.in-None.ensures.cases)
