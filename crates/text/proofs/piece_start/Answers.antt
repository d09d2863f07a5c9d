use Rattle.std.proofs.Common.{rules, tests, subst}
use Rattle.std.specs.Slice.Iter.{iter_rest}
use Rattle.text.proofs.Pieces.{Last, last_place, starts_behind, starts_there}
use Rattle.text.proofs.piece_start.Goals as goal

pub returns-in-Some : goal.returns-in-Some
returns-in-Some c =
    let a = c.args in
    let found = last_place iter_rest a.b _ _ (λ x b q k. search (rules, tests)) _ _ _ _ (search rules) c.rposition.ensures.ran in
    starts_behind a.b a.s.now (iter_rest c.iter.result) a.from a.at c.requires.0 c.requires.1 c.iter.ensures.rest c.in-Some.i (subst (Last a.b (iter_rest c.iter.result)) c.in-Some.is found)

pub returns-in-None : goal.returns-in-None
returns-in-None c =
    let a = c.args in
    let found = last_place iter_rest a.b _ _ (λ x b q k. search (rules, tests)) _ _ _ _ (search rules) c.rposition.ensures.ran in
    starts_there a.b a.s.now (iter_rest c.iter.result) a.from a.at c.requires.0 c.requires.1 c.iter.ensures.rest (subst (Last a.b (iter_rest c.iter.result)) c.in-None.is found)
