use Rattle.std.proofs.Common.{◌∙◌, sym, ap, ◌+◌, ◌-◌, eqb, rules, tests, drop, length, arith, length-drop}
use Rattle.std.proofs.Math.Seq.{take_all}
use Rattle.std.proofs.lemmas.Iterator.{YieldsList-from_slice}
use Rattle.std.proofs.lemmas.Iterator.Search.{position_from_yields_List}
use Rattle.std.proofs.lemmas.Option.{MatchOption-at_some, MatchOption-at_none}
use Rattle.text.proofs.Words.{ends, index-found}
use Rattle.text.proofs.seek.Goals as goal

pub returns-in-Some : goal.returns-in-Some
returns-in-Some c =
    let a = c.args in
    let rest = drop a.at a.s.now in
    let whole = c.iter.ensures.rest ∙ take_all (length a.s.now - a.at) rest (omega (arith, length-drop a.at a.s.now)) in
    let found = index-found a.b rest c.position.result (position_from_yields_List (λ x. eqb x a.b) _ _ c.position.result c.position.ensures.ran (YieldsList-from_slice rest whole) (λ x b q k. search (rules, tests))) in
    ends a.b a.s.now a.at _ c.requires (ap (λ k. a.at + k) (sym (MatchOption-at_some _ _ _ c.in-Some.is found)))

pub returns-in-None : goal.returns-in-None
returns-in-None c =
    let a = c.args in
    let rest = drop a.at a.s.now in
    let whole = c.iter.ensures.rest ∙ take_all (length a.s.now - a.at) rest (omega (arith, length-drop a.at a.s.now)) in
    let found = index-found a.b rest c.position.result (position_from_yields_List (λ x. eqb x a.b) _ _ c.position.result c.position.ensures.ran (YieldsList-from_slice rest whole) (λ x b q k. search (rules, tests))) in
    ends a.b a.s.now a.at _ c.requires (omega (arith, MatchOption-at_none _ _ c.in-None.is found, length-drop a.at a.s.now))
