use Rattle.std.proofs.Common.{◌∙◌, sym, ◌-◌, rules, tests, drop, length, arith, length-drop}
use Rattle.std.proofs.Math.Seq.{take_all}
use Rattle.std.proofs.lemmas.Iterator.{YieldsList-from_slice}
use Rattle.std.proofs.lemmas.Iterator.Search.{position_from_yields_List}
use Rattle.line.proofs.QuickFields.{is_end, piece-there, piece-open}
use Rattle.line.proofs.in_place.piece_end.Goals as goal

pub returns-in-Some : goal.returns-in-Some
returns-in-Some c =
    let a = c.args in
    let rest = drop a.at a.sheet.now in
    let whole = c.iter.ensures.rest ∙ take_all (length a.sheet.now - a.at) rest (omega (arith, length-drop a.at a.sheet.now)) in
    let found = position_from_yields_List is_end _ _ c.position.result c.position.ensures.ran (YieldsList-from_slice rest whole) (λ x b q k. search (rules, tests)) in
    piece-there a.sheet.now a.at c.requires _ (sym c.in-Some.is ∙ found)

pub returns-in-None : goal.returns-in-None
returns-in-None c =
    let a = c.args in
    let rest = drop a.at a.sheet.now in
    let whole = c.iter.ensures.rest ∙ take_all (length a.sheet.now - a.at) rest (omega (arith, length-drop a.at a.sheet.now)) in
    let found = position_from_yields_List is_end _ _ c.position.result c.position.ensures.ran (YieldsList-from_slice rest whole) (λ x b q k. search (rules, tests)) in
    piece-open a.sheet.now a.at c.requires (sym c.in-None.is ∙ found)
