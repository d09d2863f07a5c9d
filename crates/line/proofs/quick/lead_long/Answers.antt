use Rattle.std.proofs.Common.{◌∙◌, sym, ap, ◌+◌, ◌-◌, rules, tests, drop, take}
use Rattle.std.proofs.lemmas.Iterator.{YieldsList-from_slice}
use Rattle.std.proofs.lemmas.Iterator.Search.{position_from_yields_List}
use lib.Dec.{ltb}
use Rattle.text.proofs.Laws.{part_slice}
use Rattle.line.specs.Rows.{code_from}
use Rattle.line.proofs.QuickFields.{letters-stood}
use Rattle.line.proofs.quick.lead_long.Goals as goal

pub returns : goal.returns
returns c =
    let a = c.args in
    let n = c.min-near.result - a.at in
    let found = position_from_yields_List (λ x. ltb x 97) _ _ c.position.result c.position.ensures.ran (YieldsList-from_slice (take n (drop a.at a.sheet.now)) c.iter.ensures.rest) (λ x b q k. search (rules, tests)) in
    (letters-stood a.sheet.now a.at c.requires n _ (sym c.in_ok-letters.was ∙ found), sym c.in_ok-code.ensures ∙ ap (code_from 1) (part_slice a.at (a.at + c.in_ok-letters.letters) a.sheet.now))
