use Rattle.std.proofs.Common.{◌∙◌, rules, tests}
use Rattle.std.proofs.lemmas.Iterator.{YieldsList-from_slice}
use Rattle.std.proofs.lemmas.Iterator.Search.{all_from_yields_List}
use Rattle.text.specs.Text.{is_hex}
use Rattle.text.proofs.Words.{hexes}
use Rattle.text.proofs.all_hex.Goals as goal

pub returns : goal.returns
returns c =
    all_from_yields_List is_hex _ _ _ c.all.ensures.ran (YieldsList-from_slice c.args.t.now cc) (λ x b q k. search (rules, tests)) ∙ hexes c.args.t.now
