use mathlib.Core.Path.{◌≡◌}
use mathlib.Core.Bool.{false}
use borrow.Author.Rules.{rules}
use Rattle.line.specs.Words.{word_of}
use Rattle.exprs.proofs.LeafLaws.{is_map, constant-map, constant-letter}
use Rattle.exprs.proofs.leaf.constant.Goals as goal

pub returns-in-Mpr : goal.returns-in-Mpr
returns-in-Mpr c = constant-map _ c.requires c.in-Mpr.is c.put_pair.ensures

pub returns-in_default : goal.returns-in_default
returns-in_default c =
    let m : is_map (word_of c.args.word) ≡ false = search rules in
    constant-letter _ c.requires c.constant_letter.ensures m c.put_letter.ensures
