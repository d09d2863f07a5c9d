use mathlib.Core.Path.{◌≡◌}
use mathlib.Core.Bool.{false}
use borrow.Author.Rules.{rules}
use Rattle.line.specs.Words.{word_of}
use Rattle.infer.proofs.WalkLeaf.{is_var, leaf-variable, leaf-constant}
use Rattle.infer.proofs.walk.infer_leaf.Goals as goal

pub returns-in-Var : goal.returns-in-Var
returns-in-Var c = leaf-variable c.requires c.past-behind.ensures c.in-Var.is c.var_type-len.ensures

pub returns-in_default : goal.returns-in_default
returns-in_default c =
    let n : is_var (word_of c.args.h.word) ≡ false = search rules in
    leaf-constant c.requires c.past-behind.ensures n c.constant-len.ensures
