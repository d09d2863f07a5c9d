use mathlib.Core.Path.{◌≡◌}
use mathlib.Core.Bool.{false}
use borrow.Author.Rules.{rules}
use Rattle.line.specs.Words.{word_of}
use Rattle.exprs.proofs.RoleLaws.{asking, other-role, case-role, around-is}
use Rattle.exprs.proofs.rule.role_of.Goals as goal

pub returns-in-Case : goal.returns-in-Case
returns-in-Case c s hd i l = case-role s _ hd i _ _ c.in-Case.is c.case_role.ensures l

pub returns-in-Lcp : goal.returns-in-Lcp
returns-in-Lcp c s hd i l = around-is s _ hd i _ _ c.in-Lcp.is c.comprehension_role.ensures

pub returns-in_default : goal.returns-in_default
returns-in_default c s hd i l =
    let e : asking (word_of c.args.h.word) ≡ false = search rules in
    other-role s _ hd i _ e
