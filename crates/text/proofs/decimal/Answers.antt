use Rattle.std.proofs.Common.{sym, ap, ◌∙◌, arith, rules}
use Rattle.text.specs.Text.{dec_of}
use Rattle.text.proofs.Words.{decimal-none, decimal-one, decimal-led, decimal-more}
use Rattle.text.proofs.decimal.Goals as goal

pub returns-in-empty : goal.returns-in-empty
unfolding dec_of
returns-in-empty c = sym (ap dec_of (decimal-none c.args.t.now (omega arith)))

pub returns-in-48 : goal.returns-in-48
unfolding dec_of
returns-in-48 c = sym (ap dec_of (decimal-led c.args.t.now (omega arith) (search rules)))

pub returns-in_default : goal.returns-in_default
returns-in_default c = c.number-in_default.ensures ∙ ap dec_of (sym (decimal-more c.args.t.now (omega arith) (search rules)))

pub returns-in-len1 : goal.returns-in-len1
returns-in-len1 c = c.number.ensures ∙ ap dec_of (sym (decimal-one c.args.t.now (omega arith)))
