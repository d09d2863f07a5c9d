use mathlib.Core.Path.{◌≡◌}
use lib.ListN.{drop}
use Rattle.line.specs.Rows.{code_from}
use Rattle.line.proofs.line.word_code.Given as goal

abbrev pub invariant-loop-b : goal.invariant-loop-b
invariant-loop-b l = code_from 1 l.letters ≡ code_from l.code (drop l.b-index l.letters)
