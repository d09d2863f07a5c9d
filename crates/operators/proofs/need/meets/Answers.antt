use mathlib.Core.Path.{◌≡◌, refl, sym, ◌∙◌}
use mathlib.Core.Bool.{true, false}
use Rattle.std.proofs.Common.{arith}
use Rattle.std.proofs.lemmas.Bool.Decides.{nat_tests}
use Rattle.semantics.specs.Walk.{a_number, a_string, a_bool}
use Rattle.operators.proofs.RequireLaws.{wanted, met-open, met-by}
use Rattle.operators.proofs.need.meets.Goals as goal

pub returns-then-is_open : goal.returns-then-is_open
returns-then-is_open c u e = met-open _ u e (sym (c.is_open.ensures u e) ∙ c.if-is_open.true)

pub returns-in-68 : goal.returns-in-68
returns-in-68 c u e =
    let w : wanted a_number c.args.kind ≡ true = grind (arith, nat_tests) in
    rw c.in-Number.is (met-by a_number u e (sym (c.is_open.ensures u e) ∙ c.if-is_open.false) w)

pub returns-in_default : goal.returns-in_default
returns-in_default c u e =
    let w : wanted a_number c.args.kind ≡ false = grind (arith, nat_tests) in
    rw c.in-Number.is (met-by a_number u e (sym (c.is_open.ensures u e) ∙ c.if-is_open.false) w)

pub returns-in_default-2 : goal.returns-in_default-2
returns-in_default-2 c u e =
    let w : wanted a_number c.args.kind ≡ false = grind (arith, nat_tests) in
    rw c.in-Number.is (met-by a_number u e (sym (c.is_open.ensures u e) ∙ c.if-is_open.false) w)

pub returns-in-Text : goal.returns-in-Text
returns-in-Text c u e = rw c.in-Text.is (met-by a_string u e (sym (c.is_open.ensures u e) ∙ c.if-is_open.false) refl)

pub returns-in-Bool : goal.returns-in-Bool
returns-in-Bool c u e = rw c.in-Bool.is (met-by a_bool u e (sym (c.is_open.ensures u e) ∙ c.if-is_open.false) refl)
