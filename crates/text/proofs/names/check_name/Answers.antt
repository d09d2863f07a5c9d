use Rattle.std.proofs.Common.{rules, tests, ◌≡◌, sym, ◌∙◌, true, false, eqb, leb, length, ◌%◌}
use Rattle.semantics.specs.Bytes.{unhex}
use Rattle.text.specs.Text.{is_found}
use Rattle.text.proofs.NameTests.{named-told, no-hex, odd}
use Rattle.text.proofs.names.check_name.Goals.{then-not-all_hex-via-then-not-all_hex, then-not-all_hex-via-else-not-all_hex+then-not-is_multiple_of}
use Rattle.text.proofs.names.check_name.Goals as goal

pub returns-then-not-all_hex : goal.returns-then-not-all_hex
returns-then-not-all_hex c = elim c.then-not-all_hex.branch [
  | then-not-all_hex-via-then-not-all_hex w ↦ sym (no-hex c.args.field.now (search rules))
  | then-not-all_hex-via-else-not-all_hex+then-not-is_multiple_of w ↦ sym (odd c.args.field.now (search (rules, tests)))
]

pub returns-then-field-gt-NAME_DIGITS : goal.returns-then-field-gt-NAME_DIGITS
returns-then-field-gt-NAME_DIGITS c =
    let hex : is_found (unhex c.args.field.now) ≡ true = search rules in
    let even : eqb (length c.args.field.now % 2) 0 ≡ true = search (rules, tests) in
    let long : leb (length c.args.field.now) 510 ≡ false = search (rules, tests) in
    sym (named-told c.args.field.now ∙ rw (hex, even, long))

pub returns : goal.returns
returns c =
    let hex : is_found (unhex c.args.field.now) ≡ true = search rules in
    let even : eqb (length c.args.field.now % 2) 0 ≡ true = search (rules, tests) in
    let long : leb (length c.args.field.now) 510 ≡ true = search (rules, tests) in
    sym (named-told c.args.field.now ∙ rw (hex, even, long))
