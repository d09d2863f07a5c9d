-- The validation of a sheet by itself (RULES 7.10: causes 1, 3, 4 and 5).
use Rattle.std.specs.Prelude.{Result, Ok, Err, true, false, ℕ, length, ltb}
use Rattle.semantics.specs.Limits.{sheet_limit, depth_limit}
use Rattle.semantics.specs.Bytes.{Bytes}
use Rattle.semantics.specs.Sheet.{Sheet, refused, heads, sheet}
use Rattle.semantics.specs.Refusals.{number_of}
use Rattle.semantics.specs.declared.refusals.Refused.{Refused}

-- number and line
pub record CheckedAs : Type 0 where
  pub number : ℕ
  pub place : ℕ

abbrev pub checked_by : ℕ → ℕ → CheckedAs
checked_by n p = record { number = n; place = p }

unfoldable pub checked : Sheet → CheckedAs
checked (refused c n) = checked_by c n
checked (heads hs) = checked_by 0 0

unfoldable pub check_call : Bytes → CheckedAs
check_call s = elim (ltb sheet_limit (length s)) [ true ↦ checked_by 1 0 | false ↦ checked (sheet depth_limit s) ]

-- the same of what `check_sheet` returns: 0 at no line, or the number of the refusal and its line
abbrev pub checked_as : Result (Unit {0}) Refused → CheckedAs
checked_as (Ok u) = checked_by 0 0
checked_as (Err r) = checked_by (number_of r.why) r.place
