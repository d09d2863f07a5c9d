-- What is claimed of old lines and the call (docs/RULES.md, section 10.3). What is to be believed: `regular_call`, `old_line` (which text is an old line of which
-- type), `Same` (what types mean, apart from any order), `type_line` (the strict reader, RULES 4.4).
use Rattle.std.specs.Prelude.{◌≤◌, ◌≡◌, true, length, take}
use Rattle.std.proofs.Math.Option.{some}
use Rattle.semantics.specs.Limits.{work_size}
use Rattle.semantics.specs.Bytes.{Bytes}
use Rattle.semantics.specs.Ty.{Ty, type_line}
use Rattle.text.specs.Text.{is_found}
use Rattle.old_lines.specs.Old.{old_output, old_line, Same, regular_call}

-- both texts are old lines and mean the same
pub record MeanSame (s z : Bytes) : Type 0 where
  pub ty : Ty
  pub other : Ty
  pub read : old_line s ≡ some ty
  pub read_other : old_line z ≡ some other
  pub same : Same ty other

-- the call accepts the old line s and gives the bytes r
pub record Gives (s work out r : Bytes) : Type 0 where
  pub number : (regular_call s work out).number ≡ 0
  pub bytes : take (regular_call s work out).first (regular_call s work out).out ≡ r

pub record RegularLines : Type 0 where
  -- "Two accepted old lines give equal bytes exactly when they mean the same"
  pub equal_same : (s z work out work' out' r x : Bytes) → Gives s work out r → Gives z work' out' x → r ≡ x → MeanSame s z
  pub same_equal : (s z work out work' out' r x : Bytes) → Gives s work out r → Gives z work' out' x → MeanSame s z → r ≡ x
  -- the same for whole calls, refused with 6 or not: lines that mean the same cannot be told apart by the answer
  pub same_call : (s z work out : Bytes) → MeanSame s z → regular_call s work out ≡ regular_call z work out
  -- a regular line within the limits comes out as it went in (RULES 10.3)
  pub stays : (s work out : Bytes) → is_found (type_line s) ≡ true → length work ≡ work_size → old_output ≤ length out → Gives s work out s
  -- what is written is a regular line, and means what the old line means
  pub regular : (s work out r : Bytes) → Gives s work out r → is_found (type_line r) ≡ true
  pub keeps : (s work out r : Bytes) → Gives s work out r → MeanSame s r
