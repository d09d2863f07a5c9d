-- A type that a function makes at a place of a text, or that it is too large.
use Rattle.std.specs.Prelude.{ℕ, ◌+◌, ◌≡◌, Bool, true, false, length, take, Option, Some, None}
use Rattle.semantics.specs.Bytes.{Bytes}
use Rattle.semantics.specs.Ty.{Ty, line, too_large}
use Rattle.ty.specs.Parts.{TypeAt}

-- too large, or so long
abbrev pub made : Bool → ℕ → Option ℕ
made true n = None
made false n = Some n

-- the answer says whether t is too large; if not, t stands at `to` now; nothing below has changed
pub record Made (s s' : Bytes) (to : ℕ) (t : Ty) (r : Option ℕ) : Type 0 where
  pub answer : r ≡ made (too_large t) (length (line t))
  pub stands : too_large t ≡ false → TypeAt s' to (to + length (line t)) t
  pub below : take to s' ≡ take to s
  pub long : length s' ≡ length s
