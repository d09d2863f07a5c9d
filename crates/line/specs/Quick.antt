-- A line read at once, in one pass, where nothing is wrong with it. Where something is, nothing is promised.
use Rattle.std.specs.Prelude.{◌≡◌, true, ℕ, ◌≤◌, ◌<◌, length, get_or, drop, Option, Some, None, Ok}
use Rattle.std.proofs.Math.Option.{some}
use Rattle.std.proofs.Math.Seq.{slice}
use Rattle.semantics.specs.Codes.{line_feed, comma, digit_zero}
use Rattle.semantics.specs.Bytes.{Bytes, split, digits, decimal, unhex}
use Rattle.semantics.specs.Sheet.{words, is_dash}
use Rattle.text.specs.Text.{is_found}
use Rattle.line.specs.Words.{word_of, field_of}
use Rattle.line.specs.Rows.{code_from, word_at}
use Rattle.line.specs.Fields.{val_of, value_at}
use Rattle.line.specs.Line.{ReadAs}
use Rattle.line.specs.declared.words.Word.{Word}
use Rattle.line.specs.declared.shapes.Shape.{Shape}
use Rattle.line.specs.declared.in_place.Got.{Got}
use Rattle.line.specs.declared.quick.Lead.{Lead}
use Rattle.line.specs.declared.line.Head.{Head as Seen}

-- no byte from a to b ends a field or a line
abbrev pub Clean : Bytes → ℕ → ℕ → Type 0
Clean s a b = (i : ℕ) → a ≤ i → i < b → (get_or s i 0 ≡ comma → ⊥) × (get_or s i 0 ≡ line_feed → ⊥)

-- from `at` to `end`, inside s, stands a piece or the front of one
pub record Stood (s : Bytes) (at end : ℕ) : Type 0 where
  pub from : at ≤ end
  pub inside : end < length s
  pub clean : Clean s at end

-- ## A field

-- the digits from `at` to i, of which the first is not 0, say n
pub record DigitsTo (s : Bytes) (at i n : ℕ) : Type 0 where
  pub on : at < i
  pub within : i ≤ length s
  pub clean : Clean s at i
  pub led : get_or s at 0 ≡ digit_zero → ⊥
  pub same : (e : ℕ) → i ≤ e → e ≤ length s → digits 0 (slice at e s) ≡ digits n (slice i e s)

abbrev pub NumberAs : Bytes → ℕ → Option Got → Type 0
NumberAs s at None = Unit {0}
NumberAs s at (Some r) = Stood s at r.end × (decimal (slice at r.end s) ≡ some r.n)

-- the hexadecimal digits from `at` on end at r
pub record HexTo (s : Bytes) (at r : ℕ) : Type 0 where
  pub from : at ≤ r
  pub within : r ≤ length s
  pub clean : Clean s at r
  pub same : (e : ℕ) → r ≤ e → e ≤ length s → is_found (unhex (slice at e s)) ≡ is_found (unhex (slice r e s))

pub record PieceTo (s : Bytes) (at r : ℕ) : Type 0 where
  pub from : at ≤ r
  pub within : r ≤ length s
  pub clean : Clean s at r

-- the field at `at` ends at `end` and says n, where the second number of the line is l
abbrev pub GotAs : Bytes → ℕ → Shape → ℕ → Option Got → Type 0
GotAs s at shape l None = Unit {0}
GotAs s at shape l (Some r) = Stood s at r.end × (Ok r.n ≡ val_of (value_at (field_of shape) l (slice at r.end s)))

-- `-` is fine in a field of this shape, and says 0
abbrev pub Dashed : Shape → Type 0
Dashed shape = (l : ℕ) (t : Bytes) → true ≡ is_dash t → Ok 0 ≡ val_of (value_at (field_of shape) l t)

-- ## A line

abbrev pub LeadAs : Bytes → ℕ → Option Lead → Type 0
LeadAs s at None = Unit {0}
LeadAs s at (Some r) = Stood s at r.end × (r.code ≡ code_from 1 (slice at r.end s))

-- the letters from `at` to `end` are a word's
pub record WordAt (s : Bytes) (at end : ℕ) (word : Word) : Type 0 where
  pub stood : Stood s at end
  pub spelled : word_at (code_from 1 (slice at end s)) words ≡ some (word_of word)

abbrev pub QuickAs : Bytes → ℕ → Option Seen → Type 0
QuickAs s at None = Unit {0}
QuickAs s at (Some r) = ReadAs s at (Ok r) (split line_feed (drop at s))

abbrev pub QuickBehind : Bytes → ℕ → Word → Option Seen → Type 0
QuickBehind s end word r = (at : ℕ) → WordAt s at end word → QuickAs s at r
