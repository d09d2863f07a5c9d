-- A line that is known to be fine: what stands where, so that a second reading tests only what it must.
use Rattle.std.specs.Prelude.{◌≡◌, [], ◌∷◌, ℕ, ◌+◌, ◌≤◌, ◌<◌, length, get_or, drop, Ok}
use Rattle.std.proofs.Math.Option.{some}
use Rattle.std.proofs.Math.Seq.{slice}
use Rattle.semantics.specs.Codes.{line_feed, dash, digit_zero}
use Rattle.semantics.specs.Bytes.{Bytes, split, digits}
use Rattle.semantics.specs.Sheet.{Head, num, variable_of, rank, place, ok, number, lettered}
use Rattle.line.specs.Words.{field_of}
use Rattle.line.specs.Fields.{val_of, value_at}
use Rattle.line.specs.Line.{known, line_says, HeadIs}
use Rattle.line.specs.Quick.{Stood, WordAt}
use Rattle.line.specs.declared.words.Word.{Word}
use Rattle.line.specs.declared.shapes.Shape.{Shape}
use Rattle.line.specs.declared.line.Head.{Head as Seen}
use Rattle.line.specs.declared.in_place.Got.{Got}
use Rattle.line.specs.declared.known.Bound.{Bound}

-- the line at p says the head h, and the next line starts at q
pub record LineAt (s : Bytes) (p : ℕ) (h : Head) (q : ℕ) : Type 0 where
  pub text : Bytes
  pub stands : split line_feed (drop p s) ≡ text ∷ split line_feed (drop q s)
  pub says : line_says text ≡ known h.word (ok h)
  pub on : p < q
  pub inside : q ≤ length s

-- digits from `at` up to a byte below them: a number of 64 bits
pub record DigitsAt (s : Bytes) (at : ℕ) : Type 0 where
  pub end : ℕ
  pub value : ℕ
  pub from : at ≤ end
  pub inside : end < length s
  pub stop : get_or s end 0 < digit_zero
  pub says : digits 0 (slice at end s) ≡ some value
  pub small : value < 18446744073709551616

abbrev pub DigitsAs : Bytes → ℕ → Got → Type 0
DigitsAs s at r = (d : DigitsAt s at) → (r.end ≡ d.end) × (r.n ≡ d.value)

-- bytes of 45 and more from `at` up to one below
pub record HighAt (s : Bytes) (at : ℕ) : Type 0 where
  pub end : ℕ
  pub from : at ≤ end
  pub inside : end < length s
  pub stop : get_or s end 0 < dash
  pub high : (i : ℕ) → at ≤ i → i < end → dash ≤ get_or s i 0

-- ## A line read again

pub record FineAt (s : Bytes) (at : ℕ) : Type 0 where
  pub head : Head
  pub next : ℕ
  pub line : LineAt s at head next

-- what was read of it
abbrev pub KnownAs : Bytes → ℕ → Seen → Type 0
KnownAs s at r = (h : Head) (q : ℕ) → LineAt s at h q → (r.next ≡ q) × HeadIs s r h

-- the word that ends at `end` is that of a fine line
pub record FineBehind (s : Bytes) (end : ℕ) (word : Word) : Type 0 where
  pub at : ℕ
  pub lead : WordAt s at end word
  pub line : FineAt s at

-- the piece at `at` is a field of this shape with nothing wrong, where the second number of the line is l
pub record PieceFine (s : Bytes) (at : ℕ) (shape : Shape) (l : ℕ) : Type 0 where
  pub end : ℕ
  pub n : ℕ
  pub stood : Stood s at end
  pub stop : get_or s end 0 < dash
  pub fine : Ok n ≡ val_of (value_at (field_of shape) l (slice at end s))

-- ## A binding

-- a line of a binding
pub record BindingAt (s : Bytes) (at : ℕ) : Type 0 where
  pub head : Head
  pub next : ℕ
  pub line : LineAt s at head next
  pub first : rank (place head) ≡ 1

-- the variable of the binding h, whose digits end three bytes before the next line: comma, letter, LF
pub record BoundAs (s : Bytes) (h : Head) (q : ℕ) (r : Bound) : Type 0 where
  pub var : r.var.0 ≡ variable_of h
  pub next : r.end + 3 ≡ q
  pub kind : lettered (get_or s (r.end + 1) 0 ∷ []) ≡ number (num h 0)
