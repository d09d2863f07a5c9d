-- A line that is passed over: its word and where the next line starts, with nothing read of its fields.
use Rattle.std.specs.Prelude.{◌≡◌, List, [], ◌∷◌, ℕ, ◌+◌, ◌≤◌, ◌<◌, length, get_or, drop, Option, None}
use Rattle.semantics.specs.Codes.{line_feed}
use Rattle.semantics.specs.Bytes.{Bytes, split}
use Rattle.text.specs.Text.{Ends}
use Rattle.line.specs.Line.{Plain, unknown, known, line_says, Named}
use Rattle.line.specs.declared.words.Word.{Word}
use Rattle.line.specs.declared.opening.Opening.{Opening}

-- a line's word, whatever is wrong with its fields
abbrev pub WordIs : Option Word → Plain → Type 0
WordIs word unknown = word ≡ None
WordIs word (known v r) = Named word v

-- that of the first of these lines, the last of which is no whole one
abbrev pub FirstWord : Option Word → List Bytes → Type 0
FirstWord word [] = Unit {0}
FirstWord word (l ∷ []) = Unit {0}
FirstWord word (l ∷ l' ∷ ls) = WordIs word (line_says l)

-- the word of the line at `at`, and a place in it: no LF stands before
pub record OpensAs (s : Bytes) (at : ℕ) (r : Opening) : Type 0 where
  pub on : at ≤ r.from
  pub within : r.from ≤ length s
  pub clear : (i : ℕ) → at ≤ i → i < r.from → get_or s i 0 ≡ line_feed → ⊥
  pub word : FirstWord r.word (split line_feed (drop at s))

-- the line of which `from` is a place ends before r
pub record BehindAs (s : Bytes) (from r : ℕ) : Type 0 where
  pub end : ℕ
  pub ends : Ends line_feed s from end
  pub next : r ≡ end + 1
