-- The words by their packed letters, and the rows of the table as the code has them.
use Rattle.std.specs.Prelude.{◌≡◌, List, [], ◌∷◌, map, true, false, ℕ, ◌+◌, ◌*◌, ◌≤◌, eqb, ltb, length, Option, Some, None}
use Rattle.std.proofs.Math.Option.{Option as Maybe, none, some}
use Rattle.semantics.specs.Bytes.{Bytes, text}
use Rattle.semantics.specs.Sheet.{Word, row, Row}
use Rattle.line.specs.declared.words.Word.{Word as Coded}
use Rattle.line.specs.declared.rows.Row.{Row as Listed}
use Rattle.line.specs.Fields.{most_fields}
use Rattle.line.specs.Words.{word_of, place_of, field_of, under_of}

-- bytes packed behind what stands before them; 0 for more than five behind a 1
unfoldable pub code_from : ℕ → Bytes → ℕ
code_from a [] = a
code_from a (c ∷ cs) = elim (ltb a 1099511627776) [ true ↦ code_from (a * 256 + c) cs | false ↦ 0 ]

-- a code that was found, or none
abbrev pub CodeAs : Option ℕ → ℕ → Type 0
CodeAs None c = c ≡ 0
CodeAs (Some n) c = c ≡ n

-- the word of a code
unfoldable pub word_at : ℕ → List Word → Maybe Word
word_at c [] = none
word_at c (v ∷ vs) = elim (eqb c (code_from 1 (text (row v).spelled))) [ true ↦ some v | false ↦ word_at c vs ]

abbrev pub FoundAs : Option Coded → Maybe Word → Type 0
FoundAs None o = o ≡ none
FoundAs (Some w) o = o ≡ some (word_of w)

-- the code's row of a word is that of the definitions
pub record RowAs (q : Row) (r : Listed) : Type 0 where
  pub place : place_of r.place ≡ q.place
  pub fields : map field_of r.fields.now ≡ q.fields
  pub few : length r.fields.now ≤ most_fields
  pub under : under_of r.under ≡ q.under
