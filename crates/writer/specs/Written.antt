-- What a writer is once a text is written, and the text of a line.
use Rattle.std.specs.Prelude.{◌≡◌, [], ◌∷◌, ◌++◌, ◌+◌, length}
use Rattle.std.proofs.lemmas.List.Edits.{sets}
use Rattle.semantics.specs.Codes.{line_feed}
use Rattle.semantics.specs.Bytes.{Bytes}
use Rattle.writer.specs.declared.Writer.{Writer}

-- the text stands behind what was filled, and the fill behind the text
pub record Wrote (t : Bytes) (w w' : Writer) : Type 0 where
  pub text : w'.out.now ≡ sets w.out.now w.fill t
  pub end : w'.fill ≡ w.fill + length t

-- a line of the report: its head, its body and LF
abbrev pub line_text : Bytes → Bytes → Bytes
line_text head body = head ++ (body ++ (line_feed ∷ []))
