-- What is read from the front of the cases' text.
use Rattle.std.specs.Prelude.{◌≡◌, ℕ, ◌∷◌, ◌++◌, length}
use Rattle.semantics.specs.Codes.{line_feed}
use Rattle.semantics.specs.Bytes.{Bytes}

-- n bytes, an LF, and the rest
pub record IsPart (n : ℕ) (part text rest : Bytes) : Type 0 where
  pub long : length part ≡ n
  pub cut : text ≡ part ++ (line_feed ∷ rest)
