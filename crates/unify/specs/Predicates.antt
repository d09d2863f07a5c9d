-- What a type is by its letter: what the contracts of predicates.rt cite.
use Rattle.std.specs.Prelude.{ℕ, Bool, ◌&&◌, leb}
use Rattle.semantics.specs.Codes.{int_letter, num_letter}

-- Int, Float, Num
unfoldable pub numeric : ℕ → Bool
numeric k = leb int_letter k && leb k num_letter
