-- What the rows of the table say of the numbers that are kept: computed for all words at once. Assumes nothing.
use mathlib.Core.Path.{refl}
use mathlib.Core.List.{List}
use Prim.Native.Nat.{ℕ, ◌≤◌}
use lib.Dec.{leb}
use borrow.Author.Tests.{leb-true}
use Rattle.std.specs.Prelude.{Option, Some, None}
use Rattle.semantics.specs.Sheet.{Word, Field, row}
use Rattle.semantics.proofs.Words.{holds}
use Rattle.line.specs.Line.{most, flag_at, count_at}

-- the greatest that the number at an index can be
abbrev pub most_at : List Field → Option ℕ → ℕ
most_at fs None = 0
most_at fs (Some i) = most fs i

pub flag-rule : (v : Word) → most_at (row v).fields (flag_at (row v).under) ≤ 3
unfolding row most
flag-rule v = leb-true (most_at (row v).fields (flag_at (row v).under)) 3 (holds (λ (v : Word). leb (most_at (row v).fields (flag_at (row v).under)) 3) refl v)

pub counted-rule : (v : Word) → most_at (row v).fields (count_at (row v).under) ≤ 9999
unfolding row most
counted-rule v = leb-true (most_at (row v).fields (count_at (row v).under)) 9999 (holds (λ (v : Word). leb (most_at (row v).fields (count_at (row v).under)) 9999) refl v)

pub num-rule : (v : Word) → most (row v).fields 0 ≤ 18446744073709551615
unfolding row most
num-rule v = leb-true (most (row v).fields 0) 18446744073709551615 (holds (λ (v : Word). leb (most (row v).fields 0) 18446744073709551615) refl v)
