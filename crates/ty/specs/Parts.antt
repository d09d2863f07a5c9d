-- Where types stand in a text: what the contracts of this crate cite.
use Rattle.std.specs.Prelude.{ℕ, ◌+◌, ◌≤◌, ◌≡◌, List, [], ◌∷◌, ◌++◌, length, drop}
use Rattle.std.proofs.Math.Seq.{slice}
use Rattle.semantics.specs.Bytes.{Bytes}
use Rattle.semantics.specs.Ty.{Ty, line_to, line}

-- types one after the other: the members of a running union
unfoldable pub lines_of : List Ty → Bytes
lines_of [] = []
lines_of (t ∷ ts) = line t ++ lines_of ts

-- the type t stands at [a, e) of the text s
pub record TypeAt (s : Bytes) (a e : ℕ) (t : Ty) : Type 0 where
  pub ordered : a ≤ e
  pub inside : e ≤ length s
  pub is : slice a e s ≡ line t

-- some type stands there
pub record SomeType (s : Bytes) (a e : ℕ) : Type 0 where
  pub ty : Ty
  pub at : TypeAt s a e ty

-- a type stands at the front of what follows a
pub record TypeFrom (s : Bytes) (a : ℕ) : Type 0 where
  pub ty : Ty
  pub rest : Bytes
  pub is : drop a s ≡ line_to ty rest

-- the type that stands there ends at e, whichever it is
abbrev pub EndsAt : Bytes → ℕ → ℕ → Type 0
EndsAt s a e = (t : Ty) (rest : Bytes) → drop a s ≡ line_to t rest → e ≡ a + length (line t)
