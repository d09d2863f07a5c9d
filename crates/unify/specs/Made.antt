-- Answers that are made at the mark.
use Rattle.std.specs.Prelude.{ℕ, ◌+◌, ◌≤◌, List, length}
use Rattle.semantics.specs.Bytes.{Bytes}
use Rattle.semantics.specs.Ty.{Ty, joined}
use Rattle.ty.specs.Parts.{TypeAt}
use Rattle.ty.specs.Union.{TypesAt}
use Rattle.unify_run.specs.Run.{checked}
use Rattle.unify.specs.Codes.{union_marks}
use Rattle.unify.specs.Work.{Unified, Answered, Below}

-- a type stands at [mark, end)
pub record SomeMade (s : Bytes) (mark end : ℕ) : Type 0 where
  pub ty : Ty
  pub at : TypeAt s mark end ty

abbrev pub Tested : Bytes → ℕ → ℕ → Unified → Type 0
Tested s mark end r = (t : Ty) → TypeAt s mark end t → Answered (checked t) s mark r

-- members stand from the mark on, n bytes
pub record SomeUnion (s : Bytes) (mark n : ℕ) : Type 0 where
  pub members : List Ty
  pub at : TypesAt s mark (mark + n) members
  pub room : mark + n + union_marks ≤ length s

pub record ClosedUnion (s s' : Bytes) (mark n : ℕ) (r : Unified) : Type 0 where
  pub below : Below s s' mark
  pub answer : (ms : List Ty) → TypesAt s mark (mark + n) ms → Answered (checked (joined ms)) s' mark r
