-- The kind of a variable, by its binding.
use Rattle.std.specs.Prelude.{List, [], ◌∷◌, true, false, ℕ, ◌≤◌, eqb, length}
use Rattle.semantics.specs.Codes.{value_kind}
use Rattle.semantics.specs.Bytes.{Bytes}
use Rattle.semantics.specs.Sheet.{Head, num, variable_of}
use Rattle.hir.specs.Lines.{Lines, Ascends}

-- among bindings: 0 node, 1 relationship, 2 path, 3 value or no binding
unfoldable pub kind_of : ℕ → List Head → ℕ
kind_of v [] = value_kind
kind_of v (h ∷ hs) = elim (eqb v (variable_of h)) [ true ↦ num h 0 | false ↦ kind_of v hs ]

-- the bindings that stand from `from` to `to`
pub record BindsAt (s : Bytes) (from to : ℕ) : Type 0 where
  pub heads : List Head
  pub lines : Lines s from heads to
  pub top : ℕ
  pub ascending : Ascends 0 heads top
  pub inside : to ≤ length s
