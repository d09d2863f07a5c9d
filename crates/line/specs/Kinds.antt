-- The kinds of bindings as numbers, and their letters.
use Rattle.std.specs.Prelude.{◌≡◌, [], ◌∷◌, ℕ, Result, Ok, Err}
use Rattle.semantics.specs.Codes.{node_kind, relationship_kind, path_kind, value_kind}
use Rattle.semantics.specs.Sheet.{wrong, number, lettered}
use Rattle.semantics.specs.Refusals.{number_of}
use Rattle.semantics.specs.declared.refusals.Refusal.{Refusal}
use Rattle.line.specs.declared.kinds.VarKind.{VarKind}
use Rattle.line.specs.declared.kinds.VarKind.TheVariants.{Node, Relationship, Path, Value}

abbrev pub kind_no : VarKind → ℕ
kind_no Node = node_kind
kind_no Relationship = relationship_kind
kind_no Path = path_kind
kind_no Value = value_kind

-- what a letter says
abbrev pub Lettered : ℕ → Result VarKind Refusal → Type 0
Lettered c (Ok kind) = lettered (c ∷ []) ≡ number (kind_no kind)
Lettered c (Err why) = lettered (c ∷ []) ≡ wrong (number_of why)
