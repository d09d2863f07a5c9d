-- Kinds of types by their letters, and their names: what the contract of names.rt cites.
use Rattle.std.specs.Prelude.{ℕ, ◌≡◌, cond, eqb}
use Rattle.semantics.specs.Codes.{any_letter, null_letter, bool_letter, int_letter, float_letter, num_letter, string_letter, date_letter, datetime_letter, list_letter, map_letter, node_letter, relationship_letter, path_letter, union_letter}
use Rattle.semantics.specs.Bytes.{Bytes, text}
use Rattle.semantics.specs.Ty.{Ty}
use Rattle.semantics.specs.Calls.{type_name}
use Rattle.ty.specs.Read.{kind_of}

-- some type is of this kind
pub record SomeKind (k : ℕ) : Type 0 where
  pub ty : Ty
  pub is : kind_of ty ≡ k

-- the name of the types of a kind
unfoldable pub name_of_kind : ℕ → Bytes
name_of_kind k = cond (eqb k any_letter) (text "Any") (cond (eqb k null_letter) (text "Null") (cond (eqb k bool_letter) (text "Bool") (cond (eqb k int_letter) (text "Int") (cond (eqb k float_letter) (text "Float") (cond (eqb k num_letter) (text "Num") (cond (eqb k string_letter) (text "String") (cond (eqb k date_letter) (text "Date") (cond (eqb k datetime_letter) (text "Datetime") (cond (eqb k list_letter) (text "List") (cond (eqb k map_letter) (text "Map") (cond (eqb k node_letter) (text "Node") (cond (eqb k relationship_letter) (text "Relationship") (cond (eqb k path_letter) (text "Path") (cond (eqb k union_letter) (text "Union") (text "Unknown")))))))))))))))

-- the name of every type of this kind
abbrev pub NamesKind : ℕ → Bytes → Type 0
NamesKind k r = (t : Ty) → kind_of t ≡ k → r ≡ type_name t
