-- What the table's values stand for, and what the contracts of builtins cite.
use Rattle.std.specs.Prelude.{ℕ, ◌⊎◌, ◌≤◌, ◌≡◌, List, [], ◌∷◌, Bool, length, get_or}
use Rattle.std.specs.Prelude.{Option as Found, Some, None}
use Rattle.std.proofs.Math.Option.{Option, none, some}
use Rattle.semantics.specs.Codes.{list_letter}
use Rattle.semantics.specs.Bytes.{Bytes}
use Rattle.semantics.specs.Ty.{t_any, t_int, t_string, Ty, base, t_list}
use Rattle.semantics.specs.Builtins.{s_any, s_list, s_string, s_list_or_string, s_graph_entity, s_map, s_graph_entity_or_map, fixed, list_element, list_self, builtin_id, builtin_size, builtin_head, builtin_tail, builtin_last, builtin_keys, builtin_values, accepts, resolve_return}
use Rattle.semantics.specs.Builtins as the
use Rattle.ty.specs.Read.{kind_of}
use Rattle.ty.specs.Parts.{TypeAt}
use Rattle.builtins.specs.declared.Builtin.{Builtin}
use Rattle.builtins.specs.declared.Builtin.TheVariants.{Id, Size, Head, Tail, Last, Keys, Values}
use Rattle.builtins.specs.declared.shapes.ArgShape.{ArgShape}
use Rattle.builtins.specs.declared.shapes.ArgShape.TheVariants as shape
use Rattle.builtins.specs.declared.shapes.FixedTy.{FixedTy}
use Rattle.builtins.specs.declared.shapes.FixedTy.TheVariants.{Int, ListString, ListAny}
use Rattle.builtins.specs.declared.shapes.ReturnShape.{ReturnShape}
use Rattle.builtins.specs.declared.shapes.ReturnShape.TheVariants.{Fixed, ListElement, ListSelf}

-- the shape, the return shape and the function that the definitions have for one of the table's
abbrev pub shape_of : ArgShape → the.ArgShape
shape_of shape.Any = s_any
shape_of shape.List = s_list
shape_of shape.String = s_string
shape_of shape.ListOrString = s_list_or_string
shape_of shape.GraphEntity = s_graph_entity
shape_of shape.Map = s_map
shape_of shape.GraphEntityOrMap = s_graph_entity_or_map

abbrev pub fixed_of : FixedTy → Ty
fixed_of Int = base t_int
fixed_of ListString = t_list (base t_string)
fixed_of ListAny = t_list (base t_any)

abbrev pub return_of : ReturnShape → the.ReturnShape
return_of (Fixed t) = fixed (fixed_of t)
return_of ListElement = list_element
return_of ListSelf = list_self

-- those of a number: the shapes in the table's order, and the last of them for any greater number
unfoldable pub shape_at : ℕ → the.ArgShape
shape_at n = get_or (s_any ∷ s_list ∷ s_string ∷ s_list_or_string ∷ s_graph_entity ∷ s_map ∷ []) n s_graph_entity_or_map

unfoldable pub return_at : ℕ → the.ReturnShape
return_at n = get_or (fixed (base t_int) ∷ fixed (t_list (base t_string)) ∷ fixed (t_list (base t_any)) ∷ list_element ∷ []) n list_self

abbrev pub builtin_of : Builtin → the.Builtin
builtin_of Id = builtin_id
builtin_of Size = builtin_size
builtin_of Head = builtin_head
builtin_of Tail = builtin_tail
builtin_of Last = builtin_last
builtin_of Keys = builtin_keys
builtin_of Values = builtin_values

abbrev pub found_of : Found Builtin → Option the.Builtin
found_of None = none
found_of (Some b) = some (builtin_of b)

-- the answer for every type of this kind
abbrev pub AcceptsKind : ArgShape → ℕ → Bool → Type 0
AcceptsKind s k r = (t : Ty) → kind_of t ≡ k → r ≡ accepts (shape_of s) t

-- the first argument's type stands at [0, n), or there is none
abbrev pub FirstAt : Bytes → Found ℕ → List Ty → Type 0
FirstAt s None [] = Unit {0}
FirstAt s None (t ∷ ts) = ⊥
FirstAt s (Some n) [] = ⊥
FirstAt s (Some n) (t ∷ ts) = TypeAt s 0 n t

pub record SomeFirst (s : Bytes) (o : Found ℕ) : Type 0 where
  pub types : List Ty
  pub first : FirstAt s o types
  pub room : 4 ≤ length s

-- the first argument's type is no list, or there is none
abbrev pub Unlisted : Bytes → Found ℕ → Type 0
Unlisted s o = (o ≡ None) ⊎ (get_or s 0 0 ≡ list_letter → ⊥)

-- how long the list is that is the first argument
abbrev pub ListAt : Bytes → Found ℕ → Found ℕ → Type 0
ListAt s o None = Unlisted s o
ListAt s o (Some n) = (o ≡ Some n) × (get_or s 0 0 ≡ list_letter)

-- the return type stands at the front
pub record Returned (s s' : Bytes) (t : Ty) (r : ℕ) : Type 0 where
  pub at : TypeAt s' 0 r t
  pub long : length s' ≡ length s

abbrev pub Resolved : ReturnShape → Bytes → Bytes → Found ℕ → ℕ → Type 0
Resolved ret s s' o r = (ts : List Ty) → FirstAt s o ts → Returned s s' (resolve_return (return_of ret) ts) r
