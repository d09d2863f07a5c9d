-- Which arm of `unify` two types meet.
use Rattle.std.specs.Prelude.{◌≡◌, [], ◌∷◌, true, false, ◌||◌}
use Rattle.semantics.specs.Bytes.{Bytes}
use Rattle.semantics.specs.Ty.{t_any, t_null, t_unknown, Ty, matches, equal}
use Rattle.semantics.specs.Unify.{Meeting, widening, lists, maps, nodes, relationships, unions, left_union, right_union, apart, meeting}
use Rattle.ty.specs.Parts.{TypeAt}
use Rattle.unify.specs.declared.Span.{Span}
use Rattle.unify.specs.declared.arms.Arm.{Arm}
use Rattle.unify.specs.declared.arms.Arm.TheVariants.{Left, Right, AnyUnknown, NullLeft, NullRight, Numbers, Lists, Maps, Nodes, Relationships, Unions, UnionLeft, UnionRight, Apart}

-- two types that differ, neither Any, Unknown nor Null
unfoldable pub pair_arm : Meeting → Arm
pair_arm widening = Numbers
pair_arm (lists t u) = Lists
pair_arm (maps fs gs) = Maps
pair_arm (nodes ls ks) = Nodes
pair_arm (relationships m n) = Relationships
pair_arm (unions ts us) = Unions
pair_arm (left_union ts other) = UnionLeft
pair_arm (right_union other us) = UnionRight
pair_arm (apart expected actual) = Apart

-- the arm of two types
unfoldable pub arm_of : Ty → Ty → Arm
arm_of a b =
    elim (matches a (t_any ∷ [])) [
      | true ↦ Right
      | false ↦ elim (matches b (t_any ∷ [])) [
        | true ↦ Left
        | false ↦
            elim (matches a (t_unknown ∷ []) || matches b (t_unknown ∷ [])) [
              | true ↦ AnyUnknown
              | false ↦ elim (equal a b) [
                | true ↦ Left
                | false ↦ elim (matches a (t_null ∷ [])) [ true ↦ NullLeft | false ↦ elim (matches b (t_null ∷ [])) [ true ↦ NullRight | false ↦ pair_arm (meeting a b) ] ]
              ]
            ]
      ]
    ]

-- two types stand there
pub record TwoTypes (s : Bytes) (a b : Span) : Type 0 where
  pub left : Ty
  pub right : Ty
  pub first : TypeAt s a.from a.to left
  pub second : TypeAt s b.from b.to right

-- `arm`: for the types that stand there, whichever they are
abbrev pub ArmIs : Bytes → Span → Span → Arm → Type 0
ArmIs s a b r = (t u : Ty) → TypeAt s a.from a.to t → TypeAt s b.from b.to u → r ≡ arm_of t u
