-- The arm of two types by their kind letters, the first bytes of their lines.
use Rattle.std.specs.Prelude.{ℕ, cond, ◌&&◌, eqb}
use Rattle.semantics.specs.Codes.{null_letter, list_letter, map_letter, node_letter, relationship_letter, union_letter}
use Rattle.unify.specs.Predicates.{numeric}
use Rattle.unify.specs.declared.arms.Arm.{Arm}
use Rattle.unify.specs.declared.arms.Arm.TheVariants.{NullLeft, NullRight, Numbers, Lists, Maps, Nodes, Relationships, Unions, UnionLeft, UnionRight, Apart}

-- two types of one kind
unfoldable pub arm_of_kind : ℕ → Arm
arm_of_kind k = cond (eqb k list_letter) Lists (cond (eqb k map_letter) Maps (cond (eqb k node_letter) Nodes (cond (eqb k relationship_letter) Relationships (cond (eqb k union_letter) Unions Apart))))

-- of different kinds
unfoldable pub arm_of_kinds : ℕ → ℕ → Arm
arm_of_kinds j k = cond (numeric j && numeric k) Numbers (cond (eqb j union_letter) UnionLeft (cond (eqb k union_letter) UnionRight Apart))

unfoldable pub arm_of_unequal : ℕ → ℕ → Arm
arm_of_unequal j k = cond (eqb j null_letter) NullLeft (cond (eqb k null_letter) NullRight (cond (eqb j k) (arm_of_kind k) (arm_of_kinds j k)))
