-- The arm of two types: what the run makes of it, and which types have it. Assumes nothing.
use mathlib.Core.Path.{◌≡◌, refl, sym, subst}
use Prim.Native.Nat.{ℕ}
use mathlib.Core.List.{List, [], ◌∷◌}
use mathlib.Core.Option.{Option, none}
use mathlib.Core.Bool.{Bool, true, false, ◌||◌}
use Rattle.semantics.specs.Bytes.{Bytes}
use Rattle.semantics.specs.Ty.{t_any, t_null, t_num, t_unknown, Ty, base, t_list, t_map, t_node, t_relationship, t_union, Tys, Fields, ∅ᶠ, members, matches, equal, is_union}
use Rattle.semantics.specs.Unify.{Meeting}
use Rattle.semantics.proofs.Meetings.{Met, two_numbers, two_lists, two_maps, two_nodes, two_relationships, two_unions, union_left, union_right, no_rule, met}
use Rattle.semantics.proofs.Regular.{regular-sound}
use Rattle.unify_run.specs.Run.{Run, done, mismatch, checked, on_done, kept, nullable, run_maps, run_members, run_nodes, run_pair, run_arms}
use Rattle.unify_run.proofs.Theorem.{verdict-arms}
use Rattle.unify.specs.Work.{Operand, judged}
use Rattle.unify.specs.Arms.{pair_arm, arm_of}
use Rattle.unify.specs.declared.Span.{Span}
use Rattle.unify.specs.declared.arms.Arm.{Arm}
use Rattle.unify.specs.declared.arms.Arm.TheVariants.{Left, Right, AnyUnknown, NullLeft, NullRight, Numbers, Lists, Maps, Nodes, Relationships, Unions, UnionLeft, UnionRight, Apart}

-- ## What two types are that meet an arm, and what the run makes of them

pub record TwoLists (a b : Ty) (R : Run) : Type 0 where
  pub first : Ty
  pub second : Ty
  pub first_is : a ≡ t_list first
  pub second_is : b ≡ t_list second
  pub runs : R ≡ on_done (judged first second) (λ v. checked (t_list v))

pub record TwoMaps (a b : Ty) (R : Run) : Type 0 where
  pub first : Fields
  pub second : Fields
  pub first_is : a ≡ t_map first
  pub second_is : b ≡ t_map second
  pub runs : R ≡ run_maps judged first second (kept ∅ᶠ)

pub record TwoNodes (a b : Ty) (R : Run) : Type 0 where
  pub first : Option (List Bytes)
  pub second : Option (List Bytes)
  pub first_is : a ≡ t_node first
  pub second_is : b ≡ t_node second
  pub runs : R ≡ run_nodes first second

pub record TwoUnions (a b : Ty) (R : Run) : Type 0 where
  pub first : Tys
  pub second : Tys
  pub first_is : a ≡ t_union first
  pub second_is : b ≡ t_union second
  pub runs : R ≡ run_members judged (members second) (members first) []

-- a union and another type, which is the outer one
pub record OneUnion (union other : Ty) (R : Run) : Type 0 where
  pub types : Tys
  pub is : union ≡ t_union types
  pub single : is_union other ≡ false
  pub runs : R ≡ run_members judged (members types) (other ∷ []) []

abbrev pub Meets : Ty → Ty → Run → Arm → Type 0
Meets a b R Left = R ≡ done a
Meets a b R Right = R ≡ done b
Meets a b R AnyUnknown = R ≡ done (base t_unknown)
Meets a b R NullLeft = R ≡ nullable b
Meets a b R NullRight = R ≡ nullable a
Meets a b R Numbers = R ≡ done (base t_num)
Meets a b R Lists = TwoLists a b R
Meets a b R Maps = TwoMaps a b R
Meets a b R Nodes = TwoNodes a b R
Meets a b R Relationships = R ≡ done (t_relationship none)
Meets a b R Unions = TwoUnions a b R
Meets a b R UnionLeft = OneUnion a b R
Meets a b R UnionRight = OneUnion b a R
Meets a b R Apart = R ≡ mismatch a b

pair-meets : {a b : Ty} {m : Meeting} → Met a b m → Meets a b (run_pair judged m) (pair_arm m)
unfolding run_pair pair_arm
pair-meets (two_numbers b c x y) = refl
pair-meets (two_lists t u) = record { first = t; second = u; first_is = refl; second_is = refl; runs = refl }
pair-meets (two_maps fs gs) = record { first = fs; second = gs; first_is = refl; second_is = refl; runs = refl }
pair-meets (two_nodes ls ks) = record { first = ls; second = ks; first_is = refl; second_is = refl; runs = refl }
pair-meets (two_relationships m n) = refl
pair-meets (two_unions ts us) = record { first = ts; second = us; first_is = refl; second_is = refl; runs = refl }
pair-meets (union_left ts u x) = record { types = ts; is = refl; single = x; runs = refl }
pair-meets (union_right t us x) = record { types = us; is = refl; single = x; runs = refl }
pair-meets (no_rule a b e) = refl

module _ (a b : Ty) where
  either : (c : Bool) (n m : Arm) (R Q : Run) → Meets a b R n → Meets a b Q m → Meets a b (elim c [ true ↦ R | false ↦ Q ]) (elim c [ true ↦ n | false ↦ m ])
  either true n m R Q p q = p
  either false n m R Q p q = q

  meets : Meets a b (run_arms judged a b) (arm_of a b)
  unfolding run_arms arm_of
  meets =
      either (matches a (t_any ∷ [])) Right _ (done b) _ refl
      (either (matches b (t_any ∷ [])) Left _ (done a) _ refl
      (either (matches a (t_unknown ∷ []) || matches b (t_unknown ∷ [])) AnyUnknown _ (done (base t_unknown)) _ refl
      (either (equal a b) Left _ (done a) _ refl
      (either (matches a (t_null ∷ [])) NullLeft _ (nullable b) _ refl (either (matches b (t_null ∷ [])) NullRight _ (nullable a) _ refl (pair-meets (met a b)))))))

-- two operands whose arm is known
pub operands-meet : {s : Bytes} {a b : Span} {mark : ℕ} {t u : Ty} {n : Arm} → Operand s a mark t → Operand s b mark u → arm_of t u ≡ n → Meets t u (judged t u) n
operands-meet {t = t} {u = u} {n = n} o q e =
    subst (Meets t u (judged t u)) e
    (subst (λ (R : Run). Meets t u R (arm_of t u)) (sym (verdict-arms t u (regular-sound t o.regular) (regular-sound u q.regular) o.small q.small)) (meets t u))
