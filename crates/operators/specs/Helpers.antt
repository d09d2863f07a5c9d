-- What the helpers of operators and of IN ensure.
use Rattle.std.specs.declared.option.Option.{Option}
use Rattle.std.specs.Prelude.{ℕ, ◌≡◌, List, [], ◌∷◌, ◌++◌, Bool, true, false}
use Rattle.semantics.specs.Bytes.{Bytes}
use Rattle.semantics.specs.Ty.{Ty, base, t_any, t_null, t_unknown, matches}
use Rattle.semantics.specs.Unify.{unify}
use Rattle.semantics.specs.Walk.{Fault, fault_2012, Need as Asked, a_number, a_string, a_bool, require, numeric, Op, arithmetic, comparison, equality, boolean, string, concat, is_open}
use Rattle.ty.specs.Read.{kind_of}
use Rattle.ty.specs.Kind.{SomeKind}
use Rattle.unify_run.specs.Run.{verdict}
use Rattle.report.specs.Report.{Adds}
use Rattle.report.specs.declared.Report.{Report}
use Rattle.walk_run.specs.Run.{told, or_much}
use Rattle.exprs.specs.End.{Ends}
use Rattle.operators.specs.declared.need.Need.{Need}
use Rattle.operators.specs.declared.need.Need.TheVariants.{Number, Text, Bool as Boolean}
use Rattle.operators.specs.declared.operators.UnaryOp.{UnaryOp}
use Rattle.operators.specs.declared.operators.UnaryOp.TheVariants.{Neg, Not}
use Rattle.operators.specs.declared.operators.OpKind.{OpKind}
use Rattle.operators.specs.declared.operators.OpKind.TheVariants.{Arithmetic, Equality, Comparison, Boolean as Booleans, Strings, Concatenation}

-- the kind of `numeric` of every type of this kind, and of some type
pub record NumericKind (k r : ℕ) : Type 0 where
  pub is : (u : Ty) → kind_of u ≡ k → r ≡ kind_of (numeric u)
  pub some : SomeKind r

pub record SomeKinds (a b : ℕ) : Type 0 where
  pub first : SomeKind a
  pub second : SomeKind b

-- what is asked, as the semantics has it
abbrev pub need_of : Need → Asked
need_of Number = a_number
need_of Text = a_string
need_of Boolean = a_bool

-- the unary operator of a number
abbrev pub IsUnary : ℕ → UnaryOp → Type 0
IsUnary n Neg = n ≡ 0
IsUnary n Not = n ≡ 0 → ⊥

-- the operators by kinds, as the semantics has them
abbrev pub op_of : OpKind → Op
op_of Arithmetic = arithmetic
op_of Equality = equality
op_of Comparison = comparison
op_of Booleans = boolean
op_of Strings = string
op_of Concatenation = concat

-- two types of these kinds were asked for the same
abbrev pub TwoAsked : Asked → ℕ → ℕ → Report → Report → Type 0
TwoAsked k a b r r' = (u v : Ty) → kind_of u ≡ a → kind_of v ≡ b → Adds (require k u ++ require k v) r r'

-- the unification of what arithmetic goes on with, whatever was added before
abbrev pub Computed : ℕ → ℕ → Bytes → Bytes → Option ℕ → Type 0
Computed a b s s' n = (u v : Ty) → kind_of u ≡ a → kind_of v ≡ b → (fs : List Fault) (r r' : Report) → Adds fs r r'
    → Ends (or_much (verdict (unify (numeric u) (numeric v))) (λ t. told t fs) (told (base t_unknown) fs)) s s' r r' n

-- an operand and an element that do not unify
abbrev pub apart_faults : Ty → Ty → List Fault
apart_faults a e = elim (is_open a) [ true ↦ [] | false ↦ elim (is_open e) [ true ↦ [] | false ↦ fault_2012 a e ∷ [] ] ]

abbrev pub Parted : ℕ → ℕ → Report → Report → Type 0
Parted a b r r' = (u v : Ty) → kind_of u ≡ a → kind_of v ≡ b → Adds (apart_faults u v) r r'

-- the answer for every type of this kind: Any, Unknown or Null
abbrev pub LetsIn : ℕ → Bool → Type 0
LetsIn k r = (u : Ty) → kind_of u ≡ k → r ≡ matches u (t_any ∷ t_unknown ∷ t_null ∷ [])
