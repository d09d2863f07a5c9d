-- Types in a work area, below a mark and from it on: what the contracts of this crate cite.
use Rattle.std.specs.Prelude.{ℕ, ◌+◌, ◌-◌, ◌*◌, ◌/◌, ◌≤◌, ◌≡◌, true, false, cond, ◌||◌, length, take, Result, Ok, Err}
use Rattle.semantics.specs.Limits.{type_limit}
use Rattle.semantics.specs.Bytes.{Bytes}
use Rattle.semantics.specs.Ty.{Ty, nesting, regular, too_large, is_union}
use Rattle.semantics.specs.Unify.{unify}
use Rattle.ty.specs.Parts.{TypeAt}
use Rattle.unify_run.specs.Run.{Run, done, mismatch, large, verdict}
use Rattle.unify.specs.declared.Span.{Span}
use Rattle.unify.specs.declared.UnifyError.{UnifyError}
use Rattle.unify.specs.declared.UnifyError.TheVariants.{Mismatch, TooLarge}

-- where a type stands: [from, to)
abbrev pub span : ℕ → ℕ → Span
span a e = record { from = a; to = e }

-- what `unify` returns
abbrev pub Unified : Type 0
Unified = Result ℕ UnifyError

-- an operand: a regular type that is not too large, below the mark
pub record Operand (s : Bytes) (a : Span) (mark : ℕ) (t : Ty) : Type 0 where
  pub at : TypeAt s a.from a.to t
  pub below : a.to ≤ mark
  pub regular : regular t ≡ true
  pub small : too_large t ≡ false

-- slots, each what a type takes, that unification may write from its mark on: the potential falls by three from two types to a pair of their parts
unfoldable pub slots : Ty → Ty → ℕ
slots t u = (2 * (nesting t + nesting u) + cond (is_union t || is_union u) 1 0 - 1) / 3

-- room for an inner pair behind one slot
abbrev pub Room : Bytes → ℕ → Ty → Ty → Type 0
Room s mark x y = mark + type_limit + type_limit * slots x y ≤ length s

-- two operands, and room for what is made of them
pub record Ready (s : Bytes) (a b : Span) (mark : ℕ) : Type 0 where
  pub left : Ty
  pub right : Ty
  pub first : Operand s a mark left
  pub second : Operand s b mark right
  pub room : mark + type_limit * slots left right ≤ length s

-- a pair of parts below their answer at `at`, which stands in the slot behind the mark
pub record PartReady (s : Bytes) (a b : Span) (at mark : ℕ) : Type 0 where
  pub left : Ty
  pub right : Ty
  pub first : Operand s a at left
  pub second : Operand s b at right
  pub above : mark ≤ at
  pub within : at ≤ mark + type_limit
  pub room : Room s mark left right

-- how a pair is unified
abbrev pub judged : Ty → Ty → Run
judged t u = verdict (unify t u)

-- what an answer says: where the type ends that stands at the mark now; where the two types stand that do not unify; too large
abbrev pub Answered : Run → Bytes → ℕ → Unified → Type 0
Answered (done t) s m (Ok e) = TypeAt s m e t
Answered (done t) s m (Err (Mismatch expected actual)) = ⊥
Answered (done t) s m (Err TooLarge) = ⊥
Answered (mismatch x y) s m (Ok e) = ⊥
Answered (mismatch x y) s m (Err (Mismatch expected actual)) = Operand s expected (length s) x × Operand s actual (length s) y
Answered (mismatch x y) s m (Err TooLarge) = ⊥
Answered large s m (Ok e) = ⊥
Answered large s m (Err (Mismatch expected actual)) = ⊥
Answered large s m (Err TooLarge) = Unit {0}

-- what stands below the mark stays, and so does the length
pub record Below (s s' : Bytes) (mark : ℕ) : Type 0 where
  pub kept : take mark s' ≡ take mark s
  pub long : length s' ≡ length s

-- `unify`: for the types that stand there, whichever they are
pub record Unifies (s s' : Bytes) (a b : Span) (mark : ℕ) (r : Unified) : Type 0 where
  pub below : Below s s' mark
  pub answer : (t u : Ty) → Operand s a mark t → Operand s b mark u → Answered (judged t u) s' mark r
