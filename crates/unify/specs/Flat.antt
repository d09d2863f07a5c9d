-- Answers that need no inner one: what the helpers of flat.rt ask and ensure.
use Rattle.std.specs.Prelude.{ℕ, ◌+◌, ◌≤◌, List, [], ◌∷◌, ltb, length}
use Rattle.std.proofs.Math.Option.{Option}
use Rattle.semantics.specs.Limits.{type_limit}
use Rattle.semantics.specs.Bytes.{Bytes}
use Rattle.semantics.specs.Ty.{t_null, Ty, base, t_node, joined}
use Rattle.ty.specs.Union.{TypesAt}
use Rattle.unify_run.specs.Run.{Run, large, unless, given, checked, sizes, add, run_nodes}
use Rattle.ty.specs.Parts.{TypeAt}
use Rattle.unify.specs.declared.Span.{Span}
use Rattle.unify.specs.Work.{Unified, Operand, Answered, Below}

-- ## Of one operand

pub record SomeOperand (s : Bytes) (a : Span) (mark : ℕ) : Type 0 where
  pub ty : Ty
  pub at : Operand s a mark ty
  pub room : mark + type_limit ≤ length s

pub record OneAnswer (f : Ty → Run) (s s' : Bytes) (a : Span) (mark : ℕ) (r : Unified) : Type 0 where
  pub below : Below s s' mark
  pub answer : (t : Ty) → Operand s a mark t → Answered (f t) s' mark r

-- the operand itself, up to `end`
pub record Copied (s s' : Bytes) (a : Span) (mark end : ℕ) : Type 0 where
  pub below : Below s s' mark
  pub answer : (t : Ty) → Operand s a mark t → TypeAt s' mark end t

-- ## Null and types in a row

unfoldable pub with_null : List Ty → Run
with_null ts = unless (ltb type_limit (sizes ts + 2)) (given (add (base t_null ∷ []) ts) large (λ ms. checked (joined ms)))

pub record SomeTypes (s : Bytes) (a : Span) (mark : ℕ) : Type 0 where
  pub types : List Ty
  pub at : TypesAt s a.from a.to types
  pub below : a.to ≤ mark
  pub room : mark + type_limit ≤ length s

pub record NullAnswer (s s' : Bytes) (a : Span) (mark : ℕ) (r : Unified) : Type 0 where
  pub below : Below s s' mark
  pub answer : (ts : List Ty) → TypesAt s a.from a.to ts → Answered (with_null ts) s' mark r

-- ## Two node types

pub record SomeNodes (s : Bytes) (a b : Span) (mark : ℕ) : Type 0 where
  pub first_labels : Option (List Bytes)
  pub second_labels : Option (List Bytes)
  pub first : Operand s a mark (t_node first_labels)
  pub second : Operand s b mark (t_node second_labels)
  pub room : mark + type_limit ≤ length s

pub record NodesAnswer (s s' : Bytes) (a b : Span) (mark : ℕ) (r : Unified) : Type 0 where
  pub below : Below s s' mark
  pub answer : (ls ks : Option (List Bytes)) → Operand s a mark (t_node ls) → Operand s b mark (t_node ks) → Answered (run_nodes ls ks) s' mark r
