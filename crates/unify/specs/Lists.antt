-- Two lists: what `unify_lists` asks and ensures.
use Rattle.std.specs.Prelude.{ℕ, ◌+◌, ◌*◌, ◌≤◌, length}
use Rattle.semantics.specs.Limits.{type_limit}
use Rattle.semantics.specs.Bytes.{Bytes}
use Rattle.semantics.specs.Ty.{Ty, t_list}
use Rattle.unify_run.specs.Run.{checked, on_done}
use Rattle.unify.specs.Work.{Unified, Operand, slots, judged, Answered, Below}
use Rattle.unify.specs.declared.Span.{Span}

pub record SomeLists (s : Bytes) (a b : Span) (mark : ℕ) : Type 0 where
  pub left : Ty
  pub right : Ty
  pub first : Operand s a mark (t_list left)
  pub second : Operand s b mark (t_list right)
  pub room : mark + type_limit * slots (t_list left) (t_list right) ≤ length s

pub record ListsAnswer (s s' : Bytes) (a b : Span) (mark : ℕ) (r : Unified) : Type 0 where
  pub below : Below s s' mark
  pub answer : (x y : Ty) → Operand s a mark (t_list x) → Operand s b mark (t_list y) → Answered (on_done (judged x y) (λ v. checked (t_list v))) s' mark r
