-- The running union: types join it, and outer types meet the variants of a union one after the other. What the contracts of unions.rt cite, and of
-- `meet_variants` and `unify_union_with`.
use Rattle.std.specs.Prelude.{Option as StdOption, Some, None, Ok, Err}
use Rattle.std.specs.Prelude.{ℕ, ◌+◌, ◌≤◌, ◌≡◌, true, false, length}
use mathlib.Core.List.{List, [], ◌∷◌, map, Memᴰ}
use Rattle.std.proofs.Math.Option.{Option, none, some}
use Rattle.semantics.specs.Limits.{type_limit}
use Rattle.semantics.specs.Bytes.{Bytes}
use Rattle.semantics.specs.Ty.{Ty, line, ascending, regular, too_large, is_union}
use Rattle.semantics.specs.All.{All}
use Rattle.ty.specs.Union.{TypesAt}
use Rattle.unify_run.specs.Run.{add, widen, run_union_with, run_members}
use Rattle.unify.specs.Codes.{two_slots}
use Rattle.unify.specs.Work.{Unified, Room, judged, Answered, Below}
use Rattle.unify.specs.declared.Span.{Span}
use Rattle.unify.specs.declared.UnifyError.{UnifyError}

-- a type that may be a member: regular, not too large, no union
pub record Plain (t : Ty) : Type 0 where
  pub regular : regular t ≡ true
  pub small : too_large t ≡ false
  pub single : is_union t ≡ false

-- the members of a union: plain, in order
pub record Members (ms : List Ty) : Type 0 where
  pub plain : All Plain ms
  pub ascend : ascending (map line ms) ≡ true

-- ## Types join the running union

-- members at the mark, n bytes
pub record RunningAt (s : Bytes) (mark n : ℕ) (ms : List Ty) : Type 0 where
  pub at : TypesAt s mark (mark + n) ms
  pub fit : n ≤ type_limit

-- types that stand below the mark, few enough to be copied behind the members
pub record FewAt (s : Bytes) (a : Span) (mark : ℕ) (ts : List Ty) : Type 0 where
  pub at : TypesAt s a.from a.to ts
  pub below : a.to ≤ mark
  pub few : a.to ≤ a.from + type_limit

-- what is asked before types join
pub record Joining (s : Bytes) (a : Span) (mark n : ℕ) : Type 0 where
  pub members : List Ty
  pub types : List Ty
  pub running : RunningAt s mark n members
  pub new : FewAt s a mark types
  pub room : mark + two_slots ≤ length s

-- these members, if they fit
abbrev pub Grows : Bytes → ℕ → Option (List Ty) → StdOption ℕ → Type 0
Grows s mark none (Some k) = ⊥
Grows s mark none None = Unit {0}
Grows s mark (some ms) (Some k) = RunningAt s mark k ms
Grows s mark (some ms) None = ⊥

pub record Joined (s s' : Bytes) (a : Span) (mark n : ℕ) (r : StdOption ℕ) : Type 0 where
  pub below : Below s s' mark
  pub grows : (ms ts : List Ty) → RunningAt s mark n ms → FewAt s a mark ts → Grows s' mark (add ts ms) r

-- the variants and the outer type
pub record Widening (s : Bytes) (variants outer : Span) (mark n : ℕ) : Type 0 where
  pub first : Joining s variants mark n
  pub type : Ty
  pub new : FewAt s outer mark (type ∷ [])

pub record Widened (s s' : Bytes) (variants outer : Span) (mark n : ℕ) (r : StdOption ℕ) : Type 0 where
  pub below : Below s s' mark
  pub grows : (ms all : List Ty) (t : Ty) → RunningAt s mark n ms → FewAt s variants mark all → FewAt s outer mark (t ∷ []) → Grows s' mark (widen all t ms) r

-- ## Outer types and variants

-- outer types os, and the variants `all` that each of them meets; the members so far are ms
pub record UnionAt (s : Bytes) (outers variants : Span) (mark n : ℕ) (os all ms : List Ty) : Type 0 where
  pub outers_at : TypesAt s outers.from outers.to os
  pub outers_below : outers.to ≤ mark
  pub variants_at : FewAt s variants mark all
  pub running : RunningAt s mark n ms
  pub outers_plain : All Plain os
  pub all_plain : All Plain all
  pub members : Members ms
  pub rooms : (x y : Ty) → Memᴰ x all → Memᴰ y os → Room s mark x y
  pub room_for_two : mark + two_slots ≤ length s

-- an outer type is there
pub record SomeOuter (s : Bytes) (outer variants : Span) (mark n : ℕ) : Type 0 where
  pub type : Ty
  pub all : List Ty
  pub members : List Ty
  pub union : UnionAt s outer variants mark n (type ∷ []) all members

-- these members, if they fit, and in order; else too large
abbrev pub Joins : Bytes → ℕ → Option (List Ty) → Unified → Type 0
Joins s mark none (Ok k) = ⊥
Joins s mark none (Err e) = e ≡ UnifyError.TooLarge
Joins s mark (some ms) (Ok k) = RunningAt s mark k ms × Members ms
Joins s mark (some ms) (Err e) = ⊥

-- it has met the variants
pub record OuterJoined (s s' : Bytes) (outer variants : Span) (mark n : ℕ) (r : Unified) : Type 0 where
  pub below : Below s s' mark
  pub joins : (o : Ty) (all ms : List Ty) → UnionAt s outer variants mark n (o ∷ []) all ms → Joins s' mark (run_union_with judged all o ms) r

pub record SomeOuters (s : Bytes) (outers variants : Span) (mark : ℕ) : Type 0 where
  pub types : List Ty
  pub all : List Ty
  pub union : UnionAt s outers variants mark 0 types all []

-- all of them have met the variants
pub record UnionAnswer (s s' : Bytes) (outers variants : Span) (mark : ℕ) (r : Unified) : Type 0 where
  pub below : Below s s' mark
  pub answer : (os all : List Ty) → UnionAt s outers variants mark 0 os all [] → Answered (run_members judged all os []) s' mark r
