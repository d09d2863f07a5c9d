-- Two maps that are merged: the entries that are left of both, and what is kept at the mark of those before. What the contracts of maps.rt cite,
-- and of `unify_maps`.
use Rattle.std.specs.Prelude.{ℕ, ◌+◌, ◌*◌, ◌<◌, ◌≤◌, ◌≡◌, length, drop, Some, None}
use Rattle.std.specs.Prelude.{Option as StdOption}
use Rattle.std.proofs.Math.Option.{Option}
use Rattle.semantics.specs.Limits.{type_limit}
use Rattle.semantics.specs.Bytes.{Bytes}
use Rattle.semantics.specs.Ty.{Ty, t_map, Fields, ∅ᶠ, field, name_to, line_to, line}
use Rattle.ty.specs.declared.merging.Merge.{Merge}
use Rattle.unify_run.specs.Run.{Run, on_done, kept, keep, close_map, run_maps}
use Rattle.unify.specs.Work.{Unified, Operand, slots, Room, judged, Answered, Below}
use Rattle.unify.specs.Entries.{Value, EntriesAt, KeptAt, KeptNameAt, value_at}
use Rattle.unify.specs.declared.Span.{Span}
use Rattle.unify.specs.declared.maps.Values.{Values}

-- an entry stands at p: a name and its type
pub record SomeEntry (s : Bytes) (p : ℕ) : Type 0 where
  pub name : Bytes
  pub ty : Ty
  pub rest : Bytes
  pub is : drop p s ≡ name_to name (line_to ty rest)

-- how long it is, whichever it is
abbrev pub EntryLong : Bytes → ℕ → ℕ → Type 0
EntryLong s p r = (n : Bytes) (t : Ty) (rest : Bytes) → drop p s ≡ name_to n (line_to t rest) → r ≡ length n + 1 + length (line t)

-- a merge that comes to the run R: the entries first and second are left, and k is kept
pub record MergeFor (s : Bytes) (m : Merge) (mark : ℕ) (R : Run) : Type 0 where
  pub first : Fields
  pub second : Fields
  pub k : Option Fields
  pub first_at : EntriesAt s m.p mark first
  pub second_at : EntriesAt s m.q mark second
  pub kept : KeptAt s mark m.n k
  pub comes : run_maps judged first second k ≡ R
  pub rooms : (x y : Ty) → Value x first → Value y second → Room s mark x y
  pub room : mark + type_limit ≤ length s

pub record SomeMerge (s : Bytes) (m : Merge) (mark : ℕ) : Type 0 where
  pub run : Run
  pub merge : MergeFor s m mark run

-- both begin with one name, or are ended
pub data Common : Fields → Fields → Type 0 where
  ended : Common ∅ᶠ ∅ᶠ
  named : (n : Bytes) (t u : Ty) (fs gs : Fields) → Common (field n t fs) (field n u gs)

pub record MetFor (s : Bytes) (m : Merge) (mark : ℕ) (R : Run) : Type 0 where
  pub merge : MergeFor s m mark R
  pub common : Common merge.first merge.second

pub record SomeMet (s : Bytes) (m : Merge) (mark : ℕ) : Type 0 where
  pub run : Run
  pub met : MetFor s m mark run

-- `keep_lone`: it comes to the same, whatever that is
pub record Lone (s s' : Bytes) (m : Merge) (mark : ℕ) (r : Merge) : Type 0 where
  pub below : Below s s' mark
  pub past : m.p ≤ r.p
  pub met : (R : Run) → MergeFor s m mark R → MetFor s' r mark R

-- the values of a common name stand there, and the map before them is kept with the name; what comes of them comes to the run R
pub record PairFor (s : Bytes) (p mark : ℕ) (v : Values) (R : Run) : Type 0 where
  pub name : Bytes
  pub left : Ty
  pub right : Ty
  pub first : Fields
  pub second : Fields
  pub k : Option Fields
  pub left_at : Operand s v.first mark left
  pub right_at : Operand s v.second mark right
  pub first_at : EntriesAt s v.first.to mark first
  pub second_at : EntriesAt s v.second.to mark second
  pub kept : KeptNameAt s mark v.kept name k
  pub at : v.at ≡ value_at mark v.kept
  pub comes : on_done (judged left right) (λ u. run_maps judged first second (keep name u k)) ≡ R
  pub room : Room s mark left right
  pub rooms : (x y : Ty) → Value x first → Value y second → Room s mark x y
  pub past : p < v.first.to

-- at the end of both maps: what is kept, closed, comes to the run R
pub record EndFor (s : Bytes) (mark : ℕ) (n : StdOption ℕ) (R : Run) : Type 0 where
  pub k : Option Fields
  pub kept : KeptAt s mark n k
  pub comes : close_map k ≡ R

abbrev pub NextFor : Bytes → Merge → ℕ → StdOption Values → Run → Type 0
NextFor s m mark None R = EndFor s mark m.n R
NextFor s m mark (Some v) R = PairFor s m.p mark v R

-- `next_values`
pub record Entered (s s' : Bytes) (m : Merge) (mark : ℕ) (r : StdOption Values) : Type 0 where
  pub below : Below s s' mark
  pub next : (R : Run) → MetFor s m mark R → NextFor s' m mark r R

-- `unify_maps`
pub record SomeMaps (s : Bytes) (a b : Span) (mark : ℕ) : Type 0 where
  pub left : Fields
  pub right : Fields
  pub first : Operand s a mark (t_map left)
  pub second : Operand s b mark (t_map right)
  pub room : mark + type_limit * slots (t_map left) (t_map right) ≤ length s

pub record MapsAnswer (s s' : Bytes) (a b : Span) (mark : ℕ) (r : Unified) : Type 0 where
  pub below : Below s s' mark
  pub answer : (fs gs : Fields) → Operand s a mark (t_map fs) → Operand s b mark (t_map gs) → Answered (run_maps judged fs gs (kept ∅ᶠ)) s' mark r
