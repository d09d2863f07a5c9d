-- The end of an expression: its type at the front of the work area, its own faults behind those of its children.
use Rattle.std.specs.Prelude.{◌≡◌, List, Some, None, ℕ, ◌+◌, ◌*◌, ◌<◌, ◌≤◌, ◌^◌, length}
use Rattle.std.specs.declared.option.Option.{Option as Optional}
use Rattle.std.proofs.Math.Option.{Option, none, some}
use Rattle.std.proofs.lemmas.List.Edits.{sets}
use Rattle.semantics.specs.Limits.{type_limit}
use Rattle.semantics.specs.Bytes.{Bytes}
use Rattle.semantics.specs.Ty.{Ty}
use Rattle.semantics.specs.Builtins.{signature}
use Rattle.semantics.specs.Walk.{Fault, arg_faults}
use Rattle.ty.specs.Parts.{TypeAt}
use Rattle.builtins.specs.declared.Builtin.{Builtin}
use Rattle.builtins.specs.Rows.{builtin_of, FirstAt}
use Rattle.unify.specs.Work.{slots}
use Rattle.report.specs.Report.{Adds}
use Rattle.report.specs.declared.Report.{Report}
use Rattle.walk_run.specs.Run.{Kept, empty, kept, both, items, last, Told, told, too_much}
use Rattle.exprs.specs.State.{StAs, FineKept, ArmForm}
use Rattle.exprs.specs.declared.state.Accumulator.{Accumulator}

-- the answer says what is told: the type stands at the front, its faults were added; or it is too large
abbrev pub EndedAs : Told → Bytes → Report → Report → Optional ℕ → Type 0
EndedAs (told t fs) s' r r' (Some n) = TypeAt s' 0 n t × Adds fs r r'
EndedAs (told t fs) s' r r' None = ⊥
EndedAs too_much s' r r' (Some n) = ⊥
EndedAs too_much s' r r' None = Unit {0}

pub record Ends (x : Told) (s s' : Bytes) (r r' : Report) (n : Optional ℕ) : Type 0 where
  pub answer : EndedAs x s' r r' n
  pub long : length s' ≡ length s
  pub as_long : length r'.writer.now.out.now ≡ length r.writer.now.out.now

-- the counts can grow by two faults
pub record Countable (r : Report) : Type 0 where
  pub fill : r.writer.now.fill + 256 < 2 ^ 64
  pub faults : r.faults + 2 < 2 ^ 64

-- what is kept stands there, fine, with room for a type
pub record KeptAt (k : Kept) (s : Bytes) (st : Accumulator) : Type 0 where
  pub state : StAs k s st
  pub fine : FineKept k
  pub wide : type_limit ≤ length s

-- two operands, with room for their unification
pub record TwoAt (a b : Ty) (s : Bytes) (st : Accumulator) : Type 0 where
  pub at : KeptAt (both a b) s st
  pub room : st.len + st.second + type_limit * slots a b ≤ length s
  pub small : 8192 ≤ length s

pub record SomeTwo (s : Bytes) (st : Accumulator) : Type 0 where
  pub left : Ty
  pub right : Ty
  pub at : TwoAt left right s st

-- one operand; or, of a call, none
pub record SomeOne (s : Bytes) (st : Accumulator) : Type 0 where
  pub ty : Ty
  pub at : KeptAt (kept ty) s st

abbrev pub arg_kept : Option Ty → Kept
arg_kept none = empty
arg_kept (some t) = kept t

pub record SomeArg (s : Bytes) (st : Accumulator) : Type 0 where
  pub arg : Option Ty
  pub at : KeptAt (arg_kept arg) s st

-- the items of a list; the arms of a CASE, with room for the brackets of their union; the last child of a comprehension
pub record SomeItems (s : Bytes) (st : Accumulator) : Type 0 where
  pub element : Option Ty
  pub at : KeptAt (items element) s st

pub record SomeArms (s : Bytes) (st : Accumulator) : Type 0 where
  pub is : Kept
  pub form : ArmForm is
  pub at : KeptAt is s st
  pub room : 1028 ≤ length s

pub record SomeLast (s : Bytes) (st : Accumulator) : Type 0 where
  pub ty : Ty
  pub at : KeptAt (last (some ty)) s st

-- ## What the helpers ensure

-- the bytes x stand at the front, r bytes
pub record Puts (x s s' : Bytes) (r : ℕ) : Type 0 where
  pub text : s' ≡ sets s 0 x
  pub end : r ≡ length x

-- the type t, whatever was added before
abbrev pub Settles : Ty → Bytes → Bytes → ℕ → Type 0
Settles t s s' n = (fs : List Fault) (r r' : Report) → Adds fs r r' → Ends (told t fs) s s' r r' (Some n)

-- the arguments were checked, of which the first stands at the front
abbrev pub Checked : Builtin → Bytes → Optional ℕ → Report → Report → Type 0
Checked b s o r r' = (ts : List Ty) → FirstAt s o ts → Adds (arg_faults (builtin_of b) (signature (builtin_of b)).params ts) r r'
