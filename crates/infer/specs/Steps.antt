-- The steps of an expression by its rule: what they require and ensure.
use Rattle.std.specs.Prelude.{◌≡◌, Some, None, [], map, ℕ, ◌+◌, ◌*◌, ◌≤◌, length}
use Rattle.std.specs.declared.option.Option.{Option as Optional}
use Rattle.std.proofs.Math.Option.{Option, none, some}
use Rattle.semantics.specs.Limits.{type_limit}
use Rattle.semantics.specs.Bytes.{Bytes, hex}
use Rattle.semantics.specs.Ty.{Ty}
use Rattle.semantics.specs.Sheet.{var_word, Head, variable_of, Role, Typing, constant, var_type, element, slice as slicing, listing, mapping, calling, operator, unary, casing, membership, comprehension, typed, rule}
use Rattle.semantics.specs.Walk.{Env, asked, var_type_in, kind_type}
use Rattle.line.specs.Line.{HeadIs}
use Rattle.line.specs.declared.line.Head.{Head as Seen}
use Rattle.hir.specs.Bind.{BindsAt}
use Rattle.hir.specs.Bind.{kind_of as bind_kind}
use Rattle.ty.specs.Read.{kind_of}
use Rattle.builtins.specs.Rows.{Returned}
use Rattle.unify.specs.Work.{slots}
use Rattle.walk_run.specs.Run.{Kept, empty, over, kept, both, items, last, entries, arms, child, told, end}
use Rattle.report.specs.Report.{Adds}
use Rattle.report.specs.declared.Report.{Report}
use Rattle.exprs.specs.State.{StAs, FineKept, ChildAt, FirstForm, ArmForm, ItemRoom, Keeps}
use Rattle.exprs.specs.declared.state.Accumulator.{Accumulator}
use Rattle.exprs.specs.declared.rule.Rule.{Rule}
use Rattle.exprs.specs.declared.role.Role.{Role as CodeRole}
use Rattle.exprs.specs.Rules.{typing_rule, child_role}
use Rattle.exprs.specs.End.{Ends, Countable}
use Rattle.infer.specs.declared.step.Env.{Env as Binds}

-- ## Which forms a rule keeps

-- nothing
abbrev pub Nothing : Kept → Type 0
Nothing empty = Unit {0}
Nothing over = ⊥
Nothing (kept t) = ⊥
Nothing (both s t) = ⊥
Nothing (items e) = ⊥
Nothing (last e) = ⊥
Nothing (entries fs) = ⊥
Nothing (arms ms) = ⊥

-- at most the first child's type
abbrev pub AtMostOne : Kept → Type 0
AtMostOne k = FirstForm k

-- the first child's type
abbrev pub One : Kept → Type 0
One empty = ⊥
One over = ⊥
One (kept t) = Unit {0}
One (both s t) = ⊥
One (items e) = ⊥
One (last e) = ⊥
One (entries fs) = ⊥
One (arms ms) = ⊥

-- two types
abbrev pub Two : Kept → Type 0
Two empty = ⊥
Two over = ⊥
Two (kept t) = ⊥
Two (both s t) = Unit {0}
Two (items e) = ⊥
Two (last e) = ⊥
Two (entries fs) = ⊥
Two (arms ms) = ⊥

-- the running element of a list
abbrev pub Items : Kept → Type 0
Items empty = ⊥
Items over = ⊥
Items (kept t) = ⊥
Items (both s t) = ⊥
Items (items e) = Unit {0}
Items (last e) = ⊥
Items (entries fs) = ⊥
Items (arms ms) = ⊥

-- the last child's type, or none yet
abbrev pub Lasts : Kept → Type 0
Lasts empty = ⊥
Lasts over = ⊥
Lasts (kept t) = ⊥
Lasts (both s t) = ⊥
Lasts (items e) = ⊥
Lasts (last e) = Unit {0}
Lasts (entries fs) = ⊥
Lasts (arms ms) = ⊥

-- the last child's type
abbrev pub LastOne : Kept → Type 0
LastOne empty = ⊥
LastOne over = ⊥
LastOne (kept t) = ⊥
LastOne (both s t) = ⊥
LastOne (items e) = ⊥
LastOne (last none) = ⊥
LastOne (last (some t)) = Unit {0}
LastOne (entries fs) = ⊥
LastOne (arms ms) = ⊥

-- the entries of a map
abbrev pub Entries : Kept → Type 0
Entries empty = ⊥
Entries over = ⊥
Entries (kept t) = ⊥
Entries (both s t) = ⊥
Entries (items e) = ⊥
Entries (last e) = ⊥
Entries (entries fs) = Unit {0}
Entries (arms ms) = ⊥

-- a CASE's union
abbrev pub Arms : Kept → Type 0
Arms k = ArmForm k

-- before a child
abbrev pub Before : Typing → Kept → Type 0
Before (constant t) k = Nothing k
Before var_type k = Nothing k
Before element k = AtMostOne k
Before slicing k = AtMostOne k
Before listing k = Items k
Before mapping k = Entries k
Before calling k = AtMostOne k
Before operator k = AtMostOne k
Before unary k = AtMostOne k
Before casing k = Arms k
Before membership k = AtMostOne k
Before comprehension k = Lasts k

-- after the last child
abbrev pub Whole : Typing → Kept → Type 0
Whole (constant t) k = Nothing k
Whole var_type k = Nothing k
Whole element k = One k
Whole slicing k = One k
Whole listing k = Items k
Whole mapping k = Entries k
Whole calling k = AtMostOne k
Whole operator k = Two k
Whole unary k = One k
Whole casing k = Arms k
Whole membership k = Two k
Whole comprehension k = LastOne k

-- ## The steps

-- room for the unification of a list's next item
abbrev pub RoomIn : Kept → Ty → Bytes → ℕ → Type 0
RoomIn empty u w n = Unit {0}
RoomIn over u w n = Unit {0}
RoomIn (kept t) u w n = Unit {0}
RoomIn (both s t) u w n = Unit {0}
RoomIn (items e) u w n = ItemRoom e u w n
RoomIn (last e) u w n = Unit {0}
RoomIn (entries fs) u w n = Unit {0}
RoomIn (arms ms) u w n = Unit {0}

abbrev pub ChildRoom : Typing → Kept → Ty → Bytes → ℕ → Type 0
ChildRoom (constant c) k t s e = Unit {0}
ChildRoom var_type k t s e = Unit {0}
ChildRoom element k t s e = Unit {0}
ChildRoom slicing k t s e = Unit {0}
ChildRoom listing k t s e = RoomIn k t s e
ChildRoom mapping k t s e = Unit {0}
ChildRoom calling k t s e = Unit {0}
ChildRoom operator k t s e = Unit {0}
ChildRoom unary k t s e = Unit {0}
ChildRoom casing k t s e = Unit {0}
ChildRoom membership k t s e = Unit {0}
ChildRoom comprehension k t s e = Unit {0}

-- a child's type behind what is kept, by a rule, a role, and the name that an entry's line spells
pub record StepAt (q : Typing) (p : Role) (k : Kept) (t : Ty) (m : Bytes) (s : Bytes) (st : Accumulator) (n : ℕ) (x : Bytes) : Type 0 where
  pub before : Before q k
  pub at : ChildAt k t s st n
  pub room : ChildRoom q k t s (st.len + n)
  pub wide : type_limit ≤ length s
  pub spelt : x ≡ map hex m

pub record SomeStep (i : Rule) (r : CodeRole) (s : Bytes) (st : Accumulator) (n : ℕ) (x : Bytes) : Type 0 where
  pub typing : Typing
  pub role : Role
  pub kept : Kept
  pub ty : Ty
  pub name : Bytes
  pub rule_is : i ≡ typing_rule typing
  pub role_is : r ≡ child_role role
  pub at : StepAt typing role kept ty name s st n x

abbrev pub KeptBy : Rule → CodeRole → Bytes → Bytes → Accumulator → ℕ → Bytes → Optional Accumulator → Type 0
KeptBy i r s s' st n x a = (q : Typing) (p : Role) (k : Kept) (t : Ty) (m : Bytes) → i ≡ typing_rule q → r ≡ child_role p → StepAt q p k t m s st n x → Keeps (child q p k m t) s s' a

-- what a child's type is asked for
abbrev pub AskedBy : CodeRole → ℕ → Report → Report → Type 0
AskedBy i kind y z = (p : Role) (t : Ty) → i ≡ child_role p → kind_of t ≡ kind → Adds (asked p t) y z

abbrev pub SteppedAs : Option Kept → Bytes → Type 0 → Optional Accumulator → Type 0
SteppedAs none s A (Some st) = ⊥
SteppedAs none s A None = Unit {0}
SteppedAs (some k) s A (Some st) = StAs k s st × FineKept k × A
SteppedAs (some k) s A None = ⊥

pub record Steps (k : Option Kept) (p : Role) (t : Ty) (s s' : Bytes) (y z : Report) (r : Optional Accumulator) : Type 0 where
  pub answer : SteppedAs k s' (Adds (asked p t) y z) r
  pub long : length s' ≡ length s
  pub as_long : length z.writer.now.out.now ≡ length y.writer.now.out.now

abbrev pub SteppedBy : Rule → CodeRole → Bytes → Bytes → Accumulator → ℕ → Bytes → Report → Report → Optional Accumulator → Type 0
SteppedBy i r s s' st n x y z a =
    (q : Typing) (p : Role) (k : Kept) (t : Ty) (m : Bytes) → i ≡ typing_rule q → r ≡ child_role p → StepAt q p k t m s st n x → Steps (child q p k m t) p t s s' y z a

-- ## The end

-- the `b` lines say what the environment says
pub record EnvAs (s : Bytes) (b : Binds) (env : Env) : Type 0 where
  pub binds : BindsAt s b.from b.to
  pub same : (v : ℕ) → var_type_in v env.bindings ≡ kind_type (bind_kind v binds.heads)

abbrev pub RoomOf : Kept → Bytes → ℕ → Type 0
RoomOf empty s e = Unit {0}
RoomOf over s e = Unit {0}
RoomOf (kept t) s e = Unit {0}
RoomOf (both a b) s e = (e + type_limit * slots a b ≤ length s) × (8192 ≤ length s)
RoomOf (items e') s e = Unit {0}
RoomOf (last e') s e = Unit {0}
RoomOf (entries fs) s e = Unit {0}
RoomOf (arms ms) s e = Unit {0}

-- what a line keeps after its last child
pub record EndAt (q : Typing) (k : Kept) (hd : Head) (sheet : Bytes) (h : Seen) (s : Bytes) (st : Accumulator) : Type 0 where
  pub ruled : rule hd ≡ typed q
  pub head : HeadIs sheet h hd
  pub state : StAs k s st
  pub fine : FineKept k
  pub whole : Whole q k
  pub room : RoomOf k s (st.len + st.second)
  pub wide : 1028 ≤ length s
  pub variable : hd.word ≡ var_word → hd.var ≡ some (variable_of hd)

pub record SomeEnd (sheet : Bytes) (b : Binds) (h : Seen) (s : Bytes) (st : Accumulator) (y : Report) : Type 0 where
  pub typing : Typing
  pub kept : Kept
  pub head : Head
  pub env : Env
  pub at : EndAt typing kept head sheet h s st
  pub bound : EnvAs sheet b env
  pub count : Countable y

abbrev pub EndedBy : Bytes → Binds → Seen → Bytes → Bytes → Accumulator → Report → Report → Optional ℕ → Type 0
EndedBy sheet b h s s' st y z r =
    (q : Typing) (k : Kept) (hd : Head) (env : Env) → EndAt q k hd sheet h s st → EnvAs sheet b env → Ends (end q env hd k) s s' y z r

-- ## What the helpers of the end ensure

-- an end that adds no fault and is never too large, by its type
abbrev pub QuietBy : Rule → Bytes → Binds → Seen → Bytes → Bytes → Accumulator → ℕ → Type 0
QuietBy i sheet b h s s' st r =
    (q : Typing) (k : Kept) (hd : Head) (env : Env) → i ≡ typing_rule q → EndAt q k hd sheet h s st → EnvAs sheet b env → (t : Ty) → end q env hd k ≡ told t [] → Returned s s' t r
