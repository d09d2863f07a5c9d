-- What an expression keeps of its children, as it stands at the front of the work area.
use Rattle.std.specs.Prelude.{◌≡◌, [], ◌∷◌, ◌++◌, map, Bool, true, false, Some, None, ℕ, ◌+◌, ◌*◌, ◌<◌, ◌≤◌, length, take}
use Rattle.std.specs.declared.option.Option.{Option as Optional}
use Rattle.std.proofs.Math.Option.{Option, none, some}
use Rattle.semantics.specs.Limits.{type_limit}
use Rattle.semantics.specs.Codes.{comma, list_letter}
use Rattle.semantics.specs.Bytes.{Bytes, hex}
use Rattle.semantics.specs.Ty.{Ty, t_list, t_map, Fields, line, regular, too_large}
use Rattle.semantics.specs.Regular.{Sorted}
use Rattle.ty.specs.Parts.{lines_of, TypeAt}
use Rattle.ty.specs.Union.{overlong}
use Rattle.unify.specs.Work.{slots}
use Rattle.walk_run.specs.Run.{Kept, empty, over, kept, both, items, last, entries, arms, unless_large, keep_item, keep_entry, keep_arm}
use Rattle.exprs.specs.declared.state.Accumulator.{Accumulator}

-- `J,` and a type, or none yet
abbrev pub list_text : Option Ty → Bytes
list_text none = list_letter ∷ comma ∷ []
list_text (some t) = line (t_list t)

-- the bytes at the front
unfoldable pub text_of : Kept → Bytes
text_of empty = []
text_of over = []
text_of (kept t) = line t
text_of (both s t) = line s ++ line t
text_of (items e) = list_text e
text_of (last e) = list_text e
text_of (entries fs) = line (t_map fs)
text_of (arms ms) = lines_of ms

-- where the next child's type goes
unfoldable pub place : Kept → ℕ
place empty = 0
place over = 0
place (kept t) = length (line t)
place (both s t) = length (line s)
place (items e) = length (list_text e)
place (last e) = 2
place (entries fs) = length (line (t_map fs))
place (arms ms) = length (lines_of ms)

abbrev pub option_long : Option Ty → ℕ
option_long none = 0
option_long (some t) = length (line t)

-- how long what stands there already is
unfoldable pub behind : Kept → ℕ
behind empty = 0
behind over = 0
behind (kept t) = 0
behind (both s t) = length (line t)
behind (items e) = 0
behind (last e) = option_long e
behind (entries fs) = 0
behind (arms ms) = 0

-- a CASE that is too large
unfoldable pub full : Kept → Bool
full empty = false
full over = true
full (kept t) = false
full (both s t) = false
full (items e) = false
full (last e) = false
full (entries fs) = false
full (arms ms) = false

pub record StAs (k : Kept) (s : Bytes) (st : Accumulator) : Type 0 where
  pub len : st.len ≡ place k
  pub second : st.second ≡ behind k
  pub over : st.over ≡ full k
  pub front : take (length (text_of k)) s ≡ text_of k

-- a type that stands somewhere is regular and not too large
pub record Fine (t : Ty) : Type 0 where
  pub regular : regular t ≡ true
  pub small : too_large t ≡ false

abbrev pub FineOption : (Ty → Type 0) → Option Ty → Type 0
FineOption P none = Unit {0}
FineOption P (some t) = P t

-- and so is all that is kept
abbrev pub FineKept : Kept → Type 0
FineKept empty = Unit {0}
FineKept over = Unit {0}
FineKept (kept t) = Fine t
FineKept (both s t) = Fine s × Fine t
FineKept (items e) = FineOption (λ t. Fine (t_list t)) e
FineKept (last e) = FineOption Fine e
FineKept (entries fs) = Fine (t_map fs)
FineKept (arms ms) = Sorted ms × (overlong ms ≡ false)

-- what is kept, and a child's type of n bytes where the next one goes
pub record ChildAt (k : Kept) (t : Ty) (s : Bytes) (st : Accumulator) (n : ℕ) : Type 0 where
  pub state : StAs k s st
  pub fine : FineKept k
  pub child : TypeAt s st.len (st.len + n) t
  pub good : Fine t

-- ## Which forms a rule keeps

-- of the first child's type
abbrev pub FirstForm : Kept → Type 0
FirstForm empty = Unit {0}
FirstForm over = ⊥
FirstForm (kept t) = Unit {0}
FirstForm (both s t) = ⊥
FirstForm (items e) = ⊥
FirstForm (last e) = ⊥
FirstForm (entries fs) = ⊥
FirstForm (arms ms) = ⊥

-- of a CASE
abbrev pub ArmForm : Kept → Type 0
ArmForm empty = ⊥
ArmForm over = Unit {0}
ArmForm (kept t) = ⊥
ArmForm (both s t) = ⊥
ArmForm (items e) = ⊥
ArmForm (last e) = ⊥
ArmForm (entries fs) = ⊥
ArmForm (arms ms) = Unit {0}

-- how long the first child's type is, or that none is kept
abbrev pub FirstKept : ℕ → Optional ℕ → Type 0
FirstKept len None = len ≡ 0
FirstKept len (Some n) = (n ≡ len) × (0 < len)

-- a comprehension's `J,` and a child's type of n bytes behind it, in place of the one before
pub record LastChild (t : Ty) (s : Bytes) (st : Accumulator) (n : ℕ) : Type 0 where
  pub len : st.len ≡ 2
  pub head : take 2 s ≡ list_letter ∷ comma ∷ []
  pub child : TypeAt s st.len (st.len + n) t

-- ## After a child

abbrev pub KeepAs : Option Kept → Bytes → Optional Accumulator → Type 0
KeepAs none s (Some st) = ⊥
KeepAs none s None = Unit {0}
KeepAs (some k) s (Some st) = StAs k s st
KeepAs (some k) s None = ⊥

pub record Keeps (k : Option Kept) (s s' : Bytes) (r : Optional Accumulator) : Type 0 where
  pub kept : KeepAs k s' r
  pub long : length s' ≡ length s

-- ## An item of a list

-- a list stands at the front
pub record SomeList (s : Bytes) (len : ℕ) : Type 0 where
  pub element : Ty
  pub at : TypeAt s 0 len (t_list element)

-- it is kept unless it is too large
abbrev pub ListKept : Bytes → ℕ → Optional Accumulator → Type 0
ListKept s len r = (t : Ty) → TypeAt s 0 len (t_list t) → KeepAs (unless_large (t_list t) (items (some t))) s r

-- `J,` at the front, and room for two bytes more
pub record Headed (s : Bytes) : Type 0 where
  pub head : take 2 s ≡ list_letter ∷ comma ∷ []
  pub room : 4 ≤ length s

-- room for the unification of an item with those before it
abbrev pub ItemRoom : Option Ty → Ty → Bytes → ℕ → Type 0
ItemRoom none t s e = Unit {0}
ItemRoom (some u) t s e = e + type_limit * slots u t ≤ length s

pub record SomeItem (s : Bytes) (st : Accumulator) (n : ℕ) : Type 0 where
  pub before : Option Ty
  pub ty : Ty
  pub at : ChildAt (items before) ty s st n
  pub room : ItemRoom before ty s (st.len + n)
  pub wide : type_limit ≤ length s

abbrev pub ItemKept : Bytes → Bytes → Accumulator → ℕ → Optional Accumulator → Type 0
ItemKept s s' st n r = (e : Option Ty) (t : Ty) → ChildAt (items e) t s st n → Keeps (keep_item (items e) t) s s' r

-- ## An entry of a map, its name spelt x

pub record SomeEntry (s : Bytes) (st : Accumulator) (n : ℕ) (x : Bytes) : Type 0 where
  pub before : Fields
  pub ty : Ty
  pub name : Bytes
  pub at : ChildAt (entries before) ty s st n
  pub spelt : x ≡ map hex name
  pub wide : type_limit ≤ length s

abbrev pub EntryKept : Bytes → Bytes → Accumulator → ℕ → Bytes → Optional Accumulator → Type 0
EntryKept s s' st n x r = (fs : Fields) (t : Ty) (m : Bytes) → ChildAt (entries fs) t s st n → x ≡ map hex m → Keeps (keep_entry (entries fs) m t) s s' r

-- ## An arm of a CASE

pub record SomeArm (s : Bytes) (st : Accumulator) (n : ℕ) : Type 0 where
  pub before : Kept
  pub ty : Ty
  pub form : ArmForm before
  pub at : ChildAt before ty s st n

pub record ArmKept (s s' : Bytes) (st : Accumulator) (n : ℕ) (r : Accumulator) : Type 0 where
  pub long : length s' ≡ length s
  pub kept : (k : Kept) (t : Ty) → ArmForm k → ChildAt k t s st n → StAs (keep_arm k t) s' r
