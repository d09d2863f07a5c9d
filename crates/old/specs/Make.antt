-- What is made of an old type at the front of the work area: what the contracts of labels.rt and making.rt cite.
use Rattle.std.specs.Prelude.{ℕ, ◌+◌, ◌≤◌, ◌<◌, ◌≡◌, List, [], ◌∷◌, ◌++◌, map, Bool, true, false, cond, eqb, length, take, drop, Option, Some, None}
use Rattle.std.proofs.Math.Option.{some}
use Rattle.semantics.specs.Codes.{comma as comma_byte, list_letter, map_letter, union_letter}
use Rattle.semantics.specs.Limits.{nesting_limit, type_limit}
use Rattle.semantics.specs.Bytes.{Bytes, hex}
use Rattle.semantics.specs.Ty.{t_unknown, Ty, base, t_list, t_map, t_node, Fields, ∅ᶠ, name_to, names_to, line_to, line, nesting, too_large, inserts, opened, joined, set_field, insert_name, insert_names, ascending}
use Rattle.semantics.specs.Named.{Names}
use Rattle.ty.specs.Parts.{lines_of, TypeAt}
use Rattle.ty.specs.Union.{TypesAt, overlong}
use Rattle.ty.specs.Entry.{Entering}
use Rattle.ty.specs.Made.{Made as Stands, made as grown_by}
use Rattle.old_lines.specs.Old.{made}
use Rattle.old.specs.declared.RegularType.{RegularType}
use Rattle.old.specs.Read.{Within}

-- too large, or where the old type ends and how long the regular one is
abbrev pub made_by : Bool → ℕ → ℕ → Option RegularType
made_by true end len = None
made_by false end len = Some (record { end = end; len = len })

-- the old type ends at `end`; the answer says whether u is too large; if not, u stands at the front now
pub record MadeAs (w w' : Bytes) (end : ℕ) (u : Ty) (r : Option RegularType) : Type 0 where
  pub answer : r ≡ made_by (too_large u) end (length (line u))
  pub stands : too_large u ≡ false → TypeAt w' 0 (length (line u)) u
  pub long : length w' ≡ length w

-- an old type of nesting at most l stands there
pub record OldAt (s : Bytes) (at l : ℕ) : Type 0 where
  pub ty : Ty
  pub rest : Bytes
  pub is : drop at s ≡ line_to ty rest
  pub within : Within l ty

-- the regular type of whichever stands there
abbrev pub MakesAt : Bytes → Bytes → Bytes → ℕ → ℕ → Option RegularType → Type 0
MakesAt s w w' at l r = (t : Ty) (rest : Bytes) → drop at s ≡ line_to t rest → Within l t → MadeAs w w' (at + length (line t)) (made t) r

-- ## Types that are regular as they stand

pub record SamePlace (s : Bytes) (at : ℕ) : Type 0 where
  pub ty : Ty
  pub rest : Bytes
  pub is : drop at s ≡ line_to ty rest
  pub small : length (line ty) ≤ type_limit

abbrev pub Copies : Bytes → Bytes → Bytes → ℕ → Option RegularType → Type 0
Copies s w w' at r = (t : Ty) (rest : Bytes) → drop at s ≡ line_to t rest → made t ≡ t → too_large t ≡ false → MadeAs w w' (at + length (line t)) (made t) r

-- ## Labels

-- the node type of ascending labels stands at the front
pub record LabelsFront (w : Bytes) (n : ℕ) (ls : List Bytes) : Type 0 where
  pub at : TypeAt w 0 n (t_node (some ls))
  pub ascends : ascending ls ≡ true

pub record SomeLabel (w : Bytes) (n : ℕ) (x : Bytes) : Type 0 where
  pub labels : List Bytes
  pub front : LabelsFront w n labels
  pub name : Bytes
  pub spelt : x ≡ map hex name
  pub short : length name ≤ 510
  pub few : n ≤ type_limit
  pub room : 3072 ≤ length w

-- in the line l of the labels ls: the label m is new at p, or there already
abbrev pub LabelGoes : Bytes → List Bytes → Bytes → Option ℕ → Type 0
LabelGoes l ls m (Some p) = (p ≤ length l) × (line (t_node (some (insert_name m ls))) ≡ take p l ++ name_to m (drop p l))
LabelGoes l ls m None = insert_name m ls ≡ ls

abbrev pub LabelSpotted : Bytes → ℕ → Bytes → Option ℕ → Type 0
LabelSpotted w n x r = (ls : List Bytes) (m : Bytes) → LabelsFront w n ls → x ≡ map hex m → LabelGoes (line (t_node (some ls))) ls m r

abbrev pub LabelAdded : Bytes → Bytes → ℕ → Bytes → Option ℕ → Type 0
LabelAdded w w' n x r = (ls : List Bytes) (m : Bytes) → LabelsFront w n ls → x ≡ map hex m → Stands w w' 0 (t_node (some (insert_name m ls))) r

pub record SomeNames (s : Bytes) (at : ℕ) : Type 0 where
  pub labels : List Bytes
  pub rest : Bytes
  pub is : drop at s ≡ names_to labels rest
  pub good : Names labels

abbrev pub LabelsMade : Bytes → Bytes → Bytes → ℕ → Option RegularType → Type 0
LabelsMade s w w' at r = (ls : List Bytes) (rest : Bytes) → drop at s ≡ names_to ls rest → Names ls → MadeAs w w' (at + length (names_to ls [])) (t_node (some (insert_names ls []))) r

-- ## Between two inner types

-- what stands at the front: the list's letter, a list, a map, the members of a union
pub data Acc : Type 0 where
  opening : Acc
  listed : Ty → Acc
  mapped : Fields → Acc
  united : List Ty → Acc

abbrev pub acc_kind : Acc → ℕ
acc_kind opening = list_letter
acc_kind (listed u) = list_letter
acc_kind (mapped fs) = map_letter
acc_kind (united ms) = union_letter

abbrev pub AccAt : Acc → Bytes → ℕ → Type 0
AccAt opening w n = (n ≡ 2) × (2 ≤ length w) × (take 2 w ≡ list_letter ∷ comma_byte ∷ [])
AccAt (listed u) w n = TypeAt w 0 n (t_list u)
AccAt (mapped fs) w n = TypeAt w 0 n (t_map fs)
AccAt (united ms) w n = TypesAt w 0 n ms

-- with an inner type more, of a map under this name
abbrev pub joined_by : Acc → Bytes → Ty → Acc
joined_by opening m u = listed u
joined_by (listed v) m u = listed u
joined_by (mapped fs) m u = mapped (set_field m u fs)
joined_by (united ms) m u = united (inserts (opened u) ms)

-- whether it is too large already; a list is tested at its end
abbrev pub acc_large : Acc → Bool
acc_large opening = false
acc_large (listed u) = false
acc_large (mapped fs) = too_large (t_map fs)
acc_large (united ms) = overlong ms

abbrev pub acc_long : Acc → ℕ
acc_long opening = 2
acc_long (listed u) = length (line (t_list u))
acc_long (mapped fs) = length (line (t_map fs))
acc_long (united ms) = length (lines_of ms)

abbrev pub acc_type : Acc → Ty
acc_type opening = base t_unknown
acc_type (listed u) = t_list u
acc_type (mapped fs) = t_map fs
acc_type (united ms) = joined ms

-- before the first inner type of a type of kind k
unfoldable pub start_of : ℕ → Acc
start_of k = cond (eqb k list_letter) opening (cond (eqb k map_letter) (mapped ∅ᶠ) (united []))

pub record StartedAs (w w' : Bytes) (k r : ℕ) : Type 0 where
  pub at : AccAt (start_of k) w' r
  pub few : r ≤ 4
  pub long : length w' ≡ length w

-- the inner type u stands behind it, of a map under the name m at q of the text
pub record Join (s : Bytes) (k q : ℕ) (w : Bytes) (n end : ℕ) (a : Acc) (m : Bytes) (u : Ty) : Type 0 where
  pub kind : k ≡ acc_kind a
  pub first : k ≡ list_letter → a ≡ opening
  pub at : AccAt a w n
  pub new : TypeAt w n end u
  pub rest : Bytes
  pub lead : k ≡ map_letter → drop q s ≡ name_to m rest
  pub room : type_limit ≤ length w
  pub small : acc_large a ≡ false

pub record SomeJoin (s : Bytes) (k q : ℕ) (w : Bytes) (n end : ℕ) : Type 0 where
  pub acc : Acc
  pub name : Bytes
  pub ty : Ty
  pub join : Join s k q w n end acc name ty

pub record JoinedAs (w w' : Bytes) (a : Acc) (r : Option ℕ) : Type 0 where
  pub answer : r ≡ grown_by (acc_large a) (acc_long a)
  pub stands : acc_large a ≡ false → AccAt a w' (acc_long a)
  pub long : length w' ≡ length w

abbrev pub Joins : Bytes → ℕ → ℕ → Bytes → Bytes → ℕ → ℕ → Option ℕ → Type 0
Joins s k q w w' n end r = (a : Acc) (m : Bytes) (u : Ty) → Join s k q w n end a m u → JoinedAs w w' (joined_by a m u) r

-- ## An entry more in a map that is not nested too deep

pub record EnteringMap (w : Bytes) (n end : ℕ) (x : Bytes) : Type 0 where
  pub entering : Entering w n end x
  pub map : (fs : Fields) → TypeAt w 0 n (t_map fs) → nesting (t_map fs) ≤ nesting_limit

-- with a value that it may hold
pub record EnteringValue (w : Bytes) (n end : ℕ) (x : Bytes) : Type 0 where
  pub before : EnteringMap w n end x
  pub value : (t : Ty) → TypeAt w n end t → nesting t < nesting_limit

-- ## No inner type is left

pub record Ending (k : ℕ) (w : Bytes) (n : ℕ) (a : Acc) : Type 0 where
  pub kind : k ≡ acc_kind a
  pub some : a ≡ opening → ⊥
  pub at : AccAt a w n
  pub small : acc_large a ≡ false
  pub room : n + 4 ≤ length w

pub record SomeEnding (k : ℕ) (w : Bytes) (n : ℕ) : Type 0 where
  pub acc : Acc
  pub ending : Ending k w n acc

abbrev pub Ends : ℕ → Bytes → Bytes → ℕ → Option ℕ → Type 0
Ends k w w' n r = (a : Acc) → Ending k w n a → Stands w w' 0 (acc_type a) r
