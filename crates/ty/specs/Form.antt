-- Forms of type lines: what is asked of the parts of a type besides how they are written. Each reader reads one form.
use Rattle.std.specs.Prelude.{ℕ, ◌≤◌, ◌<◌, ◌≡◌, List, [], ◌∷◌, ◌++◌, map, Bool, true, false, cond, ◌&&◌, not, eqb, leb, length, drop, get_or}
use Rattle.std.proofs.Math.Option.{Option}
use Rattle.std.proofs.Math.Seq.{slice}
use Rattle.semantics.specs.Codes.{map_letter, union_letter}
use Rattle.semantics.specs.Bytes.{Bytes, hex}
use Rattle.semantics.specs.Ty.{Base, Ty, base, t_list, t_map, t_node, t_relationship, t_union, Tys, ∅, ◌⊕◌, Fields, ∅ᶠ, field, members, name_to, line_to, line}
use Rattle.semantics.specs.Named.{Name, Maybe}
use Rattle.ty.specs.declared.form.Before.{Before}
use Rattle.ty.specs.Read.{name_in, key_end, key_of, in_order}

-- ## Parts in their order

-- whether a part with the key x of a type of kind k may follow parts with these keys: an entry goes by its name, a member by its line
abbrev pub May : Type 0
May = ℕ → List Bytes → Bytes → Bool

-- a name before the type of an entry, in a form that asks for one
abbrev pub NameOk : Bool → Bytes → Type 0
NameOk true m = Name m
NameOk false m = Unit {0}

-- entries that are fine, each of which may follow those before it, behind entries with these keys
abbrev pub EachF : (Ty → Type 0) → May → Bool → List Bytes → Fields → Type 0
EachF P may b ks ∅ᶠ = Unit {0}
EachF P may b ks (field n t fs) = NameOk b n × P t × (may map_letter ks (map hex n) ≡ true) × EachF P may b (ks ++ (map hex n ∷ [])) fs

abbrev pub EachS : (Ty → Type 0) → May → List Bytes → Tys → Type 0
EachS P may ks ∅ = Unit {0}
EachS P may ks (t ⊕ ts) = P t × (may union_letter ks (line t) ≡ true) × EachS P may (ks ++ (line t ∷ [])) ts

-- which types a form accepts, told part by part
pub record FormLaws (P : Ty → Type 0) (Labels : List Bytes → Type 0) (may : May) (enough : ℕ → Bool) (b : Bool) : Type 0 where
  pub base_fine : (c : Base) → P (base c)
  pub node_fine : (ls : Option (List Bytes)) → Maybe Labels ls → P (t_node ls)
  pub node_labels : (ls : Option (List Bytes)) → P (t_node ls) → Maybe Labels ls
  pub relationship_fine : (n : Option Bytes) → Maybe (NameOk b) n → P (t_relationship n)
  pub relationship_name : (n : Option Bytes) → P (t_relationship n) → Maybe (NameOk b) n
  pub list_fine : (t : Ty) → P t → P (t_list t)
  pub element_fine : (t : Ty) → P (t_list t) → P t
  pub map_fine : (fs : Fields) → EachF P may b [] fs → P (t_map fs)
  pub entries_fine : (fs : Fields) → P (t_map fs) → EachF P may b [] fs
  pub union_fine : (ts : Tys) → EachS P may [] ts → enough (length (members ts)) ≡ true → P (t_union ts)
  pub members_fine : (ts : Tys) → P (t_union ts) → EachS P may [] ts × (enough (length (members ts)) ≡ true)

-- ## The parts before one

-- entries before what follows them
unfoldable pub entries_to : List (Bytes × Ty) → Bytes → Bytes
entries_to [] r = r
entries_to ((n, t) ∷ es) r = name_to n (line_to t (entries_to es r))

unfoldable pub firsts : List (Bytes × Ty) → List Bytes
firsts [] = []
firsts ((n, t) ∷ es) = n ∷ firsts es

-- these entries stand at [from, q)
pub record Passed (s : Bytes) (from q : ℕ) (es : List (Bytes × Ty)) : Type 0 where
  pub order : from ≤ q
  pub inside : q ≤ length s
  pub is : drop from s ≡ entries_to es (drop q s)

pub record SomePassed (s : Bytes) (from q : ℕ) : Type 0 where
  pub entries : List (Bytes × Ty)
  pub at : Passed s from q entries

unfoldable pub last_of : List Bytes → Bytes
last_of [] = []
last_of (k ∷ []) = k
last_of (k ∷ l ∷ ks) = last_of (l ∷ ks)

-- the entries of these keys stand at [from, q)
pub record KeyedEntries (s : Bytes) (from q : ℕ) (ks : List Bytes) : Type 0 where
  pub entries : List (Bytes × Ty)
  pub at : Passed s from q entries
  pub keys : ks ≡ map (map hex) (firsts entries)

-- these are the keys of the parts of a type of kind k that stand before one
pub record Seen (k : ℕ) (s : Bytes) (b : Before) (ks : List Bytes) : Type 0 where
  pub order : b.from ≤ b.last
  pub onward : b.last ≤ b.to
  pub inside : b.to ≤ length s
  pub count : length ks ≡ b.count
  pub last : 0 < length ks → key_of k s b.last b.to ≡ last_of ks
  pub entries : k ≡ map_letter → KeyedEntries s b.from b.to ks

pub record SomeSeen (k : ℕ) (s : Bytes) (b : Before) : Type 0 where
  pub keys : List Bytes
  pub seen : Seen k s b keys

-- the text from b.to to e is a key that may follow
abbrev pub MayFollow : May → ℕ → Bytes → Before → ℕ → Bool → Type 0
MayFollow may k s b e r = (ks : List Bytes) → Seen k s b ks → r ≡ may k ks (slice b.to e s)

-- the part at [q, e) may follow: an entry has a name
unfoldable pub allowed : May → ℕ → Bytes → ℕ → ℕ → List Bytes → Bool
allowed may k s q e ks =
    cond (eqb k map_letter) (name_in s q (key_end map_letter s q e) && may map_letter ks (key_of map_letter s q e))
    (cond (eqb k union_letter) (may union_letter ks (key_of union_letter s q e)) true)

abbrev pub IsAllowed : May → ℕ → Bytes → Before → ℕ → Bool → Type 0
IsAllowed may k s b e r = (ks : List Bytes) → Seen k s b ks → r ≡ allowed may k s b.to e ks

-- ## The strict form: keys ascend, each once

abbrev pub strict_may : May
strict_may k ks x = cond (eqb k union_letter) (not (eqb (get_or x 0 0) union_letter)) true && in_order (length ks) (last_of ks) x

abbrev pub strict_enough : ℕ → Bool
strict_enough n = leb 2 n
