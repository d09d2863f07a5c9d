-- Types, their lines, `Type::union`, the strict reader of type lines (RULES 4; ty.rs).
use Rattle.std.specs.Prelude.{List, [], ◌∷◌, map, Bool, true, false, ◌&&◌, ◌||◌, not, length, eqb, ltb, leb}
use Rattle.std.proofs.Math.Option.{Option, none, some}
use Prim.Native.Nat.{ℕ, suc, zero, ◌*◌, ◌%◌, max, Ordering}
use Rattle.semantics.specs.Limits.{name_limit, type_limit, nesting_limit}
use Rattle.semantics.specs.Codes.{comma, close_mark, open_mark, any_letter, null_letter, bool_letter, int_letter, float_letter, num_letter, string_letter, date_letter, datetime_letter, list_letter, map_letter, node_letter, relationship_letter, path_letter, union_letter, unknown_letter}
use Rattle.semantics.specs.Bytes.{Bytes, lex, same, split, hex, unhex}

-- `Type`: the variants that hold nothing, and those that hold something. There is no data of lists of itself, so members and
-- entries have list types of their own
pub data Base : Type 0 where
  t_any t_null t_bool t_int t_float t_num t_string t_date t_datetime t_path t_unknown : Base

infixr 30 ◌⊕◌
mutual
  pub data Ty : Type 0 where
    base : Base → Ty
    t_list : Ty → Ty
    t_map : Fields → Ty
    t_node : Option (List Bytes) → Ty
    t_relationship : Option Bytes → Ty
    t_union : Tys → Ty

  pub data Tys : Type 0 where
    ∅ : Tys
    ◌⊕◌ : Ty → Tys → Tys

  pub data Fields : Type 0 where
    ∅ᶠ : Fields
    field : Bytes → Ty → Fields → Fields

unfoldable pub members : Tys → List Ty
members ∅ = []
members (t ⊕ ts) = t ∷ members ts

unfoldable pub pack : List Ty → Tys
pack [] = ∅
pack (t ∷ ts) = t ⊕ pack ts

unfoldable pub names : Fields → List Bytes
names ∅ᶠ = []
names (field n t fs) = n ∷ names fs

-- ## Type lines: letters A to P for the variants in `Type` order, each field followed by a comma

unfoldable pub letter : Base → ℕ
letter t_any = any_letter
letter t_null = null_letter
letter t_bool = bool_letter
letter t_int = int_letter
letter t_float = float_letter
letter t_num = num_letter
letter t_string = string_letter
letter t_date = date_letter
letter t_datetime = datetime_letter
letter t_path = path_letter
letter t_unknown = unknown_letter

-- `matches!` on variants that hold nothing
unfoldable pub among : Base → List Base → Bool
among b [] = false
among b (c ∷ cs) = eqb (letter b) (letter c) || among b cs

unfoldable pub matches : Ty → List Base → Bool
matches (base b) cs = among b cs
matches (t_list t) cs = false
matches (t_map fs) cs = false
matches (t_node ls) cs = false
matches (t_relationship n) cs = false
matches (t_union ts) cs = false

-- each writes before what follows it
unfoldable pub name_to : Bytes → Bytes → Bytes
name_to [] r = comma ∷ r
name_to (d ∷ ds) r = hex d ∷ name_to ds r

unfoldable pub names_to : List Bytes → Bytes → Bytes
names_to [] r = close_mark ∷ comma ∷ r
names_to (n ∷ ns) r = name_to n (names_to ns r)

unfoldable pub labels_to : Option (List Bytes) → Bytes → Bytes
labels_to none r = close_mark ∷ comma ∷ r
labels_to (some ls) r = open_mark ∷ comma ∷ names_to ls r

unfoldable pub rel_to : Option Bytes → Bytes → Bytes
rel_to none r = close_mark ∷ comma ∷ r
rel_to (some n) r = open_mark ∷ comma ∷ name_to n r

unfoldable mutual
  pub line_to : Ty → Bytes → Bytes
  line_to (base b) r = letter b ∷ comma ∷ r
  line_to (t_list t) r = list_letter ∷ comma ∷ line_to t r
  line_to (t_map fs) r = map_letter ∷ comma ∷ fields_to fs r
  line_to (t_node ls) r = node_letter ∷ comma ∷ labels_to ls r
  line_to (t_relationship n) r = relationship_letter ∷ comma ∷ rel_to n r
  line_to (t_union ts) r = union_letter ∷ comma ∷ members_to ts r

  pub members_to : Tys → Bytes → Bytes
  members_to ∅ r = close_mark ∷ comma ∷ r
  members_to (t ⊕ ts) r = line_to t (members_to ts r)

  pub fields_to : Fields → Bytes → Bytes
  fields_to ∅ᶠ r = close_mark ∷ comma ∷ r
  fields_to (field n t fs) r = name_to n (line_to t (fields_to fs r))

unfoldable pub line : Ty → Bytes
line t = line_to t []

-- the derived `Ord`, which is the byte order of lines, and the derived `Eq`
unfoldable pub order : Ty → Ty → Ordering
order a b = lex (line a) (line b)

unfoldable pub equal : Ty → Ty → Bool
equal a b = same (line a) (line b)

-- ## Size

-- nesting: 1, or one more than the deepest inside for J, K, O
unfoldable mutual
  pub nesting : Ty → ℕ
  nesting (base b) = 1
  nesting (t_list t) = suc (nesting t)
  nesting (t_map fs) = suc (nesting_f fs)
  nesting (t_node ls) = 1
  nesting (t_relationship n) = 1
  nesting (t_union ts) = suc (nesting_s ts)

  pub nesting_s : Tys → ℕ
  nesting_s ∅ = 0
  nesting_s (t ⊕ ts) = max (nesting t) (nesting_s ts)

  pub nesting_f : Fields → ℕ
  nesting_f ∅ᶠ = 0
  nesting_f (field n t fs) = max (nesting t) (nesting_f fs)

unfoldable pub too_large : Ty → Bool
too_large t = ltb type_limit (length (line t)) || ltb nesting_limit (nesting t)

-- ## `Type::union`: flattens one level, sorts, drops repeats

-- into a strictly ascending list, once
unfoldable pub insert : Ty → List Ty → List Ty
insert x [] = x ∷ []
insert x (y ∷ ys) = elim (order x y) [ Ordering.lt ↦ x ∷ y ∷ ys | Ordering.eq ↦ y ∷ ys | Ordering.gt ↦ y ∷ insert x ys ]

unfoldable pub inserts : List Ty → List Ty → List Ty
inserts [] ms = ms
inserts (x ∷ xs) ms = inserts xs (insert x ms)

-- what a type adds to a union: the members of a union, else itself
unfoldable pub opened : Ty → List Ty
opened (base b) = base b ∷ []
opened (t_list t) = t_list t ∷ []
opened (t_map fs) = t_map fs ∷ []
opened (t_node ls) = t_node ls ∷ []
opened (t_relationship n) = t_relationship n ∷ []
opened (t_union ts) = members ts

-- the members of all these types, beside those
unfoldable pub gather : List Ty → List Ty → List Ty
gather [] ms = ms
gather (t ∷ ts) ms = gather ts (inserts (opened t) ms)

unfoldable pub joined : List Ty → Ty
joined [] = base t_unknown
joined (t ∷ []) = t
joined (t ∷ u ∷ ts) = t_union (pack (t ∷ u ∷ ts))

unfoldable pub unite : List Ty → Ty
unite ts = joined (gather ts [])

-- the unions of the first parts of these types, beside those members
unfoldable pub firsts : List Ty → List Ty → List Ty
firsts ms [] = []
firsts ms (t ∷ ts) = let more = inserts (opened t) ms in joined more ∷ firsts more ts

-- `BTreeMap::insert` and `get`
unfoldable pub set_field : Bytes → Ty → Fields → Fields
set_field n t ∅ᶠ = field n t ∅ᶠ
set_field n t (field m u fs) = elim (lex n m) [ Ordering.lt ↦ field n t (field m u fs) | Ordering.eq ↦ field n t fs | Ordering.gt ↦ field m u (set_field n t fs) ]

unfoldable pub get_field : Bytes → Fields → Option Ty
get_field n ∅ᶠ = none
get_field n (field m u fs) = elim (same n m) [ true ↦ some u | false ↦ get_field n fs ]

-- `LabelSet::new` of a set and more labels
unfoldable pub insert_name : Bytes → List Bytes → List Bytes
insert_name n [] = n ∷ []
insert_name n (m ∷ ms) = elim (lex n m) [ Ordering.lt ↦ n ∷ m ∷ ms | Ordering.eq ↦ m ∷ ms | Ordering.gt ↦ m ∷ insert_name n ms ]

unfoldable pub insert_names : List Bytes → List Bytes → List Bytes
insert_names [] ms = ms
insert_names (n ∷ ns) ms = insert_names ns (insert_name n ms)

-- ## Regular types: names, labels and members strictly ascend; a union has two or more members, none a union

abbrev pub is_below : Ordering → Bool
is_below Ordering.lt = true
is_below Ordering.eq = false
is_below Ordering.gt = false

unfoldable pub ascending : List Bytes → Bool
ascending [] = true
ascending (a ∷ []) = true
ascending (a ∷ b ∷ r) = is_below (lex a b) && ascending (b ∷ r)

unfoldable pub is_union : Ty → Bool
is_union (base b) = false
is_union (t_list t) = false
is_union (t_map fs) = false
is_union (t_node ls) = false
is_union (t_relationship n) = false
is_union (t_union ts) = true

unfoldable pub ascending_labels : Option (List Bytes) → Bool
ascending_labels none = true
ascending_labels (some ls) = ascending ls

unfoldable mutual
  pub regular : Ty → Bool
  regular (base b) = true
  regular (t_list t) = regular t
  regular (t_map fs) = ascending (names fs) && regular_f fs
  regular (t_node ls) = ascending_labels ls
  regular (t_relationship n) = true
  regular (t_union ts) = leb 2 (length (members ts)) && (ascending (map line (members ts)) && regular_s ts)

  pub regular_s : Tys → Bool
  regular_s ∅ = true
  regular_s (t ⊕ ts) = not (is_union t) && (regular t && regular_s ts)

  pub regular_f : Fields → Bool
  regular_f ∅ᶠ = true
  regular_f (field n t fs) = regular t && regular_f fs

-- ## The strict reader: a text is a type line if it reads as a regular type that is not too large

unfoldable pub name_of : Option Bytes → Option Bytes
name_of none = none
name_of (some ds) = elim (eqb (length ds % 2) 0 && leb (length ds) (2 * name_limit)) [ true ↦ some ds | false ↦ none ]

-- a name's digits from a field, where it is a name
abbrev pub read_name : Bytes → Option Bytes
read_name f = name_of (unhex f)

-- something read from the front of the fields, with the fields after it
abbrev pub Front : Type 0 → Type 0
Front A = Option (A × List Bytes)

unfoldable pub onward : {A B : Type 0} → Front A → (A → List Bytes → Front B) → Front B
onward none f = none
onward (some (a, r)) f = f a r

abbrev pub is_closing : Bytes → Bool
is_closing f = same f (close_mark ∷ [])

unfoldable pub read_name_in : List Bytes → Front Bytes
read_name_in [] = none
read_name_in (f ∷ fs) = named (read_name f)
  where
    named : Option Bytes → Front Bytes
    named none = none
    named (some n) = some (n, fs)

unfoldable pub read_names : List Bytes → Front (List Bytes)
read_names [] = none
read_names (f ∷ fs) = elim (is_closing f) [ true ↦ some ([], fs) | false ↦ more (read_name f) (read_names fs) ]
  where
    more : Option Bytes → Front (List Bytes) → Front (List Bytes)
    more none r = none
    more (some n) none = none
    more (some n) (some (ns, r)) = some (n ∷ ns, r)

-- `!` for nothing, or `+` and then what is read by f
unfoldable pub read_option : {A : Type 0} → (List Bytes → Front A) → List Bytes → Front (Option A)
read_option f [] = none
read_option f (x ∷ fs) = elim (is_closing x) [ true ↦ some (none, fs) | false ↦ elim (same x (open_mark ∷ [])) [ true ↦ onward (f fs) (λ a r. some (some a, r)) | false ↦ none ] ]

-- the variant that holds nothing of this letter
unfoldable pub base_in : ℕ → List Base → Option Base
base_in c [] = none
base_in c (b ∷ bs) = elim (eqb c (letter b)) [ true ↦ some b | false ↦ base_in c bs ]

abbrev pub bases : List Base
bases = t_any ∷ t_null ∷ t_bool ∷ t_int ∷ t_float ∷ t_num ∷ t_string ∷ t_date ∷ t_datetime ∷ t_path ∷ t_unknown ∷ []

unfoldable pub read_base : ℕ → List Bytes → Front Ty
read_base c fs = found (base_in c bases)
  where
    found : Option Base → Front Ty
    found none = none
    found (some b) = some (base b, fs)

-- a type by its letter, given how a type, entries and members are read
unfoldable pub read_by : (List Bytes → Front Ty) → (List Bytes → Front Fields) → (List Bytes → Front Tys) → Bytes → List Bytes → Front Ty
read_by ty entries membs [] fs = none
read_by ty entries membs (c ∷ d ∷ cs) fs = none
read_by ty entries membs (c ∷ []) fs =
    elim (eqb c list_letter) [
      | true ↦ onward (ty fs) (λ t r. some (t_list t, r))
      | false ↦ elim (eqb c map_letter) [
        | true ↦ onward (entries fs) (λ es r. some (t_map es, r))
        | false ↦ elim (eqb c node_letter) [
          | true ↦ onward (read_option read_names fs) (λ ls r. some (t_node ls, r))
          | false ↦ elim (eqb c relationship_letter) [
            | true ↦ onward (read_option read_name_in fs) (λ n r. some (t_relationship n, r))
            | false ↦ elim (eqb c union_letter) [ true ↦ onward (membs fs) (λ ts r. some (t_union ts, r)) | false ↦ read_base c fs ]
          ]
        ]
      ]
    ]

-- the number bounds how deep the calls go
unfoldable mutual
  pub read_type : ℕ → List Bytes → Front Ty
  read_type zero fs = none
  read_type (suc k) [] = none
  read_type (suc k) (f ∷ fs) = read_by (λ gs. read_type k gs) (λ gs. read_entries k gs) (λ gs. read_members k gs) f fs

  pub read_entries : ℕ → List Bytes → Front Fields
  read_entries zero fs = none
  read_entries (suc k) [] = none
  read_entries (suc k) (f ∷ fs) =
      elim (is_closing f) [
        | true ↦ some (∅ᶠ, fs)
        | false ↦ onward (read_name_in (f ∷ fs)) (λ n r. onward (read_type k r) (λ t q. onward (read_entries k q) (λ es p. some (field n t es, p))))
      ]

  pub read_members : ℕ → List Bytes → Front Tys
  read_members zero fs = none
  read_members (suc k) [] = none
  read_members (suc k) (f ∷ fs) =
      elim (is_closing f) [ true ↦ some (∅, fs) | false ↦ onward (read_type k (f ∷ fs)) (λ t r. onward (read_members k r) (λ ts q. some (t ⊕ ts, q))) ]

-- the whole text: after the last comma nothing is left
unfoldable pub strict : Front Ty → Option Ty
strict none = none
strict (some (t, [])) = none
strict (some (t, (c ∷ cs) ∷ r)) = none
strict (some (t, [] ∷ f ∷ r)) = none
strict (some (t, [] ∷ [])) = elim (regular t && not (too_large t)) [ true ↦ some t | false ↦ none ]

unfoldable pub type_line : Bytes → Option Ty
type_line s = let fs = split comma s in strict (read_type (2 * length fs) fs)
