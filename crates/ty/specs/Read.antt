-- Reading a type at a place of a text: what the contracts of the reader and of the nesting cite.
use Rattle.std.specs.Prelude.{ℕ, List, ◌+◌, ◌≤◌, ◌<◌, min, ◌≡◌, Bool, true, false, cond, ◌&&◌, not, eqb, ltb, leb, length, drop, get_or, Option, Some, None}
use Rattle.std.proofs.Math.Seq.{slice}
use Rattle.text.specs.Text.{index_of}
use Rattle.text.specs.Text.{is_found}
use Rattle.semantics.specs.Codes.{comma, close_mark, list_letter, map_letter, node_letter, relationship_letter, union_letter}
use Rattle.semantics.specs.Bytes.{Bytes, lex}
use Rattle.semantics.specs.Ty.{Ty, base, t_list, t_map, t_node, t_relationship, t_union, letter, line_to, line, names_to, labels_to, rel_to, nesting, is_below, read_name, base_in, bases}
use Rattle.semantics.specs.Named.{Name, Names, Maybe, Named}
use Rattle.semantics.specs.Regular.{Ascends, Regular}
use Rattle.ty.specs.Skip.{next_field}
use Rattle.ty.specs.declared.end.Content.{Content}
use Rattle.ty.specs.declared.end.Content.TheVariants.{Nothing, Labels, RelationshipName, Types}

-- ## Fields

-- the field at q is the one byte b
unfoldable pub field_at : Bytes → ℕ → ℕ → Bool
field_at s q b = eqb (get_or s q 0) b && eqb (get_or s (q + 1) 0) comma

-- the letter that is the field at q
unfoldable pub letter_at : Bytes → ℕ → Option ℕ
letter_at s q = cond (eqb (get_or s (q + 1) 0) comma) (Some (get_or s q 0)) None

-- the letter of a type
unfoldable pub kind_of : Ty → ℕ
kind_of (base b) = letter b
kind_of (t_list t) = list_letter
kind_of (t_map fs) = map_letter
kind_of (t_node ls) = node_letter
kind_of (t_relationship n) = relationship_letter
kind_of (t_union ts) = union_letter

-- what stands behind a letter, None where it is no type's
unfoldable pub content_of : ℕ → Option Content
content_of k =
    cond (eqb k list_letter) (Some Types) (cond (eqb k map_letter) (Some Types) (cond (eqb k node_letter) (Some Labels)
    (cond (eqb k relationship_letter) (Some RelationshipName) (cond (eqb k union_letter) (Some Types) (cond (is_found (base_in k bases)) (Some Nothing) None)))))

-- ## What is read at a place

-- by what is written there: where it ends, or that there is none
abbrev pub ReadsTo : {A : Type 0} → (A → Bytes → Bytes) → (A → Type 0) → Bytes → ℕ → Option ℕ → Type 0
ReadsTo {A} write P s at (Some e) = (a : A) × (drop at s ≡ write a (drop e s)) × P a × (at < e) × (e ≤ length s)
ReadsTo {A} write P s at None = (a : A) (r : Bytes) → drop at s ≡ write a r → P a → ⊥

-- a type that is fine, of nesting at most l
abbrev pub Within : (Ty → Type 0) → ℕ → Ty → Type 0
Within P l t = P t × (nesting t ≤ l)

abbrev pub TypeRead : (Ty → Type 0) → Bytes → ℕ → ℕ → Option ℕ → Type 0
TypeRead P s at l r = ReadsTo line_to (Within P l) s at r

-- as the strict reader reads
abbrev pub IsStrict : Ty → Type 0
IsStrict t = Named t × Regular t

-- labels, in ascending order if they have to be
abbrev pub InOrder : Bool → List Bytes → Type 0
InOrder true ns = Ascends ns
InOrder false ns = Unit {0}

abbrev pub LabelsIn : Bool → List Bytes → Type 0
LabelsIn b ns = Names ns × InOrder b ns

abbrev pub LabelsRead : Bool → Bytes → ℕ → Option ℕ → Type 0
LabelsRead b s at r = ReadsTo names_to (LabelsIn b) s at r

abbrev pub NodeRead : Bool → Bytes → ℕ → Option ℕ → Type 0
NodeRead b s at r = ReadsTo labels_to (Maybe (LabelsIn b)) s at r

abbrev pub RelRead : Bytes → ℕ → Option ℕ → Type 0
RelRead s at r = ReadsTo rel_to (Maybe Name) s at r

-- ## The parts of a list, a map or a union

-- whether a type follows at q, of which n were read: one in a list, and up to `!,` in a map or a union
unfoldable pub goes_in : ℕ → Bytes → ℕ → ℕ → Bool
goes_in k s q n = cond (eqb k list_letter) (eqb n 0) (not (field_at s q close_mark))

-- where the type of the part at q begins: behind the name of an entry
unfoldable pub value_at : ℕ → Bytes → ℕ → ℕ
value_at k s q = cond (eqb k map_letter) (min (next_field s q) (length s)) q

-- where the key of the part [q, e) ends: an entry goes by its name, a member by its line
unfoldable pub key_end : ℕ → Bytes → ℕ → ℕ → ℕ
key_end k s q e = cond (eqb k map_letter) (q + index_of comma (drop q s)) e

abbrev pub key_of : ℕ → Bytes → ℕ → ℕ → Bytes
key_of k s q e = slice q (key_end k s q e) s

-- after n parts, the last with the key a
unfoldable pub in_order : ℕ → Bytes → Bytes → Bool
in_order n a b = cond (eqb n 0) true (is_below (lex a b))

-- the field [at, end) is a name
unfoldable pub name_in : Bytes → ℕ → ℕ → Bool
name_in s at end = ltb end (length s) && is_found (read_name (slice at end s))

-- whether the name at q may follow the name at prev, of which n were read
unfoldable pub label_allowed : Bool → Bytes → ℕ → ℕ → ℕ → Bool
label_allowed b s prev q n = name_in s q (q + index_of comma (drop q s)) && cond b (in_order n (slice prev (prev + index_of comma (drop prev s)) s) (slice q (q + index_of comma (drop q s)) s)) true

-- ## Nesting

-- where a type of kind k ends whose parts end at q
abbrev pub parts_end : ℕ → ℕ → ℕ
parts_end k q = cond (eqb k list_letter) q (q + 2)

-- where the type t that stands at a ends, if its nesting is at most l
unfoldable pub end_within : ℕ → ℕ → Ty → Option ℕ
end_within l a t = cond (leb (nesting t) l) (Some (a + length (line t))) None

abbrev pub NestingEnd : Bytes → ℕ → ℕ → Option ℕ → Type 0
NestingEnd s a l r = (t : Ty) (rest : Bytes) → drop a s ≡ line_to t rest → r ≡ end_within l a t

-- ## Lists

-- the text is the line of a list type
pub record ListLine (s : Bytes) : Type 0 where
  pub element : Ty
  pub is : s ≡ line (t_list element)
