-- What is made is regular, a regular type is left as it is, and a type is made of what its choices are made of. Assumes nothing.
use mathlib.Core.Path.{◌≡◌, refl, sym, ◌∙◌, ap, ap₂}
use mathlib.Core.List.{List, [], ◌∷◌, ◌++◌, map}
use mathlib.Core.Option.{Option, none, some}
use mathlib.Core.Bool.{false}
use native.Mathlib.Omega.{arith}
use Rattle.semantics.specs.Bytes.{Bytes}
use Rattle.semantics.specs.Ty.{Ty, base, t_list, t_map, t_node, t_relationship, t_union, Tys, ∅, ◌⊕◌, Fields, ∅ᶠ, field, members, names, insert, inserts, opened, gather, joined, unite, set_field, insert_name, insert_names, is_union}
use Rattle.semantics.proofs.All.{All, empty, also, all_append}
use Rattle.semantics.proofs.Order.{Less, lex-lt, set-lt}
use Rattle.semantics.proofs.Regular.{Above, Ascends, AscendingLabels, Regular, RegularS, RegularF, names-ascend, unite-regular, no-entries, set-regular}
use Rattle.unify_run.proofs.Gather.{opened-unite}
use Rattle.unify_run.proofs.UnionsMeet.{unite-members}
use Rattle.unify_run.proofs.Labels.{name-names}
use Rattle.old_lines.specs.Old.{made_labels, made, made_s, made_f, or_unknown, choices, choices_s}

-- ## What is made is regular

made_labels_lem : (ls : Option (List Bytes)) → AscendingLabels (made_labels ls)
unfolding made_labels
made_labels_lem none = tt
made_labels_lem (some ls) = names-ascend ls [] tt

mutual
  unfolding made

  pub made-regular : (t : Ty) → Regular (made t)
  made-regular (base b) = tt
  made-regular (t_list t) = made-regular t
  made-regular (t_map fs) = made-entries fs
  made-regular (t_node ls) = made_labels_lem ls
  made-regular (t_relationship n) = tt
  made-regular (t_union ts) = unite-regular (made-members ts)

  pub made-members : (ts : Tys) → All Regular (made_s ts)
  made-members ∅ = empty
  made-members (t ⊕ ts) = also (made-regular t) (made-members ts)

  pub made-entries : (fs : Fields) → Regular (t_map (made_f fs))
  made-entries ∅ᶠ = no-entries
  made-entries (field n t fs) = set-regular n (made t) (made_f fs) (made-regular t) (made-entries fs)

-- ## A type is made of what its choices are made of

pub inserts-append : (a b ms : List Ty) → inserts (a ++ b) ms ≡ inserts b (inserts a ms)
unfolding inserts
inserts-append [] b ms = refl
inserts-append (x ∷ a) b ms = inserts-append a b (insert x ms)

map-append : (a b : List Ty) → map made (a ++ b) ≡ map made a ++ map made b
map-append [] b = refl
map-append (x ∷ a) b = ap (λ (l : List Ty). made x ∷ l) (map-append a b)

-- a type leaves some choice
some-choice : (l r : List Ty) → or_unknown (or_unknown l ++ r) ≡ or_unknown l ++ r
some-choice [] r = refl
some-choice (t ∷ l) r = refl

pub choices-some : (t : Ty) (r : List Ty) → or_unknown (choices t ++ r) ≡ choices t ++ r
unfolding choices
choices-some (base b) r = refl
choices-some (t_list t) r = refl
choices-some (t_map fs) r = refl
choices-some (t_node ls) r = refl
choices-some (t_relationship n) r = refl
choices-some (t_union ts) r = some-choice (choices_s ts) r

union-opened : (ts : Tys) (ms : List Ty) → gather (made_s ts) ms ≡ inserts (map made (choices_s ts)) ms → inserts (opened (unite (made_s ts))) ms ≡ inserts (map made (or_unknown (choices_s ts))) ms
unfolding made choices
union-opened ∅ ms e = unfold unite gather joined opened in refl
union-opened (t ⊕ ts) ms e =
    opened-unite (made-members (t ⊕ ts)) (omega arith) ms ∙ e ∙ ap (λ (l : List Ty). inserts (map made l) ms) (sym (choices-some t (choices_s ts)))

mutual
  unfolding made choices opened gather inserts

  pub made-opened : (t : Ty) (ms : List Ty) → inserts (opened (made t)) ms ≡ inserts (map made (choices t)) ms
  made-opened (base b) ms = refl
  made-opened (t_list t) ms = refl
  made-opened (t_map fs) ms = refl
  made-opened (t_node ls) ms = refl
  made-opened (t_relationship n) ms = refl
  made-opened (t_union ts) ms = union-opened ts ms (made-gather ts ms)

  made-gather : (ts : Tys) (ms : List Ty) → gather (made_s ts) ms ≡ inserts (map made (choices_s ts)) ms
  made-gather ∅ ms = refl
  made-gather (t ⊕ ts) ms =
      ap (gather (made_s ts)) (made-opened t ms) ∙ made-gather ts (inserts (map made (choices t)) ms)
      ∙ sym (inserts-append (map made (choices t)) (map made (choices_s ts)) ms) ∙ ap (λ (l : List Ty). inserts l ms) (sym (map-append (choices t) (choices_s ts)))

or-joined : (l : List Ty) → joined (inserts (map made l) []) ≡ joined (inserts (map made (or_unknown l)) [])
or-joined [] = unfold made inserts insert joined in refl
or-joined (t ∷ l) = refl

pub made-joined : (t : Ty) → made t ≡ joined (inserts (map made (choices t)) [])
unfolding choices
made-joined (base b) = unfold inserts insert joined in refl
made-joined (t_list t) = unfold inserts insert joined in refl
made-joined (t_map fs) = unfold inserts insert joined in refl
made-joined (t_node ls) = unfold inserts insert joined in refl
made-joined (t_relationship n) = unfold inserts insert joined in refl
made-joined (t_union ts) = unfold made unite in (ap joined (made-gather ts []) ∙ or-joined (choices_s ts))

-- ## Choices are no unions

abbrev pub Plain : Ty → Type 0
Plain t = is_union t ≡ false

or-plain : {l : List Ty} → All Plain l → All Plain (or_unknown l)
or-plain empty = unfold is_union in also refl empty
or-plain (also p ps) = also p ps

mutual
  unfolding choices is_union

  pub choices-plain : (t : Ty) → All Plain (choices t)
  choices-plain (base b) = also refl empty
  choices-plain (t_list t) = also refl empty
  choices-plain (t_map fs) = also refl empty
  choices-plain (t_node ls) = also refl empty
  choices-plain (t_relationship n) = also refl empty
  choices-plain (t_union ts) = or-plain (choices-plain_s ts)

  choices-plain_s : (ts : Tys) → All Plain (choices_s ts)
  choices-plain_s ∅ = empty
  choices-plain_s (t ⊕ ts) = all_append (choices-plain t) (choices-plain_s ts)

-- ## A regular type is left as it is

name-front : (n m : Bytes) (l : List Bytes) → Less n m → insert_name n (m ∷ l) ≡ n ∷ m ∷ l
unfolding insert_name
name-front n m l h = rw (lex-lt h, insert_name)

pub labels-same : (ls : List Bytes) → Ascends ls → insert_names ls [] ≡ ls
unfolding insert_names
labels-same [] h = refl
labels-same (n ∷ ls) h = sym (name-names n ls []) ∙ ap (insert_name n) (labels-same ls h.1) ∙ front ls h.0
  where
    front : (l : List Bytes) → Above n l → insert_name n l ≡ n ∷ l
    front [] p = unfold insert_name in refl
    front (m ∷ l) p = name-front n m l p

option-same : (ls : Option (List Bytes)) → AscendingLabels ls → made_labels ls ≡ ls
unfolding made_labels
option-same none h = refl
option-same (some ls) h = ap some (labels-same ls h)

set_front : (n : Bytes) (t : Ty) (fs : Fields) → Above n (names fs) → set_field n t fs ≡ field n t fs
unfolding names
set_front n t ∅ᶠ p = unfold set_field in refl
set_front n t (field m u fs) p = set-lt n m t u fs p

mutual
  unfolding made members names

  pub made-same : (t : Ty) → Regular t → made t ≡ t
  made-same (base b) h = refl
  made-same (t_list t) h = ap t_list (made-same t h)
  made-same (t_map fs) h = ap t_map (fields-same fs h.0 h.1)
  made-same (t_node ls) h = ap t_node (option-same ls h)
  made-same (t_relationship n) h = refl
  made-same (t_union ts) h = ap unite (members-same ts h.2) ∙ unite-members ts h

  members-same : (ts : Tys) → RegularS ts → made_s ts ≡ members ts
  members-same ∅ h = refl
  members-same (t ⊕ ts) h = ap₂ (λ (x : Ty) (l : List Ty). x ∷ l) (made-same t h.1) (members-same ts h.2)

  fields-same : (fs : Fields) → Ascends (names fs) → RegularF fs → made_f fs ≡ fs
  fields-same ∅ᶠ a h = refl
  fields-same (field n t fs) a h =
      ap₂ (set_field n) (made-same t h.0) (fields-same fs a.1 h.1) ∙ set_front n t fs a.0
