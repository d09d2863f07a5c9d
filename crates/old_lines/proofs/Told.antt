-- Types that are made the same mean the same. Assumes nothing.
use mathlib.Core.Path.{◌≡◌, refl, sym, ◌∙◌, ap, subst}
use mathlib.Core.Logic.{◌⊎◌, inl, inr, ⊎_elim}
use mathlib.Core.List.{List, [], ◌∷◌, map}
use mathlib.Core.Option.{Option, none, some}
use mathlib.Core.Bool.{Bool, true, false, not, false≢true}
use Prim.Native.Nat.{ℕ, ◌≤◌}
use native.Mathlib.Omega.{arith}
use lib.ListN.{length}
use Rattle.semantics.specs.Bytes.{Bytes, same}
use Rattle.semantics.specs.Ty.{Base, t_unknown, Ty, base, t_list, t_map, t_node, t_relationship, t_union, Tys, ∅, ◌⊕◌, Fields, ∅ᶠ, field, names, insert, inserts, opened, get_field, insert_name, insert_names, is_union}
use Rattle.semantics.proofs.All.{All, empty, also, all_append}
use Rattle.semantics.proofs.Order.{TriTy, lt, eq, gt, tri_ty, Tri, tri, lex-lt, lex-gt, lex-eq, Less, insert-lt, insert-eq, insert-gt, same-eq, same_refl, same-lt, same-gt}
use Rattle.semantics.proofs.Regular.{Member, inserts-sorted}
use Rattle.unify_run.proofs.Gather.{opened-joined}
use Rattle.old_lines.specs.Old.{without, distinct, distinct_names, distinct_names_s, distinct_names_f, made_labels, made, made_f, or_unknown, choices, choices_s, In, Sub, Same, same_choices, Covers, no_choice, a_choice, Among, this, another, Like, bases, lists, maps, no_labels, labels, relationships, Entries, no_entry, an_entry, Holds, first, later}
use Rattle.old_lines.proofs.Made.{made-regular, made-joined, Plain, choices-plain}
use Rattle.old_lines.proofs.Alike.{Ok, choices-ok, first-true, second-true, made_o, get-made, some-eq, get-here, get-past, get-nothing, is_there, map-ok, field-ok, list-ok}

-- ## Members

abbrev pub InT : Ty → List Ty → Type 0
InT x [] = ⊥
InT x (y ∷ l) = (x ≡ y) ⊎ InT x l

in-put : (x : Ty) (l : List Ty) → InT x (insert x l)
in-put x [] = unfold insert in inl refl
in-put x (y ∷ l) = go (tri_ty x y) (in-put x l)
  where
    go : TriTy x y → InT x (insert x l) → InT x (insert x (y ∷ l))
    go (lt h) ih = rw (insert-lt x y l h) (inl refl)
    go (eq h) ih = rw (h, insert-eq y l) (inl refl)
    go (gt h) ih = rw (insert-gt x y l h) (inr ih)

in-keep : (x y : Ty) (l : List Ty) → InT x l → InT x (insert y l)
in-keep x y [] i = absurd i
in-keep x y (z ∷ l) i = go (tri_ty y z) i (λ j. in-keep x y l j)
  where
    deeper : (InT x l → InT x (insert y l)) → InT x (z ∷ l) → InT x (z ∷ insert y l)
    deeper ih (inl e) = inl e
    deeper ih (inr j) = inr (ih j)

    go : TriTy y z → InT x (z ∷ l) → (InT x l → InT x (insert y l)) → InT x (insert y (z ∷ l))
    go (lt h) j ih = rw (insert-lt y z l h) (inr j)
    go (eq h) j ih = rw (h, insert-eq z l) j
    go (gt h) j ih = rw (insert-gt y z l h) (deeper ih j)

in-back : (x y : Ty) (l : List Ty) → InT x (insert y l) → InT x (y ∷ l)
in-back x y [] i = unfold insert in i
in-back x y (z ∷ l) i = go (tri_ty y z) (λ j. in-back x y l j)
  where
    turned : InT x (y ∷ l) → InT x (y ∷ z ∷ l)
    turned (inl e) = inl e
    turned (inr j) = inr (inr j)

    under : (InT x (insert y l) → InT x (y ∷ l)) → InT x (z ∷ insert y l) → InT x (y ∷ z ∷ l)
    under ih (inl e) = inr (inl e)
    under ih (inr j) = turned (ih j)

    go : TriTy y z → (InT x (insert y l) → InT x (y ∷ l)) → InT x (y ∷ z ∷ l)
    go (lt h) ih = rw (insert-lt y z l h) at i
    go (eq h) ih = inr (rw (h, insert-eq z l) at i)
    go (gt h) ih = under ih (rw (insert-gt y z l h) at i)

in-stay : (x : Ty) (a l : List Ty) → InT x l → InT x (inserts a l)
unfolding inserts
in-stay x [] l i = i
in-stay x (y ∷ a) l i = in-stay x a (insert y l) (in-keep x y l i)

in_all : (x : Ty) (a : List Ty) → InT x a → (l : List Ty) → InT x (inserts a l)
unfolding inserts
in_all x [] i l = absurd i
in_all x (y ∷ a) (inl e) l = in-stay x a (insert y l) (rw e (in-put y l))
in_all x (y ∷ a) (inr i) l = in_all x a i (insert y l)

in-from : (x : Ty) (a l : List Ty) → InT x (inserts a l) → InT x a ⊎ InT x l
unfolding inserts
in-from x [] l i = inr i
in-from x (y ∷ a) l i = ⊎_elim (λ j. inl (inr j)) (λ j. ⊎_elim (λ e. inl (inl e)) (λ k. inr k) (in-back x y l j)) (in-from x a (insert y l) i)

in-only : (x : Ty) (a : List Ty) → InT x (inserts a []) → InT x a
in-only x a i = ⊎_elim (λ j. j) (λ j. absurd j) (in-from x a [] i)

-- ## Labels

name-lt : (n m : Bytes) (l : List Bytes) → Less n m → insert_name n (m ∷ l) ≡ n ∷ m ∷ l
unfolding insert_name
name-lt n m l h = rw (lex-lt h, insert_name)

name-eq : (n : Bytes) (l : List Bytes) → insert_name n (n ∷ l) ≡ n ∷ l
unfolding insert_name
name-eq n l = rw (lex-eq n, insert_name)

name-gt : (n m : Bytes) (l : List Bytes) → Less m n → insert_name n (m ∷ l) ≡ m ∷ insert_name n l
unfolding insert_name
name-gt n m l h = rw (lex-gt h, insert_name)

name-put : (x : Bytes) (l : List Bytes) → In x (insert_name x l)
name-put x [] = unfold insert_name in inl refl
name-put x (y ∷ l) = go (tri x y) (name-put x l)
  where
    go : Tri x y → In x (insert_name x l) → In x (insert_name x (y ∷ l))
    go (lt h) ih = rw (name-lt x y l h) (inl refl)
    go (eq h) ih = rw (h, name-eq y l) (inl refl)
    go (gt h) ih = rw (name-gt x y l h) (inr ih)

name-keep : (x y : Bytes) (l : List Bytes) → In x l → In x (insert_name y l)
name-keep x y [] i = absurd i
name-keep x y (z ∷ l) i = go (tri y z) i (λ j. name-keep x y l j)
  where
    deeper : (In x l → In x (insert_name y l)) → In x (z ∷ l) → In x (z ∷ insert_name y l)
    deeper ih (inl e) = inl e
    deeper ih (inr j) = inr (ih j)

    go : Tri y z → In x (z ∷ l) → (In x l → In x (insert_name y l)) → In x (insert_name y (z ∷ l))
    go (lt h) j ih = rw (name-lt y z l h) (inr j)
    go (eq h) j ih = rw (h, name-eq z l) j
    go (gt h) j ih = rw (name-gt y z l h) (deeper ih j)

name_back : (x y : Bytes) (l : List Bytes) → In x (insert_name y l) → In x (y ∷ l)
name_back x y [] i = unfold insert_name in i
name_back x y (z ∷ l) i = go (tri y z) (λ j. name_back x y l j)
  where
    turned : In x (y ∷ l) → In x (y ∷ z ∷ l)
    turned (inl e) = inl e
    turned (inr j) = inr (inr j)

    under : (In x (insert_name y l) → In x (y ∷ l)) → In x (z ∷ insert_name y l) → In x (y ∷ z ∷ l)
    under ih (inl e) = inr (inl e)
    under ih (inr j) = turned (ih j)

    go : Tri y z → (In x (insert_name y l) → In x (y ∷ l)) → In x (y ∷ z ∷ l)
    go (lt h) ih = rw (name-lt y z l h) at i
    go (eq h) ih = inr (rw (h, name-eq z l) at i)
    go (gt h) ih = under ih (rw (name-gt y z l h) at i)

name-stay : (x : Bytes) (a l : List Bytes) → In x l → In x (insert_names a l)
unfolding insert_names
name-stay x [] l i = i
name-stay x (y ∷ a) l i = name-stay x a (insert_name y l) (name-keep x y l i)

name-all : (x : Bytes) (a : List Bytes) → In x a → (l : List Bytes) → In x (insert_names a l)
unfolding insert_names
name-all x [] i l = absurd i
name-all x (y ∷ a) (inl e) l = name-stay x a (insert_name y l) (rw e (name-put y l))
name-all x (y ∷ a) (inr i) l = name-all x a i (insert_name y l)

name-from : (x : Bytes) (a l : List Bytes) → In x (insert_names a l) → In x a ⊎ In x l
unfolding insert_names
name-from x [] l i = inr i
name-from x (y ∷ a) l i = ⊎_elim (λ j. inl (inr j)) (λ j. ⊎_elim (λ e. inl (inl e)) (λ k. inr k) (name_back x y l j)) (name-from x a (insert_name y l) i)

name-only : (x : Bytes) (a : List Bytes) → In x (insert_names a []) → In x a
name-only x a i = ⊎_elim (λ j. j) (λ j. absurd j) (name-from x a [] i)

sub_of : (ls ks : List Bytes) → ((x : Bytes) → In x ls → In x ks) → Sub ls ks
sub_of [] ks f = tt
sub_of (n ∷ ls) ks f = (f n (inl refl), sub_of ls ks (λ x i. f x (inr i)))

labels-told : (ls ks : List Bytes) → insert_names ls [] ≡ insert_names ks [] → Sub ls ks
labels-told ls ks e = sub_of ls ks (λ x i. name-only x ks (subst (In x) e (name-all x ls i [])))

-- ## What a choice and a type tell

abbrev pub Q : Ty → Type 0
Q c = (d : Ty) → Plain d → Ok d → made c ≡ made d → Like c d × Like d c

abbrev pub P : Ty → Type 0
P t = (u : Ty) → Ok u → made t ≡ made u → Same t u × Same u t

-- each choice of a type is made a member of what the type is made
plain-made : (c : Ty) → Plain c → is_union (made c) ≡ false
unfolding made is_union
plain-made (base b) h = refl
plain-made (t_list t) h = refl
plain-made (t_map fs) h = refl
plain-made (t_node ls) h = refl
plain-made (t_relationship n) h = refl
plain-made (t_union ts) h = absurd (false≢true (sym h))

made-member : {cs : List Ty} → All Plain cs → All Member (map made cs)
made-member empty = empty
made-member (also {x = c} h a) = also (plain-made c h, made-regular c) (made-member a)

some-choices : (t : Ty) → 1 ≤ length (choices t)
unfolding choices
some-choices (base b) = omega arith
some-choices (t_list t) = omega arith
some-choices (t_map fs) = omega arith
some-choices (t_node ls) = omega arith
some-choices (t_relationship n) = omega arith
some-choices (t_union ts) = go (choices_s ts)
  where
    go : (l : List Ty) → 1 ≤ length (or_unknown l)
    go [] = omega arith
    go (x ∷ l) = omega arith

in_some : (x : Ty) (l : List Ty) → InT x l → 1 ≤ length l
in_some x [] i = absurd i
in_some x (y ∷ l) i = omega arith

made_some : (x : Ty) (a : List Ty) → 1 ≤ length (inserts (x ∷ a) [])
made_some x a = in_some x (inserts (x ∷ a) []) (in_all x (x ∷ a) (inl refl) [])

members-some : (cs : List Ty) → 1 ≤ length cs → 1 ≤ length (inserts (map made cs) [])
members-some [] h = absurd (omega arith)
members-some (c ∷ cs) h = made_some (made c) (map made cs)

opened-made : (t : Ty) → opened (made t) ≡ inserts (map made (choices t)) []
opened-made t =
    ap opened (made-joined t)
    ∙ opened-joined (inserts (map made (choices t)) []) (members-some (choices t) (some-choices t)) (inserts-sorted (made-member (choices-plain t)) [] (tt, empty)).1

in_map : (c : Ty) (cs : List Ty) → InT c cs → InT (made c) (map made cs)
in_map c [] i = absurd i
in_map c (d ∷ cs) (inl e) = inl (ap made e)
in_map c (d ∷ cs) (inr i) = inr (in_map c cs i)

-- a choice of the one is made as a choice of the other
meets : (t u : Ty) → made t ≡ made u → (c : Ty) → InT c (choices t) → InT (made c) (map made (choices u))
meets t u e c i = in-only (made c) (map made (choices u)) (subst (InT (made c)) (sym (opened-made t) ∙ ap opened e ∙ opened-made u) (in_all (made c) (map made (choices t)) (in_map c (choices t) i) []))

-- a choice that tells, among others; and another among choices that tell
among-told : (c : Ty) → Q c → {ds : List Ty} → All Plain ds → All Ok ds → InT (made c) (map made ds) → Among c ds
among-told c q empty o i = absurd i
among-told c q (also {x = d} p ps) (also o os) (inl e) = this (q d p o e).0
among-told c q (also p ps) (also o os) (inr i) = another (among-told c q ps os i)

among-telling : (d : Ty) → Plain d → Ok d → {cs : List Ty} → All Q cs → InT (made d) (map made cs) → Among d cs
among-telling d p o empty i = absurd i
among-telling d p o (also {x = c} q qs) (inl e) = this (q d p o (sym e)).1
among-telling d p o (also q qs) (inr i) = another (among-telling d p o qs i)

covers-told : {cs : List Ty} → All Q cs → {ds : List Ty} → All Plain ds → All Ok ds → ((c : Ty) → InT c cs → InT (made c) (map made ds)) → Covers cs ds
covers-told empty p o f = no_choice
covers-told (also {x = c} q qs) p o f = a_choice (among-told c q p o (f c (inl refl))) (covers-told qs p o (λ x i. f x (inr i)))

covers-telling : {ds : List Ty} → All Plain ds → All Ok ds → {cs : List Ty} → All Q cs → ((d : Ty) → InT d ds → InT (made d) (map made cs)) → Covers ds cs
covers-telling empty o q f = no_choice
covers-telling (also {x = d} p ps) (also o os) q f = a_choice (among-telling d p o q (f d (inl refl))) (covers-telling ps os q (λ x i. f x (inr i)))

tells : (t : Ty) → All Q (choices t) → P t
tells t q u o e =
    let a = covers-told q (choices-plain u) (choices-ok u o) (meets t u e) in
    let b = covers-telling (choices-plain u) (choices-ok u o) q (meets u t (sym e)) in
    (same_choices a b, same_choices b a)

-- ## Each kind of type

abbrev tag : Ty → ℕ
tag (base b) = 0
tag (t_list t) = 1
tag (t_map fs) = 2
tag (t_node ls) = 3
tag (t_relationship n) = 4
tag (t_union ts) = 5

-- what a type that is no union is made has its kind
tag-made : (d : Ty) → Plain d → tag (made d) ≡ tag d
unfolding made is_union
tag-made (base b) p = refl
tag-made (t_list t) p = refl
tag-made (t_map fs) p = refl
tag-made (t_node ls) p = refl
tag-made (t_relationship n) p = refl
tag-made (t_union ts) p = absurd (false≢true (sym p))

apart : (c d : Ty) → Plain c → Plain d → made c ≡ made d → tag c ≡ tag d
apart c d p q e = sym (tag-made c p) ∙ ap tag e ∙ tag-made d q

plain : (c : Ty) → tag c ≤ 4 → Plain c
unfolding is_union
plain (base b) h = refl
plain (t_list t) h = refl
plain (t_map fs) h = refl
plain (t_node ls) h = refl
plain (t_relationship n) h = refl
plain (t_union ts) h = absurd (omega arith)

tell-base : (b : Base) → Q (base b)
tell-base b (base c) p o e = unfold made in (subst (λ (x : Ty). Like (base b) x × Like x (base b)) e (bases, bases))
tell-base b (t_list u) p o e = absurd (let h = apart (base b) (t_list u) (plain (base b) (omega arith)) p e in omega arith)
tell-base b (t_map gs) p o e = absurd (let h = apart (base b) (t_map gs) (plain (base b) (omega arith)) p e in omega arith)
tell-base b (t_node ks) p o e = absurd (let h = apart (base b) (t_node ks) (plain (base b) (omega arith)) p e in omega arith)
tell-base b (t_relationship m) p o e = absurd (let h = apart (base b) (t_relationship m) (plain (base b) (omega arith)) p e in omega arith)
tell-base b (t_union us) p o e = absurd (let h = apart (base b) (t_union us) (plain (base b) (omega arith)) p e in omega arith)

abbrev element_in : Ty → Ty → Ty
element_in (t_list t) d = t
element_in (base b) d = d
element_in (t_map fs) d = d
element_in (t_node ls) d = d
element_in (t_relationship n) d = d
element_in (t_union ts) d = d

tell-list : (t : Ty) → P t → Q (t_list t)
tell-list t h (t_list u) p o e =
    let s = h u (list-ok u o) (unfold made in ap (λ (x : Ty). element_in x (made t)) e) in
    (lists s.0, lists s.1)
tell-list t h (base c) p o e = absurd (let k = apart (t_list t) (base c) (plain (t_list t) (omega arith)) p e in omega arith)
tell-list t h (t_map gs) p o e = absurd (let k = apart (t_list t) (t_map gs) (plain (t_list t) (omega arith)) p e in omega arith)
tell-list t h (t_node ks) p o e = absurd (let k = apart (t_list t) (t_node ks) (plain (t_list t) (omega arith)) p e in omega arith)
tell-list t h (t_relationship m) p o e = absurd (let k = apart (t_list t) (t_relationship m) (plain (t_list t) (omega arith)) p e in omega arith)
tell-list t h (t_union us) p o e = absurd (let k = apart (t_list t) (t_union us) (plain (t_list t) (omega arith)) p e in omega arith)

abbrev name_in : Ty → Option Bytes
name_in (t_relationship n) = n
name_in (base b) = none
name_in (t_list t) = none
name_in (t_map fs) = none
name_in (t_node ls) = none
name_in (t_union ts) = none

tell-relationship : (n : Option Bytes) → Q (t_relationship n)
tell-relationship n (t_relationship m) p o e =
    let q : n ≡ m = unfold made in ap name_in e in
    subst (λ (x : Option Bytes). Like (t_relationship n) (t_relationship x) × Like (t_relationship x) (t_relationship n)) q (relationships, relationships)
tell-relationship n (base c) p o e = absurd (let k = apart (t_relationship n) (base c) (plain (t_relationship n) (omega arith)) p e in omega arith)
tell-relationship n (t_list u) p o e = absurd (let k = apart (t_relationship n) (t_list u) (plain (t_relationship n) (omega arith)) p e in omega arith)
tell-relationship n (t_map gs) p o e = absurd (let k = apart (t_relationship n) (t_map gs) (plain (t_relationship n) (omega arith)) p e in omega arith)
tell-relationship n (t_node ks) p o e = absurd (let k = apart (t_relationship n) (t_node ks) (plain (t_relationship n) (omega arith)) p e in omega arith)
tell-relationship n (t_union us) p o e = absurd (let k = apart (t_relationship n) (t_union us) (plain (t_relationship n) (omega arith)) p e in omega arith)

abbrev labels_in : Ty → Option (List Bytes)
labels_in (t_node ls) = ls
labels_in (base b) = none
labels_in (t_list t) = none
labels_in (t_map fs) = none
labels_in (t_relationship n) = none
labels_in (t_union ts) = none

abbrev has_labels : Option (List Bytes) → Bool
has_labels none = false
has_labels (some ls) = true

abbrev list_in : Option (List Bytes) → List Bytes
list_in none = []
list_in (some ls) = ls

nodes-told : (ls ks : Option (List Bytes)) → made_labels ls ≡ made_labels ks → Like (t_node ls) (t_node ks)
unfolding made_labels
nodes-told none none e = no_labels
nodes-told none (some ks) e = absurd (false≢true (ap has_labels e))
nodes-told (some ls) none e = absurd (false≢true (sym (ap has_labels e)))
nodes-told (some ls) (some ks) e = labels (labels-told ls ks (ap list_in e)) (labels-told ks ls (sym (ap list_in e)))

tell-node : (ls : Option (List Bytes)) → Q (t_node ls)
tell-node ls (t_node ks) p o e = let q : made_labels ls ≡ made_labels ks = unfold made in ap labels_in e in (nodes-told ls ks q, nodes-told ks ls (sym q))
tell-node ls (base c) p o e = absurd (let k = apart (t_node ls) (base c) (plain (t_node ls) (omega arith)) p e in omega arith)
tell-node ls (t_list u) p o e = absurd (let k = apart (t_node ls) (t_list u) (plain (t_node ls) (omega arith)) p e in omega arith)
tell-node ls (t_map gs) p o e = absurd (let k = apart (t_node ls) (t_map gs) (plain (t_node ls) (omega arith)) p e in omega arith)
tell-node ls (t_relationship m) p o e = absurd (let k = apart (t_node ls) (t_relationship m) (plain (t_node ls) (omega arith)) p e in omega arith)
tell-node ls (t_union us) p o e = absurd (let k = apart (t_node ls) (t_union us) (plain (t_node ls) (omega arith)) p e in omega arith)

-- ## Maps

-- an entry
abbrev Entry : Bytes → Ty → Fields → Type 0
Entry n t ∅ᶠ = ⊥
Entry n t (field m u fs) = ((n ≡ m) × (t ≡ u)) ⊎ Entry n t fs

abbrev AllP : Fields → Type 0
AllP ∅ᶠ = Unit {0}
AllP (field n t fs) = P t × AllP fs

not_same : (n m : Bytes) → not (same m n) ≡ true → same n m ≡ false
not_same n m h = go (tri n m)
  where
    go : Tri n m → same n m ≡ false
    go (lt q) = same-lt q
    go (eq q) = let r : same m n ≡ true = rw q (same_refl m) in absurd (false≢true (sym (ap not r) ∙ h))
    go (gt q) = same-gt q

absent : (n : Bytes) (t : Ty) (fs : Fields) → Entry n t fs → (m : Bytes) → without m (names fs) ≡ true → same n m ≡ false
unfolding without names
absent n t ∅ᶠ i m w = absurd i
absent n t (field k u fs) (inl e) m w = rw e.0 (not_same k m (first-true (not (same m k)) (without m (names fs)) w))
absent n t (field k u fs) (inr i) m w = absent n t fs i m (second-true (not (same m k)) (without m (names fs)) w)

entry-get : (n : Bytes) (t : Ty) (fs : Fields) → distinct (names fs) ≡ true → Entry n t fs → get_field n fs ≡ some t
unfolding distinct names
entry-get n t ∅ᶠ d i = absurd i
entry-get n t (field m u fs) d (inl e) = get-here n m u fs (rw e.0 (same_refl m)) ∙ ap some (sym e.1)
entry-get n t (field m u fs) d (inr i) =
    let w = first-true (without m (names fs)) (distinct (names fs)) d in
    get-past n m u fs (absent n t fs i m w) ∙ entry-get n t fs (second-true (without m (names fs)) (distinct (names fs)) d) i

-- from what is found to an entry that means the same
holds-told : (n : Bytes) (t : Ty) → P t → (gs : Fields) → distinct_names_f gs ≡ true → made_o (get_field n gs) ≡ some (made t) → Holds n t gs
holds-told n t h ∅ᶠ o e = absurd (false≢true (ap is_there (sym (ap made_o (get-nothing n)) ∙ e)))
holds-told n t h (field m u gs) o e = go (same n m) refl (holds-told n t h gs (field-ok m u gs o).1)
  where
    go : (c : Bool) → same n m ≡ c → (made_o (get_field n gs) ≡ some (made t) → Holds n t gs) → Holds n t (field m u gs)
    go true p ih =
        let x : made u ≡ made t = some-eq (sym (ap made_o (get-here n m u gs p)) ∙ e) in
        subst (λ (k : Bytes). Holds n t (field k u gs)) (same-eq p) (first (h u (field-ok m u gs o).0 (sym x)).0)
    go false p ih = later (ih (sym (ap made_o (get-past n m u gs p)) ∙ e))

holds-telling : (n : Bytes) (u : Ty) → Ok u → (fs : Fields) → AllP fs → made_o (get_field n fs) ≡ some (made u) → Holds n u fs
holds-telling n u o ∅ᶠ h e = absurd (false≢true (ap is_there (sym (ap made_o (get-nothing n)) ∙ e)))
holds-telling n u o (field m t fs) h e = go (same n m) refl (holds-telling n u o fs h.1)
  where
    go : (c : Bool) → same n m ≡ c → (made_o (get_field n fs) ≡ some (made u) → Holds n u fs) → Holds n u (field m t fs)
    go true p ih =
        let x : made t ≡ made u = some-eq (sym (ap made_o (get-here n m t fs p)) ∙ e) in
        subst (λ (k : Bytes). Holds n u (field k t fs)) (same-eq p) (first (h.0 u o x).1)
    go false p ih = later (ih (sym (ap made_o (get-past n m t fs p)) ∙ e))

entries-told : (fs gs : Fields) → AllP fs → distinct_names_f gs ≡ true → ((n : Bytes) (t : Ty) → Entry n t fs → made_o (get_field n gs) ≡ some (made t)) → Entries fs gs
entries-told ∅ᶠ gs h o f = no_entry
entries-told (field n t fs) gs h o f = an_entry (holds-told n t h.0 gs o (f n t (inl (refl, refl)))) (entries-told fs gs h.1 o (λ m u i. f m u (inr i)))

entries-telling : (gs fs : Fields) → distinct_names_f gs ≡ true → AllP fs → ((m : Bytes) (u : Ty) → Entry m u gs → made_o (get_field m fs) ≡ some (made u)) → Entries gs fs
entries-telling ∅ᶠ fs o h f = no_entry
entries-telling (field m u gs) fs o h f = let x = field-ok m u gs o in an_entry (holds-telling m u x.0 fs h (f m u (inl (refl, refl)))) (entries-telling gs fs x.1 h (λ n t i. f n t (inr i)))

abbrev fields_in : Ty → Fields
fields_in (t_map fs) = fs
fields_in (base b) = ∅ᶠ
fields_in (t_list t) = ∅ᶠ
fields_in (t_node ls) = ∅ᶠ
fields_in (t_relationship n) = ∅ᶠ
fields_in (t_union ts) = ∅ᶠ

-- where two maps are made the same, what is found in them is
across : (fs gs : Fields) → distinct (names fs) ≡ true → made_f fs ≡ made_f gs → (n : Bytes) (t : Ty) → Entry n t fs → made_o (get_field n gs) ≡ some (made t)
across fs gs d e n t i = sym (get-made n gs) ∙ ap (get_field n) (sym e) ∙ get-made n fs ∙ ap made_o (entry-get n t fs d i)

tell-map : (fs : Fields) → Ok (t_map fs) → AllP fs → Q (t_map fs)
tell-map fs ok h (t_map gs) p o e =
    let q : made_f fs ≡ made_f gs = unfold made in ap fields_in e in
    let x = map-ok fs ok in
    let y = map-ok gs o in
    let a = entries-told fs gs h y.1 (across fs gs x.0 q) in
    let b = entries-telling gs fs y.1 h (across gs fs y.0 (sym q)) in
    (maps a b, maps b a)
tell-map fs ok h (base c) p o e = absurd (let k = apart (t_map fs) (base c) (plain (t_map fs) (omega arith)) p e in omega arith)
tell-map fs ok h (t_list u) p o e = absurd (let k = apart (t_map fs) (t_list u) (plain (t_map fs) (omega arith)) p e in omega arith)
tell-map fs ok h (t_node ks) p o e = absurd (let k = apart (t_map fs) (t_node ks) (plain (t_map fs) (omega arith)) p e in omega arith)
tell-map fs ok h (t_relationship m) p o e = absurd (let k = apart (t_map fs) (t_relationship m) (plain (t_map fs) (omega arith)) p e in omega arith)
tell-map fs ok h (t_union us) p o e = absurd (let k = apart (t_map fs) (t_union us) (plain (t_map fs) (omega arith)) p e in omega arith)

-- ## Every type tells

or-tells : {l : List Ty} → All Q l → All Q (or_unknown l)
or-tells empty = also (tell-base t_unknown) empty
or-tells (also q qs) = also q qs

mutual
  unfolding choices distinct_names

  pub all_tell : (t : Ty) → Ok t → All Q (choices t)
  all_tell (base b) o = also (tell-base b) empty
  all_tell (t_list t) o = also (tell-list t (tells t (all_tell t o))) empty
  all_tell (t_map fs) o = also (tell-map fs o (all-tell_f fs (second-true (distinct (names fs)) (distinct_names_f fs) o))) empty
  all_tell (t_node ls) o = also (tell-node ls) empty
  all_tell (t_relationship n) o = also (tell-relationship n) empty
  all_tell (t_union ts) o = or-tells (all-tell_s ts o)

  all-tell_s : (ts : Tys) → distinct_names_s ts ≡ true → All Q (choices_s ts)
  all-tell_s ∅ o = empty
  all-tell_s (t ⊕ ts) o = all_append (all_tell t (first-true (distinct_names t) (distinct_names_s ts) o)) (all-tell_s ts (second-true (distinct_names t) (distinct_names_s ts) o))

  all-tell_f : (fs : Fields) → distinct_names_f fs ≡ true → AllP fs
  all-tell_f ∅ᶠ o = tt
  all-tell_f (field n t fs) o = (tells t (all_tell t (first-true (distinct_names t) (distinct_names_f fs) o)), all-tell_f fs (second-true (distinct_names t) (distinct_names_f fs) o))

pub made_told : (t u : Ty) → Ok t → Ok u → made t ≡ made u → Same t u
made_told t u o q e = (tells t (all_tell t o) u q e).0
