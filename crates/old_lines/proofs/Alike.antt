-- Types that mean the same are made the same. Assumes nothing.
use mathlib.Core.Path.{◌≡◌, refl, sym, ◌∙◌, ap}
use mathlib.Core.Logic.{inl, inr}
use mathlib.Core.List.{List, [], ◌∷◌, map}
use mathlib.Core.Option.{Option, none, some}
use mathlib.Core.Bool.{Bool, true, false, ◌&&◌, not, false≢true}
use Rattle.semantics.specs.Bytes.{Bytes, same}
use Rattle.semantics.specs.Ty.{Ty, base, t_list, t_map, t_node, t_relationship, t_union, Tys, ∅, ◌⊕◌, Fields, ∅ᶠ, field, names, insert, inserts, joined, set_field, get_field, insert_name, insert_names}
use Rattle.semantics.proofs.All.{All, empty, also, all_append, all-weaken}
use Rattle.semantics.proofs.Order.{Less, less-trans, Tri, lt, eq, gt, tri, same_refl, same-lt, same-gt, same-eq, insert-inserts, inserts-swap, set-lt, set-eq, set-gt}
use Rattle.semantics.proofs.Regular.{Ascends}
use Rattle.unify_run.proofs.Gather.{insert-twice}
use Rattle.unify_run.proofs.Labels.{name-twice, name-names}
use Rattle.unify_run.proofs.Maps.{ascends-all}
use Rattle.old_lines.specs.Old.{without, distinct, distinct_names, distinct_names_s, distinct_names_f, made_labels, made, made_f, or_unknown, choices, choices_s, In, Sub, Same, same_choices, Covers, no_choice, a_choice, Among, this, another, Like, bases, lists, maps, no_labels, labels, relationships, Entries, no_entry, an_entry, Holds, first, later}
use Rattle.old_lines.proofs.Made.{made-entries, made-joined}

-- ## Distinct names, all the way down

pub first-true : (a b : Bool) → (a && b) ≡ true → a ≡ true
first-true true b p = refl
first-true false b p = p

pub second-true : (a b : Bool) → (a && b) ≡ true → b ≡ true
second-true true b p = p
second-true false b p = absurd (false≢true p)

abbrev pub Ok : Ty → Type 0
Ok t = distinct_names t ≡ true

or_ok : {l : List Ty} → All Ok l → All Ok (or_unknown l)
or_ok empty = unfold distinct_names in also refl empty
or_ok (also p ps) = also p ps

mutual
  unfolding distinct_names choices

  pub choices-ok : (t : Ty) → Ok t → All Ok (choices t)
  choices-ok (base b) p = also refl empty
  choices-ok (t_list t) p = also p empty
  choices-ok (t_map fs) p = also p empty
  choices-ok (t_node ls) p = also refl empty
  choices-ok (t_relationship n) p = also refl empty
  choices-ok (t_union ts) p = or_ok (choices-ok_s ts p)

  choices-ok_s : (ts : Tys) → distinct_names_s ts ≡ true → All Ok (choices_s ts)
  choices-ok_s ∅ p = empty
  choices-ok_s (t ⊕ ts) p = all_append (choices-ok t (first-true (distinct_names t) (distinct_names_s ts) p)) (choices-ok_s ts (second-true (distinct_names t) (distinct_names_s ts) p))

-- ## Entries by their names

abbrev pub made_o : Option Ty → Option Ty
made_o none = none
made_o (some t) = some (made t)

get-head : (n : Bytes) (t : Ty) (fs : Fields) → get_field n (field n t fs) ≡ some t
unfolding get_field
get-head n t fs = rw (same_refl n, get_field)

pub get-here : (n m : Bytes) (t : Ty) (fs : Fields) → same n m ≡ true → get_field n (field m t fs) ≡ some t
unfolding get_field
get-here n m t fs h = rw (h, get_field)

pub get-past : (n m : Bytes) (t : Ty) (fs : Fields) → same n m ≡ false → get_field n (field m t fs) ≡ get_field n fs
unfolding get_field
get-past n m t fs h = rw (h, get_field)

get-same : (n : Bytes) (x : Ty) (fs : Fields) → get_field n (set_field n x fs) ≡ some x
get-same n x ∅ᶠ = unfold set_field in get-head n x ∅ᶠ
get-same n x (field k u fs) = go (get-same n x fs) (tri n k)
  where
    go : get_field n (set_field n x fs) ≡ some x → Tri n k → get_field n (set_field n x (field k u fs)) ≡ some x
    go ih (lt h) = rw (set-lt n k x u fs h) (get-head n x (field k u fs))
    go ih (eq h) = rw (h, set-eq k x u fs) (get-head k x fs)
    go ih (gt h) = rw (set-gt n k x u fs h) (get-past n k u (set_field n x fs) (same-gt h) ∙ ih)

get_other : (n m : Bytes) (x : Ty) → same n m ≡ false → (fs : Fields) → get_field n (set_field m x fs) ≡ get_field n fs
get_other n m x d ∅ᶠ = unfold set_field in get-past n m x ∅ᶠ d
get_other n m x d (field k u fs) = go (get_other n m x d fs) (tri m k)
  where
    both : (c : Bool) → same n k ≡ c → get_field n (set_field m x fs) ≡ get_field n fs → get_field n (field k u (set_field m x fs)) ≡ get_field n (field k u fs)
    both true e ih = get-here n k u (set_field m x fs) e ∙ sym (get-here n k u fs e)
    both false e ih = get-past n k u (set_field m x fs) e ∙ ih ∙ sym (get-past n k u fs e)

    go : get_field n (set_field m x fs) ≡ get_field n fs → Tri m k → get_field n (set_field m x (field k u fs)) ≡ get_field n (field k u fs)
    go ih (lt h) = rw (set-lt m k x u fs h) (get-past n m x (field k u fs) d)
    go ih (eq h) = rw (h, set-eq k x u fs) (get-past n k x fs (rw (← h) d) ∙ sym (get-past n k u fs (rw (← h) d)))
    go ih (gt h) = rw (set-gt m k x u fs h) (both (same n k) refl ih)

-- what is found of what is made
pub get-made : (n : Bytes) (fs : Fields) → get_field n (made_f fs) ≡ made_o (get_field n fs)
unfolding made
get-made n ∅ᶠ = unfold get_field in refl
get-made n (field m t fs) = go (same n m) refl (get-made n fs)
  where
    go : (c : Bool) → same n m ≡ c → get_field n (made_f fs) ≡ made_o (get_field n fs) → get_field n (set_field m (made t) (made_f fs)) ≡ made_o (get_field n (field m t fs))
    go true e ih = rw (same-eq e) (get-same m (made t) (made_f fs)) ∙ sym (ap made_o (get-here n m t fs e))
    go false e ih = get_other n m (made t) e (made_f fs) ∙ ih ∙ sym (ap made_o (get-past n m t fs e))

-- entries in order are told by what is found
get_none : (n : Bytes) (fs : Fields) → All (Less n) (names fs) → get_field n fs ≡ none
unfolding names
get_none n ∅ᶠ a = unfold get_field in refl
get_none n (field m u fs) (also p a) = get-past n m u fs (same-lt p) ∙ get_none n fs a

abbrev pub is_there : Option Ty → Bool
is_there none = false
is_there (some t) = true

pub some-eq : {A : Type 0} {a b : A} → some a ≡ some b → a ≡ b
some-eq {A} {a} {b} e = ap (λ (o : Option A). elim o [ none ↦ a | some c ↦ c ]) e

pub get-nothing : (n : Bytes) → get_field n ∅ᶠ ≡ none
unfolding get_field
get-nothing n = refl

fields-front : (n m : Bytes) (t u : Ty) (fs gs : Fields) → Less n m → All (Less m) (names gs) → ((k : Bytes) → get_field k (field n t fs) ≡ get_field k (field m u gs)) → ⊥
fields-front n m t u fs gs h a e =
    let g = get-past n m u gs (same-lt h) ∙ get_none n gs (all-weaken (λ k q. less-trans h q) a) in
    false≢true (ap is_there (sym g ∙ sym (e n) ∙ get-head n t fs))

pub fields_told : (fs gs : Fields) → Ascends (names fs) → Ascends (names gs) → ((n : Bytes) → get_field n fs ≡ get_field n gs) → fs ≡ gs
unfolding names
fields_told ∅ᶠ ∅ᶠ a b e = refl
fields_told ∅ᶠ (field m u gs) a b e = absurd (false≢true (ap is_there (sym (get-nothing m) ∙ e m ∙ get-head m u gs)))
fields_told (field n t fs) ∅ᶠ a b e = absurd (false≢true (ap is_there (sym (get-nothing n) ∙ sym (e n) ∙ get-head n t fs)))
fields_told (field n t fs) (field m u gs) a b e = go (tri n m) (λ d. fields_told fs gs a.1 b.1 d)
  where
    above : All (Less n) (names fs)
    above = ascends-all n (names fs) a

    beyond : All (Less m) (names gs)
    beyond = ascends-all m (names gs) b

    rest : n ≡ m → (k : Bytes) → get_field k fs ≡ get_field k gs
    rest q k = at (same k n) refl
      where
        at : (c : Bool) → same k n ≡ c → get_field k fs ≡ get_field k gs
        at true p = rw (same-eq p) (get_none n fs above ∙ sym (get_none n gs (rw q beyond)))
        at false p = sym (get-past k n t fs p) ∙ e k ∙ get-past k m u gs (rw (← q) p)

    go : Tri n m → (((k : Bytes) → get_field k fs ≡ get_field k gs) → fs ≡ gs) → field n t fs ≡ field m u gs
    go (lt h) ih = absurd (fields-front n m t u fs gs h beyond e)
    go (eq h) ih =
        let x : t ≡ u = some-eq (sym (get-head n t fs) ∙ e n ∙ get-here n m u gs (rw h (same_refl m))) in
        let y : fs ≡ gs = ih (rest h) in
        cc
    go (gt h) ih = absurd (fields-front m n u t gs fs h above (λ k. sym (e k)))

-- ## Entries that are made the same

-- the entries of the second hold what the first's entry is made
pub data Found (n : Bytes) (x : Ty) : Fields → Type 0 where
  found : {u : Ty} {gs : Fields} → x ≡ made u → Found n x (field n u gs)
  further : {m : Bytes} {u : Ty} {gs : Fields} → Found n x gs → Found n x (field m u gs)

pub data AllFound : Fields → Fields → Type 0 where
  none_found : {gs : Fields} → AllFound ∅ᶠ gs
  one_found : {n : Bytes} {t : Ty} {fs gs : Fields} → Found n (made t) gs → AllFound fs gs → AllFound (field n t fs) gs

not-without : (n : Bytes) (x : Ty) {gs : Fields} → Found n x gs → (m : Bytes) → without m (names gs) ≡ true → same n m ≡ false
unfolding without names
not-without n x (found {u} {gs} e) m w = go (same m n) refl (first-true (not (same m n)) (without m (names gs)) w)
  where
    go : (c : Bool) → same m n ≡ c → not c ≡ true → same n m ≡ false
    go true p h = absurd (false≢true h)
    go false p h = other (tri n m)
      where
        other : Tri n m → same n m ≡ false
        other (lt q) = same-lt q
        other (eq q) = absurd (false≢true (sym p ∙ rw q (same_refl m)))
        other (gt q) = same-gt q
not-without n x (further {m = k} {gs} f) m w = not-without n x f m (second-true (not (same m k)) (without m (names gs)) w)

found_get : (n : Bytes) (x : Ty) {gs : Fields} → distinct (names gs) ≡ true → Found n x gs → made_o (get_field n gs) ≡ some x
unfolding distinct names
found_get n x d (found {u} {gs} e) = ap made_o (get-head n u gs) ∙ ap some (sym e)
found_get n x d (further {m} {u} {gs} f) =
    let w = first-true (without m (names gs)) (distinct (names gs)) d in
    ap made_o (get-past n m u gs (not-without n x f m w)) ∙ found_get n x (second-true (without m (names gs)) (distinct (names gs)) d) f

all-get : (n : Bytes) (t : Ty) (fs : Fields) {gs : Fields} → distinct (names gs) ≡ true → AllFound fs gs → get_field n fs ≡ some t → made_o (get_field n gs) ≡ some (made t)
all-get n t ∅ᶠ d a e = absurd (false≢true (ap is_there (sym (get-nothing n) ∙ e)))
all-get n t (field m u fs) {gs} d (one_found f a) e = go (same n m) refl (all-get n t fs d a)
  where
    go : (c : Bool) → same n m ≡ c → (get_field n fs ≡ some t → made_o (get_field n gs) ≡ some (made t)) → made_o (get_field n gs) ≡ some (made t)
    go true p ih = rw (same-eq p) (found_get m (made u) d f) ∙ ap (λ (v : Ty). some (made v)) (some-eq (sym (get-here n m u fs p) ∙ e))
    go false p ih = ih (sym (get-past n m u fs p) ∙ e)

pub found-made : (fs gs : Fields) → distinct (names fs) ≡ true → distinct (names gs) ≡ true → AllFound fs gs → AllFound gs fs → made_f fs ≡ made_f gs
found-made fs gs d e a b = fields_told (made_f fs) (made_f gs) (made-entries fs).0 (made-entries gs).0 (λ n. get-made n fs ∙ either n (get_field n fs) refl (get_field n gs) refl ∙ sym (get-made n gs))
  where
    either : (n : Bytes) (x : Option Ty) → get_field n fs ≡ x → (y : Option Ty) → get_field n gs ≡ y → made_o (get_field n fs) ≡ made_o (get_field n gs)
    either n (some t) p y q = ap made_o p ∙ sym (all-get n t fs e a p)
    either n none p (some u) q = all-get n u gs d b q ∙ sym (ap made_o q)
    either n none p none q = ap made_o p ∙ sym (ap made_o q)

-- ## Labels

names-swap : (a b l : List Bytes) → insert_names a (insert_names b l) ≡ insert_names b (insert_names a l)
unfolding insert_names
names-swap [] b l = refl
names-swap (x ∷ a) b l = ap (insert_names a) (name-names x b l) ∙ names-swap a b (insert_name x l)

in-names : (n : Bytes) (ms : List Bytes) → In n ms → (l : List Bytes) → insert_name n (insert_names ms l) ≡ insert_names ms l
unfolding insert_names
in-names n [] i l = absurd i
in-names n (m ∷ ms) (inl e) l = rw e (name-names m ms (insert_name m l) ∙ ap (insert_names ms) (name-twice m l))
in-names n (m ∷ ms) (inr i) l = in-names n ms i (insert_name m l)

sub-names : (ns ms : List Bytes) → Sub ns ms → (l : List Bytes) → insert_names ns (insert_names ms l) ≡ insert_names ms l
unfolding insert_names
sub-names [] ms s l = refl
sub-names (n ∷ ns) ms s l = ap (insert_names ns) (in-names n ms s.0 l) ∙ sub-names ns ms s.1 l

labels-made : (ns ms : List Bytes) → Sub ns ms → Sub ms ns → insert_names ns [] ≡ insert_names ms []
labels-made ns ms a b = sym (sub-names ms ns b []) ∙ names-swap ms ns [] ∙ sub-names ns ms a []

-- ## Types that mean the same

pub map-ok : (fs : Fields) → Ok (t_map fs) → (distinct (names fs) ≡ true) × (distinct_names_f fs ≡ true)
unfolding distinct_names
map-ok fs p = (first-true (distinct (names fs)) (distinct_names_f fs) p, second-true (distinct (names fs)) (distinct_names_f fs) p)

pub field-ok : (n : Bytes) (t : Ty) (fs : Fields) → distinct_names_f (field n t fs) ≡ true → Ok t × (distinct_names_f fs ≡ true)
unfolding distinct_names
field-ok n t fs p = (first-true (distinct_names t) (distinct_names_f fs) p, second-true (distinct_names t) (distinct_names_f fs) p)

pub list-ok : (t : Ty) → Ok (t_list t) → Ok t
unfolding distinct_names
list-ok t p = p

all_first : {P : Ty → Type 0} {x : Ty} {xs : List Ty} → All P (x ∷ xs) → P x
all_first (also p ps) = p

all_rest : {P : Ty → Type 0} {x : Ty} {xs : List Ty} → All P (x ∷ xs) → All P xs
all_rest (also p ps) = ps

mutual
  unfolding inserts made made_labels

  pub same-made : {t u : Ty} → Same t u → Ok t → Ok u → made t ≡ made u
  same-made (same_choices {t} {u} a b) p q =
      made-joined t
      ∙ ap joined (sym (covers-made b (choices-ok u q) (choices-ok t p) []) ∙ inserts-swap (map made (choices u)) (map made (choices t)) [] ∙ covers-made a (choices-ok t p) (choices-ok u q) [])
      ∙ sym (made-joined u)

  covers-made : {ts us : List Ty} → Covers ts us → All Ok ts → All Ok us → (ms : List Ty) → inserts (map made ts) (inserts (map made us) ms) ≡ inserts (map made us) ms
  covers-made no_choice p q ms = refl
  covers-made (a_choice {t} {ts} h c) p q ms = ap (inserts (map made ts)) (among-made h (all_first p) q ms) ∙ covers-made c (all_rest p) q ms

  among-made : {t : Ty} {us : List Ty} → Among t us → Ok t → All Ok us → (ms : List Ty) → insert (made t) (inserts (map made us) ms) ≡ inserts (map made us) ms
  among-made (this {t} {u} {us} l) p q ms =
      insert-inserts (made t) (map made us) (insert (made u) ms)
      ∙ ap (λ (x : Ty). inserts (map made us) (insert x (insert (made u) ms))) (like-made l p (all_first q)) ∙ ap (inserts (map made us)) (insert-twice (made u) ms)
  among-made (another {u} a) p q ms = among-made a p (all_rest q) (insert (made u) ms)

  like-made : {t u : Ty} → Like t u → Ok t → Ok u → made t ≡ made u
  like-made bases p q = refl
  like-made (lists {t} {u} s) p q = ap t_list (same-made s (list-ok t p) (list-ok u q))
  like-made (maps {fs} {gs} a b) p q =
      let x = map-ok fs p in
      let y = map-ok gs q in
      ap t_map (found-made fs gs x.0 y.0 (entries-made a x.1 y.1) (entries-made b y.1 x.1))
  like-made no_labels p q = refl
  like-made (labels {ls} {ks} a b) p q = ap (λ (l : List Bytes). t_node (some l)) (labels-made ls ks a b)
  like-made relationships p q = refl

  entries-made : {fs gs : Fields} → Entries fs gs → distinct_names_f fs ≡ true → distinct_names_f gs ≡ true → AllFound fs gs
  entries-made no_entry p q = none_found
  entries-made (an_entry {n} {t} {fs} h a) p q = let x = field-ok n t fs p in one_found (holds-made h x.0 q) (entries-made a x.1 q)

  holds-made : {n : Bytes} {t : Ty} {gs : Fields} → Holds n t gs → Ok t → distinct_names_f gs ≡ true → Found n (made t) gs
  holds-made (first {n} {t} {u} {gs} s) p q = found (same-made s p (field-ok n u gs q).0)
  holds-made (later {m} {u} {gs} h) p q = further (holds-made h p (field-ok m u gs q).1)
