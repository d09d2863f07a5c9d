-- How long a type line is, how deep a type nests, and that a union or a map only grows by what joins it. Assumes nothing.
use mathlib.Core.Path.{◌≡◌, refl, sym, ◌∙◌, ap}
use mathlib.Core.List.{List, [], ◌∷◌}
use mathlib.Core.Option.{Option, none, some}
use mathlib.Core.Bool.{Bool, true, false, ◌||◌, false≢true}
use Prim.Native.Nat.{ℕ, suc, ◌+◌, ◌*◌, ◌≤◌, ◌<◌, max}
use native.Mathlib.Omega.{arith}
use lib.ListN.{length}
use lib.Dec.{ltb}
use borrow.Author.Tests.{ltb-true, ltb-false, lt-ltb, le-ltb}
use Rattle.semantics.specs.Limits.{type_limit, nesting_limit}
use Rattle.semantics.specs.Bytes.{Bytes}
use Rattle.semantics.specs.Ty.{Ty, base, t_list, t_map, t_node, t_relationship, t_union, Tys, ∅, ◌⊕◌, Fields, ∅ᶠ, field, members, pack, name_to, names_to, labels_to, rel_to, line_to, members_to, fields_to, line, nesting, nesting_s, nesting_f, too_large, insert, inserts, opened, gather, joined}
use Rattle.semantics.proofs.All.{All, empty, also}
use Rattle.semantics.proofs.Order.{TriTy, lt, eq, gt, tri_ty, insert-lt, insert-eq, insert-gt}
use Rattle.unify_run.specs.Run.{long, attach, sizes}

abbrev pub bytes : Ty → ℕ
bytes t = length (line t)

-- ## What stands behind a line adds its own length

pub name-length : (n r : Bytes) → length (name_to n r) ≡ suc (length n) + length r
unfolding name_to
name-length [] r = omega arith
name-length (d ∷ n) r = omega (arith, name-length n r)

names-length : (ns : List Bytes) (r : Bytes) → length (names_to ns r) ≡ length (names_to ns []) + length r
unfolding names_to
names-length [] r = omega arith
names-length (n ∷ ns) r = omega (arith, name-length n (names_to ns r), name-length n (names_to ns []), names-length ns r)

labels_length : (ls : Option (List Bytes)) (r : Bytes) → length (labels_to ls r) ≡ length (labels_to ls []) + length r
unfolding labels_to
labels_length none r = omega arith
labels_length (some ls) r = omega (arith, names-length ls r)

rel-length : (n : Option Bytes) (r : Bytes) → length (rel_to n r) ≡ length (rel_to n []) + length r
unfolding rel_to
rel-length none r = omega arith
rel-length (some n) r = omega (arith, name-length n r, name-length n [])

mutual
  unfolding line_to

  pub line-length : (t : Ty) (r : Bytes) → length (line_to t r) ≡ length (line_to t []) + length r
  line-length (base b) r = omega arith
  line-length (t_list t) r = omega (arith, line-length t r)
  line-length (t_map fs) r = omega (arith, entries-length fs r)
  line-length (t_node ls) r = omega (arith, labels_length ls r)
  line-length (t_relationship n) r = omega (arith, rel-length n r)
  line-length (t_union ts) r = omega (arith, members-length ts r)

  pub members-length : (ts : Tys) (r : Bytes) → length (members_to ts r) ≡ length (members_to ts []) + length r
  members-length ∅ r = omega arith
  members-length (t ⊕ ts) r = omega (arith, line-length t (members_to ts r), line-length t (members_to ts []), members-length ts r)

  pub entries-length : (fs : Fields) (r : Bytes) → length (fields_to fs r) ≡ length (fields_to fs []) + length r
  entries-length ∅ᶠ r = omega arith
  entries-length (field n t fs) r =
      omega (arith, name-length n (line_to t (fields_to fs r)), name-length n (line_to t (fields_to fs [])), line-length t (fields_to fs r), line-length t (fields_to fs []), entries-length fs r)

-- ## The size of unions and maps

-- the deepest of these types
unfoldable pub deepest : List Ty → ℕ
deepest [] = 0
deepest (t ∷ ts) = max (nesting t) (deepest ts)

-- the lengths of these entries
unfoldable pub entry_sizes : Fields → ℕ
entry_sizes ∅ᶠ = 0
entry_sizes (field n t fs) = suc (length n) + (bytes t + entry_sizes fs)

members-size : (ts : Tys) → length (members_to ts []) ≡ sizes (members ts) + 2
unfolding line_to line members sizes
members-size ∅ = refl
members-size (t ⊕ ts) = omega (arith, line-length t (members_to ts []), members-size ts)

entries-size : (fs : Fields) → length (fields_to fs []) ≡ entry_sizes fs + 2
unfolding line_to line entry_sizes
entries-size ∅ᶠ = refl
entries-size (field n t fs) = omega (arith, name-length n (line_to t (fields_to fs [])), line-length t (fields_to fs []), entries-size fs)

-- 4 more than the members
pub union-bytes : (ts : Tys) → bytes (t_union ts) ≡ sizes (members ts) + 4
unfolding line line_to
union-bytes ts = omega (arith, members-size ts)

-- 4 more than the entries
pub map-bytes : (fs : Fields) → bytes (t_map fs) ≡ entry_sizes fs + 4
unfolding line line_to
map-bytes fs = omega (arith, entries-size fs)

pub list-bytes : (t : Ty) → bytes (t_list t) ≡ bytes t + 2
unfolding line line_to
list-bytes t = omega arith

members-nesting : (ts : Tys) → nesting_s ts ≡ deepest (members ts)
unfolding nesting members deepest
members-nesting ∅ = refl
members-nesting (t ⊕ ts) = ap (max (nesting t)) (members-nesting ts)

pub union-nesting : (ts : Tys) → nesting (t_union ts) ≡ suc (deepest (members ts))
unfolding nesting
union-nesting ts = ap suc (members-nesting ts)

pub members-pack : (ms : List Ty) → members (pack ms) ≡ ms
unfolding members pack
members-pack [] = refl
members-pack (t ∷ ms) = ap (λ l. t ∷ l) (members-pack ms)

-- the same of members that are packed
pub packed-bytes : (ms : List Ty) → bytes (t_union (pack ms)) ≡ sizes ms + 4
packed-bytes ms = union-bytes (pack ms) ∙ ap (λ l. sizes l + 4) (members-pack ms)

pub packed-nesting : (ms : List Ty) → nesting (t_union (pack ms)) ≡ suc (deepest ms)
packed-nesting ms = union-nesting (pack ms) ∙ ap (λ l. suc (deepest l)) (members-pack ms)

pub line-two : (t : Ty) → 2 ≤ bytes t
unfolding line line_to
line-two (base b) = omega arith
line-two (t_list t) = omega arith
line-two (t_map fs) = omega arith
line-two (t_node ls) = omega arith
line-two (t_relationship n) = omega arith
line-two (t_union ts) = omega arith

pub nests : (t : Ty) → 1 ≤ nesting t
unfolding nesting
nests (base b) = omega arith
nests (t_list t) = omega arith
nests (t_map fs) = omega arith
nests (t_node ls) = omega arith
nests (t_relationship n) = omega arith
nests (t_union ts) = omega arith

-- each nesting takes two bytes
mutual
  unfolding nesting line line_to

  pub nesting-size : (t : Ty) → 2 * nesting t ≤ bytes t
  nesting-size (base b) = omega arith
  nesting-size (t_list t) = omega (arith, nesting-size t)
  nesting-size (t_map fs) = omega (arith, nesting-entries fs)
  nesting-size (t_node ls) = omega arith
  nesting-size (t_relationship n) = omega arith
  nesting-size (t_union ts) = omega (arith, nesting-members ts)

  nesting-members : (ts : Tys) → 2 * nesting_s ts ≤ length (members_to ts [])
  nesting-members ∅ = omega arith
  nesting-members (t ⊕ ts) = omega (arith, nesting-size t, line-length t (members_to ts []), nesting-members ts)

  nesting-entries : (fs : Fields) → 2 * nesting_f fs ≤ length (fields_to fs [])
  nesting-entries ∅ᶠ = omega arith
  nesting-entries (field n t fs) = omega (arith, nesting-size t, name-length n (line_to t (fields_to fs [])), line-length t (fields_to fs []), nesting-entries fs)

-- ## Small types, and types no larger than others

abbrev pub Small : Ty → Type 0
Small t = (bytes t ≤ type_limit) × (nesting t ≤ nesting_limit)

pub small-sound : (t : Ty) → too_large t ≡ false → Small t
unfolding too_large
small-sound t p = go (ltb type_limit (bytes t)) (ltb nesting_limit (nesting t)) refl refl p
  where
    go : (a b : Bool) → ltb type_limit (bytes t) ≡ a → ltb nesting_limit (nesting t) ≡ b → (a || b) ≡ false → Small t
    go true b u v q = absurd (false≢true (sym q))
    go false true u v q = absurd (false≢true (sym q))
    go false false u v q = (ltb-false type_limit (bytes t) u, ltb-false nesting_limit (nesting t) v)

pub small-true : (t : Ty) → Small t → too_large t ≡ false
unfolding too_large
small-true t h = rw (le-ltb type_limit (bytes t) h.0, le-ltb nesting_limit (nesting t) h.1)

-- no larger, in bytes and nesting
pub record NoLarger (a b : Ty) : Type 0 where
  pub size : bytes a ≤ bytes b
  pub depth : nesting a ≤ nesting b

pub below-refl : (a : Ty) → NoLarger a a
below-refl a = omega arith

pub below-trans : {a b c : Ty} → NoLarger a b → NoLarger b c → NoLarger a c
below-trans p q = omega arith

pub below-large : {a b : Ty} → NoLarger a b → too_large a ≡ true → too_large b ≡ true
below-large {a} {b} h p = go (too_large b) refl
  where
    go : (c : Bool) → too_large b ≡ c → c ≡ true
    go true q = refl
    go false q = let s = small-sound b q in absurd (false≢true (sym (small-true a (omega arith)) ∙ p))

pub long-large : (t : Ty) → long t ≡ true → too_large t ≡ true
unfolding long too_large
long-large t p = rw p

pub below-long : {a b : Ty} → NoLarger a b → long a ≡ true → long b ≡ true
unfolding long
below-long {a} {b} h p = let l = ltb-true type_limit (bytes a) p in lt-ltb type_limit (bytes b) (omega arith)

-- ## `joined` only grows

-- what insertion does: nothing, or one member more
pub data Put (x : Ty) (ms : List Ty) : List Ty → Type 0 where
  there : Put x ms ms
  more : {r : List Ty} → length r ≡ suc (length ms) → sizes r ≡ bytes x + sizes ms → deepest r ≡ max (nesting x) (deepest ms) → Put x ms r

put-behind : (x y : Ty) (ms : List Ty) {r : List Ty} → Put x ms r → Put x (y ∷ ms) (y ∷ r)
unfolding sizes deepest
put-behind x y ms there = there
put-behind x y ms (more {r} l s d) = more {r = y ∷ r} (omega arith) (omega arith) (omega arith)

put_front : (x : Ty) (ms : List Ty) → Put x ms (x ∷ ms)
unfolding sizes deepest
put_front x ms = more refl refl refl

pub insert-put : (x : Ty) (ms : List Ty) → Put x ms (insert x ms)
insert-put x [] = unfold insert in put_front x []
insert-put x (y ∷ ms) = go (insert-put x ms) (tri_ty x y)
  where
    go : Put x ms (insert x ms) → TriTy x y → Put x (y ∷ ms) (insert x (y ∷ ms))
    go ih (lt h) = rw (insert-lt x y ms h) (put_front x (y ∷ ms))
    go ih (eq h) = rw (h, insert-eq y ms) there
    go ih (gt h) = rw (insert-gt x y ms h) (put-behind x y ms ih)

-- of any members, and of two or more
pub joined-sizes : (ms : List Ty) → (sizes ms ≤ bytes (joined ms)) × (deepest ms ≤ nesting (joined ms))
unfolding joined sizes deepest
joined-sizes [] = (omega arith, omega arith)
joined-sizes (t ∷ []) = (omega arith, omega arith)
joined-sizes (t ∷ u ∷ ts) = let a = packed-bytes (t ∷ u ∷ ts) in let b = packed-nesting (t ∷ u ∷ ts) in (omega arith, omega arith)

pub joined-two : (ms : List Ty) → 2 ≤ length ms → (bytes (joined ms) ≡ sizes ms + 4) × (nesting (joined ms) ≡ suc (deepest ms))
unfolding joined
joined-two [] l = absurd (omega arith)
joined-two (t ∷ []) l = absurd (omega arith)
joined-two (t ∷ u ∷ ts) l = (packed-bytes (t ∷ u ∷ ts), packed-nesting (t ∷ u ∷ ts))

-- the test of the bytes: two members or more take four bytes beside theirs, and one that fits always fits
pub long-two : (ms : List Ty) → 2 ≤ length ms → long (joined ms) ≡ ltb type_limit (sizes ms + 4)
unfolding long
long-two ms l = ap (ltb type_limit) (joined-two ms l).0

pub long-one : (t : Ty) → Small t → long (joined (t ∷ [])) ≡ false
unfolding long joined
long-one t s = le-ltb type_limit (bytes t) s.0

put-grows : (x : Ty) (ms : List Ty) {r : List Ty} → Put x ms r → NoLarger (joined ms) (joined r)
put-grows x ms there = below-refl (joined ms)
put-grows x [] (more {r} l s d) =
    unfold joined sizes deepest line line_to nesting in
    let a = joined-sizes r in
    let b = line-two x in
    let c = nests x in
    omega arith
put-grows x (t ∷ []) (more {r} l s d) =
    unfold joined sizes deepest in
    let a = joined-two r (omega arith) in
    omega arith
put-grows x (t ∷ u ∷ ts) (more {r} l s d) =
    let a = joined-two r (omega arith) in
    let b = joined-two (t ∷ u ∷ ts) (omega arith) in
    omega arith

pub insert-grows : (x : Ty) (ms : List Ty) → NoLarger (joined ms) (joined (insert x ms))
insert-grows x ms = put-grows x ms (insert-put x ms)

pub inserts-grow : (xs ms : List Ty) → NoLarger (joined ms) (joined (inserts xs ms))
unfolding inserts
inserts-grow [] ms = below-refl (joined ms)
inserts-grow (x ∷ xs) ms = below-trans (insert-grows x ms) (inserts-grow xs (insert x ms))

pub gather-grows : (ts ms : List Ty) → NoLarger (joined ms) (joined (gather ts ms))
unfolding gather
gather-grows [] ms = below-refl (joined ms)
gather-grows (t ∷ ts) ms =
    below-trans (inserts-grow (opened t) ms) (gather-grows ts (inserts (opened t) ms))

-- ## What stands inside a type is smaller

all-inside : {n k : ℕ} (ms : List Ty) → sizes ms < n → deepest ms < k → All (λ t. (bytes t < n) × (nesting t < k)) ms
unfolding sizes deepest
all-inside [] p q = empty
all-inside (m ∷ ms) p q = also {x = m} (omega arith, omega arith) (all-inside ms (omega arith) (omega arith))

-- the members of a union
pub members-inside : (ts : Tys) → All (λ t. (bytes t < bytes (t_union ts)) × (nesting t < nesting (t_union ts))) (members ts)
members-inside ts = all-inside (members ts) (omega (arith, union-bytes ts)) (omega (arith, union-nesting ts))

-- the element of a list
pub element-inside : (t : Ty) → (bytes t < bytes (t_list t)) × (nesting t < nesting (t_list t))
unfolding nesting
element-inside t = (omega (arith, list-bytes t), omega arith)

-- ## A map only grows by an entry behind the others

attach-size : (n : Bytes) (t : Ty) (fs : Fields) → entry_sizes (attach n t fs) ≡ suc (length n) + (bytes t + entry_sizes fs)
unfolding attach entry_sizes
attach-size n t ∅ᶠ = refl
attach-size n t (field m u fs) = omega (arith, attach-size n t fs)

pub attach-long : (n : Bytes) (t : Ty) (fs : Fields) → long (t_map fs) ≡ true → long (t_map (attach n t fs)) ≡ true
unfolding long
attach-long n t fs p =
    let l = ltb-true type_limit (bytes (t_map fs)) p in
    lt-ltb type_limit (bytes (t_map (attach n t fs))) (omega (arith, map-bytes fs, map-bytes (attach n t fs), attach-size n t fs))
