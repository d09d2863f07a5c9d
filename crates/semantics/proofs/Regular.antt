-- Regular types as a predicate, and what keeps them: insertion, union, maps, labels. Assumes nothing.
use mathlib.Core.Path.{◌≡◌, refl, sym, ◌∙◌, ap}
use mathlib.Core.List.{List, [], ◌∷◌, map}
use mathlib.Core.Option.{Option, none, some}
use mathlib.Core.Bool.{Bool, true, false, ◌&&◌, not, false≢true}
use Prim.Native.Nat.{Ordering}
use native.Mathlib.Omega.{arith}
use lib.ListN.{length}
use lib.Dec.{leb}
use borrow.Author.Tests.{leb-true, le-leb, not-true}
use Rattle.semantics.specs.Bytes.{Bytes, lex}
use Rattle.semantics.specs.Ty.{Ty, base, t_list, t_map, t_node, t_relationship, t_union, Tys, ∅, ◌⊕◌, Fields, ∅ᶠ, field, members, pack, names, line, insert, inserts, opened, gather, joined, unite, set_field, insert_name, insert_names, is_below, ascending, is_union, ascending_labels, regular, regular_s, regular_f}
use Rattle.semantics.proofs.All.{All, empty, also}
pub use Rattle.semantics.specs.Regular.{Above, Ascends, AscendingLabels, Regular, RegularS, RegularF, Member, Sorted}
use Rattle.semantics.proofs.Order.{Less, Tri, lt, eq, gt, tri, lex-lt, lex-gt, lex-eq, TriTy, tri_ty, insert-lt, insert-eq, insert-gt, set-lt, set-eq, set-gt}

-- ## The test and the predicate

both : {a b : Bool} → a ≡ true → b ≡ true → (a && b) ≡ true
both p q = rw (p, q)

first-true : (a b : Bool) → (a && b) ≡ true → a ≡ true
first-true true b p = refl
first-true false b p = p

second-true : (a b : Bool) → (a && b) ≡ true → b ≡ true
second-true true b p = p
second-true false b p = absurd (false≢true p)

less-true : {a b : Bytes} → Less a b → is_below (lex a b) ≡ true
less-true h = ap is_below (lex-lt h)

less-sound : (a b : Bytes) → is_below (lex a b) ≡ true → Less a b
less-sound a b p = go (tri a b)
  where
    go : Tri a b → Less a b
    go (lt h) = h
    go (eq h) = let e : lex a b ≡ Ordering.eq = rw h (lex-eq b) in absurd (false≢true (sym (ap is_below e) ∙ p))
    go (gt h) = absurd (false≢true (sym (ap is_below (lex-gt h)) ∙ p))

pub ascends-true : (l : List Bytes) → Ascends l → ascending l ≡ true
unfolding ascending
ascends-true [] h = refl
ascends-true (a ∷ []) h = refl
ascends-true (a ∷ b ∷ r) h = both (less-true h.0) (ascends-true (b ∷ r) h.1)

pub ascends-sound : (l : List Bytes) → ascending l ≡ true → Ascends l
unfolding ascending
ascends-sound [] p = tt
ascends-sound (a ∷ []) p = (tt, tt)
ascends-sound (a ∷ b ∷ r) p = (less-sound a b (first-true (is_below (lex a b)) (ascending (b ∷ r)) p), ascends-sound (b ∷ r) (second-true (is_below (lex a b)) (ascending (b ∷ r)) p))

labels-true : (ls : Option (List Bytes)) → AscendingLabels ls → ascending_labels ls ≡ true
unfolding ascending_labels
labels-true none h = refl
labels-true (some ls) h = ascends-true ls h

labels-sound : (ls : Option (List Bytes)) → ascending_labels ls ≡ true → AscendingLabels ls
unfolding ascending_labels
labels-sound none p = tt
labels-sound (some ls) p = ascends-sound ls p

mutual
  unfolding regular

  pub regular-true : (t : Ty) → Regular t → regular t ≡ true
  regular-true (base b) h = refl
  regular-true (t_list t) h = regular-true t h
  regular-true (t_map fs) h = both (ascends-true (names fs) h.0) (fields-true fs h.1)
  regular-true (t_node ls) h = labels-true ls h
  regular-true (t_relationship n) h = refl
  regular-true (t_union ts) h = both (le-leb 2 (length (members ts)) h.0) (both (ascends-true (map line (members ts)) h.1) (members-true ts h.2))

  members-true : (ts : Tys) → RegularS ts → regular_s ts ≡ true
  members-true ∅ h = refl
  members-true (t ⊕ ts) h = both (ap not h.0) (both (regular-true t h.1) (members-true ts h.2))

  fields-true : (fs : Fields) → RegularF fs → regular_f fs ≡ true
  fields-true ∅ᶠ h = refl
  fields-true (field n t fs) h = both (regular-true t h.0) (fields-true fs h.1)

mutual
  unfolding regular

  pub regular-sound : (t : Ty) → regular t ≡ true → Regular t
  regular-sound (base b) p = tt
  regular-sound (t_list t) p = regular-sound t p
  regular-sound (t_map fs) p = let a = ascending (names fs) in let b = regular_f fs in (ascends-sound (names fs) (first-true a b p), fields-sound fs (second-true a b p))
  regular-sound (t_node ls) p = labels-sound ls p
  regular-sound (t_relationship n) p = tt
  regular-sound (t_union ts) p =
      let a = leb 2 (length (members ts)) in
      let b = ascending (map line (members ts)) in
      let c = regular_s ts in
      let q = second-true a (b && c) p in
      (leb-true 2 (length (members ts)) (first-true a (b && c) p), ascends-sound (map line (members ts)) (first-true b c q), members-sound ts (second-true b c q))

  members-sound : (ts : Tys) → regular_s ts ≡ true → RegularS ts
  members-sound ∅ p = tt
  members-sound (t ⊕ ts) p =
      let a = not (is_union t) in
      let b = regular t in
      let c = regular_s ts in
      let q = second-true a (b && c) p in
      (not-true (is_union t) (first-true a (b && c) p), regular-sound t (first-true b c q), members-sound ts (second-true b c q))

  fields-sound : (fs : Fields) → regular_f fs ≡ true → RegularF fs
  fields-sound ∅ᶠ p = tt
  fields-sound (field n t fs) p = let b = regular t in let c = regular_f fs in (regular-sound t (first-true b c p), fields-sound fs (second-true b c p))

-- ## Insertion of names

name-lt : {n m : Bytes} (ms : List Bytes) → Less n m → insert_name n (m ∷ ms) ≡ n ∷ m ∷ ms
unfolding insert_name
name-lt ms h = rw (lex-lt h, insert_name)

name-eq : (n : Bytes) (ms : List Bytes) → insert_name n (n ∷ ms) ≡ n ∷ ms
unfolding insert_name
name-eq n ms = rw (lex-eq n, insert_name)

name-gt : {n m : Bytes} (ms : List Bytes) → Less m n → insert_name n (m ∷ ms) ≡ m ∷ insert_name n ms
unfolding insert_name
name-gt ms h = rw (lex-gt h, insert_name)

above-insert : (a n : Bytes) (ms : List Bytes) → Less a n → Above a ms → Above a (insert_name n ms)
above-insert a n [] h k = unfold insert_name in h
above-insert a n (m ∷ ms) h k = go (tri n m)
  where
    go : Tri n m → Above a (insert_name n (m ∷ ms))
    go (lt q) = rw (name-lt ms q) h
    go (eq q) = rw (q, name-eq m ms) k
    go (gt q) = rw (name-gt ms q) k

pub name-ascends : (n : Bytes) (ms : List Bytes) → Ascends ms → Ascends (insert_name n ms)
name-ascends n [] h = unfold insert_name in (tt, tt)
name-ascends n (m ∷ ms) h = go (name-ascends n ms h.1) (tri n m)
  where
    go : Ascends (insert_name n ms) → Tri n m → Ascends (insert_name n (m ∷ ms))
    go ih (lt q) = rw (name-lt ms q) (q, h)
    go ih (eq q) = rw (q, name-eq m ms) h
    go ih (gt q) = rw (name-gt ms q) (above-insert m n ms q h.0, ih)

pub names-ascend : (ns ms : List Bytes) → Ascends ms → Ascends (insert_names ns ms)
unfolding insert_names
names-ascend [] ms h = h
names-ascend (n ∷ ns) ms h = names-ascend ns (insert_name n ms) (name-ascends n ms h)

-- ## Unions

-- insertion by lines is insertion of the line
lines-insert : (x : Ty) (ms : List Ty) → map line (insert x ms) ≡ insert_name (line x) (map line ms)
lines-insert x [] = unfold insert insert_name in refl
lines-insert x (y ∷ ms) = go (lines-insert x ms) (tri_ty x y)
  where
    go : map line (insert x ms) ≡ insert_name (line x) (map line ms) → TriTy x y → map line (insert x (y ∷ ms)) ≡ insert_name (line x) (line y ∷ map line ms)
    go ih (lt h) = rw (insert-lt x y ms h, name-lt (map line ms) h)
    go ih (eq h) = rw (h, insert-eq y ms, name-eq (line y) (map line ms))
    go ih (gt h) = rw (insert-gt x y ms h, name-gt (map line ms) h) (ap (λ l. line y ∷ l) ih)

all_insert : {P : Ty → Type 0} (x : Ty) → P x → {ms : List Ty} → All P ms → All P (insert x ms)
all_insert x p empty = unfold insert in also p empty
all_insert {P} x p (also {x = y} {xs = ms} q qs) = go (all_insert x p qs) (tri_ty x y)
  where
    go : All P (insert x ms) → TriTy x y → All P (insert x (y ∷ ms))
    go ih (lt h) = rw (insert-lt x y ms h) (also p (also q qs))
    go ih (eq h) = rw (h, insert-eq y ms) (also q qs)
    go ih (gt h) = rw (insert-gt x y ms h) (also q ih)

pub insert-sorted : (x : Ty) (ms : List Ty) → Member x → Sorted ms → Sorted (insert x ms)
insert-sorted x ms m s = (rw (lines-insert x ms) (name-ascends (line x) (map line ms) s.0), all_insert x m s.1)

pub inserts-sorted : {xs : List Ty} → All Member xs → (ms : List Ty) → Sorted ms → Sorted (inserts xs ms)
unfolding inserts
inserts-sorted empty ms s = s
inserts-sorted (also {x} {xs} m a) ms s = inserts-sorted a (insert x ms) (insert-sorted x ms m s)

pub regular-members : (ts : Tys) → RegularS ts → All Member (members ts)
unfolding members
regular-members ∅ h = empty
regular-members (t ⊕ ts) h = also (h.0, h.1) (regular-members ts h.2)

pub opened-members : (t : Ty) → Regular t → All Member (opened t)
unfolding opened is_union
opened-members (base b) h = also (refl, h) empty
opened-members (t_list t) h = also (refl, h) empty
opened-members (t_map fs) h = also (refl, h) empty
opened-members (t_node ls) h = also (refl, h) empty
opened-members (t_relationship n) h = also (refl, h) empty
opened-members (t_union ts) h = regular-members ts h.2

pub gather-sorted : {ts : List Ty} → All Regular ts → (ms : List Ty) → Sorted ms → Sorted (gather ts ms)
unfolding gather
gather-sorted empty ms s = s
gather-sorted (also {x = t} h a) ms s = gather-sorted a (inserts (opened t) ms) (inserts-sorted (opened-members t h) ms s)

members-pack : (ms : List Ty) → members (pack ms) ≡ ms
unfolding members pack
members-pack [] = refl
members-pack (t ∷ ms) = ap (λ l. t ∷ l) (members-pack ms)

members-regular : {ms : List Ty} → All Member ms → RegularS (pack ms)
unfolding pack
members-regular empty = tt
members-regular (also m a) = (m.0, m.1, members-regular a)

pub joined-regular : (ms : List Ty) → Sorted ms → Regular (joined ms)
unfolding joined
joined-regular [] s = tt
joined-regular (t ∷ []) (l, also m empty) = m.1
joined-regular (t ∷ u ∷ ts) s = (rw (members-pack (t ∷ u ∷ ts)) (omega arith), rw (members-pack (t ∷ u ∷ ts)) s.0, members-regular s.1)

pub unite-regular : {ts : List Ty} → All Regular ts → Regular (unite ts)
unfolding unite
unite-regular {ts} a = joined-regular (gather ts []) (gather-sorted a [] (tt, empty))

-- ## Maps

names-set : (n : Bytes) (t : Ty) (fs : Fields) → names (set_field n t fs) ≡ insert_name n (names fs)
names-set n t ∅ᶠ = unfold set_field names insert_name in refl
names-set n t (field m u fs) = go (names-set n t fs) (tri n m)
  where
    go : names (set_field n t fs) ≡ insert_name n (names fs) → Tri n m → names (set_field n t (field m u fs)) ≡ insert_name n (names (field m u fs))
    go ih (lt h) = rw (set-lt n m t u fs h) (unfold names in sym (name-lt (names fs) h))
    go ih (eq h) = rw (h, set-eq m t u fs) (unfold names in sym (name-eq m (names fs)))
    go ih (gt h) = rw (set-gt n m t u fs h) (unfold names in (ap (λ l. m ∷ l) ih ∙ sym (name-gt (names fs) h)))

fields-set : (n : Bytes) (t : Ty) (fs : Fields) → Regular t → RegularF fs → RegularF (set_field n t fs)
fields-set n t ∅ᶠ p q = unfold set_field in (p, q)
fields-set n t (field m u fs) p q = go (fields-set n t fs p q.1) (tri n m)
  where
    go : RegularF (set_field n t fs) → Tri n m → RegularF (set_field n t (field m u fs))
    go ih (lt h) = rw (set-lt n m t u fs h) (p, q)
    go ih (eq h) = rw (h, set-eq m t u fs) (p, q.1)
    go ih (gt h) = rw (set-gt n m t u fs h) (q.0, ih)

pub no-entries : Regular (t_map ∅ᶠ)
unfolding names
no-entries = (tt, tt)

-- a map with one more entry
pub set-regular : (n : Bytes) (t : Ty) (fs : Fields) → Regular t → Regular (t_map fs) → Regular (t_map (set_field n t fs))
set-regular n t fs p q = (rw (names-set n t fs) (name-ascends n (names fs) q.0), fields-set n t fs p q.1)
