-- Types of few levels: what is kept by unions and by entries, and how deep such types nest. Assumes nothing.
use mathlib.Core.Path.{◌≡◌, sym}
use mathlib.Core.List.{List}
use mathlib.Core.Option.{Option, none, some}
use mathlib.Core.Bool.{false, false≢true}
use Prim.Native.Nat.{ℕ, ◌+◌, ◌*◌, ◌≤◌, Ordering}
use native.Mathlib.Omega.{arith}
use Rattle.semantics.specs.Bytes.{Bytes, lex, same}
use Rattle.semantics.specs.Ty.{Ty, base, t_list, t_map, t_node, t_relationship, t_union, Tys, ∅, ◌⊕◌, Fields, ∅ᶠ, field, members, pack, order, nesting, nesting_s, nesting_f, insert, inserts, opened, gather, joined, unite, set_field, get_field, is_union}
use Rattle.semantics.proofs.All.{All, empty, also, either}
use Rattle.semantics.proofs.Regular.{Regular, RegularS, RegularF}
use Rattle.walk_run.specs.Depth.{levels, levels_s, levels_f}

-- at most so many levels
abbrev pub Low : ℕ → Ty → Type 0
Low m t = levels t ≤ m

abbrev pub LowF : ℕ → Fields → Type 0
LowF m fs = levels_f fs ≤ m

-- ## Unions

-- what holds of three branches
by_order : {A : Type 0} (P : A → Type 0) {x y z : A} (o : Ordering) → P x → P y → P z → P (elim o [ Ordering.lt ↦ x | Ordering.eq ↦ y | Ordering.gt ↦ z ])
by_order P Ordering.lt p q r = p
by_order P Ordering.eq p q r = q
by_order P Ordering.gt p q r = r

pub members-low : (m : ℕ) (ts : Tys) → levels_s ts ≤ m → All (Low m) (members ts)
unfolding members levels
members-low m ∅ h = empty
members-low m (t ⊕ ts) h = also {x = t} (omega arith) (members-low m ts (omega arith))

pack-low : (m : ℕ) {ts : List Ty} → All (Low m) ts → levels_s (pack ts) ≤ m
unfolding pack levels
pack-low m empty = omega arith
pack-low m (also h a) = omega (arith, pack-low m a)

insert-low : (m : ℕ) (x : Ty) → Low m x → {ms : List Ty} → All (Low m) ms → All (Low m) (insert x ms)
unfolding insert
insert-low m x h empty = also h empty
insert-low m x h (also {x = y} p a) = by_order (All (Low m)) (order x y) (also h (also p a)) (also p a) (also p (insert-low m x h a))

pub inserts-low : (m : ℕ) {xs ms : List Ty} → All (Low m) xs → All (Low m) ms → All (Low m) (inserts xs ms)
unfolding inserts
inserts-low m empty b = b
inserts-low m (also {x} h a) b = inserts-low m a (insert-low m x h b)

pub opened-low : (m : ℕ) (t : Ty) → Low m t → All (Low m) (opened t)
unfolding opened
opened-low m (base b) h = also h empty
opened-low m (t_list t) h = also h empty
opened-low m (t_map fs) h = also h empty
opened-low m (t_node ls) h = also h empty
opened-low m (t_relationship n) h = also h empty
opened-low m (t_union ts) h = members-low m ts (unfold levels in h)

gather-low : (m : ℕ) {ts ms : List Ty} → All (Low m) ts → All (Low m) ms → All (Low m) (gather ts ms)
unfolding gather
gather-low m empty b = b
gather-low m (also {x = t} h a) b = gather-low m a (inserts-low m (opened-low m t h) b)

pub joined-low : (m : ℕ) {ms : List Ty} → All (Low m) ms → Low m (joined ms)
unfolding joined levels
joined-low m empty = omega arith
joined-low m (also h empty) = h
joined-low m (also h (also k a)) = pack-low m (also h (also k a))

pub unite-low : (m : ℕ) {ts : List Ty} → All (Low m) ts → Low m (unite ts)
unfolding unite
unite-low m a = joined-low m (gather-low m a empty)

-- ## Entries

pub set-low : (m : ℕ) (n : Bytes) (t : Ty) (fs : Fields) → Low m t → LowF m fs → LowF m (set_field n t fs)
unfolding set_field levels
set-low m n t ∅ᶠ h k = omega arith
set-low m n t (field l u fs) h k = let i = set-low m n t fs h (omega arith) in by_order (LowF m) (lex n l) (omega arith) (omega arith) (omega arith)

abbrev pub LowOption : ℕ → Option Ty → Type 0
LowOption m none = Unit {0}
LowOption m (some t) = Low m t

pub get-low : (m : ℕ) (n : Bytes) (fs : Fields) → LowF m fs → LowOption m (get_field n fs)
unfolding get_field levels
get-low m n ∅ᶠ h = tt
get-low m n (field l u fs) h = either (LowOption m) (same n l) (omega arith) (get-low m n fs (omega arith))

-- ## Nesting

mutual
  unfolding levels nesting is_union

  -- what is no union nests one less
  single-nesting : (t : Ty) → is_union t ≡ false → Regular t → nesting t ≤ 2 * levels t + 1
  single-nesting (base b) e r = omega arith
  single-nesting (t_list t) e r = omega (arith, nesting-levels t r)
  single-nesting (t_map fs) e r = omega (arith, entries-nesting fs r.1)
  single-nesting (t_node ls) e r = omega arith
  single-nesting (t_relationship n) e r = omega arith
  single-nesting (t_union ts) e r = absurd (false≢true (sym e))

  -- a union holds none, so there is a level between any two
  pub nesting-levels : (t : Ty) → Regular t → nesting t ≤ 2 * levels t + 2
  nesting-levels (base b) r = omega arith
  nesting-levels (t_list t) r = omega (arith, nesting-levels t r)
  nesting-levels (t_map fs) r = omega (arith, entries-nesting fs r.1)
  nesting-levels (t_node ls) r = omega arith
  nesting-levels (t_relationship n) r = omega arith
  nesting-levels (t_union ts) r = omega (arith, members-nesting ts r.2)

  members-nesting : (ts : Tys) → RegularS ts → nesting_s ts ≤ 2 * levels_s ts + 1
  members-nesting ∅ r = omega arith
  members-nesting (t ⊕ ts) r = omega (arith, single-nesting t r.0 r.1, members-nesting ts r.2)

  entries-nesting : (fs : Fields) → RegularF fs → nesting_f fs ≤ 2 * levels_f fs + 2
  entries-nesting ∅ᶠ r = omega arith
  entries-nesting (field n t fs) r = omega (arith, nesting-levels t r.0, entries-nesting fs r.1)

-- two levels nest far below the limit
pub child-nesting : (t : Ty) → Regular t → levels t ≤ 2 → nesting t ≤ 30
child-nesting t r h = omega (arith, nesting-levels t r)
