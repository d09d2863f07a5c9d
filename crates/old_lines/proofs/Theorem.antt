-- The claims about old lines. Assumes nothing.
use mathlib.Core.Path.{◌≡◌, refl, sym, ◌∙◌, ap, subst}
use mathlib.Core.List.{List, [], ◌∷◌}
use mathlib.Core.Option.{Option, none, some}
use mathlib.Core.Bool.{Bool, true, false, ◌&&◌, not, false≢true}
use Prim.Native.Nat.{◌*◌, ◌≤◌}
use native.Mathlib.Omega.{arith}
use lib.ListN.{length}
use lib.Dec.{ltb, leb}
use Rattle.semantics.specs.Bytes.{Bytes, split}
use Rattle.semantics.specs.Ty.{Ty, base, t_list, t_map, t_node, t_relationship, t_union, Tys, ∅, ◌⊕◌, Fields, ∅ᶠ, field, names, line, nesting, regular, too_large, Front, read_type, strict, type_line}
use Rattle.semantics.specs.Limits.{nesting_limit}
use borrow.Author.Tests.{le-ltb, le-leb}
use Rattle.semantics.proofs.All.{All, empty, also}
use Rattle.semantics.proofs.Order.{Less, same-lt, line_eq}
use Rattle.semantics.proofs.Regular.{Ascends, Regular, RegularS, RegularF, regular-sound}
use Rattle.semantics.proofs.Reader.{read-sound}
use Rattle.unify_run.proofs.Maps.{ascends-all}
use Rattle.unify_run.proofs.Size.{small-sound}
use Rattle.old_lines.specs.Old.{old_limit, without, distinct, distinct_names, distinct_names_s, distinct_names_f, loose, old_line, made, OldLines}
use Rattle.old_lines.proofs.Alike.{Ok, first-true, some-eq, is_there, same-made}
use Rattle.old_lines.proofs.Made.{made-same}
use Rattle.old_lines.proofs.Told.{made_told}

both_true : {a b : Bool} → a ≡ true → b ≡ true → (a && b) ≡ true
both_true p q = rw (p, q)

no-some : {t : Ty} → ◌≡◌ {A = Option Ty} none (some t) → ⊥
no-some e = false≢true (ap is_there e)

loose-ok : (r : Front Ty) (t : Ty) → loose r ≡ some t → Ok t
unfolding loose
loose-ok none t e = absurd (no-some e)
loose-ok (some (u, [])) t e = absurd (no-some e)
loose-ok (some (u, (c ∷ cs) ∷ r)) t e = absurd (no-some e)
loose-ok (some (u, [] ∷ f ∷ r)) t e = absurd (no-some e)
loose-ok (some (u, [] ∷ [])) t e = go (distinct_names u && leb (nesting u) nesting_limit) refl e
  where
    go : (c : Bool) → (distinct_names u && leb (nesting u) nesting_limit) ≡ c → ◌≡◌ {A = Option Ty} (elim c [ true ↦ some u | false ↦ none ]) (some t) → Ok t
    go true p q = ap distinct_names (sym (some-eq q)) ∙ first-true (distinct_names u) (leb (nesting u) nesting_limit) p
    go false p q = absurd (no-some q)

old_ok : (s : Bytes) (t : Ty) → old_line s ≡ some t → Ok t
unfolding old_line
old_ok s t e = go (ltb old_limit (length s)) e
  where
    go : (c : Bool) → ◌≡◌ {A = Option Ty} (elim c [ true ↦ none | false ↦ let fs = split 44 s in loose (read_type (2 * length fs) fs) ]) (some t) → Ok t
    go true q = absurd (no-some q)
    go false q = let fs = split 44 s in loose-ok (read_type (2 * length fs) fs) t q

-- ## Regular lines come out as they went in

without-above : (n : Bytes) {ms : List Bytes} → All (Less n) ms → without n ms ≡ true
unfolding without
without-above n empty = refl
without-above n (also h a) = rw (same-lt h) (without-above n a)

ascending-distinct : (ns : List Bytes) → Ascends ns → distinct ns ≡ true
unfolding distinct
ascending-distinct [] h = refl
ascending-distinct (n ∷ ns) h = rw (without-above n (ascends-all n ns h)) (ascending-distinct ns h.1)

mutual
  unfolding distinct_names

  regular-ok : (t : Ty) → Regular t → distinct_names t ≡ true
  regular-ok (base b) h = refl
  regular-ok (t_list t) h = regular-ok t h
  regular-ok (t_map fs) h = both_true (ascending-distinct (names fs) h.0) (regular-ok_f fs h.1)
  regular-ok (t_node ls) h = refl
  regular-ok (t_relationship n) h = refl
  regular-ok (t_union ts) h = regular-ok_s ts h.2

  regular-ok_s : (ts : Tys) → RegularS ts → distinct_names_s ts ≡ true
  regular-ok_s ∅ h = refl
  regular-ok_s (t ⊕ ts) h = both_true (regular-ok t h.1) (regular-ok_s ts h.2)

  regular-ok_f : (fs : Fields) → RegularF fs → distinct_names_f fs ≡ true
  regular-ok_f ∅ᶠ h = refl
  regular-ok_f (field n t fs) h = both_true (regular-ok t h.0) (regular-ok_f fs h.1)

-- what the strict reader takes, the loose one takes
strict-loose : (r : Front Ty) (t : Ty) → strict r ≡ some t → distinct_names t ≡ true → leb (nesting t) nesting_limit ≡ true → loose r ≡ some t
unfolding strict loose
strict-loose none t e d l = absurd (no-some e)
strict-loose (some (u, [])) t e d l = absurd (no-some e)
strict-loose (some (u, (c ∷ cs) ∷ r)) t e d l = absurd (no-some e)
strict-loose (some (u, [] ∷ f ∷ r)) t e d l = absurd (no-some e)
strict-loose (some (u, [] ∷ [])) t e d l = go (regular u && not (too_large u)) e
  where
    go : (c : Bool) → ◌≡◌ {A = Option Ty} (elim c [ true ↦ some u | false ↦ none ]) (some t) → ◌≡◌ {A = Option Ty} (elim (distinct_names u && leb (nesting u) nesting_limit) [ true ↦ some u | false ↦ none ]) (some t)
    go true q = rw (some-eq q, d, l) (ap some (some-eq q))
    go false q = absurd (no-some q)

pub regular-old : (s : Bytes) (t : Ty) → type_line s ≡ some t → (old_line s ≡ some t) × (made t ≡ t)
unfolding old_line type_line
regular-old s t e =
    let r = read-sound s t e in
    let g = regular-sound t r.1 in
    let small = small-sound t r.2 in
    let short : length s ≤ 1024 = subst (λ (z : Bytes). length z ≤ 1024) r.0 small.0 in
    let fs = split 44 s in
    (rw (le-ltb old_limit (length s) (omega arith), old_line) (strict-loose (read_type (2 * length fs) fs) t e (regular-ok t g) (le-leb (nesting t) nesting_limit small.1)), made-same t g)

pub old-lines : OldLines
old-lines s z t u p q =
    let a = old_ok s t p in
    let b = old_ok z u q in
    ((λ e. made_told t u a b (line_eq (made t) (made u) e)), (λ h. ap line (same-made h a b)))
