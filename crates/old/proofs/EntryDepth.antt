-- The nesting of a map with an entry more: that of the map before, or one more than the value's. Assumes nothing.
use mathlib.Core.Path.{◌≡◌, refl, sym, ◌∙◌, ap, ap₂, subst}
use mathlib.Core.Bool.{Bool, true, false, ◌||◌, false≢true}
use mathlib.Core.List.{[]}
use Prim.Native.Nat.{ℕ, ◌≤◌, ◌<◌, max}
use native.Mathlib.Nat.{zero-add}
use native.Mathlib.Omega.{arith}
use lib.Dec.{ltb}
use lib.ListN.{length, take, drop, length-take}
use borrow.Author.Tests.{le-ltb}
use Rattle.std.specs.Prelude.{Option, Some, None}
use Rattle.semantics.specs.Limits.{type_limit, nesting_limit}
use Rattle.semantics.specs.Bytes.{Bytes}
use Rattle.semantics.specs.Ty.{Ty, t_map, Fields, ∅ᶠ, field, line_to, line, nesting, nesting_f, too_large, set_field}
use Rattle.semantics.proofs.Order.{Tri, lt, eq, gt, tri, set-lt, set-eq, set-gt, line-inj}
use Rattle.ty.specs.Parts.{TypeAt, TypeFrom}
use Rattle.ty.specs.Made.{Made, made}
use Rattle.ty.specs.Entry.{MapFront, Goes, Fronted, Entered, inserted_at}
use Rattle.ty.specs.Read.{NestingEnd}
use Rattle.ty.specs.declared.map.Spot.TheVariants.{New}
use Rattle.ty.proofs.Lines.{line-to}
use Rattle.ty.proofs.Sizes.{deep-large, large-no, within_end, within-bad}
use Rattle.ty.proofs.MergeLaws.{drop-part}
use Rattle.ty.proofs.EntryLaws.{new_line}
use Rattle.old.specs.Make.{EnteringMap, EnteringValue}

set-deep : (n : Bytes) (t : Ty) (fs : Fields) → (nesting_f (set_field n t fs) ≤ max (nesting t) (nesting_f fs)) × (nesting t ≤ nesting_f (set_field n t fs))
unfolding nesting
set-deep n t ∅ᶠ = unfold set_field in (omega arith, omega arith)
set-deep n t (field m u fs) = go (tri n m) (set-deep n t fs)
  where
    go : Tri n m → (nesting_f (set_field n t fs) ≤ max (nesting t) (nesting_f fs)) × (nesting t ≤ nesting_f (set_field n t fs))
        → (nesting_f (set_field n t (field m u fs)) ≤ max (nesting t) (nesting_f (field m u fs))) × (nesting t ≤ nesting_f (set_field n t (field m u fs)))
    go (lt l) w = rw (set-lt n m t u fs l) (omega arith, omega arith)
    go (eq l) w = rw (sym l, set-eq n t u fs) (omega arith, omega arith)
    go (gt l) w = rw (set-gt n m t u fs l) (omega (arith, w.0), omega (arith, w.1))

set-within : (n : Bytes) (t : Ty) (fs : Fields) → nesting (t_map fs) ≤ nesting_limit → nesting t < nesting_limit → nesting (t_map (set_field n t fs)) ≤ nesting_limit
unfolding nesting
set-within n t fs h d = omega (arith, (set-deep n t fs).0)

set-over : (n : Bytes) (t : Ty) (fs : Fields) → nesting_limit ≤ nesting t → too_large (t_map (set_field n t fs)) ≡ true
unfolding nesting
set-over n t fs d = deep-large (t_map (set_field n t fs)) (omega (arith, (set-deep n t fs).1))

-- the length decides
large-long : (u : Ty) → nesting u ≤ nesting_limit → too_large u ≡ ltb type_limit (length (line u))
unfolding too_large
large-long u h = rw (le-ltb nesting_limit (nesting u) h) (or-none (ltb type_limit (length (line u))))
  where
    or-none : (b : Bool) → (b || false) ≡ b
    or-none true = refl
    or-none false = refl

fronted-short : (s s' l : Bytes) (u : Ty) (r : Option ℕ) → l ≡ line u → nesting u ≤ nesting_limit → Fronted s s' l r → Made s s' 0 u r
fronted-short s s' l u r is d h =
    record {
      answer = h.answer ∙ ap₂ made (ap (λ (x : Bytes). ltb type_limit (length x)) is ∙ sym (large-long u d)) (ap length is);
      stands = λ z.
          let w : length (line u) ≤ 1024 = (large-no u z).0 in
          let k : length l ≤ 1024 = rw is w in
          let p : take (length (line u)) s' ≡ line u = rw is at (h.stands k) in
          subst (λ (i : ℕ). TypeAt s' 0 i u) (sym (zero-add (length (line u))))
          (record { ordered = omega arith; inside = omega (arith, ap length p, length-take (length (line u)) s'); is = p });
      below = refl;
      long = h.long;
    }

pub placed : (s s' x : Bytes) (n end p : ℕ) (r : Option ℕ) (b : EnteringValue s n end x) (fs : Fields) (m : Bytes) (t : Ty) (f : MapFront s n x fs m) (v : TypeAt s n end t)
    → Goes (line (t_map fs)) fs m (New p) → Fronted s s' (inserted_at s n end p x) r → Made s s' 0 (t_map (set_field m t fs)) r
placed s s' x n end p r b fs m t f v g h =
    fronted-short s s' (inserted_at s n end p x) (t_map (set_field m t fs)) r (new_line s x n fs m f end p t v g) (set-within m t fs (b.before.map fs f.at) (b.value t v)) h

-- ## The value

value-from : {s : Bytes} {n end : ℕ} {t : Ty} → TypeAt s n end t → drop n s ≡ line_to t (drop end s)
value-from {s} {n} {end} {t} v = drop-part s n end (line t) v.ordered v.is ∙ sym (line-to t (drop end s))

pub value-type : {s x : Bytes} {n end : ℕ} → EnteringMap s n end x → TypeFrom s n
value-type {s} {end = end} b = let v = b.entering.value in record { ty = v.ty; rest = drop end s; is = value-from v.at }

pub shallow : (s x : Bytes) (n end e : ℕ) (r : Option ℕ) → EnteringMap s n end x → NestingEnd s n 31 r → r ≡ Some e → EnteringValue s n end x
shallow s x n end e r b h z = record { before = b; value = λ t v. let w = within_end 31 n e t (sym z ∙ h t (drop end s) (value-from v)) in omega (arith, w) }

pub deep : (s x : Bytes) (n end : ℕ) (r : Option ℕ) → NestingEnd s n 31 r → r ≡ None → Entered s s n end x None
deep s x n end r h z fs m t f v =
    let large : too_large (t_map (set_field m t fs)) ≡ true = let w = within-bad 31 n t (sym z ∙ h t (drop end s) (value-from v)) in set-over m t fs (omega (arith, w)) in
    record { answer = sym (ap (λ (b : Bool). made b (length (line (t_map (set_field m t fs))))) large); stands = λ y. absurd (false≢true (sym y ∙ large)); below = refl; long = refl }

-- whichever map stands there is the one that is not too large
pub one_map : (s : Bytes) (n : ℕ) (fs : Fields) → TypeAt s 0 n (t_map fs) → too_large (t_map fs) ≡ false → (gs : Fields) → TypeAt s 0 n (t_map gs) → nesting (t_map gs) ≤ nesting_limit
unfolding line
one_map s n fs a o gs b =
    let e = (line-inj (t_map gs) (t_map fs) [] [] (sym b.is ∙ a.is)).0 in
    let w = (large-no (t_map fs) o).1 in
    omega (arith, ap nesting e)
