-- Whether a type is too large, by its line and its nesting. Assumes nothing.
use mathlib.Core.Path.{◌≡◌, refl, sym, ap}
use mathlib.Core.Bool.{Bool, true, false, ◌||◌, not, false≢true}
use mathlib.Core.List.{[]}
use Prim.Native.Nat.{ℕ, ◌+◌, ◌*◌, ◌≤◌, ◌<◌}
use native.Mathlib.Omega.{arith}
use lib.Dec.{ltb, leb}
use lib.ListN.{length}
use borrow.Author.Tests.{lt-ltb, le-ltb, ltb-false, leb-true, leb-false}
use Rattle.std.specs.Prelude.{is_some, Option, Some, None}
use Rattle.semantics.specs.Limits.{type_limit, nesting_limit}
use Rattle.semantics.specs.Bytes.{Bytes}
use Rattle.semantics.specs.Ty.{Ty, line, nesting, too_large}
use Rattle.ty.specs.Read.{end_within, NestingEnd}
use Rattle.ty.proofs.Lines.{nesting-line}

or_yes : (a b : Bool) → b ≡ true → (a || b) ≡ true
or_yes true b h = refl
or_yes false b h = h

pub long-large : (t : Ty) → type_limit < length (line t) → too_large t ≡ true
unfolding too_large
long-large t h = rw (lt-ltb type_limit (length (line t)) h)

pub deep-large : (t : Ty) → nesting_limit < nesting t → too_large t ≡ true
unfolding too_large
deep-large t h = or_yes (ltb type_limit (length (line t))) (ltb nesting_limit (nesting t)) (lt-ltb nesting_limit (nesting t) h)

pub not-large : (t : Ty) → length (line t) ≤ type_limit → nesting t ≤ nesting_limit → too_large t ≡ false
unfolding too_large
not-large t h d = rw (le-ltb type_limit (length (line t)) h, le-ltb nesting_limit (nesting t) d)

or_no : (a b : Bool) → (a || b) ≡ false → (a ≡ false) × (b ≡ false)
or_no true b h = absurd (false≢true (sym h))
or_no false b h = (refl, h)

pub large-no : (t : Ty) → too_large t ≡ false → (length (line t) ≤ type_limit) × (nesting t ≤ nesting_limit)
unfolding too_large
large-no t h =
    let p = or_no (ltb type_limit (length (line t))) (ltb nesting_limit (nesting t)) h in
    (ltb-false type_limit (length (line t)) p.0, ltb-false nesting_limit (nesting t) p.1)

pub within_end : (l a e : ℕ) (t : Ty) → Some e ≡ end_within l a t → nesting t ≤ l
unfolding end_within
within_end l a e t h = go (leb (nesting t) l) refl
  where
    go : (b : Bool) → leb (nesting t) l ≡ b → nesting t ≤ l
    go true x = leb-true (nesting t) l x
    go false x = let w : Some e ≡ None = rw x at h in let z : ◌≡◌ {A = ℕ} 0 1 = cc in absurd (omega arith)

pub within-bad : (l a : ℕ) (t : Ty) → None ≡ end_within l a t → l < nesting t
unfolding end_within
within-bad l a t h = go (leb (nesting t) l) refl
  where
    go : (b : Bool) → leb (nesting t) l ≡ b → l < nesting t
    go true x = let w : None ≡ Some (a + length (line t)) = rw x at h in let z : ◌≡◌ {A = ℕ} 0 1 = cc in absurd (omega arith)
    go false x = leb-false (nesting t) l x

module _ (s : Bytes) (t : Ty) (e : s ≡ line t) where
  pub fits-long : type_limit < length s → false ≡ not (too_large t)
  fits-long h = rw (long-large t (rw e at h))

  pub fits-short : length s ≤ 2 * nesting_limit → true ≡ not (too_large t)
  fits-short h = rw (not-large t (omega (arith, ap length e)) (omega (arith, ap length e, nesting-line t)))

  nested-at : (res : Option ℕ) → NestingEnd s 0 nesting_limit res → res ≡ end_within nesting_limit 0 t
  unfolding line
  nested-at res h = h t [] e

  pub fits-deep : (res : Option ℕ) → NestingEnd s 0 nesting_limit res → length s ≤ type_limit → is_some res ≡ not (too_large t)
  fits-deep (Some p) h m = rw (not-large t (omega (arith, ap length e)) (within_end nesting_limit 0 p t (nested-at (Some p) h)))
  fits-deep None h m = rw (deep-large t (within-bad nesting_limit 0 t (nested-at None h)))
