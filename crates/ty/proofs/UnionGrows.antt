-- A union that is too large stays so as members join it: whoever adds members one by one may stop at the first that is. Assumes nothing.
use mathlib.Core.Path.{◌≡◌, refl, ap}
use mathlib.Core.List.{List, [], ◌∷◌}
use mathlib.Core.Bool.{true}
use Prim.Native.Nat.{ℕ, suc, ◌+◌, ◌≤◌}
use native.Mathlib.Omega.{arith}
use lib.ListN.{length, length-append}
use Rattle.semantics.specs.Ty.{Ty, line_to, line, nesting, nesting_s, too_large, insert, inserts, opened, gather, pack, joined}
use Rattle.semantics.proofs.Order.{TriTy, lt, eq, gt, tri_ty, insert-lt, insert-eq, insert-gt}
use Rattle.ty.specs.Parts.{lines_of}
use Rattle.ty.specs.Union.{overlong}
use Rattle.ty.proofs.Lines.{nesting-pos}
use Rattle.ty.proofs.Members.{line-long, one_line}
use Rattle.ty.proofs.UnionLaws.{many-long}

-- ## One member more

-- a size of a list of types that is the larger the more there are
record Size : Type 0 where
  of : List Ty → ℕ
  none : of [] ≡ 0
  front : (x : Ty) (xs : List Ty) → of xs ≤ of (x ∷ xs)
  under : (x : Ty) (xs ys : List Ty) → of xs ≤ of ys → of (x ∷ xs) ≤ of (x ∷ ys)

grows : (z : Size) (x : Ty) (ms : List Ty) → z.of ms ≤ z.of (insert x ms)
grows z x [] = omega (arith, z.none)
grows z x (y ∷ ys) = go (grows z x ys) (tri_ty x y)
  where
    go : z.of ys ≤ z.of (insert x ys) → TriTy x y → z.of (y ∷ ys) ≤ z.of (insert x (y ∷ ys))
    go ih (lt h) = rw (insert-lt x y ys h) (z.front x (y ∷ ys))
    go ih (eq h) = rw h (rw (insert-eq y ys) (omega arith))
    go ih (gt h) = rw (insert-gt x y ys h) (z.under y ys (insert x ys) ih)

count : Size
count = record { of = length; none = refl; front = λ x xs. omega arith; under = λ x xs ys h. omega arith }

bytes : Size
unfolding lines_of
bytes =
    record {
      of = λ ms. length (lines_of ms);
      none = refl;
      front = λ x xs. omega (arith, length-append (line x) (lines_of xs));
      under = λ x xs ys h. omega (arith, length-append (line x) (lines_of xs), length-append (line x) (lines_of ys));
    }

depth : Size
unfolding nesting pack
depth = record { of = λ ms. nesting_s (pack ms); none = refl; front = λ x xs. omega arith; under = λ x xs ys h. omega arith }

count-grows : (x : Ty) (ms : List Ty) → length ms ≤ length (insert x ms)
unfolding count
count-grows x ms = grows count x ms

bytes-grow : (x : Ty) (ms : List Ty) → length (lines_of ms) ≤ length (lines_of (insert x ms))
unfolding bytes
bytes-grow x ms = grows bytes x ms

depth-grows : (x : Ty) (ms : List Ty) → nesting_s (pack ms) ≤ nesting_s (pack (insert x ms))
unfolding depth
depth-grows x ms = grows depth x ms

-- ## The union of one member more

many-bytes : (ms : List Ty) → 2 ≤ length ms → length (line (joined ms)) ≡ length (lines_of ms) + 4
many-bytes [] h = absurd (omega arith)
many-bytes (t ∷ []) h = absurd (omega arith)
many-bytes (t ∷ u ∷ ts) h = many-long t u ts

many-depth : (ms : List Ty) → 2 ≤ length ms → nesting (joined ms) ≡ suc (nesting_s (pack ms))
unfolding joined nesting
many-depth [] h = absurd (omega arith)
many-depth (t ∷ []) h = absurd (omega arith)
many-depth (t ∷ u ∷ ts) h = refl

-- neither size of b is less than that of a
pub record NoLess (a b : Ty) : Type 0 where
  pub bytes : length (line a) ≤ length (line b)
  pub depth : nesting a ≤ nesting b

first_of : (t u : Ty) → NoLess t (joined (t ∷ u ∷ []))
unfolding lines_of nesting pack
first_of t u =
    record {
      bytes = omega (arith, many-bytes (t ∷ u ∷ []) (omega arith), length-append (line t) (lines_of (u ∷ [])));
      depth = omega (arith, many-depth (t ∷ u ∷ []) (omega arith));
    }

second-of : (t u : Ty) → NoLess u (joined (t ∷ u ∷ []))
unfolding lines_of nesting pack
second-of t u =
    record {
      bytes = omega (arith, many-bytes (t ∷ u ∷ []) (omega arith), length-append (line t) (lines_of (u ∷ [])), ap length (one_line u));
      depth = omega (arith, many-depth (t ∷ u ∷ []) (omega arith));
    }

beside-one : (x y : Ty) → NoLess y (joined (insert x (y ∷ [])))
unfolding insert joined
beside-one x y = go (tri_ty x y)
  where
    go : TriTy x y → NoLess y (joined (insert x (y ∷ [])))
    go (lt h) = rw (insert-lt x y [] h) (second-of x y)
    go (eq h) = rw h (rw (insert-eq y []) (record { bytes = omega arith; depth = omega arith }))
    go (gt h) = rw (insert-gt x y [] h) (first_of y x)

pub joined-grows : (x : Ty) (ms : List Ty) → NoLess (joined ms) (joined (insert x ms))
unfolding joined insert
joined-grows x [] = unfold line line_to nesting in record { bytes = omega (arith, line-long x); depth = omega (arith, nesting-pos x) }
joined-grows x (y ∷ []) = beside-one x y
joined-grows x (y ∷ z ∷ zs) =
    let n : 2 ≤ length (insert x (y ∷ z ∷ zs)) = omega (arith, count-grows x (y ∷ z ∷ zs)) in
    record {
      bytes = omega (arith, many-bytes (y ∷ z ∷ zs) (omega arith), many-bytes (insert x (y ∷ z ∷ zs)) n, bytes-grow x (y ∷ z ∷ zs));
      depth = omega (arith, many-depth (y ∷ z ∷ zs) (omega arith), many-depth (insert x (y ∷ z ∷ zs)) n, depth-grows x (y ∷ z ∷ zs));
    }

-- ## Many members more

no_less : (a b c : Ty) → NoLess a b → NoLess b c → NoLess a c
no_less a b c p q = record { bytes = omega arith; depth = omega arith }

pub inserts-grow : (xs ms : List Ty) → NoLess (joined ms) (joined (inserts xs ms))
unfolding inserts
inserts-grow [] ms = record { bytes = omega arith; depth = omega arith }
inserts-grow (x ∷ xs) ms = no_less (joined ms) (joined (insert x ms)) (joined (inserts xs (insert x ms))) (joined-grows x ms) (inserts-grow xs (insert x ms))

pub gather-grows : (ts ms : List Ty) → NoLess (joined ms) (joined (gather ts ms))
unfolding gather
gather-grows [] ms = record { bytes = omega arith; depth = omega arith }
gather-grows (t ∷ ts) ms =
    no_less (joined ms) (joined (inserts (opened t) ms)) (joined (gather ts (inserts (opened t) ms))) (inserts-grow (opened t) ms) (gather-grows ts (inserts (opened t) ms))

-- ## What is too large stays so

-- a union that is too long is too large
pub overlong-large : (ms : List Ty) → overlong ms ≡ true → too_large (joined ms) ≡ true
unfolding overlong too_large
overlong-large ms p = rw p
