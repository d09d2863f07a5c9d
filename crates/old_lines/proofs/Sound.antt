-- What an old line is read as: a type of which it is the line, and every such type is read back; what the call makes of it. Assumes nothing.
use mathlib.Core.Path.{◌≡◌, refl, ◌∙◌, ap, subst}
use mathlib.Core.List.{List, [], ◌∷◌}
use mathlib.Core.Option.{Option, none, some}
use mathlib.Core.Bool.{Bool, true, false, ◌&&◌, and-eq-true_iff}
use Prim.Native.Nat.{◌*◌, ◌≤◌}
use native.Mathlib.Nat.{le_refl}
use lib.Dec.{ltb, leb}
use lib.ListN.{length}
use borrow.Author.Tests.{eq-eqb, le-ltb, leb-true, le-leb}
use Rattle.semantics.specs.Limits.{work_size, nesting_limit}
use Rattle.semantics.specs.Bytes.{Bytes, split}
use Rattle.semantics.specs.Ty.{Ty, line, nesting, too_large, Front, read_type}
use Rattle.semantics.proofs.Named.{Named, Maybe}
use Rattle.semantics.proofs.Split.{split-inj, split-line, type_f}
use Rattle.semantics.proofs.Reader.{Reads, reads, read-type, type-sound}
use Rattle.semantics.specs.Calls.{answered}
use Rattle.old_lines.specs.Old.{old_limit, old_output, distinct_names, loose, old_line, made, regular_of, regular_call}
use Rattle.old_lines.specs.Good.{Good}

abbrev Line : List Bytes → Ty → Type 0
Line fs t = (type_f t ([] ∷ []) ≡ fs) × Good t × (nesting t ≤ nesting_limit)

loose-sound : (fs : List Bytes) (m : Front Ty) → Reads type_f Named fs m → Maybe (Line fs) (loose m)
unfolding loose
loose-sound fs none h = tt
loose-sound fs (some (t, [])) h = tt
loose-sound fs (some (t, (c ∷ cs) ∷ r)) h = tt
loose-sound fs (some (t, [] ∷ f ∷ r)) h = tt
loose-sound fs (some (t, [] ∷ [])) (reads x n) = go (distinct_names t && leb (nesting t) nesting_limit) refl
  where
    go : (b : Bool) → (distinct_names t && leb (nesting t) nesting_limit) ≡ b → Maybe (Line fs) (loose (some (t, [] ∷ [])))
    go true e =
        let p = (and-eq-true_iff (distinct_names t) (leb (nesting t) nesting_limit)).0 e in
        rw (e, loose) (x, (n, p.0), leb-true (nesting t) nesting_limit p.1)
    go false e = rw (e, loose) tt

-- what is read is a type of which the text is the line
maybe-old : (s : Bytes) → Maybe (λ (t : Ty). (line t ≡ s) × Good t × (nesting t ≤ nesting_limit)) (old_line s)
unfolding old_line line split
maybe-old s = go (ltb old_limit (length s)) refl
  where
    told : (m : Option Ty) → Maybe (Line (split 44 s)) m → Maybe (λ (t : Ty). (line t ≡ s) × Good t × (nesting t ≤ nesting_limit)) m
    told none h = tt
    told (some t) (x, g, n) = (split-inj 44 (line t) s (split-line t [] ∙ x), g, n)

    go : (b : Bool) → ltb old_limit (length s) ≡ b → Maybe (λ (t : Ty). (line t ≡ s) × Good t × (nesting t ≤ nesting_limit)) (old_line s)
    go true e = rw (e, old_line) tt
    go false e = let fs = split 44 s in let k = 2 * length fs in rw (e, old_line) (told (loose (read_type k fs)) (loose-sound fs (read_type k fs) (type-sound k fs)))

pub old-sound : (s : Bytes) (t : Ty) → old_line s ≡ some t → (line t ≡ s) × Good t × (nesting t ≤ nesting_limit)
old-sound s t e = subst (Maybe (λ (t : Ty). (line t ≡ s) × Good t × (nesting t ≤ nesting_limit))) e (maybe-old s)

-- every such type is read back from its line
pub old-back : (t : Ty) → Good t → nesting t ≤ nesting_limit → length (line t) ≤ old_limit → old_line (line t) ≡ some t
unfolding old_line line loose split
old-back t g n l =
    let fs = type_f t ([] ∷ []) in
    rw (le-ltb old_limit (length (line t)) l, old_line) (rw (split-line t [], read-type t (2 * length fs) ([] ∷ []) g.0 (le_refl (2 * length fs)), g.1, le-leb (nesting t) nesting_limit n, loose))

-- ## What the call makes of it

module _ (s work out : Bytes) (size : length work ≡ work_size) (room : old_output ≤ length out) where
  pub call-of : regular_call s work out ≡ regular_of (old_line s) work out
  unfolding regular_call
  call-of = rw (eq-eqb (length work) work_size size, le-ltb (length out) old_output room, regular_call)

  module _ (t : Ty) (e : old_line s ≡ some t) where
    pub of-type : regular_call s work out ≡ regular_of (some t) work out
    of-type = call-of ∙ ap (λ (o : Option Ty). regular_of o work out) e

    pub call-answers : too_large (made t) ≡ false → regular_call s work out ≡ answered (line (made t)) work out
    unfolding regular_of
    call-answers b = of-type ∙ rw (b, regular_of)
