-- The entries of a map in a text: their bytes, the first of them and the others. Assumes nothing.
use Prim.Native.Nat.{ℕ, ◌+◌, ◌≤◌}
use native.Mathlib.Omega.{arith}
use mathlib.Core.Path.{◌≡◌, refl, sym, ◌∙◌, ap, ap₂}
use mathlib.Core.Bool.{true, false}
use mathlib.Core.List.{[], ◌∷◌, ◌++◌, append_assoc, append-nil}
use mathlib.Core.Option.{Option, none, some}
use lib.Dec.{ltb}
use lib.ListN.{length, drop, length-append}
use lib.Seq.{slice}
use Rattle.semantics.specs.Bytes.{Bytes}
use Rattle.semantics.specs.Ty.{Ty, t_map, Fields, ∅ᶠ, field, names, name_to, line_to, fields_to, line, nesting, regular, too_large}
use Rattle.semantics.proofs.Regular.{regular-sound, regular-true}
use Rattle.text.proofs.Laws.{slice-join}
use Rattle.ty.specs.Merging.{head_to, HeadAt}
use Rattle.ty.proofs.Lines.{line-to}
use Rattle.ty.proofs.NameLaws.{name-append, name-long}
use Rattle.ty.proofs.MergeLaws.{split-part, drop-part}
use Rattle.unify_run.specs.Run.{long, attach}
use Rattle.unify_run.proofs.Size.{entry_sizes, map-bytes, small-sound, small-true}
use Rattle.unify.specs.Work.{span, Operand}
use Rattle.unify.specs.Entries.{entries_of, EntriesAt}

-- ## Their bytes

pub name-two : (n x : Bytes) → name_to n x ≡ name_to n [] ++ x
name-two n x = sym (name-append n [] x)

pub name-size : (n : Bytes) → length (name_to n []) ≡ length n + 1
name-size n = name-long n [] ∙ omega arith

pub entry-size : (n : Bytes) (t : Ty) → length (name_to n (line t)) ≡ length n + 1 + length (line t)
entry-size n t = name-long n (line t)

pub entries-end : (fs : Fields) → fields_to fs [] ≡ entries_of fs ++ (33 ∷ 44 ∷ [])
unfolding line_to entries_of
entries-end ∅ᶠ = refl
entries-end (field n t fs) =
    ap (name_to n) (line-to t (fields_to fs []) ∙ ap (λ (l : Bytes). line t ++ l) (entries-end fs) ∙ sym (append_assoc (line t) (entries_of fs) (33 ∷ 44 ∷ [])))
    ∙ sym (name-append n (line t ++ entries_of fs) (33 ∷ 44 ∷ []))

-- a map's line: its entries between `K,` and `!,`
pub map-line : (fs : Fields) → line (t_map fs) ≡ 75 ∷ 44 ∷ (entries_of fs ++ (33 ∷ 44 ∷ []))
unfolding line line_to
map-line fs = ap (λ (l : Bytes). 75 ∷ 44 ∷ l) (entries-end fs)

pub map-long : (fs : Fields) → length (line (t_map fs)) ≡ 2 + length (entries_of fs) + 2
map-long fs = ap length (map-line fs) ∙ omega (arith, length-append (entries_of fs) (33 ∷ 44 ∷ []))

pub attach-entries : (n : Bytes) (t : Ty) (fs : Fields) → entries_of (attach n t fs) ≡ entries_of fs ++ name_to n (line t)
unfolding attach entries_of
attach-entries n t ∅ᶠ = ap (name_to n) (append-nil (line t))
attach-entries n t (field m u fs) =
    ap (name_to m) (ap (λ (l : Bytes). line u ++ l) (attach-entries n t fs) ∙ sym (append_assoc (line u) (entries_of fs) (name_to n (line t))))
    ∙ sym (name-append m (line u ++ entries_of fs) (name_to n (line t)))

-- an entry more
pub attach-size : (n : Bytes) (t : Ty) (fs : Fields) → length (entries_of (attach n t fs)) ≡ length (entries_of fs) + (length n + 1 + length (line t))
attach-size n t fs = ap length (attach-entries n t fs) ∙ length-append (entries_of fs) (name_to n (line t)) ∙ ap (λ (j : ℕ). length (entries_of fs) + j) (entry-size n t)

pub attach-test : (n : Bytes) (t : Ty) (fs : Fields) → long (t_map (attach n t fs)) ≡ ltb 1024 (2 + length (entries_of fs) + (length n + 1 + length (line t)) + 2)
unfolding long
attach-test n t fs = let e : length (line (t_map (attach n t fs))) ≡ 2 + length (entries_of fs) + (length n + 1 + length (line t)) + 2 = map-long (attach n t fs) ∙ omega (arith, attach-size n t fs) in ap (ltb 1024) e

-- ## The first entry, and the others

pub tail-regular : (n : Bytes) (t : Ty) (fs : Fields) → regular (t_map (field n t fs)) ≡ true → (regular t ≡ true) × (regular (t_map fs) ≡ true)
unfolding names
tail-regular n t fs p = let h = regular-sound (t_map (field n t fs)) p in (regular-true t h.1.0, regular-true (t_map fs) (h.0.1, h.1.1))

pub tail-small : (n : Bytes) (t : Ty) (fs : Fields) → too_large (t_map (field n t fs)) ≡ false → (too_large t ≡ false) × (too_large (t_map fs) ≡ false)
unfolding nesting entry_sizes
tail-small n t fs p =
    let s = small-sound (t_map (field n t fs)) p in
    let a = map-bytes (field n t fs) in
    let b = map-bytes fs in
    (small-true t (omega arith, omega arith), small-true (t_map fs) (omega arith, omega arith))

abbrev pub head_of : Fields → Option Bytes
head_of ∅ᶠ = none
head_of (field n t fs) = some n

pub entries-head : (s : Bytes) (p mark : ℕ) (fs : Fields) → EntriesAt s p mark fs → HeadAt s p (head_of fs)
unfolding line_to head_to
entries-head s p mark ∅ᶠ h = record { rest = 44 ∷ drop h.end s; is = drop-part s p h.end (33 ∷ 44 ∷ []) h.ordered h.is }
entries-head s p mark (field n t fs) h =
    record { rest = line_to t (fields_to fs []) ++ drop h.end s; is = drop-part s p h.end (name_to n (line_to t (fields_to fs []))) h.ordered h.is ∙ name-append n (line_to t (fields_to fs [])) (drop h.end s) }

-- the entry of k bytes at p: the name n and the type t
pub record FirstAt (s : Bytes) (p mark : ℕ) (n : Bytes) (t : Ty) (fs : Fields) (k : ℕ) : Type 0 where
  pub rest : Bytes
  pub from : drop p s ≡ name_to n (line_to t rest)
  pub part : slice p (p + k) s ≡ name_to n (line t)
  pub name_part : slice p (p + (length n + 1)) s ≡ name_to n []
  pub value : Operand s (span (p + (length n + 1)) (p + k)) mark t
  pub others : EntriesAt s (p + k) mark fs

pub first_at : (s : Bytes) (p mark : ℕ) (n : Bytes) (t : Ty) (fs : Fields) (k : ℕ) → k ≡ length n + 1 + length (line t) → EntriesAt s p mark (field n t fs) → FirstAt s p mark n t fs k
first_at s p mark n t fs k e h =
    go (split-part s p h.end (name_to n []) (line t ++ fields_to fs []) h.ordered h.inside whole)
  where
    whole : slice p h.end s ≡ name_to n [] ++ (line t ++ fields_to fs [])
    whole = unfold line_to in (h.is ∙ ap (name_to n) (line-to t (fields_to fs [])) ∙ name-two n (line t ++ fields_to fs []))

    a : ℕ
    a = p + length (name_to n [])

    end_is : p + k ≡ p + length (name_to n []) + length (line t)
    end_is = omega (arith, e, name-size n)

    name-is : p + (length n + 1) ≡ p + length (name_to n [])
    name-is = omega (arith, name-size n)

    tails : (regular t ≡ true) × (regular (t_map fs) ≡ true)
    tails = tail-regular n t fs h.regular

    smalls : (too_large t ≡ false) × (too_large (t_map fs) ≡ false)
    smalls = tail-small n t fs h.small

    go : (p + length (name_to n []) ≤ h.end) × (slice p (p + length (name_to n [])) s ≡ name_to n []) × (slice (p + length (name_to n [])) h.end s ≡ line t ++ fields_to fs []) → FirstAt s p mark n t fs k
    go (fits, part, rest) = behind fits part (split-part s (p + length (name_to n [])) h.end (line t) (fields_to fs []) fits h.inside rest)
      where
        behind : p + length (name_to n []) ≤ h.end → slice p (p + length (name_to n [])) s ≡ name_to n []
            → (p + length (name_to n []) + length (line t) ≤ h.end) × (slice (p + length (name_to n [])) (p + length (name_to n []) + length (line t)) s ≡ line t) × (slice (p + length (name_to n []) + length (line t)) h.end s ≡ fields_to fs [])
            → FirstAt s p mark n t fs k
        behind f part (g, value, others) =
            let low = h.below in
            let in-text = h.inside in
            record {
              rest = fields_to fs [] ++ drop h.end s;
              from = drop-part s p h.end (name_to n [] ++ (line t ++ fields_to fs [])) h.ordered whole
                  ∙ append_assoc (name_to n []) (line t ++ fields_to fs []) (drop h.end s)
                  ∙ name-append n [] ((line t ++ fields_to fs []) ++ drop h.end s)
                  ∙ ap (name_to n) (append_assoc (line t) (fields_to fs []) (drop h.end s) ∙ sym (line-to t (fields_to fs [] ++ drop h.end s)));
              part = ap (λ (j : ℕ). slice p j s) end_is
                  ∙ sym (slice-join p (p + length (name_to n [])) (p + length (name_to n []) + length (line t)) s (omega arith) (omega arith))
                  ∙ ap₂ (λ (x y : Bytes). x ++ y) part value ∙ name-append n [] (line t);
              name_part = ap (λ (j : ℕ). slice p j s) name-is ∙ part;
              value = record {
                at = record { ordered = omega (arith, e); inside = omega (arith, end_is); is = ap₂ (λ (i j : ℕ). slice i j s) name-is end_is ∙ value };
                below = omega (arith, end_is);
                regular = tails.0;
                small = smalls.0;
              };
              others = record {
                end = h.end;
                ordered = omega (arith, end_is);
                below = h.below;
                inside = h.inside;
                is = ap (λ (j : ℕ). slice j h.end s) end_is ∙ others;
                regular = tails.1;
                small = smalls.1;
              };
            }
