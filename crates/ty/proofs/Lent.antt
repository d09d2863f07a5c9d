-- The part of a text from a place on, lent as `&mut s[k..]`: what stands in it, and in the text when it comes back. Assumes nothing.
use mathlib.Core.Path.{◌≡◌, sym, ◌∙◌, ap, ap₂}
use mathlib.Core.List.{List, ◌++◌}
use Prim.Native.Nat.{ℕ, ◌+◌, ◌-◌, ◌≤◌}
use native.Mathlib.Nat.{add-zero}
use native.Mathlib.Omega.{arith}
use lib.ListN.{length, take, drop, length-append, length-drop}
use lib.Seq.{slice, length-take-le, take_at}
use Rattle.semantics.specs.Bytes.{Bytes}
use Rattle.semantics.specs.Ty.{Ty}
use Rattle.text.proofs.Laws.{part_slice, slice-take, slice-drop, slice-end, slice-right, back}
use Rattle.ty.specs.Parts.{TypeAt}
use Rattle.ty.specs.Union.{TypesAt}

-- two parts that were lent
pub lent_both : (s : Bytes) (a ae b be : ℕ) {A : Type 0} (f : Bytes → Bytes → A) {o : A} → o ≡ f (take (ae - a) (drop a s)) (take (be - b) (drop b s)) → o ≡ f (slice a ae s) (slice b be s)
lent_both s a ae b be f e = e ∙ ap₂ f (part_slice a ae s) (part_slice b be s)

pub part-whole : (s : Bytes) (k : ℕ) → take (length s - k) (drop k s) ≡ drop k s
part-whole s k = part_slice k (length s) s ∙ slice-end k (length s) s (omega arith)

pub part-long : (s : Bytes) (k : ℕ) → length (take (length s - k) (drop k s)) ≡ length s - k
part-long s k = ap length (part-whole s k) ∙ length-drop k s

pub slice-down : (s : Bytes) (k a e : ℕ) → slice a e (take (length s - k) (drop k s)) ≡ slice (k + a) (k + e) s
slice-down s k a e = ap (λ (l : Bytes). slice a e l) (part-whole s k) ∙ slice-drop a e k s

pub types-down : (s : Bytes) (k a e : ℕ) {ts : List Ty} → TypesAt s (k + a) (k + e) ts → TypesAt (take (length s - k) (drop k s)) a e ts
types-down s k a e f =
    let o = f.ordered in
    let i = f.inside in
    record { ordered = omega arith; inside = omega (arith, part-long s k); is = slice-down s k a e ∙ f.is }

-- the same with the part's own start
pub types-front : {s : Bytes} {k e : ℕ} {ts : List Ty} → TypesAt s k (k + e) ts → TypesAt (take (length s - k) (drop k s)) 0 e ts
types-front {s} {k} {e} f = types-down s k 0 e (rw (add-zero k) f)

-- the part changed, and back
abbrev pub put_back : Bytes → ℕ → Bytes → Bytes
put_back s k t = take k s ++ (t ++ drop (length s - k) (drop k s))

module _ (s t : Bytes) (k : ℕ) (h : k ≤ length s) (l : length t ≡ length (take (length s - k) (drop k s))) where
  pub put-kept : take k (put_back s k t) ≡ take k s
  put-kept = ap (take k) (back s t k h l) ∙ take_at (take k s) t k (length-take-le k s h)

  pub put-long : length (put_back s k t) ≡ length s
  put-long = let n = length-take-le k s h in ap length (back s t k h l) ∙ length-append (take k s) t ∙ omega (arith, part-long s k)

  pub slice_up : (a e : ℕ) → slice (k + a) (k + e) (put_back s k t) ≡ slice a e t
  slice_up a e =
      ap (λ (x : Bytes). slice (k + a) (k + e) x) (back s t k h l)
      ∙ ap (λ (n : ℕ). slice (n + a) (n + e) (take k s ++ t)) (sym (length-take-le k s h))
      ∙ slice-right a e (take k s) t

  -- what stands before the part
  pub slice-before : (e : ℕ) → e ≤ k → slice 0 e (put_back s k t) ≡ slice 0 e s
  slice-before e o = sym (slice-take 0 e k (put_back s k t) o) ∙ ap (slice 0 e) put-kept ∙ slice-take 0 e k s o

  pub types_up : {e : ℕ} {ts : List Ty} → TypesAt t 0 e ts → TypesAt (put_back s k t) k (k + e) ts
  types_up {e} f =
      let i = f.inside in
      record {
        ordered = omega arith;
        inside = omega (arith, put-long, part-long s k);
        is = ap (λ (n : ℕ). slice n (k + e) (put_back s k t)) (sym (add-zero k)) ∙ slice_up 0 e ∙ f.is;
      }

  pub type_up : {e : ℕ} {x : Ty} → TypeAt t 0 e x → TypeAt (put_back s k t) k (k + e) x
  type_up {e} f =
      let i = f.inside in
      record {
        ordered = omega arith;
        inside = omega (arith, put-long, part-long s k);
        is = ap (λ (n : ℕ). slice n (k + e) (put_back s k t)) (sym (add-zero k)) ∙ slice_up 0 e ∙ f.is;
      }
