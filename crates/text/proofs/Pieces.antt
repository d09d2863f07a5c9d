-- Where a byte is last met among those that come off the back of a slice. Assumes nothing.
use Prim.Native.Nat.{ℕ, suc, ◌+◌, ◌-◌, ◌≤◌, ◌<◌}
use native.Mathlib.Decide.{dec_lt}
use native.Mathlib.Omega.{arith}
use mathlib.Core.Path.{◌≡◌, refl, sym, ap, subst, ◌∙◌}
use mathlib.Core.Bool.{Bool, true, false, false≢true}
use mathlib.Core.List.{List, [], ◌∷◌, ◌++◌}
use borrow.Author.Tests.{eqb-true, eq-eqb}
use lib.Dec.{eqb}
use lib.ListN.{length, take, drop, get_or, length-append, length-drop, get_or-append}
use lib.Seq.{length-take-le, get_or-take, get_or-drop}
use Rattle.text.specs.Text.{Starts}
use denote.Ref.{Bor}
use denote.Param.Members.{Mut}
use Rattle.std.specs.Fn.{Called}
use Rattle.std.specs.List.{FoldsTo}
use Rattle.std.specs.Iterator.{Yields, FindsPositionBack}
use Rattle.std.specs.Option.{MatchOption}
use Rattle.std.specs.Prelude.{Option, Some, None}

-- the byte b is nowhere in s from n on
abbrev pub NoneFrom : ℕ → List ℕ → ℕ → Type 0
NoneFrom b s n = (k : ℕ) → n ≤ k → k < length s → get_or s k 0 ≡ b → ⊥

-- s begins as t, and b is nowhere behind that
record Before (b : ℕ) (s t : List ℕ) (n : ℕ) : Type 0 where
  long : length s ≡ length t + n
  same : (k : ℕ) → k < length t → get_or s k 0 ≡ get_or t k 0
  free : NoneFrom b s (length t)

-- the last of a list, and those before it
last : (t : List ℕ) (x : ℕ) → get_or (t ++ (x ∷ [])) (length t) 0 ≡ x
last [] x = refl
last (y ∷ t) x = last t x

module _ (b x : ℕ) (s t r : List ℕ) (n : ℕ) (e : s ≡ t ++ (x ∷ [])) where
  long_by : length s ≡ length t + 1
  long_by = ap length e ∙ length-append t (x ∷ [])

  front_by : (k : ℕ) → k < length t → get_or s k 0 ≡ get_or t k 0
  front_by k h = ap (λ (l : List ℕ). get_or l k 0) e ∙ get_or-append t (x ∷ []) 0 k h

  last_by : get_or s (length t) 0 ≡ x
  last_by = ap (λ (l : List ℕ). get_or l (length t) 0) e ∙ last t x

  at_last : (k : ℕ) → length t ≤ k → k < length s → get_or s k 0 ≡ x
  at_last k l h = ap (λ (i : ℕ). get_or s i 0) (omega (arith, l, h, long_by)) ∙ last_by

  further : (x ≡ b → ⊥) → Before b t r n → Before b s r (suc n)
  further u w = record {
    long = omega (arith, long_by, w.long);
    same = λ k h. front_by k (omega (arith, h, w.long)) ∙ w.same k h;
    free = λ k l h q. go k l h q (dec_lt k (length t));
  }
    where
      go : (k : ℕ) → length r ≤ k → k < length s → get_or s k 0 ≡ b → Dec (k < length t) → ⊥
      go k l h q (yes a) = w.free k l a (sym (front_by k a) ∙ q)
      go k l h q (no a) = u (sym (at_last k (omega arith) h) ∙ q)

-- an iterator that gives the last of what it has left
abbrev pub Backs : {S : Type 0} → (S → List ℕ) → S → Option (Bor ℕ) → S → Type 0
Backs rest s r t = MatchOption r ((length (rest s) ≡ 0) × (t ≡ s)) (λ x. rest s ≡ rest t ++ (x.now ∷ []))

-- the last place of b, or none
abbrev pub Last : ℕ → List ℕ → Option ℕ → Type 0
Last b s None = NoneFrom b s 0
Last b s (Some i) = (i < length s) × (get_or s i 0 ≡ b) × NoneFrom b s (suc i)

module _ {S F : Type 0} (rest : S → List ℕ) (b : ℕ) (g : Mut F (Bor ℕ × Unit {0}) Bool) (f : F) (tells : (x : Bor ℕ) (a : Bool) (q : F) → Called g f (x, tt) a q → (q ≡ f) × (a ≡ eqb x.now b)) where
  unlike : (x : Bor ℕ) (q : F) → Called g f (x, tt) false q → x.now ≡ b → ⊥
  unlike x q c e = false≢true ((tells x false q c).1 ∙ eq-eqb x.now b e)

  walked : (xs : List (Bor ℕ)) (s t : S) (j : F) → Yields (Backs rest) s xs t → FoldsTo (λ p x q. Called g p (x, tt) false q) f xs j
      → Before b (rest s) (rest t) (length xs) × (j ≡ f)
  walked [] s t j y c = (subst (λ (u : S). Before b (rest s) (rest u) 0) y (record { long = omega arith; same = λ k h. refl; free = λ k l h q. absurd (omega arith) }), sym c)
  walked (x ∷ xs) s t j (s', o, y) (f', d, c) =
      let still = (tells x false f' d).0 in
      let w = walked xs s' t j y (subst (λ (h : F). FoldsTo (λ p x q. Called g p (x, tt) false q) h xs j) still c) in
      (further b x.now (rest s) (rest s') (rest t) (length xs) o (unlike x f' d) w.0, w.1)

  pub last_place : (n : ℕ) (s u : S) (r : Option ℕ) → n ≡ length (rest s) → FindsPositionBack (Backs rest) g s f n r u → Last b (rest s) r
  last_place n s u r e (xs, None, j, (t, y, p), c, m) =
      let w = (walked xs s t j y c).0 in
      subst (Last b (rest s)) (sym m) (λ k l h. w.free k (omega (arith, p.0)) h)
  last_place n s u None e (xs, Some x, j, (t, y, p), c, m) = absurd m.0
  last_place n s u (Some i) e (xs, Some x, j, (t, y, p), c, m) =
      let w = (walked xs s t j y c).0 in
      let long = long_by b x.now (rest t) (rest u) (rest u) 0 p in
      let at : i ≡ length (rest u) = omega (arith, e, m.0, w.long, long) in
      let is : x.now ≡ b = eqb-true x.now b (sym (tells x true m.1.0 (subst (λ (h : F). Called g h (x, tt) true m.1.0) (walked xs s t j y c).1 m.1.1)).1) in (
        omega (arith, at, w.long, long),
        ap (λ (k : ℕ). get_or (rest s) k 0) at ∙ w.same (length (rest u)) (omega (arith, long)) ∙ at_last b x.now (rest t) (rest u) (rest u) 0 p (length (rest u)) (omega arith) (omega (arith, long)) ∙ is,
        λ k l h. w.free k (omega (arith, at, long)) h,
      )

-- the part from `from` to `at`, and where the piece starts that holds the byte at `at`
module _ (b : ℕ) (s l : List ℕ) (from at : ℕ) (h : from ≤ at) (k : at ≤ length s) (e : l ≡ take (at - from) (drop from s)) where
  long_part : length l ≡ at - from
  long_part = ap length e ∙ length-take-le (at - from) (drop from s) (omega (arith, h, k, length-drop from s))

  part_at : (i : ℕ) → i < at - from → get_or l i 0 ≡ get_or s (from + i) 0
  part_at i m = ap (λ (p : List ℕ). get_or p i 0) e ∙ get_or-take (at - from) (drop from s) i 0 m ∙ get_or-drop from s i 0

  free_part : (n : ℕ) → NoneFrom b l n → (i : ℕ) → from + n ≤ i → i < at → get_or s i 0 ≡ b → ⊥
  free_part n f i m o q =
      let place : from + (i - from) ≡ i = omega (arith, m) in
      f (i - from) (omega (arith, m)) (omega (arith, m, o, long_part)) (part_at (i - from) (omega (arith, m, o)) ∙ (ap (λ (j : ℕ). get_or s j 0) place ∙ q))

  pub starts_behind : (i : ℕ) → Last b l (Some i) → Starts b s from at (from + i + 1)
  starts_behind i (m, q, f) =
      let inside : i < at - from = omega (arith, m, long_part) in
      let back : from + i + 1 - 1 ≡ from + i = omega arith in
      record {
        after = omega arith;
        upto = omega (arith, inside, h);
        edge = λ _. ap (λ (j : ℕ). get_or s j 0) back ∙ sym (part_at i inside) ∙ q;
        none = λ j u o. free_part (suc i) f j (omega (arith, u)) o;
      }

  pub starts_there : Last b l None → Starts b s from at from
  starts_there f = record { after = omega arith; upto = h; edge = λ m. absurd (omega (arith, m)); none = λ j u o. free_part 0 f j (omega (arith, u)) o }
