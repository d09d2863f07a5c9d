-- What is kept at `to` of two lists below it. Assumes nothing.
use Prim.Native.Nat.{ℕ, ◌+◌, ◌≤◌, ◌<◌}
use native.Mathlib.Omega.{arith}
use mathlib.Core.Path.{◌≡◌, refl, sym, ap, ap₂, ◌∙◌}
use mathlib.Core.Bool.{Bool, true, false, cond}
use mathlib.Core.List.{[], ◌∷◌, ◌++◌}
use borrow.Author.Tests.{lt-ltb, le-ltb, ltb-true, ltb-false}
use lib.Dec.{ltb}
use lib.ListN.{length, take, drop, length-append}
use lib.Seq.{slice, sets, length-slice, length-sets, take-take, take-append_seam, drop-append_seam}
use Rattle.std.specs.Prelude.{Option, Some, None}
use Rattle.semantics.specs.Bytes.{Bytes}
use Rattle.ty.specs.declared.merging.Merge.{Merge}
use Rattle.ty.specs.declared.merging.Side.{Side}
use Rattle.ty.specs.declared.merging.Side.TheVariants.{First, Second, Both}
use Rattle.text.proofs.Laws.{take-slice, drop-slice, drop-join, slice-join, slice-below, slice-sets, take_below}
use Rattle.ty.specs.Made.{made}
use Rattle.ty.specs.Merging.{kept_of, kept_text, kept_length, Kept, taken_at, Few, Taking, closed_of, closed_text}

-- ## What is taken

pub taken-below : (s : Bytes) (m : Merge) (x : Side) (k to : ℕ) → Taking s m x k to → taken_at m x + k ≤ to
unfolding taken_at
taken-below s m First k to h = h.first (λ e. cc)
taken-below s m Second k to h = h.second (λ e. cc)
taken-below s m Both k to h = h.first (λ e. cc)

-- ## Parts of a text

-- a part that begins with x
pub split-part : (s : Bytes) (p e : ℕ) (x r : Bytes) → p ≤ e → e ≤ length s → slice p e s ≡ x ++ r
    → (p + length x ≤ e) × (slice p (p + length x) s ≡ x) × (slice (p + length x) e s ≡ r)
split-part s p e x r h k q =
    let l = length-slice p e s k in
    let fits : p + length x ≤ e = omega (arith, l, ap length q, length-append x r) in
    (fits, sym (take-slice (length x) p e s fits) ∙ ap (take (length x)) q ∙ take-append_seam x r, sym (drop-slice (length x) p e s) ∙ ap (drop (length x)) q ∙ drop-append_seam x r)

-- what begins where a part does
pub drop-part : (s : Bytes) (p e : ℕ) (x : Bytes) → p ≤ e → slice p e s ≡ x → drop p s ≡ x ++ drop e s
drop-part s p e x h q = sym (drop-join p e s h) ∙ ap (λ (l : Bytes). l ++ drop e s) q

-- a part of what has not changed
pub part_same : (s s' : Bytes) (a e to : ℕ) → e ≤ to → take to s' ≡ take to s → slice a e s' ≡ slice a e s
part_same s s' a e to h q = ap (drop a) (sym (take-take e to s' h) ∙ ap (take e) q ∙ take-take e to s h)

-- a text written behind another
pub put-behind : (s : Bytes) (to n : ℕ) (acc x : Bytes) → slice to (to + n) s ≡ acc → n ≡ length acc → to + n + length x ≤ length s
    → slice to (to + (n + length x)) (sets s (to + n) x) ≡ acc ++ x
put-behind s to n acc x a e r =
    let q : to + (n + length x) ≡ to + n + length x = omega arith in
    let f : slice to (to + n) (sets s (to + n) x) ≡ acc = slice-below to (to + n) s (to + n) x (omega arith) ∙ a in
    let b : slice (to + n) (to + n + length x) (sets s (to + n) x) ≡ x = slice-sets s (to + n) x r in
    ap (λ (k : ℕ). slice to k (sets s (to + n) x)) q
    ∙ sym (slice-join to (to + n) (to + n + length x) (sets s (to + n) x) (omega arith) (omega arith))
    ∙ ap₂ (λ (y z : Bytes). y ++ z) f b

-- ## The line at `to`

-- whether it is over
pub data Over (l : ℕ) : Type 0 where
  over : 1024 < l + 2 → kept_length l ≡ None → Over l
  within : l + 2 ≤ 1024 → kept_length l ≡ Some l → Over l

pub over_or_not : (l : ℕ) → Over l
unfolding kept_length
over_or_not l = go (ltb 1024 (l + 2)) refl
  where
    go : (b : Bool) → ltb 1024 (l + 2) ≡ b → Over l
    go true e = over (ltb-true 1024 (l + 2) e) (rw e)
    go false e = within (ltb-false 1024 (l + 2) e) (rw e)

pub few-kept : (s : Bytes) (to : ℕ) (n : Option ℕ) (acc : Bytes) → Kept s to n acc → Few n
few-kept s to n acc h = go (over_or_not (length acc))
  where
    go : Over (length acc) → Few n
    go (over w q) = rw (h.size ∙ q) tt
    go (within w q) = rw (h.size ∙ q) w

-- what is written if there is room
pub kept-text : (s : Bytes) (from k to n : ℕ) → n + k + 2 ≤ 1024 → kept_text s from k to (Some n) ≡ sets s (to + n) (slice from (from + k) s)
unfolding kept_text
kept-text s from k to n h = rw (le-ltb 1024 (n + k + 2) h)

-- k bytes more
pub kept_more : (s : Bytes) (from k to : ℕ) (n : Option ℕ) (acc x : Bytes) → Kept s to n acc → to + 1024 ≤ length s → slice from (from + k) s ≡ x → k ≡ length x
    → Kept (kept_text s from k to n) to (kept_of n k) (acc ++ x)
unfolding kept_of
kept_more s from k to n acc x h room e l = go (over_or_not (length acc))
  where
    long : length (acc ++ x) ≡ length acc + k
    long = length-append acc x ∙ omega (arith, l)

    go : Over (length acc) → Kept (kept_text s from k to n) to (kept_of n k) (acc ++ x)
    go (over w q) =
        rw (h.size ∙ q)
        (record { size = past (over_or_not (length (acc ++ x))); stands = λ p. absurd (omega (arith, long, w)) })
      where
        past : Over (length (acc ++ x)) → None ≡ kept_length (length (acc ++ x))
        past (over a b) = sym b
        past (within a b) = absurd (omega (arith, long, w))
    go (within w q) =
        rw (h.size ∙ q)
        (record {
          size = unfold kept_length in ap (λ (j : ℕ). made (ltb 1024 (j + 2)) j) (sym long);
          stands = λ p.
              ap₂ (λ (j : ℕ) (v : Bytes). slice to (to + j) v) (length-append acc x)
              (kept-text s from k to (length acc) (omega (arith, long)) ∙ ap (sets s (to + length acc)) e)
              ∙ put-behind s to (length acc) acc x (h.stands w) refl (omega (arith, long, l, room));
        })

pub kept-below : (s : Bytes) (from k to : ℕ) (n : Option ℕ) → take to (kept_text s from k to n) ≡ take to s
unfolding kept_text
kept-below s from k to None = refl
kept-below s from k to (Some n) = go (ltb 1024 (n + k + 2))
  where
    go : (b : Bool) → take to (cond b s (sets s (to + n) (slice from (from + k) s))) ≡ take to s
    go true = refl
    go false = take_below to s (to + n) (slice from (from + k) s) (omega arith)

pub kept-long : (s : Bytes) (from k to : ℕ) (n : Option ℕ) → length (kept_text s from k to n) ≡ length s
unfolding kept_text
kept-long s from k to None = refl
kept-long s from k to (Some n) = go (ltb 1024 (n + k + 2))
  where
    go : (b : Bool) → length (cond b s (sets s (to + n) (slice from (from + k) s))) ≡ length s
    go true = refl
    go false = length-sets s (to + n) (slice from (from + k) s)

-- `!,` at its end
closed-below : (s : Bytes) (to : ℕ) (n : Option ℕ) → take to (closed_text s to n) ≡ take to s
unfolding closed_text
closed-below s to None = refl
closed-below s to (Some n) = take_below to s (to + n) (33 ∷ 44 ∷ []) (omega arith)

pub closed-long : (s : Bytes) (to : ℕ) (n : Option ℕ) → length (closed_text s to n) ≡ length s
unfolding closed_text
closed-long s to None = refl
closed-long s to (Some n) = length-sets s (to + n) (33 ∷ 44 ∷ [])

-- a line that was begun
pub kept-first : (s : Bytes) (to : ℕ) (acc : Bytes) → length acc + 2 ≤ 1024 → slice to (to + length acc) s ≡ acc → Kept s to (Some (length acc)) acc
unfolding kept_length
kept-first s to acc w e = record { size = rw (le-ltb 1024 (length acc + 2) w); stands = λ _. e }

-- a line that was ended: too long, or there
pub record Closed (s s' : Bytes) (to : ℕ) (w : Bytes) (r : Option ℕ) : Type 0 where
  pub answer : r ≡ made (ltb 1024 (length w)) (length w)
  pub stands : length w ≤ 1024 → slice to (to + length w) s' ≡ w
  pub below : take to s' ≡ take to s
  pub long : length s' ≡ length s

pub closed : (s s' : Bytes) (to : ℕ) (n : Option ℕ) (acc w : Bytes) (r : Option ℕ) → Kept s to n acc → to + 1024 ≤ length s → acc ++ (33 ∷ 44 ∷ []) ≡ w → r ≡ closed_of n
    → s' ≡ closed_text s to n → Closed s s' to w r
unfolding closed_of closed_text
closed s s' to n acc w r h room e er es =
    record {
      answer = er ∙ answer (over_or_not (length acc));
      stands = λ z. stands z (over_or_not (length acc));
      below = ap (take to) es ∙ closed-below s to n;
      long = ap length es ∙ closed-long s to n;
    }
  where
    long : length w ≡ length acc + 2
    long = sym (ap length e) ∙ length-append acc (33 ∷ 44 ∷ [])

    answer : Over (length acc) → closed_of n ≡ made (ltb 1024 (length w)) (length w)
    answer (over o q) = rw (h.size ∙ q, lt-ltb 1024 (length w) (omega (arith, long, o)))
    answer (within o q) = rw (h.size ∙ q, le-ltb 1024 (length w) (omega (arith, long, o))) (ap Some (sym long))

    stands : length w ≤ 1024 → Over (length acc) → slice to (to + length w) s' ≡ w
    stands z (over o q) = absurd (omega (arith, long, o, z))
    stands z (within o q) =
        rw (es, h.size ∙ q)
        (ap (λ (k : ℕ). slice to (to + k) (sets s (to + length acc) (33 ∷ 44 ∷ []))) long
        ∙ put-behind s to (length acc) acc (33 ∷ 44 ∷ []) (h.stands o) refl (omega (arith, room, o)) ∙ e)
