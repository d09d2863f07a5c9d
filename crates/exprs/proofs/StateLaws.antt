-- How what is kept stands in bytes: `start_*` and `keep_*`. Assumes nothing.
use mathlib.Core.Path.{◌≡◌, refl, sym, ◌∙◌, ap}
use mathlib.Core.List.{[], ◌∷◌, ◌++◌}
use mathlib.Core.Option.{none, some}
use mathlib.Core.Bool.{false}
use Prim.Native.Nat.{ℕ, ◌+◌, ◌≤◌, ◌<◌}
use native.Mathlib.Omega.{arith}
use lib.ListN.{length, take, drop, length-append}
use lib.Seq.{slice, take-take, take_at, length-sets}
use Rattle.semantics.specs.Limits.{type_limit}
use Rattle.semantics.specs.Bytes.{Bytes}
use Rattle.semantics.specs.Ty.{Ty, t_list, ∅ᶠ, line, line_to}
use Rattle.text.proofs.Laws.{take-join, sets-parts}
use Rattle.ty.specs.Parts.{TypeAt}
use Rattle.ty.proofs.UnionEnds.{type-long}
use Rattle.unify_run.proofs.Size.{line-two}
use Rattle.walk_run.specs.Run.{Kept, empty, over, kept, both, items, last, entries, arms, keep_first, keep_two}
use Rattle.exprs.specs.State.{text_of, place, behind, full, StAs, ChildAt, LastChild, FirstForm}
use Rattle.exprs.specs.End.{Puts}
use Rattle.exprs.specs.Rules.{TwoKept}
use Rattle.exprs.specs.declared.state.Accumulator.{Accumulator}

-- ## A front of the text

pub list-line : (t : Ty) → line (t_list t) ≡ 74 ∷ 44 ∷ line t
unfolding line line_to
list-line t = refl

-- a list begins with `J,`
pub list-head : (s : Bytes) (t : Ty) → take (length (line (t_list t))) s ≡ line (t_list t) → take 2 s ≡ 74 ∷ 44 ∷ []
list-head s t f = sym (take-take 2 (length (line (t_list t))) s (omega (arith, ap length (list-line t)))) ∙ ap (take 2) (f ∙ list-line t)

pub type-long-front : {s : Bytes} {a n : ℕ} {t : Ty} → TypeAt s a (a + n) t → n ≡ length (line t)
type-long-front g = omega (arith, type-long g)

-- a part behind a front
pub front-more : (s x y : Bytes) {a n : ℕ} → a ≡ length x → n ≡ length y → take (length x) s ≡ x → slice a (a + n) s ≡ y → take (length (x ++ y)) s ≡ x ++ y
front-more s x y {a} {n} p q f g =
    ap (λ (m : ℕ). take m s) (length-append x y ∙ sym (ap (λ (m : ℕ). m + length y) p) ∙ ap (λ (m : ℕ). a + m) (sym q))
    ∙ sym (take-join a (a + n) s (omega arith))
    ∙ ap (λ (l : Bytes). l ++ slice a (a + n) s) (ap (λ (m : ℕ). take m s) p ∙ f)
    ∙ ap (λ (l : Bytes). x ++ l) g

-- ## `start_*`

-- what `state` makes
abbrev pub Is : Accumulator → ℕ → ℕ → Type 0
Is r a b = (r.len ≡ a) × (r.second ≡ b) × (r.over ≡ false)

pub empty-is : {r : Accumulator} → Is r 0 0 → (s : Bytes) → StAs empty s r
unfolding text_of place behind full
empty-is h s = record { len = h.0; second = h.1; over = h.2; front = refl }

pub list-is : {r : Accumulator} → Is r 2 0 → (s : Bytes) → take 2 s ≡ 74 ∷ 44 ∷ [] → StAs (items none) s r × StAs (last none) s r
unfolding text_of place behind full
list-is h s f = (record { len = h.0; second = h.1; over = h.2; front = f }, record { len = h.0; second = h.1; over = h.2; front = f })

pub map_is : {r : Accumulator} → Is r 4 0 → (s : Bytes) → take 4 s ≡ 75 ∷ 44 ∷ 33 ∷ 44 ∷ [] → StAs (entries ∅ᶠ) s r
unfolding text_of place behind full line line_to
map_is h s f = record { len = h.0; second = h.1; over = h.2; front = f }

-- what is put to the front stands there
put_front : {x s s' : Bytes} {k : ℕ} → length x ≤ length s → Puts x s s' k → take (length x) s' ≡ x
put_front {x} {s} h p = ap (take (length x)) (p.text ∙ sets-parts s 0 x (omega arith)) ∙ take_at x (drop (0 + length x) s) (length x) refl

put-long : {x s s' : Bytes} {k : ℕ} → Puts x s s' k → length s' ≡ length s
put-long {x} {s} p = ap length p.text ∙ length-sets s 0 x

pub list_put : {s s' : Bytes} {k : ℕ} {r : Accumulator} → type_limit ≤ length s → Puts (74 ∷ 44 ∷ []) s s' k → Is r k 0
    → StAs (items none) s' r × StAs (last none) s' r × (length s' ≡ length s)
list_put {s' = s'} h p i = let l = list-is (i.0 ∙ p.end, i.1, i.2) s' (put_front (omega arith) p) in (l.0, l.1, put-long p)

pub map-put : {s s' : Bytes} {k : ℕ} {r : Accumulator} → type_limit ≤ length s → Puts (75 ∷ 44 ∷ 33 ∷ 44 ∷ []) s s' k → Is r k 0
    → StAs (entries ∅ᶠ) s' r × (length s' ≡ length s)
map-put {s' = s'} h p i = (map_is (i.0 ∙ p.end, i.1, i.2) s' (put_front (omega arith) p), put-long p)

-- ## `keep_first`, `keep_second`, `keep_last`

pub first-stays : {st : Accumulator} {n : ℕ} → 0 < st.len → (s : Bytes) (k : Kept) (t : Ty) → FirstForm k → ChildAt k t s st n → StAs (keep_first k t) s st
unfolding keep_first place
first-stays h s empty t f c = absurd (omega (arith, c.state.len))
first-stays h s over t f c = absurd f
first-stays h s (kept u) t f c = c.state
first-stays h s (both u v) t f c = absurd f
first-stays h s (items e) t f c = absurd f
first-stays h s (last e) t f c = absurd f
first-stays h s (entries fs) t f c = absurd f
first-stays h s (arms ms) t f c = absurd f

pub kept-is : {r : Accumulator} {s : Bytes} {a n : ℕ} {t : Ty} → a ≡ 0 → Is r n 0 → TypeAt s a (a + n) t → StAs (kept t) s r
unfolding text_of place behind full
kept-is {r} {s} {a} {n} {t} z h g =
    let l = type-long-front g in
    record { len = h.0 ∙ l; second = h.1; over = h.2; front = front-more s [] (line t) z l refl g.is }

pub first-new : {st r : Accumulator} {n : ℕ} → st.len ≤ 0 → Is r n 0 → (s : Bytes) (k : Kept) (t : Ty) → FirstForm k → ChildAt k t s st n → StAs (keep_first k t) s r
unfolding keep_first place
first-new h i s empty t f c = kept-is (omega arith) i c.child
first-new h i s over t f c = absurd f
first-new h i s (kept u) t f c = absurd (omega (arith, c.state.len, line-two u))
first-new h i s (both u v) t f c = absurd f
first-new h i s (items e) t f c = absurd f
first-new h i s (last e) t f c = absurd f
first-new h i s (entries fs) t f c = absurd f
first-new h i s (arms ms) t f c = absurd f

pub second-new : {st r : Accumulator} {n : ℕ} → Is r st.len n → (s : Bytes) (u t : Ty) → ChildAt (kept u) t s st n → StAs (both u t) s r
unfolding text_of place behind full
second-new h s u t c =
    let l = type-long-front c.child in
    record { len = h.0 ∙ c.state.len; second = h.1 ∙ l; over = h.2; front = front-more s (line u) (line t) c.state.len l c.state.front c.child.is }

pub last-new : {st r : Accumulator} {n : ℕ} → Is r st.len n → (s : Bytes) (t : Ty) → LastChild t s st n → StAs (last (some t)) s r
unfolding text_of place behind full
last-new h s t c =
    let l = type-long-front c.child in
    record {
      len = h.0 ∙ c.len;
      second = h.1 ∙ l;
      over = h.2;
      front = rw list-line (front-more s (74 ∷ 44 ∷ []) (line t) c.len l c.head c.child.is);
    }

-- ## The first two

module _ {st r : Accumulator} {n : ℕ} where
  pub two-second : 0 < st.len → ((s : Bytes) (u t : Ty) → ChildAt (kept u) t s st n → StAs (both u t) s r) → TwoKept st n r
  unfolding keep_two place
  two-second h f s k t g c = go k g c
    where
      go : (k : Kept) → FirstForm k → ChildAt k t s st n → StAs (keep_two k t) s r
      go empty g c = absurd (omega (arith, c.state.len))
      go (kept u) g c = f s u t c
      go over g c = absurd g
      go (both a b) g c = absurd g
      go (items e) g c = absurd g
      go (last e) g c = absurd g
      go (entries fs) g c = absurd g
      go (arms ms) g c = absurd g

  pub two-first : st.len ≤ 0 → ((s : Bytes) (k : Kept) (t : Ty) → FirstForm k → ChildAt k t s st n → StAs (keep_first k t) s r) → TwoKept st n r
  unfolding keep_two keep_first place
  two-first h f s k t g c = go k g c
    where
      go : (k : Kept) → FirstForm k → ChildAt k t s st n → StAs (keep_two k t) s r
      go empty g c = f s empty t g c
      go (kept u) g c = absurd (omega (arith, c.state.len, line-two u))
      go over g c = absurd g
      go (both a b) g c = absurd g
      go (items e) g c = absurd g
      go (last e) g c = absurd g
      go (entries fs) g c = absurd g
      go (arms ms) g c = absurd g
