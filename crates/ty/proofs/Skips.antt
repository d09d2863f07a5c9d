-- The steps of a skip, at places of a text. Assumes nothing.
use mathlib.Core.Path.{◌≡◌, refl, sym, ◌∙◌, ap}
use mathlib.Core.List.{[], ◌∷◌, ◌++◌, map, append_assoc}
use mathlib.Core.Option.{Option, none, some}
use mathlib.Core.Bool.{Bool, true, false, cond, ◌||◌}
use Prim.Native.Nat.{ℕ, ◌+◌, ◌-◌, ◌≤◌, ◌<◌}
use native.Mathlib.Omega.{arith}
use lib.Dec.{eqb, ltb}
use lib.ListN.{length, drop, get_or, length-drop, length-append}
use lib.Seq.{drop-drop, get_or-drop}
use borrow.Author.Tests.{eqb-true, eqb-false, ltb-true, ltb-false}
use Rattle.text.proofs.Words.{index-mark, index-first}
use Rattle.text.specs.Text.{index_of}
use Rattle.semantics.specs.Bytes.{Bytes, hex}
use Rattle.semantics.specs.Ty.{name_to, rel_to, Ty, line_to, line}
use Rattle.semantics.proofs.Order.{line-inj}
use Rattle.ty.specs.Parts.{TypeFrom, EndsAt}
use Rattle.ty.specs.Skip.{opened_by, goes_on, next_field, Skip, done, word, rel, SkipAt, Stepped}
use Rattle.ty.proofs.Lines.{length_to, nesting-line, nesting-pos, name-to, comma-at, hex-bytes, line-skip}
use Rattle.ty.proofs.Places.{past, byte_past, byte_at, room, room-past}

-- on the way to the comma of the field at q
module _ (s : Bytes) (q i : ℕ) (h : q + index_of 44 (drop q s) < length s) (a : q ≤ i) (b : i ≤ q + index_of 44 (drop q s)) where
  pub comma-on : (get_or s i 0 ≡ 44 → ⊥) → i < q + index_of 44 (drop q s)
  comma-on n = go (ltb i (q + index_of 44 (drop q s))) refl
    where
      go : (t : Bool) → ltb i (q + index_of 44 (drop q s)) ≡ t → i < q + index_of 44 (drop q s)
      go true e = ltb-true i (q + index_of 44 (drop q s)) e
      go false e =
          let k = ltb-false i (q + index_of 44 (drop q s)) e in
          let z : i ≡ q + index_of 44 (drop q s) = omega arith in
          absurd (n (ap (λ (j : ℕ). get_or s j 0) z ∙ sym (get_or-drop q s (index_of 44 (drop q s)) 0) ∙ index-mark 44 (drop q s) (omega (arith, length-drop q s))))

  pub comma-here : get_or s i 0 ≡ 44 → i ≡ q + index_of 44 (drop q s)
  comma-here n = go (ltb i (q + index_of 44 (drop q s))) refl
    where
      go : (t : Bool) → ltb i (q + index_of 44 (drop q s)) ≡ t → i ≡ q + index_of 44 (drop q s)
      go true e =
          let k = ltb-true i (q + index_of 44 (drop q s)) e in
          let z : q + (i - q) ≡ i = omega arith in
          absurd (index-first 44 (drop q s) (i - q) (omega arith) (get_or-drop q s (i - q) 0 ∙ ap (λ (j : ℕ). get_or s j 0) z ∙ n))
      go false e = let k = ltb-false i (q + index_of 44 (drop q s)) e in omega arith

-- behind a name
pub name-past : (s : Bytes) (p : ℕ) (n x : Bytes) → drop p s ≡ name_to n x → (p + index_of 44 (drop p s) < length s) × (drop (next_field s p) s ≡ x)
name-past s p n x e =
    let f = map hex n in
    let g : drop p s ≡ (f ++ (44 ∷ [])) ++ x = e ∙ name-to n x ∙ sym (append_assoc f (44 ∷ []) x) in
    let i : index_of 44 (drop p s) ≡ length f = ap (index_of 44) (e ∙ name-to n x) ∙ comma-at f x (hex-bytes n) in
    let l = length-append f (44 ∷ []) in
    let m : p + length (f ++ (44 ∷ [])) ≡ next_field s p = omega arith in
    (omega (arith, room-past s p (f ++ (44 ∷ [])) x g (omega arith)), rw m at (past s p (f ++ (44 ∷ [])) x g))

module _ (s : Bytes) (q : ℕ) where
  -- a field that is no relationship type
  pub record Worded (rest : Bytes) (k : ℕ) : Type 0 where
    pub low : get_or s q 0 ≡ 33 → 0 < k
    pub comma : q + index_of 44 (drop q s) < length s
    pub after : Skip rest (goes_on (get_or s q 0) (opened_by (get_or s q 0) k)) (opened_by (get_or s q 0) k) (drop (next_field s q) s)

  pub worded : {rest : Bytes} {k : ℕ} → (get_or s q 0 ≡ 77 → ⊥) → Skip rest true k (drop q s) → Worded rest k
  worded {rest} {k} h w = go refl w
    where
      go : {y : Bytes} → drop q s ≡ y → Skip rest true k y → Worded rest k
      go e (word {x} {y} c p u v l f w) =
          let z : q + 0 ≡ q = omega arith in
          let g : get_or s q 0 ≡ c = ap (λ (i : ℕ). get_or s i 0) (sym z) ∙ sym (get_or-drop q s 0 0) ∙ ap (λ (l : Bytes). get_or l 0 0) e ∙ sym p in
          let i : index_of 44 (drop q s) ≡ index_of 44 y = ap (index_of 44) e in
          let a : q + (index_of 44 y + 1) ≡ q + index_of 44 (drop q s) + 1 = omega arith in
          let d : drop (next_field s q) s ≡ x = ap (λ (n : ℕ). drop n s) (sym a) ∙ sym (drop-drop (index_of 44 y + 1) q s) ∙ ap (drop (index_of 44 y + 1)) e ∙ sym f in
          record { low = λ j. u (sym g ∙ j); comma = omega (arith, length-drop q s, ap length e); after = rw (g, d) w }
      go e (rel {x} n w) = absurd (h (byte_at s q (44 ∷ rel_to n x) 77 e))

  -- a relationship type
  pub record Related (rest : Bytes) (k : ℕ) : Type 0 where
    pub name : Option Bytes
    pub text : Bytes
    pub is : drop q s ≡ 77 ∷ 44 ∷ rel_to name text
    pub after : Skip rest (ltb 0 k) k text

  pub related : {rest : Bytes} {k : ℕ} → get_or s q 0 ≡ 77 → Skip rest true k (drop q s) → Related rest k
  related {rest} {k} h w = go refl w
    where
      go : {y : Bytes} → drop q s ≡ y → Skip rest true k y → Related rest k
      go e (word c p u v l f w) =
          let z : q + 0 ≡ q = omega arith in
          let g : get_or s q 0 ≡ c = ap (λ (i : ℕ). get_or s i 0) (sym z) ∙ sym (get_or-drop q s 0 0) ∙ ap (λ (l : Bytes). get_or l 0 0) e ∙ sym p in
          absurd (v (sym g ∙ h))
      go e (rel {x} n w) = record { name = n; text = x; is = e; after = w }

module _ (s : Bytes) (q : ℕ) where
  -- the next step over a field
  pub word-step : SkipAt s q → (get_or s q 0 ≡ 77 → ⊥) → (r : ℕ) → r ≡ next_field s q → Stepped s q r
  word-step a h r e =
      let w = worded s q h a.is in
      record { onward = omega (arith, w.comma); inside = omega (arith, w.comma); step = λ rest k x. rw e (worded s q h x).after }

  related-in : {rest : Bytes} {k : ℕ} → Related s q rest k → q + 4 ≤ length s
  unfolding rel_to
  related-in {rest} {k} w = go w.name w.is
    where
      go : (n : Option Bytes) → drop q s ≡ 77 ∷ 44 ∷ rel_to n w.text → q + 4 ≤ length s
      go none e = omega (arith, room s q _ e (omega arith))
      go (some n) e = omega (arith, room s q _ e (omega arith))

  pub rel-inside : SkipAt s q → get_or s q 0 ≡ 77 → q + 4 ≤ length s
  rel-inside a h = related-in (related s q h a.is)

  -- with no name
  bare : (n : Option Bytes) (x : Bytes) → drop q s ≡ 77 ∷ 44 ∷ rel_to n x → get_or s (q + 2) 0 ≡ 33 → drop (q + 4) s ≡ x
  unfolding rel_to
  bare none x e h = past s q (77 ∷ 44 ∷ 33 ∷ 44 ∷ []) x e
  bare (some n) x e h = absurd (omega (arith, byte_past s q (77 ∷ 44 ∷ []) (44 ∷ name_to n x) 43 e))

  pub bare_step : SkipAt s q → get_or s q 0 ≡ 77 → get_or s (q + 2) 0 ≡ 33 → Stepped s q (q + 4)
  unfolding opened_by goes_on
  bare_step a h g =
      record {
        onward = omega arith;
        inside = rel-inside a h;
        step = λ rest k x. let w = related s q h x in let e = bare w.name w.text w.is g in rw (h, e) w.after;
      }

  -- with a name
  spelt : (n : Option Bytes) (x : Bytes) → drop q s ≡ 77 ∷ 44 ∷ rel_to n x → (get_or s (q + 2) 0 ≡ 33 → ⊥) → (m : Bytes) × (drop (q + 4) s ≡ name_to m x)
  unfolding rel_to
  spelt none x e h = absurd (h (byte_past s q (77 ∷ 44 ∷ []) (44 ∷ x) 33 e))
  spelt (some n) x e h = (n, past s q (77 ∷ 44 ∷ 43 ∷ 44 ∷ []) (name_to n x) e)

  pub spelt-comma : SkipAt s q → get_or s q 0 ≡ 77 → (get_or s (q + 2) 0 ≡ 33 → ⊥) → q + 4 + index_of 44 (drop (q + 4) s) < length s
  spelt-comma a h g = let w = related s q h a.is in let m = spelt w.name w.text w.is g in (name-past s (q + 4) m.0 w.text m.1).0

  pub spelt-step : SkipAt s q → get_or s q 0 ≡ 77 → (get_or s (q + 2) 0 ≡ 33 → ⊥) → (r : ℕ) → r ≡ next_field s (q + 4) → Stepped s q r
  unfolding opened_by goes_on
  spelt-step a h g r e =
      record {
        onward = omega arith;
        inside = omega (arith, spelt-comma a h g);
        step = λ rest k x.
            let w = related s q h x in
            let m = spelt w.name w.text w.is g in
            let d = (name-past s (q + 4) m.0 w.text m.1).1 in
            rw (h, e, d) w.after;
      }

  pub skip-inside : SkipAt s q → q < length s
  skip-inside a = go (eqb (get_or s q 0) 77) refl
    where
      go : (b : Bool) → eqb (get_or s q 0) 77 ≡ b → q < length s
      go true e = omega (arith, rel-inside a (eqb-true (get_or s q 0) 77 e))
      go false e = omega (arith, (worded s q (eqb-false (get_or s q 0) 77 e) a.is).comma)

  pub skip-low : {rest : Bytes} {k : ℕ} → Skip rest true k (drop q s) → get_or s q 0 ≡ 33 → 0 < k
  skip-low w e = (worded s q (λ f. omega arith) w).low e

opened-le : (c k : ℕ) → opened_by c k ≤ k + 1
unfolding opened_by
opened-le c k = go (eqb c 33) (eqb c 75 || (eqb c 76 || eqb c 79))
  where
    go : (a b : Bool) → cond a (k - 1) (cond b (k + 1) k) ≤ k + 1
    go true b = omega arith
    go false true = omega arith
    go false false = omega arith

-- ## The loop over a type

pub record Skipping (s : Bytes) (at q depth : ℕ) (more : Bool) : Type 0 where
  pub from : at + depth ≤ q
  pub inside : q ≤ length s
  pub ty : Ty
  pub rest : Bytes
  pub is : drop at s ≡ line_to ty rest
  pub skip : Skip rest more depth (drop q s)

-- the type's first byte is there
pub type-inside : (s : Bytes) (at : ℕ) (t : Ty) (rest : Bytes) → drop at s ≡ line_to t rest → at + length (line t) + length rest ≡ length s
type-inside s at t rest e = omega (arith, length_to t rest, nesting-line t, nesting-pos t, room s at (line_to t rest) e (omega (arith, length_to t rest, nesting-line t, nesting-pos t)))

pub skipping : (s : Bytes) (at : ℕ) → TypeFrom s at → Skipping s at at 0 true
skipping s at w =
    record {
      from = omega arith;
      inside = omega (arith, type-inside s at w.ty w.rest w.is);
      ty = w.ty;
      rest = w.rest;
      is = w.is;
      skip = rw w.is (line-skip w.rest w.ty 0 w.rest done);
    }

module _ (s : Bytes) (at q depth : ℕ) (more : Bool) (i : Skipping s at q depth more) (m : more ≡ true) where
  going : Skip i.rest true depth (drop q s)
  going = rw m at i.skip

  pub skip_at : SkipAt s q
  skip_at = record { rest = i.rest; depth = depth; is = going }

  pub skip-depth : (get_or s q 0 ≡ 33 → 0 < depth) × (depth < q + 1) × (q < length s)
  skip-depth = (λ e. skip-low s q going e, omega (arith, i.from), skip-inside s q skip_at)

  pub skip-on : (r depth' : ℕ) (more' : Bool) → Stepped s q r → depth' ≡ opened_by (get_or s q 0) depth → more' ≡ goes_on (get_or s q 0) depth' → Skipping s at r depth' more'
  skip-on r depth' more' st d g =
      record {
        from = omega (arith, opened-le (get_or s q 0) depth, st.onward, i.from);
        inside = st.inside;
        ty = i.ty;
        rest = i.rest;
        is = i.is;
        skip = rw (g, d) (st.step i.rest depth going);
      }

done-is : {rest x : Bytes} {k : ℕ} → Skip rest false k x → x ≡ rest
done-is done = refl

pub skipped : (s : Bytes) (at q depth : ℕ) (more : Bool) → Skipping s at q depth more → more ≡ false → EndsAt s at q
skipped s at q depth more i m t rest e =
    let j = line-inj t i.ty rest i.rest (sym e ∙ i.is) in
    let n = ap length (done-is (rw m at i.skip)) in
    rw j.0 (omega (arith, length-drop q s, type-inside s at i.ty i.rest i.is, i.inside))

-- ## A type told by its letter

module _ (s : Bytes) (at : ℕ) (w : TypeFrom s at) where
  pub type-room : at + 2 ≤ length s
  type-room = omega (arith, type-inside s at w.ty w.rest w.is, nesting-line w.ty, nesting-pos w.ty)

  -- a relationship type ends behind its one step
  pub rel-at : get_or s at 0 ≡ 77 → SkipAt s at
  rel-at h = skip_at s at at 0 true (skipping s at w) refl

  pub rel-ends : get_or s at 0 ≡ 77 → (r : ℕ) → Stepped s at r → EndsAt s at r
  unfolding opened_by goes_on
  rel-ends h r st = skipped s at r 0 false (skip-on s at at 0 true (skipping s at w) refl r 0 false st (rw h refl) (rw h refl)) refl
