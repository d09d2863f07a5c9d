-- A field read where it stands. Assumes nothing.
use mathlib.Core.Path.{◌≡◌, refl, sym, ◌∙◌, ap}
use mathlib.Core.List.{[], ◌∷◌}
use mathlib.Core.Option.{some}
use mathlib.Core.Bool.{Bool, true, false, cond, ◌&&◌, ◌||◌}
use mathlib.Core.Logic.{◌⊎◌, ⊎_elim}
use Prim.Native.Nat.{ℕ, ◌+◌, ◌-◌, ◌*◌, ◌%◌, ◌≤◌, ◌<◌, min}
use native.Mathlib.Decide.{dec_lt}
use native.Mathlib.Omega.{arith}
use lib.Dec.{leb, eqb, ltb}
use lib.ListN.{length, get_or, take, drop, length-drop}
use lib.Seq.{slice, get_or-take, length-take-le, length-slice, take_all, get_or-drop}
use borrow.Author.Tests.{le-leb, ltb-true, ltb-false, eqb-false, ne_eqb}
use Rattle.std.specs.List.{position_or_len}
use Rattle.std.proofs.Common.{length-take}
use Rattle.std.proofs.lemmas.List.Sums.{fails_before_first}
use Rattle.semantics.specs.Bytes.{Bytes, is_digit, digits, decimal, unhex}
use Rattle.semantics.specs.Sheet.{wrong, number, is_dash, lettered, within}
use Rattle.std.specs.Prelude.{Option as Maybe, Some, None, Ok}
use Rattle.text.specs.Text.{is_found, is_hex}
use Rattle.text.proofs.Laws.{get_or-slice, part_slice, drop-slice}
use Rattle.text.proofs.Words.{number-on, number-end, hexes-on, hexes-end, decimal-one, decimal-more}
use Rattle.line.specs.declared.shapes.Shape.{Shape}
use Rattle.line.specs.declared.shapes.Shape.TheVariants.{Range, Variable, Optional, Name, Alias, Bound, Letter, Signed, Float}
use Rattle.line.specs.declared.in_place.Got.{Got}
use Rattle.line.specs.declared.kinds.VarKind.{VarKind}
use Rattle.line.specs.declared.kinds.VarKind.TheVariants.{Node, Relationship, Path, Value}
use Rattle.line.specs.Kinds.{kind_no}
use Rattle.line.specs.Words.{field_of}
use Rattle.line.specs.Fields.{clip, val_of, value_at, negative_of}
use Rattle.line.specs.Quick.{Clean, Stood, DigitsTo, NumberAs, HexTo, PieceTo, GotAs, Dashed}
use Rattle.line.proofs.ValueLaws.{dash-is, dash-not, dash-other, within_in, var-number, name-fine, name-says, float-fine, optional-dash, optional-some, alias-dash, bound-dash, negative-small, negative-in, positive-small, positive-in, signed-minus, signed-plain}

-- ## No comma and no LF

pub clean-on : (s : Bytes) (a i : ℕ) → Clean s a i → (get_or s i 0 ≡ 44 → ⊥) → (get_or s i 0 ≡ 10 → ⊥) → Clean s a (i + 1)
clean-on s a i c h k j p q = go (dec_lt j i)
  where
    go : Dec (j < i) → (get_or s j 0 ≡ 44 → ⊥) × (get_or s j 0 ≡ 10 → ⊥)
    go (yes l) = c j p l
    go (no l) = let e : j ≡ i = omega arith in rw e (h, k)

pub clean-none : (s : Bytes) (a : ℕ) → Clean s a a
clean-none s a i p q = absurd (omega arith)

-- ## Digits

digit-yes : (c : ℕ) → 48 ≤ c → c ≤ 57 → is_digit c ≡ true
digit-yes c h k = rw (le-leb 48 c h, le-leb c 57 k)

-- one digit more, up to any end behind it
more_same : (s : Bytes) (i n e : ℕ) → i < e → e ≤ length s → 48 ≤ get_or s i 0 → get_or s i 0 ≤ 57
    → digits n (slice i e s) ≡ digits (n * 10 + (get_or s i 0 - 48)) (slice (i + 1) e s)
more_same s i n e h k a b =
    let t = get_or-take e s i 0 h in
    number-on n (take e s) i (omega (arith, length-take-le e s k)) (rw t (digit-yes (get_or s i 0) a b))
    ∙ ap (λ (c : ℕ). digits (n * 10 + (c - 48)) (slice (i + 1) e s)) t

pub digits-on : (s : Bytes) (at i n : ℕ) → DigitsTo s at i n → i < length s → 48 ≤ get_or s i 0 → get_or s i 0 ≤ 57
    → DigitsTo s at (i + 1) (n * 10 + (get_or s i 0 - 48))
digits-on s at i n d h a b =
    record {
      on = omega (arith, d.on);
      within = omega arith;
      clean = clean-on s at i d.clean (λ e. omega arith) (λ e. omega arith);
      led = d.led;
      same = λ e p q. d.same e (omega arith) q ∙ more_same s i n e (omega arith) q a b;
    }

first-same : (s : Bytes) (at e : ℕ) → at < e → e ≤ length s → 48 ≤ get_or s at 0 → get_or s at 0 ≤ 57
    → digits 0 (slice at e s) ≡ digits (get_or s at 0 - 48) (slice (at + 1) e s)
first-same s at e h k a b =
    let z : 0 * 10 + (get_or s at 0 - 48) ≡ get_or s at 0 - 48 = omega arith in
    more_same s at 0 e h k a b ∙ ap (λ (v : ℕ). digits v (slice (at + 1) e s)) z

first-clean : (s : Bytes) (at : ℕ) → 48 ≤ get_or s at 0 → Clean s at (at + 1)
first-clean s at a = clean-on s at at (clean-none s at) (λ e. omega arith) (λ e. omega arith)

pub digits-start : (s : Bytes) (at : ℕ) → at < length s → 48 ≤ get_or s at 0 → get_or s at 0 ≤ 57 → (get_or s at 0 ≡ 48 → ⊥)
    → DigitsTo s at (at + 1) (get_or s at 0 - 48)
digits-start s at h a b z =
    record {
      on = omega arith;
      within = omega arith;
      clean = first-clean s at a;
      led = z;
      same = λ e p q. first-same s at e (omega arith) q a b;
    }

done : (s : Bytes) (n i : ℕ) → i ≤ length s → digits n (slice i i s) ≡ some n
done s n i h = number-end n (take i s) i (omega (arith, length-take-le i s h))

pub digits-end : (s : Bytes) (at i n : ℕ) → DigitsTo s at i n → i < length s → Stood s at i × (decimal (slice at i s) ≡ some n)
digits-end s at i n d h = (record { from = omega (arith, d.on); inside = h; clean = d.clean }, go (dec_lt (at + 1) i) ∙ d.same i (omega arith) (omega arith) ∙ done s n i (omega arith))
  where
    long : length (slice at i s) ≡ i - at
    long = length-slice at i s (omega arith)

    first : get_or (slice at i s) 0 0 ≡ get_or s at 0
    first =
        let z : at + 0 ≡ at = omega arith in
        get_or-slice at i s 0 0 (omega (arith, d.on)) ∙ ap (λ (j : ℕ). get_or s j 0) z

    go : Dec (at + 1 < i) → decimal (slice at i s) ≡ digits 0 (slice at i s)
    go (yes l) = decimal-more (slice at i s) (omega (arith, long)) (λ e. d.led (sym first ∙ e))
    go (no l) = decimal-one (slice at i s) (omega (arith, long, d.on))

pub digit-alone : (s : Bytes) (at : ℕ) → at + 1 < length s → 48 ≤ get_or s at 0 → get_or s at 0 ≤ 57
    → Stood s at (at + 1) × (decimal (slice at (at + 1) s) ≡ some (get_or s at 0 - 48))
digit-alone s at h a b = (
  record { from = omega arith; inside = h; clean = first-clean s at a },
  decimal-one (slice at (at + 1) s) (omega (arith, length-slice at (at + 1) s (omega arith)))
      ∙ first-same s at (at + 1) (omega arith) (omega arith) a b ∙ done s (get_or s at 0 - 48) (at + 1) (omega arith),
)

-- a number of a range
pub ranged-got : (s : Bytes) (at least most l : ℕ) (r : Got) → NumberAs s at (Some r) → least ≤ r.n → r.n ≤ most → most < 18446744073709551616 → GotAs s at (Range least most) l (Some r)
unfolding value_at
ranged-got s at least most l r g h k small =
    let z : r.n ≡ clip r.n = omega arith in
    (g.0, rw g.1 (ap Ok z ∙ ap val_of (sym (within_in least most r.n number h k))))

-- ## Hexadecimal digits

unlike : (c d : ℕ) → is_hex c ≡ true → is_hex d ≡ false → c ≡ d → ⊥
unlike c d h f e = let z : ◌≡◌ {A = ℕ} 0 1 = cc (h, f, ap is_hex e) in omega arith

pub hex-on : (s : Bytes) (at i : ℕ) → HexTo s at i → i < length s → is_hex (get_or s i 0) ≡ true → HexTo s at (i + 1)
hex-on s at i d h x =
    record {
      from = omega (arith, d.from);
      within = omega arith;
      clean = clean-on s at i d.clean (unlike (get_or s i 0) 44 x refl) (unlike (get_or s i 0) 10 x refl);
      same = λ e p q. d.same e (omega arith) q ∙ hexes-on (take e s) i (omega (arith, length-take-le e s q)) (rw (get_or-take e s i 0 (omega arith)) x);
    }

pub hex-digit : (c : ℕ) → 48 ≤ c → c ≤ 57 → is_hex c ≡ true
hex-digit c h k = rw (digit-yes c h k)

pub hex-letter : (c : ℕ) → 97 ≤ c → c ≤ 102 → is_hex c ≡ true
hex-letter c h k = go (is_digit c)
  where
    go : (b : Bool) → cond b true (leb 97 c && leb c 102) ≡ true
    go true = refl
    go false = rw (le-leb 97 c h, le-leb c 102 k)

pub hex-more : (s : Bytes) (at i : ℕ) → HexTo s at i → i < length s → ((48 ≤ get_or s i 0) × (get_or s i 0 ≤ 57)) ⊎ ((97 ≤ get_or s i 0) × (get_or s i 0 ≤ 102)) → HexTo s at (i + 1)
hex-more s at i d h w = hex-on s at i d h (⊎_elim (λ x. hex-digit (get_or s i 0) x.0 x.1) (λ x. hex-letter (get_or s i 0) x.0 x.1) w)

pub hex-start : (s : Bytes) (at : ℕ) → at ≤ length s → HexTo s at at
hex-start s at h = record { from = omega arith; within = h; clean = clean-none s at; same = λ e p q. refl }

module _ (s : Bytes) (at r : ℕ) (d : HexTo s at r) (h : r < length s) where
  stands : Stood s at r
  stands = record { from = d.from; inside = h; clean = d.clean }

  long : length (slice at r s) ≡ r - at
  long = length-slice at r s (omega arith)

  hexes : true ≡ is_found (unhex (slice at r s))
  hexes = sym (d.same r (omega arith) (omega arith) ∙ hexes-end (take r s) r (omega (arith, length-take-le r s (omega arith))))

  pub name-got : (r - at) % 2 ≡ 0 → r - at ≤ 510 → (l : ℕ) → GotAs s at Name l (Some (record { end = r; n = 0 }))
  unfolding value_at
  name-got even few l = (stands, name-fine (slice at r s) 0 hexes (ap (λ (k : ℕ). k % 2) long ∙ even) (omega (arith, long)) ∙ name-says (unhex (slice at r s)))

  pub float-got : r - at ≡ 16 → (l : ℕ) → GotAs s at Float l (Some (record { end = r; n = 0 }))
  unfolding value_at
  float-got e l = (stands, float-fine (slice at r s) hexes (long ∙ e))

-- ## A dash

pub first_of : (s : Bytes) (at end : ℕ) → at < end → get_or (slice at end s) 0 0 ≡ get_or s at 0
first_of s at end h =
    let z : at + 0 ≡ at = omega arith in
    get_or-slice at end s 0 0 (omega arith) ∙ ap (λ (j : ℕ). get_or s j 0) z

pub dash-got : (s : Bytes) (at l : ℕ) (shape : Shape) → at + 1 < length s → get_or s at 0 ≡ 45 → Dashed shape → GotAs s at shape l (Some (record { end = at + 1; n = 0 }))
dash-got s at l shape h e d = (
  record { from = omega arith; inside = h; clean = clean-on s at at (clean-none s at) (λ q. omega arith) (λ q. omega arith) },
  d l (slice at (at + 1) s) (dash-is (slice at (at + 1) s) (length-slice at (at + 1) s (omega arith) ∙ omega arith) (first_of s at (at + 1) (omega arith) ∙ e)),
)

single : (s : Bytes) (c : ℕ) → length s ≡ 1 → get_or s 0 0 ≡ c → s ≡ c ∷ []
single [] c l e = absurd (omega arith)
single (x ∷ []) c l e = cc
single (x ∷ y ∷ s) c l e = absurd (omega arith)

-- one of the letters, none of which ends a piece
pub letter-got : (s : Bytes) (at c n l : ℕ) → at + 1 < length s → get_or s at 0 ≡ c → (c ≡ 44 → ⊥) → (c ≡ 10 → ⊥) → n ≤ 3 → lettered (c ∷ []) ≡ number n
    → GotAs s at Letter l (Some (record { end = at + 1; n = n }))
unfolding value_at
letter-got s at c n l h e a b small v =
    let t : Bytes = slice at (at + 1) s in
    let z : n ≡ clip n = omega arith in
    let one : t ≡ c ∷ [] = single t c (length-slice at (at + 1) s (omega arith) ∙ omega arith) (first_of s at (at + 1) (omega arith) ∙ e) in (
      record { from = omega arith; inside = h; clean = clean-on s at at (clean-none s at) (λ q. a (sym e ∙ q)) (λ q. b (sym e ∙ q)) },
      rw (one, v) (ap Ok z),
    )

pub not-dash : (s : Bytes) (at end : ℕ) → end ≤ length s → (get_or s at 0 ≡ 45 → ⊥) → false ≡ is_dash (slice at end s)
not-dash s at end k h = go (dec_lt at end)
  where
    go : Dec (at < end) → false ≡ is_dash (slice at end s)
    go (yes l) = dash-other (slice at end s) (λ e. h (sym (first_of s at end l) ∙ e))
    go (no l) = dash-not (slice at end s) (λ e. omega (arith, length-slice at end s k))

-- a variable is a number
pub variable-got : (s : Bytes) (at l : ℕ) (r : Maybe Got) → GotAs s at (Range 0 4294967295) l r → GotAs s at Variable l r
unfolding value_at
variable-got s at l None g = tt
variable-got s at l (Some r) g = (g.0, g.1 ∙ var-number _)

pub optional-got : (s : Bytes) (at l : ℕ) (r : Maybe Got) → (get_or s at 0 ≡ 45 → ⊥) → GotAs s at (Range 0 4294967295) l r → GotAs s at Optional l r
unfolding value_at
optional-got s at l None other g = tt
optional-got s at l (Some r) other g = (g.0, g.1 ∙ optional-some (slice at r.end s) l (not-dash s at r.end (omega (arith, g.0.inside)) other))

pub dashed-optional : Dashed Optional
dashed-optional l t d = optional-dash t l d

pub dashed-alias : Dashed Alias
dashed-alias l t d = alias-dash t l d

pub dashed-bound : Dashed Bound
unfolding value_at
dashed-bound l t d = bound-dash t l d

-- ## Any piece

-- the first element that passes a test, or none
abbrev found_first : (ℕ → Bool) → Bytes → Maybe ℕ
found_first p l = cond (ltb (position_or_len p l) (length l)) (Some (position_or_len p l)) None

module _ (p : ℕ → Bool) (l : Bytes) where
  found-some : (i : ℕ) → Some i ≡ found_first p l → (i < length l) × ((k : ℕ) → k < i → p (get_or l k 0) ≡ false)
  found-some i e = go (ltb (position_or_len p l) (length l)) refl e
    where
      go : (b : Bool) → ltb (position_or_len p l) (length l) ≡ b → Some i ≡ cond b (Some (position_or_len p l)) None → (i < length l) × ((k : ℕ) → k < i → p (get_or l k 0) ≡ false)
      go true f q = let z : i ≡ position_or_len p l = cc in (omega (arith, ltb-true (position_or_len p l) (length l) f), λ k h. fails_before_first p l k 0 (omega arith))
      go false f q = absurd (let z : ⊥ = cc in z)

  found-none : None ≡ found_first p l → (k : ℕ) → k < length l → p (get_or l k 0) ≡ false
  found-none e = go (ltb (position_or_len p l) (length l)) refl e
    where
      go : (b : Bool) → ltb (position_or_len p l) (length l) ≡ b → None ≡ cond b (Some (position_or_len p l)) None → (k : ℕ) → k < length l → p (get_or l k 0) ≡ false
      go true f q k h = absurd (let z : ⊥ = cc in z)
      go false f q k h = fails_before_first p l k 0 (omega (arith, ltb-false (position_or_len p l) (length l) f))

-- a comma or an LF
abbrev pub is_end : ℕ → Bool
is_end c = eqb c 44 || eqb c 10

no-end : (c : ℕ) → is_end c ≡ false → (c ≡ 44 → ⊥) × (c ≡ 10 → ⊥)
no-end c e = go (eqb c 44) refl (eqb c 10) refl e
  where
    go : (a : Bool) → eqb c 44 ≡ a → (b : Bool) → eqb c 10 ≡ b → (a || b) ≡ false → (c ≡ 44 → ⊥) × (c ≡ 10 → ⊥)
    go true x b y q = absurd (let z : ⊥ = cc in z)
    go false x true y q = absurd (let z : ⊥ = cc in z)
    go false x false y q = (eqb-false c 44 x, eqb-false c 10 y)

-- the bytes of a part that does not end a piece
module _ (s : Bytes) (at : ℕ) (h : at ≤ length s) where
  clean-part : (n : ℕ) → ((k : ℕ) → k < n → is_end (get_or (drop at s) k 0) ≡ false) → Clean s at (at + n)
  clean-part n f i p q =
      let place : at + (i - at) ≡ i = omega arith in
      no-end (get_or s i 0) (ap is_end (sym (get_or-drop at s (i - at) 0 ∙ ap (λ (j : ℕ). get_or s j 0) place)) ∙ f (i - at) (omega arith))

  pub piece-there : (i : ℕ) → Some i ≡ cond (ltb (position_or_len is_end (drop at s)) (length (drop at s))) (Some (position_or_len is_end (drop at s))) None → PieceTo s at (at + i)
  piece-there i e =
      let w = found-some is_end (drop at s) i e in
      record { from = omega arith; within = omega (arith, w.0, length-drop at s); clean = clean-part i w.1 }

  pub piece-open : None ≡ cond (ltb (position_or_len is_end (drop at s)) (length (drop at s))) (Some (position_or_len is_end (drop at s))) None → PieceTo s at (length s)
  piece-open e =
      let z : at + (length s - at) ≡ length s = omega arith in
      record { from = h; within = omega arith; clean = rw z at (clean-part (length s - at) (λ k l. found-none is_end (drop at s) e k (omega (arith, l, length-drop at s)))) }

  -- letters up to a byte that is none, looked for among the next n bytes
  pub letters-stood : (n i : ℕ) → Some i ≡ cond (ltb (position_or_len (λ x. ltb x 97) (take n (drop at s))) (length (take n (drop at s)))) (Some (position_or_len (λ x. ltb x 97) (take n (drop at s)))) None → Stood s at (at + i)
  letters-stood n i e =
      let w = found-some (λ x. ltb x 97) (take n (drop at s)) i e in
      let near : length (take n (drop at s)) ≡ min n (length (drop at s)) = length-take n (drop at s) in
      record {
        from = omega arith;
        inside = omega (arith, w.0, near, length-drop at s);
        clean = clean-part i (λ k l.
            let same : get_or (take n (drop at s)) k 0 ≡ get_or (drop at s) k 0 = get_or-take n (drop at s) k 0 (omega (arith, l, w.0, near)) in
            let high : 97 ≤ get_or (take n (drop at s)) k 0 = ltb-false (get_or (take n (drop at s)) k 0) 97 (w.1 k l) in
            letter (get_or (drop at s) k 0) (omega (arith, same, high)));
      }
    where
      letter : (c : ℕ) → 97 ≤ c → is_end c ≡ false
      letter c g = rw (ne_eqb c 44 (λ e. omega arith), ne_eqb c 10 (λ e. omega arith))

pub other-got : (s : Bytes) (at r l n : ℕ) (shape : Shape) → PieceTo s at r → r < length s → Ok n ≡ val_of (value_at (field_of shape) l (take (r - at) (drop at s)))
    → GotAs s at shape l (Some (record { end = r; n = n }))
other-got s at r l n shape d h e = (
  record { from = d.from; inside = h; clean = d.clean },
  e ∙ ap (λ (t : Bytes). val_of (value_at (field_of shape) l t)) (part_slice at r s),
)

-- the letter of a kind
pub kind-got : (s : Bytes) (at l : ℕ) (k : VarKind) → at + 1 < length s → lettered (get_or s at 0 ∷ []) ≡ number (kind_no k) → GotAs s at Letter l (Some (record { end = at + 1; n = kind_no k }))
unfolding lettered
kind-got s at l k h e = letter-got s at (get_or s at 0) (kind_no k) l h refl (λ z. no-letter 44 refl z) (λ z. no-letter 10 refl z) (few k) e
  where
    few : (k : VarKind) → kind_no k ≤ 3
    few Node = omega arith
    few Relationship = omega arith
    few Path = omega arith
    few Value = omega arith

    no-letter : (c : ℕ) → lettered (c ∷ []) ≡ wrong 3 → get_or s at 0 ≡ c → ⊥
    no-letter c w z = let q : wrong 3 ≡ number (kind_no k) = sym w ∙ ap (λ (d : ℕ). lettered (d ∷ [])) (sym z) ∙ e in let y : ⊥ = cc in y

-- ## A signed number

clean-before : (s : Bytes) (at e : ℕ) → (get_or s at 0 ≡ 44 → ⊥) → (get_or s at 0 ≡ 10 → ⊥) → Clean s (at + 1) e → Clean s at e
clean-before s at e h k c i p q = go (dec_lt at i)
  where
    go : Dec (at < i) → (get_or s i 0 ≡ 44 → ⊥) × (get_or s i 0 ≡ 10 → ⊥)
    go (yes l) = c i (omega arith) q
    go (no l) = let z : i ≡ at = omega arith in rw z (h, k)

number-long : (t : Bytes) (m n : ℕ) → Ok n ≡ val_of (within 0 m (decimal t) number) → 0 < length t
unfolding decimal within
number-long [] m n e = absurd (let z : ⊥ = cc in z)
number-long (c ∷ t) m n e = omega arith

module _ (s : Bytes) (at l : ℕ) (r : Got) where
  pub minus-small : GotAs s (at + 1) (Range 0 9223372036854775808) l (Some r) → r.n ≤ 9223372036854775808
  unfolding value_at
  minus-small g = negative-small _ _ g.1

  pub minus-got : get_or s at 0 ≡ 45 → GotAs s (at + 1) (Range 0 9223372036854775808) l (Some r) → (r.n ≡ 0 → ⊥)
      → GotAs s at Signed l (Some (record { end = r.end; n = 9223372036854775808 - r.n }))
  unfolding value_at
  minus-got e g z =
      let t : Bytes = slice at r.end s in
      let long : length t ≡ r.end - at = length-slice at r.end s (omega (arith, g.0.inside)) in
      let whole : take (length t - 1) (drop 1 t) ≡ slice (at + 1) r.end s = take_all (length t - 1) (drop 1 t) (omega (arith, length-drop 1 t)) ∙ drop-slice 1 at r.end s in (
        record { from = omega (arith, g.0.from); inside = g.0.inside; clean = clean-before s at r.end (λ q. omega (arith, e)) (λ q. omega (arith, e)) g.0.clean },
        negative-in (decimal (slice (at + 1) r.end s)) r.n g.1 z ∙ ap (λ (x : Bytes). val_of (negative_of (decimal x))) (sym whole)
            ∙ signed-minus t (omega (arith, long, g.0.from)) (first_of s at r.end (omega (arith, g.0.from)) ∙ e),
      )

  pub plus-small : GotAs s at (Range 0 9223372036854775807) l (Some r) → r.n ≤ 9223372036854775807
  unfolding value_at
  plus-small g = positive-small _ _ g.1

  pub plus-got : (get_or s at 0 ≡ 45 → ⊥) → GotAs s at (Range 0 9223372036854775807) l (Some r) → GotAs s at Signed l (Some (record { end = r.end; n = 9223372036854775808 + r.n }))
  unfolding value_at
  plus-got other g =
      let t : Bytes = slice at r.end s in
      let long : length t ≡ r.end - at = length-slice at r.end s (omega (arith, g.0.inside)) in
      let some = number-long t 9223372036854775807 r.n g.1 in (
        g.0,
        positive-in (decimal t) r.n g.1 ∙ signed-plain t some (λ q. other (sym (first_of s at r.end (omega (arith, long, some))) ∙ q)),
      )
