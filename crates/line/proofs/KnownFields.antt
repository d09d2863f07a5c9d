-- The fields of a line that is known to be fine. Assumes nothing.
use mathlib.Core.Path.{◌≡◌, refl, sym, ◌∙◌, ap}
use mathlib.Core.List.{List, [], ◌∷◌}
use mathlib.Core.Logic.{inr, ⊎_elim}
use mathlib.Core.Option.{Option, none, some}
use mathlib.Core.Bool.{Bool, true, false, cond, ◌&&◌}
use Prim.Native.Nat.{ℕ, suc, zero, ◌+◌, ◌-◌, ◌*◌, ◌%◌, ◌≤◌, ◌<◌}
use native.Mathlib.Decide.{dec_lt}
use native.Mathlib.Omega.{arith}
use lib.Dec.{eqb, leb}
use lib.ListN.{length, get_or, take, drop, length-drop}
use lib.Seq.{slice, length-slice, length-take-le, take_all}
use borrow.Author.Tests.{leb-true}
use Rattle.semantics.specs.Limits.{name_limit, variable_limit, signed_shift}
use Rattle.semantics.specs.Bytes.{Bytes, split, is_digit, decimal, unhex}
use Rattle.semantics.specs.Sheet.{row as row_of, Word, words, word_in, Head, Field, Value, wrong, number, variable_v, name_v, alias_v, value, within, named, signed_of, float_of, Read, ok, into, fill, bare}
use Rattle.semantics.proofs.All.{all_take, all_drop}
use Rattle.text.specs.Text.{is_found, is_hex, is_letter, Ends}
use Rattle.text.proofs.Laws.{get_or-slice, slice-take, drop-slice}
use Rattle.text.proofs.Words.{hexes-on, hexes-off, digit-range, letter-range}
use Rattle.std.specs.Prelude.{map, Some, Ok}
use Rattle.line.specs.declared.words.Word.{Word as Coded}
use Rattle.line.specs.declared.shapes.Shape.{Shape}
use Rattle.line.specs.declared.shapes.Shape.TheVariants.{Range, Variable, Optional, Name, Alias, Signed, Float}
use Rattle.line.specs.declared.rows.Row.{Row as Listed}
use Rattle.line.specs.declared.field.Fields.{Fields}
use Rattle.line.specs.declared.in_place.Got.{Got}
use Rattle.line.specs.Words.{word_of, field_of}
use Rattle.line.specs.Rows.{RowAs}
use Rattle.line.specs.Fields.{clip, or_zero, val_of, said_of, value_at, negative_of, positive_of}
use Rattle.line.proofs.ValueLaws.{optional-some, alias-some, signed-minus, signed-plain}
use Rattle.line.specs.Line.{pieces}
use Rattle.line.specs.Quick.{GotAs}
use Rattle.line.specs.Known.{DigitsAt, DigitsAs, HighAt, FineBehind, PieceFine}
use Rattle.line.proofs.WordLaws.{found-word}
use Rattle.line.proofs.FillLaws.{value-at}
use Rattle.line.proofs.ReadLaws.{small_all}
use Rattle.line.proofs.LineLaws.{FillAt, shape_at, drop-more, split-some, pieces-in, pieces_step}
use Rattle.line.proofs.QuickFields.{not-dash, first_of}
use Rattle.line.proofs.QuickLaws.{Cut, cut-ends, QuickInv}
use Rattle.line.proofs.KnownLaws.{no_ok, Fine, fine-line, Place, line-place, PieceAt, piece-at, number_stands}

-- ## Bytes up to one below 45

module _ (s : Bytes) (at i : ℕ) (d : HighAt s at) (upto : i ≤ d.end) where
  pub high-in : i < length s
  high-in = omega (arith, d.inside)

  pub high-more : 45 ≤ get_or s i 0 → i + 1 ≤ d.end
  high-more h = go (dec_lt i d.end)
    where
      go : Dec (i < d.end) → i + 1 ≤ d.end
      go (yes l) = omega arith
      go (no l) = let z : d.end ≡ i = omega arith in absurd (omega (arith, d.stop, ap (λ (j : ℕ). get_or s j 0) z))

  pub high-over : at ≤ i → get_or s i 0 < 45 → i ≡ d.end
  high-over l h = go (dec_lt i d.end)
    where
      go : Dec (i < d.end) → i ≡ d.end
      go (yes k) = absurd (omega (arith, d.high i l k))
      go (no k) = omega arith

-- ## What a field with nothing wrong says

within-fine : (a b m : ℕ) (o : Option ℕ) (g : ℕ → Value) → Ok m ≡ val_of (within a b o g) → (n : ℕ) × (o ≡ some n) × (n ≤ b) × (within a b o g ≡ g n)
unfolding within
within-fine a b m none g e = absurd (let z : ⊥ = cc in z)
within-fine a b m (some n) g e = go (leb a n) (leb n b) refl e
  where
    go : (p q : Bool) → leb n b ≡ q → Ok m ≡ val_of (elim (p && q) [ true ↦ g n | false ↦ wrong 4 ])
        → (k : ℕ) × (some n ≡ some k) × (k ≤ b) × (elim (p && q) [ true ↦ g n | false ↦ wrong 4 ] ≡ g k)
    go true true d f = (n, refl, leb-true n b d, refl)
    go true false d f = absurd (let z : ⊥ = cc in z)
    go false q d f = absurd (let z : ⊥ = cc in z)

named-fine : (m : ℕ) (o : Option Bytes) (g : Bytes → Value) → Ok m ≡ val_of (named o g) → (ds : Bytes) × (is_found o ≡ true) × (named o g ≡ g ds)
unfolding named
named-fine m none g e = absurd (let z : ⊥ = cc in z)
named-fine m (some ds) g e = go (eqb (length ds % 2) 0) (leb (length ds) (2 * name_limit)) e
  where
    go : (p q : Bool) → Ok m ≡ val_of (elim p [ true ↦ elim q [ true ↦ g ds | false ↦ wrong 4 ] | false ↦ wrong 3 ])
        → (cs : Bytes) × (true ≡ true) × (elim p [ true ↦ elim q [ true ↦ g ds | false ↦ wrong 4 ] | false ↦ wrong 3 ] ≡ g cs)
    go true true f = (ds, refl, refl)
    go true false f = absurd (let z : ⊥ = cc in z)
    go false q f = absurd (let z : ⊥ = cc in z)

-- a name that is to say 1
said-fine : (m : ℕ) (o : Option Bytes) → Ok m ≡ said_of (named o name_v) 1 → (is_found o ≡ true) × (m ≡ 1)
unfolding named
said-fine m none e = absurd (let z : ⊥ = cc in z)
said-fine m (some ds) e = go (eqb (length ds % 2) 0) (leb (length ds) (2 * name_limit)) e
  where
    go : (p q : Bool) → Ok m ≡ said_of (elim p [ true ↦ elim q [ true ↦ name_v ds | false ↦ wrong 4 ] | false ↦ wrong 3 ]) 1 → (true ≡ true) × (m ≡ 1)
    go true true f = (refl, let z : m ≡ 1 = cc in z)
    go true false f = absurd (let z : ⊥ = cc in z)
    go false q f = absurd (let z : ⊥ = cc in z)

float-fine : (m : ℕ) (o : Option Bytes) → Ok m ≡ val_of (float_of o) → (is_found o ≡ true) × (m ≡ 0)
unfolding float_of
float-fine m none e = absurd (let z : ⊥ = cc in z)
float-fine m (some ds) e = go (eqb (length ds) 16) e
  where
    go : (p : Bool) → Ok m ≡ val_of (elim p [ true ↦ name_v ds | false ↦ wrong 3 ]) → (true ≡ true) × (m ≡ 0)
    go true f = (refl, let z : m ≡ 0 = cc in z)
    go false f = absurd (let z : ⊥ = cc in z)

-- a decimal number of 64 bits
abbrev pub Counted : Bytes → ℕ → Type 0
Counted t n = (decimal t ≡ some n) × (n < 18446744073709551616)

range-counted : (a b m : ℕ) (t : Bytes) → b < 18446744073709551616 → Ok m ≡ val_of (within a b (decimal t) number) → Counted t m
range-counted a b m t h e =
    let w = within-fine a b m (decimal t) number e in
    let z : m ≡ clip w.0 = let y : Ok m ≡ val_of (number w.0) = e ∙ ap val_of w.3 in cc in
    let y : w.0 ≡ m = omega (arith, w.2) in
    (w.1 ∙ ap some y, omega (arith, w.2))

var-counted : (m : ℕ) (t : Bytes) → Ok m ≡ val_of (within 0 variable_limit (decimal t) (λ v. variable_v (some v))) → Counted t m
var-counted m t e =
    let w = within-fine 0 variable_limit m (decimal t) (λ v. variable_v (some v)) e in
    let z : w.0 ≡ m = let y : Ok m ≡ val_of (variable_v (some w.0)) = e ∙ ap val_of w.3 in cc in
    (w.1 ∙ ap some z, omega (arith, w.2))

-- ## Hexadecimal digits are not below 45

hex-high : (c : ℕ) → is_hex c ≡ true → 45 ≤ c
hex-high c e = go (is_digit c) refl e
  where
    go : (b : Bool) → is_digit c ≡ b → cond b true (is_letter c) ≡ true → 45 ≤ c
    go true d f = omega (arith, (digit-range c d).0)
    go false d f = omega (arith, (letter-range c f).0)

hex-at : (t : Bytes) (i : ℕ) → i < length t → is_found (unhex (drop i t)) ≡ true → is_hex (get_or t i 0) ≡ true
hex-at t i h e = go (is_hex (get_or t i 0)) refl
  where
    go : (b : Bool) → is_hex (get_or t i 0) ≡ b → b ≡ true
    go true d = refl
    go false d = let z : false ≡ true = sym (hexes-off t i h d) ∙ e in z

hex-from : (t : Bytes) → is_found (unhex t) ≡ true → (i : ℕ) → i ≤ length t → is_found (unhex (drop i t)) ≡ true
hex-from t e zero h = e
hex-from t e (suc i) h =
    let z : i + 1 ≡ suc i = omega arith in
    let y = hex-from t e i (omega arith) in
    ap (λ (k : ℕ). is_found (unhex (drop k t))) (sym z) ∙ sym (hexes-on t i (omega arith) (hex-at t i (omega arith) y)) ∙ y

pub high-bytes : (s : Bytes) (at e : ℕ) → e ≤ length s → is_found (unhex (slice at e s)) ≡ true → (i : ℕ) → at ≤ i → i < e → 45 ≤ get_or s i 0
high-bytes s at e w u i h k =
    let long : length (slice at e s) ≡ e - at = length-slice at e s w in
    let z : at + (i - at) ≡ i = omega arith in
    let x = hex-from (slice at e s) u (i - at) (omega (arith, long)) in
    let y = hex-high (get_or (slice at e s) (i - at) 0) (hex-at (slice at e s) (i - at) (omega (arith, long)) x) in
    omega (arith, y, get_or-slice at e s (i - at) 0 (omega arith), ap (λ (j : ℕ). get_or s j 0) z)

-- ## What was read is the field

pub got-fine : (s : Bytes) (at l : ℕ) (shape : Shape) (d : PieceFine s at shape l) (e n : ℕ) → e ≡ d.end → n ≡ d.n → GotAs s at shape l (Some (record { end = e; n = n }))
got-fine s at l shape d e n p q = rw (p, q) (d.stood, d.fine)

-- hexadecimal digits
abbrev pub spelled_high : (s : Bytes) (at l : ℕ) (shape : Shape) (d : PieceFine s at shape l) → is_found (unhex (slice at d.end s)) ≡ true → HighAt s at
spelled_high s at l shape d e =
    record { end = d.end; from = d.stood.from; inside = d.stood.inside; stop = d.stop; high = high-bytes s at d.end (omega (arith, d.stood.inside)) e }

-- an end that was found by its bytes
pub got-high : (s : Bytes) (at l n e : ℕ) (shape : Shape) (d : PieceFine s at shape l) → (is_found (unhex (slice at d.end s)) ≡ true) × (d.n ≡ n) → ((h : HighAt s at) → e ≡ h.end)
    → GotAs s at shape l (Some (record { end = e; n = n }))
got-high s at l n e shape d h f = got-fine s at l shape d e n (f (spelled_high s at l shape d h.0)) (sym h.1)

-- digits that are the whole piece
abbrev pub counted_digits : (s : Bytes) (at l : ℕ) (shape : Shape) (d : PieceFine s at shape l) → Counted (slice at d.end s) d.n → DigitsAt s at
counted_digits s at l shape d c = number_stands s at d.end d.n d.stood.from d.stood.inside (omega (arith, d.stop)) c.0 c.1

pub got-counted : (s : Bytes) (at l : ℕ) (shape : Shape) (d : PieceFine s at shape l) → Counted (slice at d.end s) d.n → (r : Got) → DigitsAs s at r → GotAs s at shape l (Some r)
got-counted s at l shape d c r f = let x = f (counted_digits s at l shape d c) in got-fine s at l shape d r.end r.n x.0 x.1

module _ (s : Bytes) (at l : ℕ) where
  pub range-digits : (a b : ℕ) → b < 18446744073709551616 → (d : PieceFine s at (Range a b) l) → Counted (slice at d.end s) d.n
  unfolding value_at
  range-digits a b h d = range-counted a b d.n (slice at d.end s) h d.fine

  pub variable-digits : (d : PieceFine s at Variable l) → Counted (slice at d.end s) d.n
  unfolding value_at
  variable-digits d = var-counted d.n (slice at d.end s) d.fine

  pub name-spelled : (d : PieceFine s at Name l) → (is_found (unhex (slice at d.end s)) ≡ true) × (d.n ≡ 0)
  unfolding value_at
  name-spelled d =
      let w = named-fine d.n (unhex (slice at d.end s)) name_v d.fine in
      (w.1, let y : Ok d.n ≡ val_of (name_v w.0) = d.fine ∙ ap val_of w.2 in cc)

  pub float-spelled : (d : PieceFine s at Float l) → (is_found (unhex (slice at d.end s)) ≡ true) × (d.n ≡ 0)
  unfolding value_at
  float-spelled d = float-fine d.n (unhex (slice at d.end s)) d.fine

  module _ (other : get_or s at 0 ≡ 45 → ⊥) where
    pub optional-digits : (d : PieceFine s at Optional l) → Counted (slice at d.end s) d.n
    optional-digits d =
        range-counted 0 variable_limit d.n (slice at d.end s) (omega arith) (d.fine ∙ sym (optional-some (slice at d.end s) l (not-dash s at d.end (omega (arith, d.stood.inside)) other)))

    pub alias-spelled : (d : PieceFine s at Alias l) → (is_found (unhex (slice at d.end s)) ≡ true) × (d.n ≡ 1)
    alias-spelled d =
        said-fine d.n (unhex (slice at d.end s)) (d.fine ∙ sym (alias-some (slice at d.end s) l (not-dash s at d.end (omega (arith, d.stood.inside)) other)))

-- a dash is not the end of a piece
pub dash-before : (s : Bytes) (at l : ℕ) (shape : Shape) (d : PieceFine s at shape l) → get_or s at 0 ≡ 45 → at < d.end
dash-before s at l shape d e = go (dec_lt at d.end)
  where
    go : Dec (at < d.end) → at < d.end
    go (yes h) = h
    go (no h) = let z : d.end ≡ at = omega (arith, d.stood.from) in absurd (omega (arith, d.stop, ap (λ (j : ℕ). get_or s j 0) z))

pub dash-inside : (s : Bytes) (at l : ℕ) (shape : Shape) → PieceFine s at shape l → get_or s at 0 ≡ 45 → at + 1 < length s
dash-inside s at l shape d e = omega (arith, dash-before s at l shape d e, d.stood.inside)

-- ## A signed number

minus-fine : (m : ℕ) (t : Bytes) → 0 < length t → get_or t 0 0 ≡ 45 → Ok m ≡ val_of (signed_of t)
    → (n : ℕ) × (decimal (drop 1 t) ≡ some n) × (n ≤ 9223372036854775808) × (m ≡ 9223372036854775808 - n)
minus-fine m t h z e =
    let whole : take (length t - 1) (drop 1 t) ≡ drop 1 t = take_all (length t - 1) (drop 1 t) (omega (arith, length-drop 1 t)) in
    let f : Ok m ≡ val_of (negative_of (decimal (drop 1 t))) = e ∙ sym (signed-minus t h z) ∙ ap (λ (x : Bytes). val_of (negative_of (decimal x))) whole in
    let w = within-fine 0 signed_shift m (decimal (drop 1 t)) (λ n. elim (eqb n 0) [ true ↦ wrong 3 | false ↦ number (signed_shift - n) ]) f in
    (w.0, w.1, w.2, sign w.0 (eqb w.0 0) (f ∙ ap val_of w.3))
  where
    sign : (n : ℕ) (b : Bool) → Ok m ≡ val_of (elim b [ true ↦ wrong 3 | false ↦ number (signed_shift - n) ]) → m ≡ 9223372036854775808 - n
    sign n true f = absurd (let z : ⊥ = cc in z)
    sign n false f = let k : m ≡ clip (signed_shift - n) = cc in omega arith

plus-fine : (m : ℕ) (t : Bytes) → 0 < length t → (get_or t 0 0 ≡ 45 → ⊥) → Ok m ≡ val_of (signed_of t)
    → (n : ℕ) × (decimal t ≡ some n) × (n ≤ 9223372036854775807) × (m ≡ 9223372036854775808 + n)
plus-fine m t h z e =
    let f : Ok m ≡ val_of (positive_of (decimal t)) = e ∙ sym (signed-plain t h z) in
    let w = within-fine 0 9223372036854775807 m (decimal t) (λ n. number (signed_shift + n)) f in
    let k : m ≡ clip (signed_shift + w.0) = let y : Ok m ≡ val_of (number (signed_shift + w.0)) = f ∙ ap val_of w.3 in cc in
    (w.0, w.1, w.2, omega (arith, w.2))

signed-some : (t : Bytes) (m : ℕ) → Ok m ≡ val_of (signed_of t) → 0 < length t
unfolding signed_of
signed-some [] m e = absurd (let z : ⊥ = cc in z)
signed-some (c ∷ t) m e = omega arith

module _ (s : Bytes) (at l : ℕ) (d : PieceFine s at Signed l) where
  fine-signed : Ok d.n ≡ val_of (signed_of (slice at d.end s))
  unfolding value_at
  fine-signed = d.fine

  module _ (e : get_or s at 0 ≡ 45) where
    pub minus : (n : ℕ) × (decimal (slice (at + 1) d.end s) ≡ some n) × (n ≤ 9223372036854775808) × (d.n ≡ 9223372036854775808 - n)
    minus =
        let w = minus-fine d.n (slice at d.end s) (signed-some (slice at d.end s) d.n fine-signed) (first_of s at d.end (dash-before s at l Signed d e) ∙ e) fine-signed in
        (w.0, ap decimal (sym (drop-slice 1 at d.end s)) ∙ w.1, w.2, w.3)

    abbrev pub minus_digits : DigitsAt s (at + 1)
    minus_digits = number_stands s (at + 1) d.end minus.0 (omega (arith, dash-before s at l Signed d e)) d.stood.inside (omega (arith, d.stop)) minus.1 (omega (arith, minus.2))

    pub minus-small : (g : Got) → DigitsAs s (at + 1) g → g.n ≤ 9223372036854775808
    minus-small g f = omega (arith, (f minus_digits).1, minus.2)

    pub got-minus : (g : Got) → DigitsAs s (at + 1) g → GotAs s at Signed l (Some (record { end = g.end; n = 9223372036854775808 - g.n }))
    got-minus g f =
        let x = f minus_digits in
        got-fine s at l Signed d g.end (9223372036854775808 - g.n) x.0 (ap (λ (v : ℕ). 9223372036854775808 - v) x.1 ∙ sym minus.3)

  module _ (e : get_or s at 0 ≡ 45 → ⊥) where
    pub plus : (n : ℕ) × (decimal (slice at d.end s) ≡ some n) × (n ≤ 9223372036854775807) × (d.n ≡ 9223372036854775808 + n)
    plus =
        let long : length (slice at d.end s) ≡ d.end - at = length-slice at d.end s (omega (arith, d.stood.inside)) in
        let some = signed-some (slice at d.end s) d.n fine-signed in
        plus-fine d.n (slice at d.end s) some (λ z. e (sym (first_of s at d.end (omega (arith, long, some))) ∙ z)) fine-signed

    abbrev pub plus_digits : DigitsAt s at
    plus_digits = number_stands s at d.end plus.0 d.stood.from d.stood.inside (omega (arith, d.stop)) plus.1 (omega (arith, plus.2))

    pub plus-small : (g : Got) → DigitsAs s at g → g.n ≤ 9223372036854775807
    plus-small g f = omega (arith, (f plus_digits).1, plus.2)

    pub got-plus : (g : Got) → DigitsAs s at g → GotAs s at Signed l (Some (record { end = g.end; n = 9223372036854775808 + g.n }))
    got-plus g f =
        let x = f plus_digits in
        got-fine s at l Signed d g.end (9223372036854775808 + g.n) x.0 (ap (λ (v : ℕ). 9223372036854775808 + v) x.1 ∙ sym plus.3)

-- ## The next field of a fine line

into-fine : (k : Head) (v : Value) (g : Head → Read) (h : Head) → into k v g ≡ ok h → (n : ℕ) × (Ok n ≡ val_of v)
into-fine k (wrong c) g h e = absurd (no_ok c h e)
into-fine k (number n) g h e = (clip n, refl)
into-fine k (variable_v v) g h e = (or_zero v, refl)
into-fine k (name_v t) g h e = (0, refl)
into-fine k (alias_v t) g h e = (1, refl)

first_fine : (k : Head) (y : Shape) (fs : List Shape) (l : ℕ) (x : Bytes) (ys : List Bytes) (h : Head) → l ≡ clip (get_or k.nums 1 0) → fill k (map field_of (y ∷ fs)) (x ∷ ys) ≡ ok h
    → (n : ℕ) × (Ok n ≡ val_of (value_at (field_of y) l x))
unfolding fill
first_fine k y fs l x ys h e f =
    let w = into-fine k (value (field_of y) k.nums x) (λ i. fill i (map field_of fs) ys) h f in
    (w.0, w.1 ∙ ap val_of (value-at (field_of y) k.nums x) ∙ ap (λ (j : ℕ). val_of (value_at (field_of y) j x)) (sym e))

module _ (s : Bytes) (end : ℕ) (word : Coded) (r : Listed) (row-is : RowAs (row_of (word_of word)) r) (bytes : (x : ℕ) → get_or s x 0 < 256) (b : FineBehind s end word)
    (f : Fields) (p j : ℕ) (i : QuickInv s end r.fields.now f p j) (more : j < length r.fields.now) (comma : get_or s p 0 ≡ 44) (k : Shape) (is : k ≡ shape_at r.fields.now j) where
  pl : Place s b.at b.line.next b.line.line.text
  pl = line-place s b.at b.line.next b.line.head b.line.line

  fl : Fine b.line.line.text b.line.head
  fl = fine-line b.line.line.text b.line.head b.line.line.says

  in-sheet : pl.end ≤ length s
  in-sheet = omega (arith, pl.inside)

  long : length (take pl.end s) ≡ pl.end
  long = length-take-le pl.end s in-sheet

  -- the word and what was read stand before the line's end
  word-before : end ≤ pl.end
  word-before = go (dec_lt pl.end end)
    where
      go : Dec (pl.end < end) → end ≤ pl.end
      go (yes l) = absurd ((b.lead.stood.clean pl.end pl.from l).1 pl.mark)
      go (no l) = omega arith

  read-before : p < pl.end
  read-before = go (dec_lt pl.end p) (dec_lt p pl.end)
    where
      go : Dec (pl.end < p) → Dec (p < pl.end) → p < pl.end
      go (yes l) m = absurd (i.lines pl.end word-before l pl.mark)
      go (no l) (yes m) = m
      go (no l) (no m) = let z : pl.end ≡ p = omega arith in absurd (omega (arith, comma, pl.mark, ap (λ (x : ℕ). get_or s x 0) z))

  cut : Cut s pl.end end
  cut =
      ⊎_elim (λ z. inr (omega (arith, read-before), ap (λ (x : ℕ). get_or s x 0) z ∙ comma)) (λ z. inr (omega (arith, read-before), z.1)) i.word

  word-ends : Ends 44 (take pl.end s) b.at end
  word-ends = cut-ends s b.at end pl.end b.lead.stood in-sheet cut

  at-line : b.at ≤ length (take pl.end s)
  at-line = omega (arith, long, pl.from)

  all : fl.first ∷ fl.rest ≡ slice b.at end (take pl.end s) ∷ pieces (take pl.end s) (end + 1)
  all =
      sym fl.pieces ∙ ap (split 44) pl.text
      ∙ sym (pieces-in (take pl.end s) b.at at-line) ∙ pieces_step (take pl.end s) b.at end at-line word-ends

  first : fl.first ≡ slice b.at end s
  first = let z : fl.first ≡ slice b.at end (take pl.end s) = cc (all) in z ∙ slice-take b.at end pl.end s word-before

  others : fl.rest ≡ pieces (take pl.end s) (end + 1)
  others = cc (all)

  word_is : word_of word ≡ b.line.head.word
  word_is =
      let e : some (word_of word) ≡ some b.line.head.word
      = sym b.lead.spelled ∙ found-word (slice b.at end s) (all_drop b.at (all_take end (small_all s bytes))) ∙ ap (λ (x : Bytes). word_in x words) (sym first) ∙ fl.spelled in
      cc

  fields : map field_of r.fields.now ≡ (row_of b.line.head.word).fields
  fields = row-is.fields ∙ ap (λ (x : Word). (row_of x).fields) word_is

  old : FillAt (take pl.end s) (end + 1) r.fields.now f (p + 1) j b.line.head.word
  old = i.for pl.end in-sheet (inr (read-before, comma)) b.line.head.word

  left : fill old.head (map field_of (drop j r.fields.now)) (pieces (take pl.end s) (p + 1)) ≡ ok b.line.head
  left =
      sym old.same ∙ ap (λ (x : List Field). fill (bare b.line.head.word) x (pieces (take pl.end s) (end + 1))) fields
      ∙ ap (fill (bare b.line.head.word) (row_of b.line.head.word).fields) (sym others) ∙ fl.filled

  pub next-fine : PieceFine s (p + 1) k (get_or f.nums 1 0)
  next-fine = go (pieces (take pl.end s) (p + 1)) refl (ap (λ (x : List Shape). fill old.head (map field_of x) (pieces (take pl.end s) (p + 1))) (sym (drop-more r.fields.now j k more is)) ∙ left)
    where
      go : (ps : List Bytes) → pieces (take pl.end s) (p + 1) ≡ ps → fill old.head (map field_of (k ∷ drop (j + 1) r.fields.now)) ps ≡ ok b.line.head → PieceFine s (p + 1) k (get_or f.nums 1 0)
      go [] e d = absurd (omega (arith, split-some 44 (drop (p + 1) (take pl.end s)), ap length (sym (pieces-in (take pl.end s) (p + 1) (omega (arith, long, read-before))) ∙ e)))
      go (x ∷ ys) e d =
          let c = piece-at s pl.end (p + 1) x ys (omega (arith, read-before)) in-sheet e in
          let w = first_fine old.head k (drop (j + 1) r.fields.now) (get_or f.nums 1 0) x ys b.line.head (old.agrees.nums 1) d in
          record {
            end = c.end;
            n = w.0;
            stood = record {
              from = c.from;
              inside = omega (arith, c.upto, pl.inside);
              clean = λ y g t. (c.clear y g t, pl.clear y (omega (arith, g, i.on, b.lead.stood.from)) (omega (arith, t, c.upto)));
            };
            stop = low c (dec_lt c.end pl.end);
            fine = w.1 ∙ ap (λ (t : Bytes). val_of (value_at (field_of k) (get_or f.nums 1 0) t)) c.text;
          }
        where
          low : (c : PieceAt s pl.end (p + 1) x ys) → Dec (c.end < pl.end) → get_or s c.end 0 < 45
          low c (yes l) = omega (arith, c.mark l)
          low c (no l) = let z : c.end ≡ pl.end = omega (arith, c.upto) in omega (arith, pl.mark, ap (λ (y : ℕ). get_or s y 0) z)
