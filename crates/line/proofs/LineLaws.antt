-- The loops of a line: the word's code, the commas, the fields. Assumes nothing.
use mathlib.Core.Path.{◌≡◌, refl, sym, ◌∙◌, ap}
use mathlib.Core.List.{List, [], ◌∷◌}
use mathlib.Core.Bool.{Bool, true, false}
use Prim.Native.Nat.{ℕ, suc, ◌+◌, ◌-◌, ◌*◌, ◌≤◌, ◌<◌}
use native.Mathlib.Decide.{dec_lt}
use native.Mathlib.Numerals.{add-one}
use native.Mathlib.Omega.{arith}
use lib.Dec.{eqb}
use lib.ListN.{length, get_or, take, drop, length-drop, drop_of_length-le}
use Rattle.std.proofs.lemmas.List.Sums.{sum_by-cons}
use lib.Seq.{slice, drop-cons, take_all}
use borrow.Author.Tests.{le-leb, lt-leb, lt-ltb, le-ltb}
use Rattle.semantics.specs.Bytes.{Bytes, front, split}
use Rattle.semantics.specs.Sheet.{Word, Head, Value, Read, ok, into, fill, bare}
use Rattle.std.specs.Prelude.{map, cond, ◌==◌, count_by, Ok, Err}
use Rattle.semantics.specs.declared.refusals.Refusal.{Refusal}
use Rattle.line.specs.Words.{field_of}
use Rattle.line.specs.declared.shapes.Shape.{Shape}
use Rattle.line.specs.declared.shapes.Shape.TheVariants.{Range}
use Rattle.line.specs.declared.field.Fields.{Fields}
use Rattle.line.specs.Rows.{code_from}
use Rattle.line.specs.Fields.{val_of, value_at, most_fields, nothing_yet, stored_in, Agrees}
use Rattle.line.specs.Line.{pieces, FilledAs}
use Rattle.line.proofs.FillLaws.{says, value-at, absorbed, into-on, into-stop, agrees_on, agrees_start, put_on}
use Rattle.text.specs.Text.{Ends}
use Rattle.text.proofs.Laws.{part_slice}

-- ## The code of a word

module _ (w : Bytes) (i code : ℕ) where
  pub code-on : i < length w → code < 1099511627776 → code_from code (drop i w) ≡ code_from (code * 256 + get_or w i 0) (drop (i + 1) w)
  unfolding code_from
  code-on h l = rw (drop-cons w i 0 h, lt-ltb code 1099511627776 l, add-one, code_from)

  pub code-over : i < length w → 1099511627776 ≤ code → code_from code (drop i w) ≡ 0
  unfolding code_from
  code-over h l = rw (drop-cons w i 0 h, le-ltb code 1099511627776 l, code_from)

  pub code-end : length w ≤ i → code_from code (drop i w) ≡ code
  unfolding code_from
  code-end h = rw (drop_of_length-le w h)

-- ## The commas

length_front : (c : ℕ) (ps : List Bytes) → 0 < length ps → length (front c ps) ≡ length ps
unfolding front
length_front c [] h = absurd (omega arith)
length_front c (p ∷ ps) h = refl

pub split-some : (c : ℕ) (s : Bytes) → 0 < length (split c s)
unfolding split
split-some c [] = omega arith
split-some c (x ∷ s) = go (split-some c s) (eqb x c)
  where
    go : 0 < length (split c s) → (b : Bool) → 0 < length {A = Bytes} (elim b [ true ↦ [] ∷ split c s | false ↦ front x (split c s) ])
    go ih true = omega arith
    go ih false = rw (length_front x (split c s) ih) ih

-- a piece more than there are commas
pub split-count : (s : Bytes) → suc (count_by (λ b. b == 44) s) ≡ length (split 44 s)
unfolding split
split-count [] = refl
split-count (x ∷ s) = ap suc (sum_by-cons (λ b. cond (b == 44) 1 0) x s) ∙ go (split-count s) (eqb x 44)
  where
    go : suc (count_by (λ b. b == 44) s) ≡ length (split 44 s) → (b : Bool) → suc (cond b 1 0 + count_by (λ b. b == 44) s) ≡ length {A = Bytes} (elim b [ true ↦ [] ∷ split 44 s | false ↦ front x (split 44 s) ])
    go ih true = omega (arith, ih)
    go ih false = omega (arith, ih, length_front x (split 44 s) (split-some 44 s))

-- ## The pieces

pub pieces-in : (s : Bytes) (p : ℕ) → p ≤ length s → pieces s p ≡ split 44 (drop p s)
unfolding pieces
pieces-in s p h = rw (le-leb p (length s) h, pieces)

pub pieces-past : (s : Bytes) (p : ℕ) → length s < p → pieces s p ≡ []
unfolding pieces
pieces-past s p h = rw (lt-leb p (length s) h, pieces)

pub pieces_step : (s : Bytes) (p q : ℕ) → p ≤ length s → Ends 44 s p q → pieces s p ≡ slice p q s ∷ pieces s (q + 1)
pieces_step s p q h e = go (dec_lt q (length s))
  where
    go : Dec (q < length s) → pieces s p ≡ slice p q s ∷ pieces s (q + 1)
    go (yes l) = pieces-in s p h ∙ e.more l ∙ ap (λ (r : List Bytes). slice p q s ∷ r) (sym (pieces-in s (q + 1) (omega arith)))
    go (no l) = pieces-in s p h ∙ e.last (omega arith) ∙ ap (λ (r : List Bytes). slice p q s ∷ r) (sym (pieces-past s (q + 1) (omega arith)))

-- pieces are left: the place is inside
pub inside : (s : Bytes) (p m : ℕ) → length (pieces s p) ≡ m → 0 < m → p ≤ length s
inside s p m e h = go (dec_lt (length s) p)
  where
    go : Dec (length s < p) → p ≤ length s
    go (yes l) = absurd (omega (arith, ap length (pieces-past s p l)))
    go (no l) = omega arith

-- ## The fields

-- one shape more of a list
abbrev pub shape_at : List Shape → ℕ → Shape
shape_at fs j = get_or fs j (Range 0 0)

pub drop-more : (fs : List Shape) (j : ℕ) (k : Shape) → j < length fs → k ≡ shape_at fs j → drop j fs ≡ k ∷ drop (j + 1) fs
drop-more fs j k h e = drop-cons fs j (Range 0 0) h ∙ rw (e, add-one)

-- j of the fields were read: what they say is the head, and what is kept of them agrees
pub record FillAt (s : Bytes) (from : ℕ) (fs : List Shape) (f : Fields) (p j : ℕ) (v : Word) : Type 0 where
  pub head : Head
  pub same : fill (bare v) (map field_of fs) (pieces s from) ≡ fill head (map field_of (drop j fs)) (pieces s p)
  pub agrees : Agrees s f head

pub record FillInv (s : Bytes) (from : ℕ) (fs : List Shape) (f : Fields) (p j : ℕ) : Type 0 where
  pub upto : j ≤ length fs
  pub small : length fs ≤ most_fields
  pub many : length (pieces s p) ≡ length fs - j
  pub put : f.put ≤ j
  pub for : (v : Word) → FillAt s from fs f p j v

pub fill_start : (s : Bytes) (from : ℕ) (fs : List Shape) (f : Fields) → f ≡ nothing_yet → length (pieces s from) ≡ length fs → length fs ≤ most_fields → FillInv s from fs f from 0
fill_start s from fs f e l small =
    rw e (record { upto = omega arith; small = small; many = omega arith; put = omega arith; for = λ v. record { head = bare v; same = refl; agrees = agrees_start s v } })

-- one field more
module _ (s : Bytes) (from : ℕ) (fs : List Shape) (f : Fields) (p j : ℕ) (v : Word) (a : FillAt s from fs f p j v) (few : f.put ≤ j) (small : length fs ≤ most_fields)
    (more : j < length fs) (here : p ≤ length s) (k : Shape) (is : k ≡ shape_at fs j) (q : ℕ) (e : Ends 44 s p q) where
  abbrev piece : Bytes
  piece = slice p q s

  abbrev said : Value
  said = value_at (field_of k) (get_or f.nums 1 0) piece

  abbrev later : Head → Read
  later h = fill h (map field_of (drop (j + 1) fs)) (pieces s (q + 1))

  turn : fill (bare v) (map field_of fs) (pieces s from) ≡ into a.head said later
  unfolding fill
  turn = a.same ∙ rw (drop-more fs j k more is, pieces_step s p q here e, value-at (field_of k) a.head.nums piece, ← a.agrees.nums 1)

  pub field-stop : (why : Refusal) → Err why ≡ val_of said → FilledAs s (fill (bare v) (map field_of fs) (pieces s from)) (Err why)
  field-stop why h =
      let w = into-stop a.head said later why (says (field_of k) (get_or f.nums 1 0) piece) h in
      rw (turn ∙ w.1) w.2

  pub field-on : (n : ℕ) → Ok n ≡ val_of said → (f' : Fields) → f' ≡ stored_in (field_of k) f p q n → FillAt s from fs f' (q + 1) (j + 1) v
  field-on n h f' ef =
      let w = says (field_of k) (get_or f.nums 1 0) piece in
      record {
        head = absorbed a.head said;
        same = turn ∙ into-on a.head said later n w h;
        agrees = rw ef (agrees_on s f a.head a.agrees (omega arith) p q e.within (field_of k) said n w h);
      }

-- what a field says, by the part that the code reads
pub part-says : (s : Bytes) (p q l : ℕ) (k : Shape) {r : Rattle.std.specs.Prelude.Result ℕ Refusal} → r ≡ val_of (value_at (field_of k) l (take (q - p) (drop p s))) → r ≡ val_of (value_at (field_of k) l (slice p q s))
part-says s p q l k e = e ∙ ap (λ (x : Bytes). val_of (value_at (field_of k) l x)) (part_slice p q s)

module _ (s : Bytes) (from : ℕ) (fs : List Shape) (f : Fields) (p j : ℕ) (i : FillInv s from fs f p j) (more : j < length fs) where
  pub fill-inside : p ≤ length s
  fill-inside = inside s p (length fs - j) i.many (omega arith)

  pub fill-room : f.put < most_fields
  fill-room = omega (arith, i.put, i.small)

  module _ (k : Shape) (is : k ≡ shape_at fs j) (q : ℕ) (e : Ends 44 s p q) where
    pub fill_stop : (why : Refusal) → Err why ≡ val_of (value_at (field_of k) (get_or f.nums 1 0) (take (q - p) (drop p s))) → (v : Word) → FilledAs s (fill (bare v) (map field_of fs) (pieces s from)) (Err why)
    fill_stop why h v = field-stop s from fs f p j v (i.for v) i.put i.small more fill-inside k is q e why (part-says s p q (get_or f.nums 1 0) k h)

    pub fill_on : (n : ℕ) → Ok n ≡ val_of (value_at (field_of k) (get_or f.nums 1 0) (take (q - p) (drop p s))) → (f' : Fields) → f' ≡ stored_in (field_of k) f p q n → FillInv s from fs f' (q + 1) (j + 1)
    fill_on n h f' ef =
        record {
          upto = omega arith;
          small = i.small;
          many = omega (arith, ap length (pieces_step s p q fill-inside e), i.many);
          put = rw ef (omega (arith, put_on (field_of k) f p q n, i.put));
          for = λ v. field-on s from fs f p j v (i.for v) i.put i.small more fill-inside k is q e n (part-says s p q (get_or f.nums 1 0) k h) f' ef;
        }

no_pieces : (ps : List Bytes) → length ps ≡ 0 → ps ≡ []
no_pieces [] e = refl
no_pieces (x ∷ ps) e = absurd (omega arith)

pub field_end : (s : Bytes) (from : ℕ) (fs : List Shape) (f : Fields) (p j : ℕ) (v : Word) → FillAt s from fs f p j v → length fs ≤ j → pieces s p ≡ []
    → FilledAs s (fill (bare v) (map field_of fs) (pieces s from)) (Ok f)
unfolding fill
field_end s from fs f p j v a over gone =
    let full : fill (bare v) (map field_of fs) (pieces s from) ≡ ok a.head = a.same ∙ rw (drop_of_length-le fs over, gone) in
    rw full a.agrees

pub fill_end : (s : Bytes) (from : ℕ) (fs : List Shape) (f : Fields) (p j : ℕ) → FillInv s from fs f p j → length fs ≤ j
    → (v : Word) → FilledAs s (fill (bare v) (map field_of fs) (pieces s from)) (Ok f)
fill_end s from fs f p j i over v = field_end s from fs f p j v (i.for v) over (no_pieces (pieces s p) (omega (arith, i.many)))

-- the commas from a place on
pub commas-at : (s : Bytes) (at n : ℕ) → at ≤ length s → n ≡ count_by (λ b. b == 44) (take (length s - at) (drop at s)) → suc n ≡ length (split 44 (drop at s))
commas-at s at n h e =
    let whole : take (length s - at) (drop at s) ≡ drop at s = take_all (length s - at) (drop at s) (omega (arith, length-drop at s)) in
    ap suc (e ∙ ap (λ (t : Bytes). count_by (λ b. b == 44) t) whole) ∙ split-count (drop at s)
