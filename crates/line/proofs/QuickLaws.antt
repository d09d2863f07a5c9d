-- A line read at once: where a piece ends in a line whose end is not known yet, and the line at its end. Assumes nothing.
use mathlib.Core.Path.{◌≡◌, refl, sym, ◌∙◌, ap}
use mathlib.Core.List.{List, [], ◌∷◌}
use mathlib.Core.Option.{some}
use mathlib.Core.Logic.{◌⊎◌, inl, inr, ⊎_elim}
use Prim.Native.Nat.{ℕ, suc, zero, ◌+◌, ◌-◌, ◌*◌, ◌≤◌, ◌<◌}
use native.Mathlib.Decide.{dec_lt}
use native.Mathlib.Omega.{arith}
use lib.ListN.{length, get_or, take, drop}
use lib.Seq.{slice, get_or-take, get_or-drop, length-take-le}
use Rattle.semantics.specs.Bytes.{Bytes, split}
use Rattle.semantics.specs.Sheet.{Word, fill, bare, row, words}
use Rattle.text.specs.Text.{Ends}
use Rattle.text.proofs.Laws.{part_slice, slice-take}
use Rattle.text.proofs.Words.{ends, index-first}
use Rattle.std.specs.Prelude.{map, Some, Ok}
use Rattle.line.specs.declared.words.Word.{Word as Coded}
use Rattle.line.specs.declared.shapes.Shape.{Shape}
use Rattle.line.specs.declared.rows.Row.{Row as Listed}
use Rattle.line.specs.Words.{word_of, field_of, under_of}
use Rattle.line.specs.declared.field.Fields.{Fields}
use Rattle.line.specs.Rows.{code_from, word_at, RowAs}
use Rattle.line.specs.Fields.{most_fields, val_of, value_at, nothing_yet, stored_in}
use Rattle.line.specs.Line.{pieces, FilledAs, ReadAs, seen_as}
use Rattle.line.specs.Quick.{Clean, Stood, WordAt, LeadAs}
use Rattle.line.specs.declared.quick.Lead.{Lead}
use Rattle.line.proofs.FillLaws.{agrees_start, put_on}
use Rattle.line.proofs.LineLaws.{shape_at, code-on, code-end, pieces-in, pieces-past, pieces_step, FillAt, field-on, field_end}
use Rattle.line.proofs.ReadLaws.{read-good, read-line}
use Rattle.line.proofs.QuickFields.{clean-on, clean-none}

-- ## The word

-- the letters from `at` to i make up this code
pub record LeadTo (s : Bytes) (at i code : ℕ) : Type 0 where
  pub from : at ≤ i
  pub within : i ≤ length s
  pub clean : Clean s at i
  pub same : (e : ℕ) → i ≤ e → e ≤ length s → code_from 1 (slice at e s) ≡ code_from code (slice i e s)

pub lead-start : (s : Bytes) (at : ℕ) → at ≤ length s → LeadTo s at at 1
lead-start s at h = record { from = omega arith; within = h; clean = clean-none s at; same = λ e p q. refl }

pub lead-on : (s : Bytes) (at i code : ℕ) → LeadTo s at i code → i < length s → 97 ≤ get_or s i 0 → code < 1099511627776
    → LeadTo s at (i + 1) (code * 256 + get_or s i 0)
lead-on s at i code d h a b =
    record {
      from = omega (arith, d.from);
      within = omega arith;
      clean = clean-on s at i d.clean (λ e. omega arith) (λ e. omega arith);
      same = λ e p q.
          d.same e (omega arith) q
          ∙ code-on (take e s) i code (omega (arith, length-take-le e s q)) b
          ∙ ap (λ (c : ℕ). code_from (code * 256 + c) (slice (i + 1) e s)) (get_or-take e s i 0 (omega arith));
    }

pub lead-end : (s : Bytes) (at i code : ℕ) → LeadTo s at i code → i < length s → Stood s at i × (code ≡ code_from 1 (slice at i s))
lead-end s at i code d h = (
  record { from = d.from; inside = h; clean = d.clean },
  sym (d.same i (omega arith) (omega arith) ∙ code-end (take i s) i code (omega (arith, length-take-le i s (omega arith)))),
)

-- three letters, and four
module _ (s : Bytes) (at code : ℕ) (h : at + 3 < length s) (a : 97 ≤ get_or s at 0) (b : 97 ≤ get_or s (at + 1) 0) (c : 97 ≤ get_or s (at + 2) 0)
    (small : (x : ℕ) → get_or s x 0 < 256) (e : code ≡ 16777216 + get_or s at 0 * 65536 + get_or s (at + 1) 0 * 256 + get_or s (at + 2) 0) where
  three : LeadTo s at (at + 3) code
  three =
      let one : at + 1 + 1 ≡ at + 2 = omega arith in
      let two : at + 2 + 1 ≡ at + 3 = omega arith in
      let x = lead-on s at at 1 (lead-start s at (omega arith)) (omega arith) a (omega arith) in
      let y = lead-on s at (at + 1) _ x (omega arith) b (omega (arith, small at)) in
      let y' : LeadTo s at (at + 2) ((1 * 256 + get_or s at 0) * 256 + get_or s (at + 1) 0) = rw one at y in
      let z = lead-on s at (at + 2) _ y' (omega arith) c (omega (arith, small at, small (at + 1))) in
      let n : ((1 * 256 + get_or s at 0) * 256 + get_or s (at + 1) 0) * 256 + get_or s (at + 2) 0 ≡ code = omega (arith, e) in
      rw (two, n) at z

  pub lead-three : Stood s at (at + 3) × (code ≡ code_from 1 (slice at (at + 3) s))
  lead-three = lead-end s at (at + 3) code three h

  pub lead-four : at + 4 < length s → 97 ≤ get_or s (at + 3) 0 → Stood s at (at + 4) × (code * 256 + get_or s (at + 3) 0 ≡ code_from 1 (slice at (at + 4) s))
  lead-four k d =
      let one : at + 3 + 1 ≡ at + 4 = omega arith in
      let x = lead-on s at (at + 3) code three h d (omega (arith, e, small at, small (at + 1), small (at + 2))) in
      lead-end s at (at + 4) _ (rw one at x) k

-- ## Where a piece ends

-- a piece ends at r if no byte before it is the mark, and r is the end or the mark
pub ends_at : (b : ℕ) (s : Bytes) (at r : ℕ) → at ≤ r → r ≤ length s → ((i : ℕ) → at ≤ i → i < r → get_or s i 0 ≡ b → ⊥) → (r < length s → get_or s r 0 ≡ b) → Ends b s at r
ends_at b s at r h k clear mark = go (ends b s at _ (omega arith) refl)
  where
    go : {x : ℕ} → Ends b s at x → Ends b s at r
    go {x = x} e = pick (dec_lt x r) (dec_lt r x)
      where
        pick : Dec (x < r) → Dec (r < x) → Ends b s at r
        pick (yes l) m = absurd (clear x e.from l (e.mark (omega arith)))
        pick (no l) (yes m) =
            let z : at + (r - at) ≡ r = omega arith in
            absurd (index-first b (drop at s) (r - at) (omega (arith, e.place)) (get_or-drop at s (r - at) 0 ∙ ap (λ (j : ℕ). get_or s j 0) z ∙ mark (omega (arith, e.within))))
        pick (no l) (no m) = let q : x ≡ r = omega arith in rw q at e

-- a line that ends at e may end the piece at p: p is that end, or a comma before it
abbrev pub Cut : Bytes → ℕ → ℕ → Type 0
Cut s e p = (p ≡ e) ⊎ ((p < e) × (get_or s p 0 ≡ 44))

module _ (s : Bytes) (at r e : ℕ) (d : Stood s at r) (le : e ≤ length s) (c : Cut s e r) where
  cut-le : r ≤ e
  cut-le = ⊎_elim (λ q. omega arith) (λ q. omega arith) c

  pub cut-ends : Ends 44 (take e s) at r
  cut-ends =
      let long : length (take e s) ≡ e = length-take-le e s le in
      let l = cut-le in
      ends_at 44 (take e s) at r d.from (omega arith)
      (λ i p q z. (d.clean i p q).0 (sym (get_or-take e s i 0 (omega arith)) ∙ z))
      (λ q. ⊎_elim (λ w. absurd (omega arith)) (λ w. get_or-take e s r 0 w.0 ∙ w.1) c)

-- ## The fields

-- j of the fields behind the word that ends at `end` were read, up to p; a line that may end there says what is kept of them
pub record QuickInv (s : Bytes) (end : ℕ) (fs : List Shape) (f : Fields) (p j : ℕ) : Type 0 where
  pub upto : j ≤ length fs
  pub small : length fs ≤ most_fields
  pub on : end ≤ p
  pub inside : p < length s
  pub put : f.put ≤ j
  pub word : Cut s p end
  pub lines : (i : ℕ) → end ≤ i → i < p → get_or s i 0 ≡ 10 → ⊥
  pub for : (e : ℕ) → e ≤ length s → Cut s e p → (v : Word) → FillAt (take e s) (end + 1) fs f (p + 1) j v
  pub many : (e : ℕ) → e ≤ length s → Cut s e p → length (pieces (take e s) (end + 1)) ≡ j + length (pieces (take e s) (p + 1))

pub quick-start : (s : Bytes) (end : ℕ) (fs : List Shape) (f : Fields) → f ≡ nothing_yet → length fs ≤ most_fields → end < length s → QuickInv s end fs f end 0
quick-start s end fs f e small h =
    rw e (record {
      upto = omega arith;
      small = small;
      on = omega arith;
      inside = h;
      put = omega arith;
      word = inl refl;
      lines = λ i p q. absurd (omega arith);
      for = λ e le c v. record { head = bare v; same = refl; agrees = agrees_start (take e s) v };
      many = λ e le c. omega arith;
    })

module _ (s : Bytes) (end : ℕ) (fs : List Shape) (f : Fields) (p j : ℕ) (i : QuickInv s end fs f p j) (more : j < length fs) (comma : get_or s p 0 ≡ 44)
    (k : Shape) (is : k ≡ shape_at fs j) (q x : ℕ) (d : Stood s (p + 1) q) (er : Ok x ≡ val_of (value_at (field_of k) (get_or f.nums 1 0) (slice (p + 1) q s)))
    (f' : Fields) (ef : f' ≡ stored_in (field_of k) f (p + 1) q x) where
  module _ (e : ℕ) (le : e ≤ length s) (c : Cut s e q) where
    long : length (take e s) ≡ e
    long = length-take-le e s le

    before : p < e
    before = omega (arith, cut-le s (p + 1) q e d le c, d.from)

    here : p + 1 ≤ length (take e s)
    here = omega (arith, long, before)

    piece : Ends 44 (take e s) (p + 1) q
    piece = cut-ends s (p + 1) q e d le c

    says : Ok x ≡ val_of (value_at (field_of k) (get_or f.nums 1 0) (slice (p + 1) q (take e s)))
    says = er ∙ ap (λ (t : Bytes). val_of (value_at (field_of k) (get_or f.nums 1 0) t)) (sym (slice-take (p + 1) q e s (cut-le s (p + 1) q e d le c)))

    step : (v : Word) → FillAt (take e s) (end + 1) fs f' (q + 1) (j + 1) v
    step v = field-on (take e s) (end + 1) fs f (p + 1) j v (i.for e le (inr (before, comma)) v) i.put i.small more here k is q piece x says f' ef

    count : length (pieces (take e s) (end + 1)) ≡ j + 1 + length (pieces (take e s) (q + 1))
    count = omega (arith, i.many e le (inr (before, comma)), ap length (pieces_step (take e s) (p + 1) q here piece))

  pub quick-on : QuickInv s end fs f' q (j + 1)
  quick-on =
      record {
        upto = omega arith;
        small = i.small;
        on = omega (arith, i.on, d.from);
        inside = d.inside;
        put = rw ef (omega (arith, put_on (field_of k) f (p + 1) q x, i.put));
        word = ⊎_elim (λ z. inr (omega (arith, d.from), ap (λ (t : ℕ). get_or s t 0) z ∙ comma)) (λ z. inr (omega (arith, d.from), z.1)) i.word;
        lines = λ y a b z. go y a b z (dec_lt y p) (dec_lt p y);
        for = step;
        many = count;
      }
    where
      go : (y : ℕ) → end ≤ y → y < q → get_or s y 0 ≡ 10 → Dec (y < p) → Dec (p < y) → ⊥
      go y a b z (yes l) m = i.lines y a l z
      go y a b z (no l) (yes m) = (d.clean y (omega arith) b).1 z
      go y a b z (no l) (no m) = let w : y ≡ p = omega arith in omega (arith, comma, z, ap (λ (t : ℕ). get_or s t 0) w)

-- ## The line

pub taken-small : (n : ℕ) (s : Bytes) → ((x : ℕ) → get_or s x 0 < 256) → (x : ℕ) → get_or (take n s) x 0 < 256
taken-small zero s h zero = omega arith
taken-small zero s h (suc x) = omega arith
taken-small (suc n) [] h zero = omega arith
taken-small (suc n) [] h (suc x) = omega arith
taken-small (suc n) (c ∷ s) h zero = h 0
taken-small (suc n) (c ∷ s) h (suc x) = taken-small n s (λ y. h (suc y)) x

module _ (s : Bytes) (end : ℕ) (w : Coded) (r : Listed) (row-is : RowAs (row (word_of w)) r) (f : Fields) (p j : ℕ) (i : QuickInv s end r.fields.now f p j) (over : length r.fields.now ≤ j)
    (lf : get_or s p 0 ≡ 10) (bytes : (x : ℕ) → get_or s x 0 < 256) (at : ℕ) (wa : WordAt s at end w) where
  abbrev line : Bytes
  line = take p s

  in-sheet : p ≤ length s
  in-sheet = omega (arith, i.inside)

  line-long : length line ≡ p
  line-long = length-take-le p s in-sheet

  at-word : at ≤ end
  at-word = wa.stood.from

  at-line : at ≤ length line
  at-line = omega (arith, line-long, i.on, at-word)

  word-ends : Ends 44 line at end
  word-ends = cut-ends s at end p wa.stood in-sheet i.word

  line-ends : Ends 10 s at p
  line-ends = ends_at 10 s at p (omega (arith, i.on, at-word)) in-sheet (λ x a b z. go x a b z (dec_lt x end)) (λ q. lf)
    where
      go : (x : ℕ) → at ≤ x → x < p → get_or s x 0 ≡ 10 → Dec (x < end) → ⊥
      go x a b z (yes l) = (wa.stood.clean x a l).1 z
      go x a b z (no l) = i.lines x (omega arith) b z

  nothing_left : pieces line (p + 1) ≡ []
  nothing_left = pieces-past line (p + 1) (omega (arith, line-long))

  counted : suc (length r.fields.now) ≡ length (split 44 (drop at line))
  counted =
      omega
      (arith, i.upto, i.many p in-sheet (inl refl), ap length nothing_left, ap length (sym (pieces-in line at at-line) ∙ pieces_step line at end at-line word-ends))

  spelled : word_at (code_from 1 (take (end - at) (drop at line))) words ≡ some (word_of w)
  spelled = ap (λ (t : Bytes). word_at (code_from 1 t) words) (part_slice at end line ∙ slice-take at end p s i.on) ∙ wa.spelled

  filled : FilledAs line (fill (bare (word_of w)) (map field_of r.fields.now) (pieces line (end + 1))) (Ok f)
  filled = field_end line (end + 1) r.fields.now f (p + 1) j (word_of w) (i.for p in-sheet (inl refl) (word_of w)) over nothing_left

  pub quick-end : ReadAs s at (Ok (seen_as w (under_of r.under) (p + 1) f)) (split 10 (drop at s))
  quick-end =
      read-line s at p line-ends i.inside (Ok (seen_as w (under_of r.under) (p + 1) f)) refl
      (read-good line at end at-line word-ends (taken-small p s bytes) w spelled (length r.fields.now) counted r row-is refl f filled (p + 1))

-- a word that was found by its letters
pub word-lead : (s : Bytes) (at : ℕ) (r : Lead) (w : Coded) → LeadAs s at (Some r) → word_at r.code words ≡ some (word_of w) → WordAt s at r.end w
word-lead s at r w d e = record { stood = d.0; spelled = ap (λ (c : ℕ). word_at c words) (sym d.1) ∙ e }
