-- A line at a place, by what was read of it; and the places of a line's children. Assumes nothing.
use mathlib.Core.Path.{◌≡◌, refl, sym, ◌∙◌, ap}
use mathlib.Core.List.{List, [], ◌∷◌, ◌++◌, map}
use mathlib.Core.Bool.{Bool, true, false, ◌&&◌, ◌||◌}
use Prim.Native.Nat.{ℕ, suc, zero, ◌≤◌, ◌<◌}
use native.Mathlib.Omega.{arith}
use lib.Dec.{eqb, ltb}
use lib.ListN.{length, get_or, drop}
use borrow.Author.Tests.{ltb-true, ne_eqb}
use Rattle.semantics.specs.Bytes.{Bytes, split}
use Rattle.semantics.specs.Sheet.{Word, Head, Field, Place, first_place, binding_place, clause_place, end_place, projection_place, set_item_place, remove_item_place, label_place, parts_place, part_place, element_place, entry_place, item_place, expression_place, Read, bad, ok, and_then, Want, first, clauses, bindings, at, wanted, row, rank, place, roles, fits, beyond, under, read_line}
use Rattle.semantics.proofs.Words.{holds}
use denote.Enum.Bare.{sameb, same_true, true_same}
use borrow.Author.Rules.{rules}
use Rattle.line.specs.contracts.places.Place.{the_type}
use Rattle.std.specs.Prelude.{Option as Maybe, Some, None, Result, Ok, Err, IsTrue, IsErrAnd, MatchResult}
use Rattle.semantics.specs.Refusals.{number_of}
use Rattle.semantics.specs.declared.refusals.Refusal.{Refusal}
use Rattle.semantics.specs.declared.refusals.Refused.{Refused}
use Rattle.line.specs.declared.line.HirId.{HirId}
use Rattle.line.specs.Words.{word_of, place_of}
use Rattle.line.specs.Fields.{number_at}
use Rattle.line.specs.Line.{Plain, unknown, known, line_says, placed, most, flag_at, count_at, flag_of, count_of, HeadIs, Named, SaysAs, ReadAs}
use Rattle.line.specs.declared.words.Word.{Word as Coded}
use Rattle.line.specs.declared.places.Place.{Place as Spot}
use Rattle.line.specs.declared.places.Place.TheVariants.{First, Binding, Clause, End, Projection, SetItem, RemoveItem, Label, Parts, Part, Element, Entry, Item, Expression}
use Rattle.line.specs.declared.line.Head.{Head as Seen}
use Rattle.line.specs.declared.line.BadLine.{BadLine}
use Rattle.line.proofs.RowLaws.{most_at, flag-rule, counted-rule}
use Rattle.line.proofs.ReadLaws.{placed-line}
use Rattle.hir.specs.Run.{Run, stopped, before, carry_on, at_end, run}
use Rattle.hir.specs.Lines.{LineAt}
use Rattle.hir.specs.Kids.{first_spot, second_spot, kid_wants, level}
use Rattle.hir.specs.Check.{word_class, class_of, AdmitAs, MeetAs, RefusedAt}
use Rattle.hir.proofs.KidLaws.{kids-rule}

-- ## Classes

rank-small : (p : Place) → rank p ≤ 13
unfolding rank
rank-small p = elim p as (λ k. rank k ≤ 13) [ first_place ↦ omega arith | binding_place ↦ omega arith | clause_place ↦ omega arith | end_place ↦ omega arith | projection_place ↦ omega arith | set_item_place ↦ omega arith | remove_item_place ↦ omega arith | label_place ↦ omega arith | parts_place ↦ omega arith | part_place ↦ omega arith | element_place ↦ omega arith | entry_place ↦ omega arith | item_place ↦ omega arith | expression_place ↦ omega arith ]

-- no want takes a line that is no word
fits-none : (w : Want) → fits w 14 ≡ false
unfolding fits
fits-none (first d) = refl
fits-none (clauses d) = refl
fits-none (bindings v d) = refl
fits-none (at q d) = ne_eqb 14 (rank q) (λ e. omega (arith, rank-small q))

-- ## What a want makes of a line

-- a line that is fine so far
pub record Fit (s : Bytes) (p : ℕ) (k : Seen) (w : Want) (ws : List Want) (n : ℕ) (ls : List Bytes) : Type 0 where
  pub head : Head
  pub is : HeadIs s k head
  pub same : run (w ∷ ws) n ls ≡ carry_on n (beyond w head) (λ h. run (under w h ++ ws) (suc n) (split 10 (drop k.next s)))
  pub on : p < k.next
  pub inside : k.next ≤ length s
  pub line : split 10 (drop p s) ≡ ls → LineAt s p head k.next

both_ways : (a : Bool) → a ≡ true → a ≡ false → ⊥
both_ways a t f = let z : ◌≡◌ {A = ℕ} 0 1 = cc (sym t ∙ f) in omega arith

pub run-line : (w : Want) (ws : List Want) (n : ℕ) (l l' : Bytes) (ls : List Bytes)
    → run (w ∷ ws) n (l ∷ l' ∷ ls) ≡ carry_on n (read_line w l) (λ h. run (under w h ++ ws) (suc n) (l' ∷ ls))
unfolding run
run-line w ws n l l' ls = refl

placed-unfit : (w : Want) (v : Word) (r : Read) → fits w (rank (row v).place) ≡ false → placed w (known v r) ≡ bad 3
unfolding placed
placed-unfit w v r e = rw (e, placed)

placed-fit : (w : Want) (v : Word) (r : Read) → fits w (rank (row v).place) ≡ true → placed w (known v r) ≡ and_then r (beyond w)
unfolding placed
placed-fit w v r e = rw (e, placed)

-- the class of a line of a word
class-named : (o : Maybe Coded) (v : Word) → Named o v → word_class o ≡ rank (row v).place
class-named None v e = elim e [ ]
class-named (Some w) v e = ap (λ (u : Word). rank (row u).place) e

pub class-said : (s : Bytes) (x : Result Seen BadLine) (v : Word) (r : Read) → SaysAs s x (known v r) → class_of x ≡ rank (row v).place
class-said s (Ok k) v (bad c) e = elim e [ ]
class-said s (Err b) v (bad c) e = class-named b.word v e.0
class-said s (Ok k) v (ok h) e = ap (λ (u : Word). rank (row u).place) (e.1.word ∙ sym e.0)
class-said s (Err b) v (ok h) e = elim e [ ]

module _ (s : Bytes) (p : ℕ) (w : Want) (ws : List Want) (n : ℕ) where
  pub line-unfit : (x : Result Seen BadLine) (ls : List Bytes) → ReadAs s p x ls → fits w (class_of x) ≡ false → run (w ∷ ws) n ls ≡ stopped 3 n
  unfolding run at_end carry_on placed
  line-unfit x [] r f = refl
  line-unfit x (l ∷ []) r f = refl
  line-unfit x (l ∷ l' ∷ ls) r f = ap (λ (y : Read). carry_on n y (λ h. run (under w h ++ ws) (suc n) (l' ∷ ls))) (placed-line w l ∙ go (line_says l) r.3)
    where
      go : (y : Plain) → SaysAs s x y → placed w y ≡ bad 3
      go unknown e = refl
      go (known v q) e = placed-unfit w v q (ap (fits w) (sym (class-said s x v q e)) ∙ f)

  nameless : (b : BadLine) → b.word ≡ None → fits w (class_of (Err b)) ≡ true → ⊥
  nameless b e t = both_ways (fits w (class_of (Err b))) t (ap (λ (o : Maybe Coded). fits w (word_class o)) e ∙ fits-none w)

  pub line-wrong : (b : BadLine) (ls : List Bytes) → ReadAs s p (Err b) ls → fits w (class_of (Err b)) ≡ true → run (w ∷ ws) n ls ≡ stopped (number_of b.why) n
  unfolding run at_end carry_on
  line-wrong b [] r t = absurd (nameless b r t)
  line-wrong b (l ∷ []) r t = absurd (nameless b r t)
  line-wrong b (l ∷ l' ∷ ls) r t = ap (λ (y : Read). carry_on n y (λ i. run (under w i ++ ws) (suc n) (l' ∷ ls))) (placed-line w l ∙ go (line_says l) r.3)
    where
      go : (y : Plain) → SaysAs s (Err b) y → placed w y ≡ bad (number_of b.why)
      go unknown e = absurd (nameless b e t)
      go (known v (bad c)) e = placed-fit w v (bad c) (ap (fits w) (sym (class-named b.word v e.0)) ∙ t) ∙ ap bad (sym e.1)
      go (known v (ok i)) e = elim e [ ]

  pub line-fit : (k : Seen) (ls : List Bytes) → ReadAs s p (Ok k) ls → fits w (class_of (Ok k)) ≡ true → Fit s p k w ws n ls
  line-fit k [] r t = elim r [ ]
  line-fit k (l ∷ []) r t = elim r [ ]
  line-fit k (l ∷ l' ∷ ls) r t = go (line_says l) refl r.3
    where
      go : (y : Plain) → line_says l ≡ y → SaysAs s (Ok k) y → Fit s p k w ws n (l ∷ l' ∷ ls)
      go unknown d e = elim e [ ]
      go (known v (bad c)) d e = elim e [ ]
      go (known v (ok i)) d e =
          let q : read_line w l ≡ beyond w i = placed-line w l ∙ ap (placed w) d ∙ placed-fit w v (ok i) (ap (fits w) (sym (class-said s (Ok k) v (ok i) e)) ∙ t) in
          record {
            head = i;
            is = e.1;
            same = run-line w ws n l l' ls ∙ rw (q, r.0);
            on = r.1;
            inside = r.2;
            line = λ el. record { text = l; stands = el ∙ ap (λ (x : List Bytes). l ∷ x) r.0; says = d ∙ ap (λ (x : Word). known x (ok i)) e.0; on = r.1; inside = r.2 };
          }

pub class-is : (s : Bytes) (k : Seen) (h : Head) → HeadIs s k h → class_of (Ok k) ≡ rank (place h)
class-is s k h i = ap (λ (u : Word). rank (row u).place) i.word

number-most : (ns : List ℕ) (fs : List Field) → ((i : ℕ) → get_or ns i 0 ≤ most fs i) → (o : Maybe ℕ) → number_at ns o ≤ most_at fs o
number-most ns fs h None = omega arith
number-most ns fs h (Some i) = h i

pub flag_small : (s : Bytes) (k : Seen) (h : Head) → HeadIs s k h → k.flag ≤ 3
unfolding flag_of
flag_small s k h i = omega (arith, i.flag, number-most h.nums (row h.word).fields i.ranged (flag_at (row h.word).under), flag-rule h.word)

pub count_small : (s : Bytes) (k : Seen) (h : Head) → HeadIs s k h → k.count ≤ 9999
unfolding count_of
count_small s k h i = omega (arith, i.count, number-most h.nums (row h.word).fields i.ranged (count_at (row h.word).under), counted-rule h.word)

-- ## What hangs under a line

pub kids-of : (s : Bytes) (k : Seen) (h : Head) (d : ℕ) → HeadIs s k h → map (wanted d) (roles h) ≡ kid_wants (row (word_of k.word)).under k.count k.flag d
unfolding roles flag_of count_of
kids-of s k h d i = kids-rule h.word h.nums d i.ranged ∙ rw (i.word, i.count, i.flag)

-- ## Classes of children

ok_place : ℕ → ℕ → Bool
ok_place c g = ltb 3 g && (eqb g 13 || ltb (level g) (level c))

first-rule : (v : Word) → ok_place (rank (row v).place) (rank (first_spot (row v).under)) ≡ true
unfolding ok_place level row rank
first-rule v = holds (λ (v : Word). ok_place (rank (row v).place) (rank (first_spot (row v).under))) refl v

second-rule : (v : Word) → ok_place (rank (row v).place) (rank (second_spot (row v).under)) ≡ true
unfolding ok_place level row rank
second-rule v = holds (λ (v : Word). ok_place (rank (row v).place) (rank (second_spot (row v).under))) refl v

-- a class of lines under a line of class c: no first, `b`, `end` line and no clause; its level is less, but for an expression
pub record Under (c g : ℕ) : Type 0 where
  pub above : 3 < g
  pub falls : (g ≡ 13 → ⊥) → level g < level c

or-false : (a b : Bool) → (a || b) ≡ true → a ≡ false → b ≡ true
or-false true b e f = absurd (both_ways true refl f)
or-false false b e f = e

and_l : (a b : Bool) → (a && b) ≡ true → a ≡ true
and_l true b e = refl
and_l false b e = e

and_r : (a b : Bool) → (a && b) ≡ true → b ≡ true
and_r true b e = e
and_r false b e = absurd (both_ways false e refl)

under_of : (c g : ℕ) → ok_place c g ≡ true → Under c g
unfolding ok_place
under_of c g e =
    record {
      above = ltb-true 3 g (and_l (ltb 3 g) _ e);
      falls = λ n. ltb-true (level g) (level c) (or-false (eqb g 13) _ (and_r (ltb 3 g) _ e) (ne_eqb g 13 n));
    }

pub first_under : (k : Seen) → Under (class_of (Ok k)) (rank (first_spot (row (word_of k.word)).under))
first_under k = under_of _ _ (first-rule (word_of k.word))

pub second-under : (k : Seen) → Under (class_of (Ok k)) (rank (second_spot (row (word_of k.word)).under))
second-under k = under_of _ _ (second-rule (word_of k.word))

pub carry-bad : (n c : ℕ) (g : Head → Run) → carry_on n (bad c) g ≡ stopped c n
unfolding carry_on
carry-bad n c g = refl

pub carry-ok : (n : ℕ) (h : Head) (g : Head → Run) → carry_on n (ok h) g ≡ before h (g h)
unfolding carry_on
carry-ok n h g = refl

-- ## The code's places

spot_at : ℕ → Spot
spot_at zero = First
spot_at (suc zero) = Binding
spot_at (suc (suc zero)) = Clause
spot_at (suc (suc (suc zero))) = End
spot_at (suc (suc (suc (suc zero)))) = Projection
spot_at (suc (suc (suc (suc (suc zero))))) = SetItem
spot_at (suc (suc (suc (suc (suc (suc zero)))))) = RemoveItem
spot_at (suc (suc (suc (suc (suc (suc (suc zero))))))) = Label
spot_at (suc (suc (suc (suc (suc (suc (suc (suc zero)))))))) = Parts
spot_at (suc (suc (suc (suc (suc (suc (suc (suc (suc zero))))))))) = Part
spot_at (suc (suc (suc (suc (suc (suc (suc (suc (suc (suc zero)))))))))) = Element
spot_at (suc (suc (suc (suc (suc (suc (suc (suc (suc (suc (suc zero))))))))))) = Entry
spot_at (suc (suc (suc (suc (suc (suc (suc (suc (suc (suc (suc (suc zero)))))))))))) = Item
spot_at (suc (suc (suc (suc (suc (suc (suc (suc (suc (suc (suc (suc (suc n))))))))))))) = Expression

spot-back : (p : Spot) → spot_at (rank (place_of p)) ≡ p
unfolding rank spot_at
spot-back p =
    elim p as (λ q. spot_at (rank (place_of q)) ≡ q) [ First ↦ refl | Binding ↦ refl | Clause ↦ refl | End ↦ refl | Projection ↦ refl | SetItem ↦ refl | RemoveItem ↦ refl | Label ↦ refl | Parts ↦ refl | Part ↦ refl | Element ↦ refl | Entry ↦ refl | Item ↦ refl | Expression ↦ refl ]

-- a place is told by its rank
pub spot-by-rank : (p q : Spot) → rank (place_of p) ≡ rank (place_of q) → p ≡ q
spot-by-rank p q e = sym (spot-back p) ∙ ap spot_at e ∙ spot-back q

pub rank-below : (p : Spot) → 14 ≡ rank (place_of p) → ⊥
rank-below p e = omega (arith, rank-small (place_of p))

-- what a test of a line's place says
pub is-at : (x : Result Seen BadLine) (p q : Spot) → class_of x ≡ rank (place_of p) → (b : Bool) → b ≡ sameb the_type p q
    → (IsTrue b → class_of x ≡ rank (place_of q)) × (class_of x ≡ rank (place_of q) → IsTrue b)
is-at x p q c b e = (
  λ t. c ∙ ap (λ (r : Spot). rank (place_of r)) (same_true the_type (search rules) p q (sym e ∙ t)),
  λ d. e ∙ true_same the_type p q (spot-by-rank p q (sym c ∙ d)),
)

pub no-place : (x : Result Seen BadLine) (q : Spot) → class_of x ≡ 14 → (IsTrue false → class_of x ≡ rank (place_of q)) × (class_of x ≡ rank (place_of q) → IsTrue false)
no-place x q c = (λ t. absurd (let z : ◌≡◌ {A = ℕ} 0 1 = cc in omega arith), λ e. absurd (rank-below q (sym c ∙ e)))

-- whether it is an expression's
pub expression-rank : (p : Spot) → p ≡ Expression → rank (place_of p) ≡ 13
unfolding rank
expression-rank p e = rw e

pub other-rank : (p : Spot) → (p ≡ Expression → ⊥) → rank (place_of p) ≡ 13 → ⊥
unfolding rank
other-rank p ne e = ne (spot-by-rank p Expression e)

-- a test that failed
pub not-at : {P : Type 0} {b : Bool} → (P → IsTrue b) → b ≡ false → P → ⊥
not-at {b = b} f e p = both_ways b (f p) e

-- a line that was admitted is met, and a refusal is one of its number
pub met-as : (x : Result Seen BadLine) (line : HirId) (q : Place) (d : ℕ) (a : Result Seen Refusal) (r : Result Seen Refused) {P : Refusal → Refused → Type 0}
    → AdmitAs x q d a → MatchResult a (λ k. r ≡ Ok k) (λ why. IsErrAnd r (P why)) → ((why : Refusal) (e : Refused) → P why e → RefusedAt why line e) → MeetAs x line q d r
met-as x line q d (Ok k) r a m f = rw m a
met-as x line q d (Err why) (Ok k) a m f = absurd m
met-as x line q d (Err why) (Err e) a m f = let t = f why e m in rw t.0 (a, t.1)
