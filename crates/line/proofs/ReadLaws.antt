-- A whole line: what was read of it is what it says. Assumes nothing.
use mathlib.Core.Path.{◌≡◌, refl, sym, ◌∙◌, ap}
use mathlib.Core.List.{List, [], ◌∷◌, ◌++◌, append_assoc, append-nil}
use mathlib.Core.Option.{Option, none, some}
use mathlib.Core.Bool.{Bool, true, false, ◌&&◌}
use Prim.Native.Nat.{ℕ, suc, zero, ◌+◌, ◌-◌, ◌≤◌, ◌<◌}
use native.Mathlib.Omega.{arith}
use lib.Dec.{eqb}
use lib.ListN.{length, get_or, take, drop, length-map}
use lib.Seq.{slice, take-take, length-take-le}
use borrow.Author.Tests.{ne_eqb, eq-eqb}
use Rattle.semantics.specs.Bytes.{Bytes, split, unhex}
use Rattle.semantics.proofs.All.{empty, also, all_take, all_drop}
use Rattle.semantics.specs.Sheet.{Word, Head, Field, range, variable, optional, name, alias, bound, letter, signed, float, Value, wrong, number, variable_v, name_v, alias_v, value, Read, bad, ok, into, fill, bare, row, rank, Shape, words, word_in, Want, fits, beyond, and_then, read_fields, read_as, read_pieces, read_line}
use Rattle.std.specs.Prelude.{map, Option as Maybe, Some, None, Result, Ok, Err}
use Rattle.semantics.specs.declared.refusals.Refusal.{Refusal}
use Rattle.semantics.specs.declared.refusals.Refusal.TheVariants.{BadlyWritten}
use Rattle.line.specs.declared.words.Word.{Word as Coded}
use Rattle.line.specs.declared.rows.Row.{Row as Listed}
use Rattle.line.specs.declared.field.Fields.{Fields}
use Rattle.line.specs.declared.line.Head.{Head as Seen}
use Rattle.line.specs.declared.line.BadLine.{BadLine}
use Rattle.line.specs.Words.{word_of, field_of, under_of}
use Rattle.line.specs.Rows.{code_from, word_at, RowAs}
use Rattle.line.specs.Fields.{clip, number_at, Agrees}
use Rattle.line.specs.Line.{pieces, FilledAs, Plain, unknown, known, word_says, pieces_say, line_says, placed, most, Ranged, flag_at, count_at, flag_of, count_of, HeadIs, SaysAs, ReadAs, next_of, seen_as}
use Rattle.line.specs.Opening.{WordIs}
use Rattle.line.proofs.WordLaws.{Small, found-word}
use Rattle.line.proofs.RowLaws.{most_at, flag-rule, counted-rule, num-rule}
use Rattle.line.proofs.FillLaws.{Says, says, faulty, in_range, a_bound, a_letter, a_signed, a_variable, some_variable, no_variable, a_name, a_float, an_alias, no_alias, value-at}
use Rattle.line.proofs.LineLaws.{pieces-in, pieces_step, split-some}
use Rattle.text.specs.Text.{Ends}
use Rattle.text.proofs.Laws.{part_slice}

-- ## A line at a place

abbrev joint : Want → Bool → Bool → Read → Read
joint w p q r = elim (p && q) [ true ↦ and_then r (beyond w) | false ↦ bad 3 ]

abbrev nested : Want → Bool → Bool → Read → Read
nested w p q r = elim p [ true ↦ and_then (elim q [ true ↦ r | false ↦ bad 3 ]) (beyond w) | false ↦ bad 3 ]

joint-nested : (w : Want) (p q : Bool) (r : Read) → joint w p q r ≡ nested w p q r
joint-nested w true true r = refl
joint-nested w true false r = refl
joint-nested w false q r = refl

by_word : (w : Want) (o : Option Word) (fs : List Bytes) → read_as w o fs ≡ placed w (word_says o fs)
unfolding read_fields placed word_says
by_word w none fs = refl
by_word w (some v) fs = joint-nested w (fits w (rank (row v).place)) (eqb (length fs) (length (row v).fields)) (fill (bare v) (row v).fields fs)

by-pieces : (w : Want) (ps : List Bytes) → read_pieces w ps ≡ placed w (pieces_say ps)
unfolding read_pieces pieces_say placed
by-pieces w [] = refl
by-pieces w (x ∷ fs) = by_word w (word_in x words) fs

pub placed-line : (w : Want) (l : Bytes) → read_line w l ≡ placed w (line_says l)
unfolding read_line line_says
placed-line w l = by-pieces w (split 44 l)

-- ## The numbers of a head that was read

no_ok : (c : ℕ) (k : Head) → bad c ≡ ok k → ⊥
no_ok c k e = let z : ◌≡◌ {A = ℕ} 0 1 = cc in omega arith

-- a head after more fields: its word, and its numbers with theirs behind
pub record Filling (fs : List Field) (h k : Head) : Type 0 where
  pub word : k.word ≡ h.word
  pub more : List ℕ
  pub nums : k.nums ≡ h.nums ++ more
  pub within : (i : ℕ) → get_or more i 0 ≤ most fs i

abbrev Fills : List Field → Head → Head → (Head → Read) → Type 0
Fills fs h k g = (h' : Head) → g h' ≡ ok k → Filling fs h' k

pushing : (f : Field) (fs : List Field) (h k : Head) (v : Option ℕ) (s : Bytes) (n : ℕ) → ((i : ℕ) → most (f ∷ fs) (suc i) ≡ most fs i) → n ≤ most (f ∷ fs) 0
    → Filling fs (record { word = h.word; var = h.var; nums = h.nums ++ (n ∷ []); name = s }) k → Filling (f ∷ fs) h k
pushing f fs h k v s n e b x =
    record {
      word = x.word;
      more = n ∷ x.more;
      nums = x.nums ∙ append_assoc h.nums (n ∷ []) x.more;
      within = λ i. go i;
    }
  where
    go : (i : ℕ) → get_or (n ∷ x.more) i 0 ≤ most (f ∷ fs) i
    go zero = b
    go (suc i) = rw (e i) (x.within i)

keeping : (f : Field) (fs : List Field) (h h' k : Head) → ((i : ℕ) → most (f ∷ fs) i ≡ most fs i) → h'.word ≡ h.word → h'.nums ≡ h.nums
    → Filling fs h' k → Filling (f ∷ fs) h k
keeping f fs h h' k e ew en x = record { word = x.word ∙ ew; more = x.more; nums = x.nums ∙ rw en; within = λ i. rw (e i) (x.within i) }

filling-into : (f : Field) (fs : List Field) (x : Bytes) (h k : Head) (v : Value) (g : Head → Read) → Says f x v → Fills fs h k g → into h v g ≡ ok k → Filling (f ∷ fs) h k
unfolding most
filling-into f fs x h k (wrong c) g (faulty p) ih e = absurd (no_ok c k e)
filling-into (range l m) fs x h k (number n) g (in_range p) ih e = pushing (range l m) fs h k none _ n (λ i. refl) p (ih _ e)
filling-into bound fs x h k (number n) g (a_bound p) ih e = pushing bound fs h k none _ n (λ i. refl) p (ih _ e)
filling-into letter fs x h k (number n) g (a_letter p) ih e = pushing letter fs h k none _ n (λ i. refl) p (ih _ e)
filling-into signed fs x h k (number n) g (a_signed p) ih e = pushing signed fs h k none _ n (λ i. refl) p (ih _ e)
filling-into alias fs x h k (number n) g no_alias ih e = pushing alias fs h k none _ 0 (λ i. refl) (omega arith) (ih _ e)
filling-into alias fs x h k (alias_v s) g (an_alias p) ih e = pushing alias fs h k none _ 1 (λ i. refl) (omega arith) (ih _ e)
filling-into variable fs x h k (variable_v (some v)) g (a_variable p) ih e = keeping variable fs h _ k (λ i. refl) refl refl (ih _ e)
filling-into optional fs x h k (variable_v (some v)) g (some_variable p) ih e = keeping optional fs h _ k (λ i. refl) refl refl (ih _ e)
filling-into optional fs x h k (variable_v none) g no_variable ih e = keeping optional fs h _ k (λ i. refl) refl refl (ih _ e)
filling-into name fs x h k (name_v s) g (a_name p) ih e = keeping name fs h _ k (λ i. refl) refl refl (ih _ e)
filling-into float fs x h k (name_v s) g (a_float p) ih e = keeping float fs h _ k (λ i. refl) refl refl (ih _ e)
filling-into variable fs x h k (number n) g x6 ih e = elim x6 [ ]
filling-into optional fs x h k (number n) g x7 ih e = elim x7 [ ]
filling-into name fs x h k (number n) g x8 ih e = elim x8 [ ]
filling-into float fs x h k (number n) g x9 ih e = elim x9 [ ]
filling-into (range l m) fs x h k (variable_v _) g x9 ih e = elim x9 [ ]
filling-into variable fs x h k (variable_v none) g x11 ih e = elim x11 [ ]
filling-into name fs x h k (variable_v _) g x11 ih e = elim x11 [ ]
filling-into alias fs x h k (variable_v _) g x12 ih e = elim x12 [ ]
filling-into bound fs x h k (variable_v _) g x13 ih e = elim x13 [ ]
filling-into letter fs x h k (variable_v _) g x14 ih e = elim x14 [ ]
filling-into signed fs x h k (variable_v _) g x15 ih e = elim x15 [ ]
filling-into float fs x h k (variable_v _) g x16 ih e = elim x16 [ ]
filling-into (range l m) fs x h k (name_v s) g x8 ih e = elim x8 [ ]
filling-into variable fs x h k (name_v s) g x9 ih e = elim x9 [ ]
filling-into optional fs x h k (name_v s) g x10 ih e = elim x10 [ ]
filling-into alias fs x h k (name_v s) g x11 ih e = elim x11 [ ]
filling-into bound fs x h k (name_v s) g x12 ih e = elim x12 [ ]
filling-into letter fs x h k (name_v s) g x13 ih e = elim x13 [ ]
filling-into signed fs x h k (name_v s) g x14 ih e = elim x14 [ ]
filling-into (range l m) fs x h k (alias_v s) g x9 ih e = elim x9 [ ]
filling-into variable fs x h k (alias_v s) g x10 ih e = elim x10 [ ]
filling-into optional fs x h k (alias_v s) g x11 ih e = elim x11 [ ]
filling-into name fs x h k (alias_v s) g x12 ih e = elim x12 [ ]
filling-into bound fs x h k (alias_v s) g x13 ih e = elim x13 [ ]
filling-into letter fs x h k (alias_v s) g x14 ih e = elim x14 [ ]
filling-into signed fs x h k (alias_v s) g x15 ih e = elim x15 [ ]
filling-into float fs x h k (alias_v s) g x16 ih e = elim x16 [ ]

filling : (fs : List Field) (xs : List Bytes) (h k : Head) → fill h fs xs ≡ ok k → Filling fs h k
unfolding fill most
filling [] [] h k e = let d : h ≡ k = cc in rw (← d) (record { word = refl; more = []; nums = sym (append-nil h.nums); within = λ i. none_over i })
  where
    none_over : (i : ℕ) → get_or {A = ℕ} [] i 0 ≤ 0
    none_over zero = omega arith
    none_over (suc i) = omega arith
filling [] (x ∷ xs) h k e = absurd (no_ok 3 k e)
filling (f ∷ fs) [] h k e = absurd (no_ok 3 k e)
filling (f ∷ fs) (x ∷ xs) h k e =
    let d = value-at f h.nums x in
    filling-into f fs x h k (value f h.nums x) (λ k'. fill k' fs xs) (rw d (says f (clip (get_or h.nums 1 0)) x)) (λ h' e'. filling fs xs h' k e') e

pub fill-word : (v : Word) (xs : List Bytes) (h : Head) → fill (bare v) (row v).fields xs ≡ ok h → v ≡ h.word
fill-word v xs h e = sym (filling (row v).fields xs (bare v) h e).word

pub fill-ranged : (v : Word) (xs : List Bytes) (h : Head) → fill (bare v) (row v).fields xs ≡ ok h → Ranged h
fill-ranged v xs h e i = go h.word h.nums f.word f.nums
  where
    f : Filling (row v).fields (bare v) h
    f = filling (row v).fields xs (bare v) h e

    go : (w : Word) (ns : List ℕ) → w ≡ v → ns ≡ f.more → get_or ns i 0 ≤ most (row w).fields i
    go w ns a b = rw (a, b) (f.within i)

clip-off : (n m b : ℕ) → n ≡ clip m → m ≤ b → b ≤ 18446744073709551615 → n ≡ m
clip-off n m b e h g = omega arith

-- the number at an index
number-clip : (xs ns : List ℕ) → ((i : ℕ) → get_or xs i 0 ≡ clip (get_or ns i 0)) → (o : Maybe ℕ) → number_at xs o ≡ clip (number_at ns o)
number-clip xs ns e None = refl
number-clip xs ns e (Some i) = e i

number-most : (ns : List ℕ) (fs : List Field) → ((i : ℕ) → get_or ns i 0 ≤ most fs i) → (o : Maybe ℕ) → number_at ns o ≤ most_at fs o
number-most ns fs h None = omega arith
number-most ns fs h (Some i) = h i

head-is : (s : Bytes) (f : Fields) (w : Coded) (u : Shape) (next : ℕ) (h : Head) → word_of w ≡ h.word → u ≡ (row h.word).under → Agrees s f h → Ranged h
    → HeadIs s (seen_as w u next f) h
unfolding flag_of count_of
head-is s f w u next h ew eu a r =
    let fs : List Field = (row h.word).fields in
    let uh : Shape = (row h.word).under in
    record {
      word = ew;
      var = a.var;
      num = clip-off _ _ _ (a.nums 0) (r 0) (num-rule h.word);
      flag = rw eu (clip-off _ _ _ (number-clip f.nums h.nums a.nums (flag_at uh)) (number-most h.nums fs r (flag_at uh)) (omega (arith, flag-rule h.word)));
      count = rw eu (clip-off _ _ _ (number-clip f.nums h.nums a.nums (count_at uh)) (number-most h.nums fs r (count_at uh)) (omega (arith, counted-rule h.word)));
      name = a.name;
      within = a.within;
      ranged = r;
    }

-- ## A line's word

pub small_all : (s : Bytes) → ((i : ℕ) → get_or s i 0 < 256) → Small s
small_all [] h = empty
small_all (c ∷ s) h = also (h 0) (small_all s (λ i. h (suc i)))

module _ (s : Bytes) (at q : ℕ) (inside : at ≤ length s) (e : Ends 44 s at q) (small : (i : ℕ) → get_or s i 0 < 256) where
  abbrev first : Bytes
  first = slice at q s

  found-is : word_at (code_from 1 (take (q - at) (drop at s))) words ≡ word_in first words
  found-is = ap (λ (t : Bytes). word_at (code_from 1 t) words) (part_slice at q s) ∙ found-word first (all_drop at (all_take q (small_all s small)))

  pieces_are : split 44 (drop at s) ≡ first ∷ pieces s (q + 1)
  pieces_are = sym (pieces-in s at inside) ∙ pieces_step s at q inside e

  says_is : line_says (drop at s) ≡ word_says (word_in first words) (pieces s (q + 1))
  unfolding line_says pieces_say
  says_is = rw (pieces_are, pieces_say)

  pub read-unknown : word_at (code_from 1 (take (q - at) (drop at s))) words ≡ none → (why : Refusal) (next : ℕ) → SaysAs s (Err (record { word = None; why = why; next = next })) (line_says (drop at s))
  unfolding word_says
  read-unknown z why next = rw (says_is, sym found-is ∙ z, word_says) refl

  module _ (w : Coded) (known-word : word_at (code_from 1 (take (q - at) (drop at s))) words ≡ some (word_of w)) where
    abbrev v : Word
    v = word_of w

    found : word_in first words ≡ some v
    found = sym found-is ∙ known-word

    pub word-says : WordIs (Some w) (line_says (drop at s))
    unfolding word_says
    word-says = rw (says_is, found, word_says) refl

    module _ (n : ℕ) (en : suc n ≡ length (split 44 (drop at s))) (r : Listed) (row-is : RowAs (row (word_of w)) r) where
      many_is : length (pieces s (q + 1)) ≡ n
      many_is = omega (arith, en, ap length pieces_are)

      rule-is : length (row v).fields ≡ length r.fields.now
      rule-is = ap length (sym row-is.fields) ∙ length-map r.fields.now field_of

      pub read_count : (n ≡ length r.fields.now → ⊥) → (next : ℕ) → SaysAs s (Err (record { word = Some w; why = BadlyWritten; next = next })) (line_says (drop at s))
      unfolding word_says
      read_count h next =
          rw (says_is, found, ne_eqb (length (pieces s (q + 1))) (length (row v).fields) (λ d. h (omega (arith, many_is, rule-is))), word_says)
          (refl, refl)

      module _ (h : n ≡ length r.fields.now) where
        pub read-many : length (pieces s (q + 1)) ≡ length r.fields.now
        read-many = many_is ∙ h

        all-of : length (pieces s (q + 1)) ≡ length (row v).fields
        all-of = read-many ∙ sym rule-is

        pub read-bad : (why : Refusal) → FilledAs s (fill (bare v) (map field_of r.fields.now) (pieces s (q + 1))) (Err why)
            → (next : ℕ) → SaysAs s (Err (record { word = Some w; why = why; next = next })) (line_says (drop at s))
        unfolding word_says
        read-bad why x next =
            rw (says_is, found, eq-eqb (length (pieces s (q + 1))) (length (row v).fields) all-of, word_says)
            (go (fill (bare v) (row v).fields (pieces s (q + 1))) (rw row-is.fields at x))
          where
            go : (p : Read) → FilledAs s p (Err why) → SaysAs s (Err (record { word = Some w; why = why; next = next })) (known v p)
            go (bad c) y = (refl, y)
            go (ok k) y = elim y [ ]

        pub read-good : (f : Fields) → FilledAs s (fill (bare v) (map field_of r.fields.now) (pieces s (q + 1))) (Ok f)
            → (next : ℕ) → SaysAs s (Ok (seen_as w (under_of r.under) next f)) (line_says (drop at s))
        unfolding word_says
        read-good f x next =
            rw (says_is, found, eq-eqb (length (pieces s (q + 1))) (length (row v).fields) all-of, word_says)
            (go (fill (bare v) (row v).fields (pieces s (q + 1))) refl (rw row-is.fields at x))
          where
            go : (p : Read) → fill (bare v) (row v).fields (pieces s (q + 1)) ≡ p → FilledAs s p (Ok f) → SaysAs s (Ok (seen_as w (under_of r.under) next f)) (known v p)
            go (bad c) d y = elim y [ ]
            go (ok k) d y =
                let vk : v ≡ k.word = fill-word v (pieces s (q + 1)) k d in
                (vk, head-is s f w (under_of r.under) next k vk (row-is.under ∙ ap (λ (z : Word). (row z).under) vk) y (fill-ranged v (pieces s (q + 1)) k d))

-- ## A line of a sheet

-- the name of a line stands in the sheet
wider : (s : Bytes) (end : ℕ) → end ≤ length s → (r : Result Seen BadLine) (p : Plain) → SaysAs (take end s) r p → SaysAs s r p
wider s end l (Ok r) unknown x = x
wider s end l (Err b) unknown x = x
wider s end l (Ok r) (known v (bad c)) x = x
wider s end l (Err b) (known v (bad c)) x = x
wider s end l (Err b) (known v (ok h)) x = x
wider s end l (Ok r) (known v (ok h)) x =
    let y = x.1 in
    let n : length (take end s) ≡ end = length-take-le end s l in
    let t : take r.stop (take end s) ≡ take r.stop s = take-take r.stop end s (omega (arith, y.within, n)) in
    (x.0, record { word = y.word; var = y.var; num = y.num; flag = y.flag; count = y.count; name = ap (λ (z : Bytes). unhex (drop r.name z)) (sym t) ∙ y.name; within = omega (arith, y.within, n); ranged = y.ranged })

pub read-cut : (s : Bytes) (at end : ℕ) → Ends 10 s at end → length s ≤ end → (why : Refusal) (next : ℕ) → ReadAs s at (Err (record { word = None; why = why; next = next })) (split 10 (drop at s))
read-cut s at end e h why next = rw (e.last h) refl

pub read-line : (s : Bytes) (at end : ℕ) → Ends 10 s at end → end < length s → (r : Result Seen BadLine) → next_of r ≡ end + 1
    → SaysAs (take end s) r (line_says (drop at (take end s))) → ReadAs s at r (split 10 (drop at s))
read-line s at end e h r n x = rw (e.more h) (go (split 10 (drop (end + 1) s)) refl (split-some 10 (drop (end + 1) s)))
  where
    go : (ls : List Bytes) → split 10 (drop (end + 1) s) ≡ ls → 0 < length ls → ReadAs s at r (slice at end s ∷ ls)
    go [] d l = absurd (omega arith)
    go (l' ∷ ls) d l = (rw n (sym d), omega (arith, e.from), omega arith, wider s end (omega arith) r (line_says (drop at (take end s))) x)

pub read_whole : (s : Bytes) (at end : ℕ) → Ends 10 s at end → end < length s → (r : Result Seen BadLine) → next_of r ≡ end + 1
    → SaysAs (take (end - 0) (drop 0 s)) r (line_says (drop at (take (end - 0) (drop 0 s)))) → ReadAs s at r (split 10 (drop at s))
read_whole s at end e h r n x = read-line s at end e h r n (rw (part_slice 0 end s) at x)
