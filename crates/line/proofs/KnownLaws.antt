-- A line that is known to be fine: where its pieces stand and what they are. Assumes nothing.
use mathlib.Core.Path.{◌≡◌, refl, sym, ◌∙◌, ap}
use mathlib.Core.List.{List, [], ◌∷◌, ◌++◌}
use mathlib.Core.Option.{Option, none, some}
use mathlib.Core.Bool.{Bool, true, false, ◌&&◌}
use Prim.Native.Nat.{ℕ, ◌+◌, ◌-◌, ◌*◌, ◌≤◌, ◌<◌}
use native.Mathlib.Decide.{dec_lt}
use native.Mathlib.Omega.{arith}
use lib.Dec.{eqb, leb}
use lib.ListN.{length, get_or, take, drop, length-drop}
use lib.Seq.{slice, get_or-take, get_or-drop, length-take-le, length-slice}
use borrow.Author.Tests.{eqb-true, eq-eqb, leb-true}
use Rattle.semantics.specs.Limits.{variable_limit}
use Rattle.semantics.specs.Bytes.{Bytes, text, same, split, is_digit, digits, decimal}
use Rattle.semantics.specs.Sheet.{Word, row, rank, place, words, word_in, Head, num, variable_of, Field, variable, letter, Value, wrong, number, variable_v, value, within, lettered, Read, bad, ok, into, fill, bare}
use Rattle.semantics.proofs.Order.{same-eq}
use Rattle.semantics.proofs.Split.{split-inj}
use Rattle.semantics.proofs.Words.{every-where}
use Rattle.text.specs.Text.{Ends}
use Rattle.text.proofs.Laws.{slice-take}
use Rattle.text.proofs.Words.{ends, index-first, number-on, number-off, number-end, digit-range}
use Rattle.line.specs.declared.in_place.Got.{Got}
use Rattle.line.specs.declared.known.Bound.{Bound}
use Rattle.std.specs.Prelude.{Result, Ok, Err}
use Rattle.line.specs.declared.line.Head.{Head as Seen}
use Rattle.line.specs.declared.line.BadLine.{BadLine}
use Rattle.line.specs.Line.{known, word_says, pieces_say, line_says, pieces, HeadIs, SaysAs, ReadAs, next_of}
use Rattle.line.specs.Known.{LineAt, KnownAs, DigitsAt, DigitsAs, BindingAt, BoundAs}
use Rattle.line.proofs.FillLaws.{Says, faulty, a_letter, lettered-says}
use Rattle.line.proofs.QuickFields.{first_of}
use Rattle.line.proofs.LineLaws.{split-some, pieces-in, pieces-past, pieces_step}

-- ## Digits up to a byte below them

-- the digits from i on, behind those that say n, say the number
abbrev pub DigitsFrom : Bytes → ℕ → ℕ → ℕ → Type 0
DigitsFrom s at n i = (d : DigitsAt s at) → (i ≤ d.end) × (digits n (slice i d.end s) ≡ some d.value)

not_some : {A : Type 0} (v : A) → none ≡ some v → ⊥
not_some v e = let z : ◌≡◌ {A = ℕ} 0 1 = cc in omega arith

digits-grow : (n : ℕ) (t : Bytes) (v : ℕ) → digits n t ≡ some v → n ≤ v
unfolding digits
digits-grow n [] v e = let z : n ≡ v = cc in omega arith
digits-grow n (c ∷ t) v e = go (is_digit c) e (digits-grow (n * 10 + (c - 48)) t v)
  where
    go : (b : Bool) → elim b [ true ↦ digits (n * 10 + (c - 48)) t | false ↦ none ] ≡ some v → (digits (n * 10 + (c - 48)) t ≡ some v → n * 10 + (c - 48) ≤ v) → n ≤ v
    go true d ih = omega (arith, ih d)
    go false d ih = absurd (not_some v d)

-- a byte before the end is a digit, and the rest goes on behind it
pub record Digit (s : Bytes) (e i n v : ℕ) : Type 0 where
  pub least : 48 ≤ get_or s i 0
  pub most : get_or s i 0 ≤ 57
  pub rest : digits (n * 10 + (get_or s i 0 - 48)) (slice (i + 1) e s) ≡ some v
  pub fits : n * 10 + (get_or s i 0 - 48) ≤ v

digit-next : (s : Bytes) (e i n v : ℕ) → i < e → e ≤ length s → digits n (slice i e s) ≡ some v → Digit s e i n v
digit-next s e i n v h k d = go (is_digit (get_or (take e s) i 0)) refl
  where
    byte : get_or (take e s) i 0 ≡ get_or s i 0
    byte = get_or-take e s i 0 h

    long : i < length (take e s)
    long = omega (arith, length-take-le e s k)

    go : (b : Bool) → is_digit (get_or (take e s) i 0) ≡ b → Digit s e i n v
    go true t =
        let r = digit-range (get_or (take e s) i 0) t in
        let m : digits (n * 10 + (get_or s i 0 - 48)) (slice (i + 1) e s) ≡ some v
        = ap (λ (c : ℕ). digits (n * 10 + (c - 48)) (slice (i + 1) e s)) (sym byte) ∙ sym (number-on n (take e s) i long t) ∙ d in
        record { least = omega (arith, byte, r.0); most = omega (arith, byte, r.1); rest = m; fits = digits-grow _ _ v m }
    go false t = absurd (not_some v (sym (number-off n (take e s) i long t) ∙ d))

module _ (s : Bytes) (at n i : ℕ) (f : DigitsFrom s at n i) (d : DigitsAt s at) where
  pub digits_in : i < length s
  digits_in = omega (arith, (f d).0, d.inside)

  upto : 48 ≤ get_or s i 0 → i < d.end
  upto h = go (dec_lt i d.end)
    where
      go : Dec (i < d.end) → i < d.end
      go (yes l) = l
      go (no l) = let z : d.end ≡ i = omega (arith, (f d).0) in omega (arith, d.stop, ap (λ (j : ℕ). get_or s j 0) z)

  pub digits-next : 48 ≤ get_or s i 0 → Digit s d.end i n d.value
  digits-next h = digit-next s d.end i n d.value (upto h) (omega (arith, d.inside)) (f d).1

  pub digits-over : get_or s i 0 < 48 → (i ≡ d.end) × (n ≡ d.value)
  digits-over h = go (dec_lt i d.end)
    where
      go : Dec (i < d.end) → (i ≡ d.end) × (n ≡ d.value)
      go (yes l) = absurd (omega (arith, (digit-next s d.end i n d.value l (omega (arith, d.inside)) (f d).1).least))
      go (no l) =
          let z : some n ≡ some d.value = sym (number-end n (take d.end s) i (omega (arith, length-take-le d.end s (omega (arith, d.inside))))) ∙ (f d).1 in
          (omega (arith, (f d).0), cc)

  pub digits_more : 48 ≤ get_or s i 0 → (i + 1 ≤ d.end) × (digits (n * 10 + (get_or s i 0 - 48)) (slice (i + 1) d.end s) ≡ some d.value)
  digits_more h = (omega (arith, upto h), (digits-next h).rest)

-- ## What a fine line says

pub no_ok : (c : ℕ) (h : Head) → bad c ≡ ok h → ⊥
no_ok c h e = let z : ◌≡◌ {A = ℕ} 0 1 = cc in omega arith

-- its pieces: the word and the fields
pub record Fine (l : Bytes) (h : Head) : Type 0 where
  pub first : Bytes
  pub rest : List Bytes
  pub pieces : split 44 l ≡ first ∷ rest
  pub spelled : word_in first words ≡ some h.word
  pub many : length rest ≡ length (row h.word).fields
  pub filled : fill (bare h.word) (row h.word).fields rest ≡ ok h

pub fine-line : (l : Bytes) (h : Head) → line_says l ≡ known h.word (ok h) → Fine l h
unfolding line_says pieces_say word_says
fine-line l h e = by-pieces (split 44 l) refl e
  where
    by_count : (u : Word) (fs : List Bytes) (b : Bool) → eqb (length fs) (length (row u).fields) ≡ b
        → elim b [ true ↦ fill (bare u) (row u).fields fs | false ↦ bad 3 ] ≡ ok h → (length fs ≡ length (row u).fields) × (fill (bare u) (row u).fields fs ≡ ok h)
    by_count u fs true c d = (eqb-true (length fs) (length (row u).fields) c, d)
    by_count u fs false c d = absurd (no_ok 3 h d)

    by_word : (x : Bytes) (o : Option Word) (fs : List Bytes) → split 44 l ≡ x ∷ fs → word_in x words ≡ o → word_says o fs ≡ known h.word (ok h) → Fine l h
    by_word x none fs p w d = absurd (let z : ◌≡◌ {A = ℕ} 0 1 = cc in omega arith)
    by_word x (some u) fs p w d =
        let uv : u ≡ h.word = cc in
        let f : elim (eqb (length fs) (length (row u).fields)) [ true ↦ fill (bare u) (row u).fields fs | false ↦ bad 3 ] ≡ ok h = cc in
        let c = by_count u fs (eqb (length fs) (length (row u).fields)) refl f in
        record { first = x; rest = fs; pieces = p; spelled = w ∙ ap some uv; many = rw uv at c.0; filled = rw uv at c.1 }

    by-pieces : (ps : List Bytes) → split 44 l ≡ ps → pieces_say ps ≡ known h.word (ok h) → Fine l h
    by-pieces [] p d = absurd (let z : ◌≡◌ {A = ℕ} 0 1 = cc in omega arith)
    by-pieces (x ∷ fs) p d = by_word x (word_in x words) fs p refl d

-- a word that was found is spelled so
spelled-in : (x : Bytes) (vs : List Word) (v : Word) → word_in x vs ≡ some v → x ≡ text (row v).spelled
unfolding word_in
spelled-in x [] v e = absurd (let z : ◌≡◌ {A = ℕ} 0 1 = cc in omega arith)
spelled-in x (w ∷ vs) v e = go (same x (text (row w).spelled)) refl e (spelled-in x vs v)
  where
    go : (b : Bool) → same x (text (row w).spelled) ≡ b → elim b [ true ↦ some w | false ↦ word_in x vs ] ≡ some v → (word_in x vs ≡ some v → x ≡ text (row v).spelled) → x ≡ text (row v).spelled
    go true d f ih = let i : w ≡ v = cc in same-eq d ∙ ap (λ (u : Word). text (row u).spelled) i
    go false d f ih = ih f

-- ## Where a line and its pieces stand

-- the two ways to tell where the next line starts
pub same_place : (s : Bytes) (p q : ℕ) → p ≤ length s → q ≤ length s → split 10 (drop p s) ≡ split 10 (drop q s) → p ≡ q
same_place s p q hp hq e =
    let d = split-inj 10 (drop p s) (drop q s) e in
    omega (arith, length-drop p s, length-drop q s, ap length d)

-- no byte before a piece's end is the mark
ends-clear : (b : ℕ) (s : Bytes) (at r : ℕ) → Ends b s at r → (i : ℕ) → at ≤ i → i < r → get_or s i 0 ≡ b → ⊥
ends-clear b s at r e i h k z =
    let y : at + (i - at) ≡ i = omega arith in
    index-first b (drop at s) (i - at) (omega (arith, e.place)) (get_or-drop at s (i - at) 0 ∙ ap (λ (j : ℕ). get_or s j 0) y ∙ z)

pub record Place (s : Bytes) (at q : ℕ) (l : Bytes) : Type 0 where
  pub end : ℕ
  pub from : at ≤ end
  pub next : end + 1 ≡ q
  pub inside : end < length s
  pub mark : get_or s end 0 ≡ 10
  pub clear : (i : ℕ) → at ≤ i → i < end → get_or s i 0 ≡ 10 → ⊥
  pub text : l ≡ slice at end s

pub line-place : (s : Bytes) (at q : ℕ) (h : Head) (a : LineAt s at h q) → Place s at q a.text
line-place s at q h a = go (ends 10 s at _ (omega (arith, a.on, a.inside)) refl)
  where
    go : {x : ℕ} → Ends 10 s at x → Place s at q a.text
    go {x = x} e = pick (dec_lt x (length s))
      where
        pick : Dec (x < length s) → Place s at q a.text
        pick (yes l) =
            let d : a.text ∷ split 10 (drop q s) ≡ slice at x s ∷ split 10 (drop (x + 1) s) = sym a.stands ∙ e.more l in
            let t : a.text ≡ slice at x s = cc in
            let m : split 10 (drop (x + 1) s) ≡ split 10 (drop q s) = cc in
            record { end = x; from = e.from; next = same_place s (x + 1) q (omega arith) a.inside m; inside = l; mark = e.mark l; clear = ends-clear 10 s at x e; text = t }
        pick (no l) =
            let d : a.text ∷ split 10 (drop q s) ≡ slice at x s ∷ [] = sym a.stands ∙ e.last (omega arith) in
            let m : split 10 (drop q s) ≡ [] = cc in
            absurd (omega (arith, split-some 10 (drop q s), ap length m))

-- the first of the pieces from p on, in a line that ends at e
pub record PieceAt (s : Bytes) (e p : ℕ) (x : Bytes) (ys : List Bytes) : Type 0 where
  pub end : ℕ
  pub from : p ≤ end
  pub upto : end ≤ e
  pub text : x ≡ slice p end s
  pub rest : pieces (take e s) (end + 1) ≡ ys
  pub mark : end < e → get_or s end 0 ≡ 44
  pub clear : (i : ℕ) → p ≤ i → i < end → get_or s i 0 ≡ 44 → ⊥

pub piece-at : (s : Bytes) (e p : ℕ) (x : Bytes) (ys : List Bytes) → p ≤ e → e ≤ length s → pieces (take e s) p ≡ x ∷ ys → PieceAt s e p x ys
piece-at s e p x ys h k d = go (ends 44 (take e s) p _ (omega (arith, length-take-le e s k)) refl)
  where
    long : length (take e s) ≡ e
    long = length-take-le e s k

    go : {c : ℕ} → Ends 44 (take e s) p c → PieceAt s e p x ys
    go {c = c} w =
        let within : c ≤ e = omega (arith, w.within, long) in
        let f : x ∷ ys ≡ slice p c (take e s) ∷ pieces (take e s) (c + 1) = sym d ∙ pieces_step (take e s) p c (omega (arith, long)) w in
        let t : x ≡ slice p c (take e s) = cc in
        let r : pieces (take e s) (c + 1) ≡ ys = cc in
        record { end = c; from = w.from; upto = within; text = t ∙ slice-take p c e s within; rest = r; mark = λ l. sym (get_or-take e s c 0 l) ∙ w.mark (omega (arith, long)); clear = λ i a b z. ends-clear 44 (take e s) p c w i a b (get_or-take e s i 0 (omega arith) ∙ z) }

-- pieces are left: the place is inside the line; none are: it is behind it
pub piece-more : (s : Bytes) (e c : ℕ) (y : Bytes) (ys : List Bytes) → e ≤ length s → pieces (take e s) (c + 1) ≡ y ∷ ys → c < e
piece-more s e c y ys k d = go (dec_lt c e)
  where
    go : Dec (c < e) → c < e
    go (yes l) = l
    go (no l) = absurd (omega (arith, ap length (sym d ∙ pieces-past (take e s) (c + 1) (omega (arith, length-take-le e s k)))))

pub piece-last : (s : Bytes) (e c : ℕ) → c ≤ e → e ≤ length s → pieces (take e s) (c + 1) ≡ [] → c ≡ e
piece-last s e c h k d = go (dec_lt c e)
  where
    go : Dec (c < e) → c ≡ e
    go (yes l) = absurd (omega (arith, split-some 44 (drop (c + 1) (take e s)), ap length (sym (pieces-in (take e s) (c + 1) (omega (arith, length-take-le e s k))) ∙ d)))
    go (no l) = omega arith

pub pieces-line : (s : Bytes) (at e : ℕ) (ps : List Bytes) → at ≤ e → e ≤ length s → split 44 (slice at e s) ≡ ps → pieces (take e s) at ≡ ps
pieces-line s at e ps h k d = pieces-in (take e s) at (omega (arith, length-take-le e s k)) ∙ d

-- ## A decimal number's digits

pub decimal-digits : (t : Bytes) (v : ℕ) → decimal t ≡ some v → digits 0 t ≡ some v
unfolding decimal
decimal-digits [] v e = absurd (not_some v e)
decimal-digits (c ∷ []) v e = e
decimal-digits (c ∷ d ∷ t) v e = go (eqb c 48) e
  where
    go : (b : Bool) → elim b [ true ↦ none | false ↦ digits 0 (c ∷ d ∷ t) ] ≡ some v → digits 0 (c ∷ d ∷ t) ≡ some v
    go true f = absurd (not_some v f)
    go false f = f

abbrev pub number_stands : (s : Bytes) (at e v : ℕ) → at ≤ e → e < length s → get_or s e 0 < 48 → decimal (slice at e s) ≡ some v → v < 18446744073709551616 → DigitsAt s at
number_stands s at e v h k m d l = record { end = e; value = v; from = h; inside = k; stop = m; says = decimal-digits (slice at e s) v d; small = l }

-- ## A binding

pub bind-fields : (v : Word) → rank (row v).place ≡ 1 → (row v).fields ≡ variable ∷ letter ∷ []
unfolding row rank
bind-fields v e = every-where (λ (v : Word). eqb (rank (row v).place) 1) (λ (v : Word). (row v).fields) (variable ∷ letter ∷ []) refl v (eq-eqb (rank (row v).place) 1 e)

bind-spelled : (v : Word) → rank (row v).place ≡ 1 → text (row v).spelled ≡ 98 ∷ []
unfolding row rank text
bind-spelled v e = every-where (λ (v : Word). eqb (rank (row v).place) 1) (λ (v : Word). text (row v).spelled) (98 ∷ []) refl v (eq-eqb (rank (row v).place) 1 e)

-- what its two fields say
pub record Pair (k h : Head) (a b : Bytes) : Type 0 where
  pub value : ℕ
  pub kind : ℕ
  pub decimal : decimal a ≡ some value
  pub small : value ≤ 4294967295
  pub letter : lettered b ≡ number kind
  pub var : h.var ≡ some value
  pub nums : h.nums ≡ k.nums ++ (kind ∷ [])

pair-said : (k h : Head) (a b : Bytes) → fill k (variable ∷ letter ∷ []) (a ∷ b ∷ []) ≡ ok h → Pair k h a b
unfolding fill value within
pair-said k h a b f = by-variable (decimal a) refl f
  where
    by-letter : (v : ℕ) → decimal a ≡ some v → v ≤ 4294967295 → (x : Value) → lettered b ≡ x → Says letter b x → into (record { word = k.word; var = some v; nums = k.nums; name = k.name }) x (λ i. fill i [] []) ≡ ok h → Pair k h a b
    by-letter v ea l (wrong c) e (faulty p) d = absurd (no_ok c h d)
    by-letter v ea l (number n) e (a_letter p) d =
        let q : record { word = k.word; var = some v; nums = k.nums ++ (n ∷ []); name = k.name } ≡ h = cc in
        record { value = v; kind = n; decimal = ea; small = l; letter = e; var = ap (λ (y : Head). y.var) (sym q); nums = ap (λ (y : Head). y.nums) (sym q) }
    by-letter v ea l (variable_v _) e x5 d = elim x5 [ ]
    by-letter v ea l (Rattle.semantics.specs.Sheet.name_v _) e x6 d = elim x6 [ ]
    by-letter v ea l (Rattle.semantics.specs.Sheet.alias_v _) e x7 d = elim x7 [ ]

    by-range : (v : ℕ) → decimal a ≡ some v → (p q : Bool) → leb v variable_limit ≡ q
        → into k (elim (p && q) [ true ↦ variable_v (some v) | false ↦ wrong 4 ]) (λ i. fill i (letter ∷ []) (b ∷ [])) ≡ ok h → Pair k h a b
    by-range v ea true true e d = by-letter v ea (leb-true v variable_limit e) (lettered b) refl (lettered-says b) d
    by-range v ea true false e d = absurd (no_ok 4 h d)
    by-range v ea false q e d = absurd (no_ok 4 h d)

    by-variable : (o : Option ℕ) → decimal a ≡ o → into k (within 0 variable_limit o (λ v. variable_v (some v))) (λ i. fill i (letter ∷ []) (b ∷ [])) ≡ ok h → Pair k h a b
    by-variable none e d = absurd (no_ok 3 h d)
    by-variable (some v) e d = by-range v e (leb 0 v) (leb v variable_limit) refl d

-- a letter is one byte
lettered-one : (b : Bytes) (n : ℕ) → lettered b ≡ number n → (length b ≡ 1) × (lettered (get_or b 0 0 ∷ []) ≡ number n)
unfolding lettered
lettered-one [] n e = absurd (let z : ◌≡◌ {A = ℕ} 0 1 = cc in omega arith)
lettered-one (c ∷ []) n e = (refl, e)
lettered-one (c ∷ d ∷ b) n e = absurd (let z : ◌≡◌ {A = ℕ} 0 1 = cc in omega arith)

-- where the parts of a binding stand
pub record Binding (s : Bytes) (at : ℕ) (h : Head) (q : ℕ) : Type 0 where
  pub end : ℕ
  pub value : ℕ
  pub from : at + 2 ≤ end
  pub next : end + 3 ≡ q
  pub mark : get_or s end 0 ≡ 44
  pub decimal : decimal (slice (at + 2) end s) ≡ some value
  pub small : value ≤ 4294967295
  pub var : variable_of h ≡ value
  pub kind : lettered (get_or s (end + 1) 0 ∷ []) ≡ number (num h 0)

module _ (s : Bytes) (at : ℕ) (h : Head) (q : ℕ) (a : LineAt s at h q) (first : rank (place h) ≡ 1) where
  p : Place s at q a.text
  p = line-place s at q h a

  f : Fine a.text h
  f = fine-line a.text h a.says

  in-sheet : p.end ≤ length s
  in-sheet = omega (arith, p.inside)

  fields : (row h.word).fields ≡ variable ∷ letter ∷ []
  fields = bind-fields h.word first

  all : pieces (take p.end s) at ≡ f.first ∷ f.rest
  all = pieces-line s at p.end (f.first ∷ f.rest) p.from in-sheet (ap (split 44) (sym p.text) ∙ f.pieces)

  word : PieceAt s p.end at f.first f.rest
  word = piece-at s p.end at f.first f.rest p.from in-sheet all

  one : word.end ≡ at + 1
  one =
      omega
      (arith, word.from, length-slice at word.end s (omega (arith, word.upto, in-sheet)), ap length (sym word.text ∙ spelled-in f.first words h.word f.spelled ∙ bind-spelled h.word first))

  two : (xs : List Bytes) → f.rest ≡ xs → length xs ≡ 2 → fill (bare h.word) (variable ∷ letter ∷ []) xs ≡ ok h → Binding s at h q
  two [] e l d = absurd (omega arith)
  two (x ∷ []) e l d = absurd (omega arith)
  two (x ∷ y ∷ z ∷ zs) e l d = absurd (omega arith)
  two (x ∷ y ∷ []) e l d =
      let r : pieces (take p.end s) (at + 2) ≡ x ∷ y ∷ [] = ap (λ (i : ℕ). pieces (take p.end s) i) (omega (arith, one)) ∙ word.rest ∙ e in
      let m = piece-more s p.end word.end x (y ∷ []) in-sheet (word.rest ∙ e) in
      let u = piece-at s p.end (at + 2) x (y ∷ []) (omega (arith, one, m)) in-sheet r in
      let n = piece-more s p.end u.end y [] in-sheet u.rest in
      let v = piece-at s p.end (u.end + 1) y [] (omega arith) in-sheet u.rest in
      let b = piece-last s p.end v.end v.upto in-sheet v.rest in
      let g = pair-said (bare h.word) h x y d in
      let o = lettered-one y g.kind g.letter in
      let w : v.end ≡ u.end + 2 = omega (arith, v.from, length-slice (u.end + 1) v.end s (omega (arith, b, in-sheet)), ap length v.text, o.0) in
      let c : get_or y 0 0 ≡ get_or s (u.end + 1) 0 = ap (λ (t : Bytes). get_or t 0 0) v.text ∙ first_of s (u.end + 1) v.end (omega (arith, w)) in
      record {
        end = u.end;
        value = g.value;
        from = u.from;
        next = omega (arith, w, b, p.next);
        mark = u.mark n;
        decimal = ap decimal (sym u.text) ∙ g.decimal;
        small = g.small;
        var = ap (λ (j : Option ℕ). elim j [ none ↦ 0 | some k ↦ k ]) g.var;
        kind = ap (λ (j : ℕ). lettered (j ∷ [])) (sym c) ∙ o.1 ∙ ap (λ (j : List ℕ). number (get_or j 0 0)) (sym g.nums);
      }

  pub binding : Binding s at h q
  binding = two f.rest refl (f.many ∙ ap length fields) (rw fields at f.filled)

-- the digits of a binding's variable
abbrev pub binding_digits : (s : Bytes) (at : ℕ) → BindingAt s at → DigitsAt s (at + 2)
binding_digits s at b =
    let w = binding s at b.head b.next b.line b.first in
    number_stands s (at + 2) w.end w.value w.from (omega (arith, w.next, b.line.inside)) (omega (arith, w.mark)) w.decimal (omega (arith, w.small))

pub binding-small : (s : Bytes) (at : ℕ) → BindingAt s at → (g : Got) → DigitsAs s (at + 2) g → g.n ≤ 4294967295
binding-small s at b g f = omega (arith, (f (binding_digits s at b)).1, (binding s at b.head b.next b.line b.first).small)

pub binding-says : (s : Bytes) (at : ℕ) (b : BindingAt s at) (g : Got) → DigitsAs s (at + 2) g → (r : Bound) → r.end ≡ g.end → r.var.0 ≡ g.n → BoundAs s b.head b.next r
binding-says s at b g f r e v =
    let w = binding s at b.head b.next b.line b.first in
    let d = f (binding_digits s at b) in
    record { var = v ∙ d.1 ∙ sym w.var; next = omega (arith, e, d.0, w.next); kind = ap (λ (j : ℕ). lettered (get_or s (j + 1) 0 ∷ [])) (e ∙ d.0) ∙ w.kind }

-- ## What is read of a line that is fine

-- nothing else than what it says
pub read_at : (s : Bytes) (at : ℕ) (r : Result Seen BadLine) → ReadAs s at r (split 10 (drop at s)) → (h : Head) (q : ℕ) → LineAt s at h q
    → (k : Seen) × (r ≡ Ok k) × (k.next ≡ q) × HeadIs s k h
read_at s at r x h q a = go (split 10 (drop q s)) refl (split-some 10 (drop q s)) (rw a.stands at x)
  where
    told : (r : Result Seen BadLine) → split 10 (drop q s) ≡ split 10 (drop (next_of r) s) → next_of r ≤ length s → SaysAs s r (known h.word (ok h))
        → (k : Seen) × (r ≡ Ok k) × (k.next ≡ q) × HeadIs s k h
    told (Ok k) e w y = (k, refl, same_place s k.next q w a.inside (sym e), y.1)
    told (Err b) e w y = elim y [ ]

    go : (ms : List Bytes) → split 10 (drop q s) ≡ ms → 0 < length ms → ReadAs s at r (a.text ∷ ms) → (k : Seen) × (r ≡ Ok k) × (k.next ≡ q) × HeadIs s k h
    go [] d l y = absurd (omega arith)
    go (m ∷ ms) d l y = told r (d ∙ y.0) y.2 (rw a.says at y.3)

pub known_at : (s : Bytes) (at : ℕ) (k : Seen) → ReadAs s at (Ok k) (split 10 (drop at s)) → KnownAs s at k
known_at s at k x h q a =
    let w = read_at s at (Ok k) x h q a in
    let z : w.0 ≡ k = cc in
    let t : (w.0.next ≡ q) × HeadIs s w.0 h = (w.2, w.3) in
    rw z at t
