-- Every sheet that can be read has the form that renumbering speaks of: the first line, `b` lines, and a rest that begins with none.
use mathlib.Core.Path.{◌≡◌, refl, sym, ◌∙◌, ap, subst}
use mathlib.Core.List.{List, [], ◌∷◌, ◌++◌, map as map_l}
use mathlib.Core.Option.{Option, none, some}
use mathlib.Core.Bool.{Bool, true, false, ◌&&◌, and-eq-true_iff, false≢true}
use Prim.Native.Nat.{ℕ, suc}
use native.Mathlib.Omega.{arith}
use lib.ListN.{length}
use lib.Dec.{eqb, leb, ltb}
use borrow.Author.Tests.{leb-true, ne_eqb}
use Rattle.semantics.specs.Bytes.{Bytes, split, decimal}
use Rattle.semantics.specs.Sheet.{Word, cyrs_word, b_word, Field, range, variable, letter, Head, num, variable_of, row, rank, place, roles, words, word_in, Value, wrong, number, variable_v, name_v, alias_v, within, lettered, value, Read, bad, ok, into, fill, bare, Want, first, clauses, bindings, at, fits, beyond, and_then, read_fields, read_as, read_pieces, read_line, after, under, Sheet, refused, heads, add, carry, check, sheet}
use Rattle.semantics.specs.Walk.{bound, bound_by}
use Rattle.semantics.proofs.All.{either}
use Rattle.semantics.proofs.Words.{every-where}
use Rattle.rewording.specs.Reword.{mk, binding_line, with_bindings}

-- ## Words by their place

data Placed : Word → Type 0 where
  a_first : Placed cyrs_word
  a_binding : Placed b_word
  another : {w : Word} → eqb (rank (row w).place) 0 ≡ false → eqb (rank (row w).place) 1 ≡ false → Placed w

first_word : (w : Word) → eqb (rank (row w).place) 0 ≡ true → w ≡ cyrs_word
unfolding row rank
first_word w e = every-where (λ (v : Word). eqb (rank (row v).place) 0) (λ (v : Word). v) cyrs_word refl w e

binding-word : (w : Word) → eqb (rank (row w).place) 1 ≡ true → w ≡ b_word
unfolding row rank
binding-word w e = every-where (λ (v : Word). eqb (rank (row v).place) 1) (λ (v : Word). v) b_word refl w e

placed : (w : Word) → Placed w
placed w = go (eqb (rank (row w).place) 0) refl (eqb (rank (row w).place) 1) refl
  where
    go : (a : Bool) → eqb (rank (row w).place) 0 ≡ a → (b : Bool) → eqb (rank (row w).place) 1 ≡ b → Placed w
    go true d b e = subst Placed (sym (first_word w d)) a_first
    go false d true e = subst Placed (sym (binding-word w e)) a_binding
    go false d false e = another d e

-- ## The first line

abbrev First : Read → Type 0
First (bad c) = Unit {0}
First (ok h) = h ≡ mk cyrs_word none (1 ∷ []) []

first_field : (o : Option ℕ) → First (into (bare cyrs_word) (within 1 1 o number) (λ k. fill k [] []))
unfolding within fill
first_field none = tt
first_field (some n) = go (leb 1 n && leb n 1) refl
  where
    go : (b : Bool) → (leb 1 n && leb n 1) ≡ b → First (into (bare cyrs_word) (elim b [ true ↦ number n | false ↦ wrong 4 ]) (λ k. fill k [] []))
    go true e =
        let p = (and-eq-true_iff (leb 1 n) (leb n 1)).0 e in
        let q : n ≡ 1 = omega (arith, leb-true 1 n p.0, leb-true n 1 p.1) in
        ap (λ (x : ℕ). mk cyrs_word none (x ∷ []) []) q
    go false e = tt

first-fill : (xs : List Bytes) → First (fill (bare cyrs_word) (range 1 1 ∷ []) xs)
unfolding fill value
first-fill [] = tt
first-fill (x ∷ []) = first_field (decimal x)
first-fill (x ∷ y ∷ xs) = go (within 1 1 (decimal x) number)
  where
    go : (v : Value) → First (into (bare cyrs_word) v (λ k. fill k [] (y ∷ xs)))
    go (wrong c) = tt
    go (number n) = tt
    go (variable_v v) = tt
    go (name_v s) = tt
    go (alias_v s) = tt

-- ## A `b` line

abbrev Bound : Read → Type 0
Bound (bad c) = Unit {0}
Bound (ok h) = (b : ℕ × ℕ) × (h ≡ binding_line b)

letter-field : (v : ℕ) (s : Bytes) → Bound (into (mk b_word (some v) [] []) (lettered s) (λ k. fill k [] []))
unfolding lettered fill
letter-field v [] = tt
letter-field v (c ∷ []) = go (eqb c 78) (eqb c 82) (eqb c 80) (eqb c 86)
  where
    go : (n r p t : Bool) → Bound (into (mk b_word (some v) [] []) (elim n [ true ↦ number 0 | false ↦ elim r [ true ↦ number 1 | false ↦ elim p [ true ↦ number 2 | false ↦ elim t [ true ↦ number 3 | false ↦ wrong 3 ] ] ] ]) (λ k. fill k [] []))
    go true r p t = ((v, 0), refl)
    go false true p t = ((v, 1), refl)
    go false false true t = ((v, 2), refl)
    go false false false true = ((v, 3), refl)
    go false false false false = tt
letter-field v (c ∷ d ∷ cs) = tt

variable-field : (o : Option ℕ) (xs : List Bytes) → Bound (into (bare b_word) (within 0 4294967295 o (λ v. variable_v (some v))) (λ k. fill k (letter ∷ []) xs))
unfolding within fill value
variable-field none xs = tt
variable-field (some n) xs = go (leb 0 n && leb n 4294967295) xs
  where
    go : (b : Bool) (xs : List Bytes) → Bound (into (bare b_word) (elim b [ true ↦ variable_v (some n) | false ↦ wrong 4 ]) (λ k. fill k (letter ∷ []) xs))
    go true [] = tt
    go true (y ∷ []) = letter-field n y
    go true (y ∷ z ∷ ys) = too_many (lettered y)
      where
        too_many : (v : Value) → Bound (into (mk b_word (some n) [] []) v (λ k. fill k [] (z ∷ ys)))
        too_many (wrong c) = tt
        too_many (number m) = tt
        too_many (variable_v v) = tt
        too_many (name_v s) = tt
        too_many (alias_v s) = tt
    go false xs = tt

binding-fill : (xs : List Bytes) → Bound (fill (bare b_word) (variable ∷ letter ∷ []) xs)
unfolding fill value
binding-fill [] = tt
binding-fill (x ∷ xs) = variable-field (decimal x) xs

-- ## Any line

abbrev OfWord : Word → Read → Type 0
OfWord w (bad c) = Unit {0}
OfWord w (ok h) = h.word ≡ w

into-word : (w : Word) (h : Head) (v : Value) (f : Head → Read) → h.word ≡ w → ((k : Head) → k.word ≡ w → OfWord w (f k)) → OfWord w (into h v f)
into-word w h (wrong c) f e g = tt
into-word w h (number n) f e g = g _ e
into-word w h (variable_v v) f e g = g _ e
into-word w h (name_v s) f e g = g _ e
into-word w h (alias_v s) f e g = g _ e

fill-word : (w : Word) (h : Head) (fs : List Field) (xs : List Bytes) → h.word ≡ w → OfWord w (fill h fs xs)
unfolding fill
fill-word w h [] [] e = e
fill-word w h [] (x ∷ xs) e = tt
fill-word w h (f ∷ fs) [] e = tt
fill-word w h (f ∷ fs) (x ∷ xs) e = into-word w h (value f h.nums x) (λ k. fill k fs xs) e (λ k p. fill-word w k fs xs p)

pub record Forms (h : Head) : Type 0 where
  pub first_form : eqb (rank (place h)) 0 ≡ true → h ≡ mk cyrs_word none (1 ∷ []) []
  pub binding_form : eqb (rank (place h)) 1 ≡ true → (b : ℕ × ℕ) × (h ≡ binding_line b)

abbrev OkForms : Read → Type 0
OkForms (bad c) = Unit {0}
OkForms (ok h) = Forms h

first-forms : (r : Read) → First r → OkForms r
unfolding row rank
first-forms (bad c) p = tt
first-forms (ok h) p = rw p (record { first_form = λ e. refl; binding_form = λ e. absurd (false≢true e) })

binding-forms : (r : Read) → Bound r → OkForms r
unfolding row rank
binding-forms (bad c) p = tt
binding-forms (ok h) p = go p.0 p.1
  where
    go : (b : ℕ × ℕ) → h ≡ binding_line b → Forms h
    go b e = rw e (record { first_form = λ e. absurd (false≢true e); binding_form = λ e. (b, refl) })

other-forms : (w : Word) (r : Read) → OfWord w r → eqb (rank (row w).place) 0 ≡ false → eqb (rank (row w).place) 1 ≡ false → OkForms r
other-forms w (bad c) p a b = tt
other-forms w (ok h) p a b =
    let f : eqb (rank (place h)) 0 ≡ false = ap (λ (v : Word). eqb (rank (row v).place) 0) p ∙ a in
    let g : eqb (rank (place h)) 1 ≡ false = ap (λ (v : Word). eqb (rank (row v).place) 1) p ∙ b in
    record { first_form = λ e. absurd (false≢true (sym f ∙ e)); binding_form = λ e. absurd (false≢true (sym g ∙ e)) }

fill-forms : (w : Word) → Placed w → (xs : List Bytes) → OkForms (fill (bare w) (row w).fields xs)
fill-forms w a_first xs = unfold row in (first-forms (fill (bare cyrs_word) (range 1 1 ∷ []) xs) (first-fill xs))
fill-forms w a_binding xs = unfold row in (binding-forms (fill (bare b_word) (variable ∷ letter ∷ []) xs) (binding-fill xs))
fill-forms w (another a b) xs = other-forms w (fill (bare w) (row w).fields xs) (fill-word w (bare w) (row w).fields xs refl) a b

-- ## The lines of a sheet

pub record Form (hs : List Head) : Type 0 where
  pub bs : List (ℕ × ℕ)
  pub body : List Head
  pub is : hs ≡ map_l binding_line bs ++ body
  pub free : bound body ≡ []

-- a line that a `b` line, a clause or the end may be
abbrev Passed : Want → Read → Type 0
Passed w (bad c) = Unit {0}
Passed w (ok h) = (fits w (rank (place h)) ≡ true) × Forms h

beyond-passed : (w : Want) (h : Head) → fits w (rank (place h)) ≡ true → Forms h → Passed w (beyond w h)
unfolding beyond
beyond-passed (first d) h f p = (f, p)
beyond-passed (clauses d) h f p = (f, p)
beyond-passed (bindings v d) h f p = either (Passed (bindings v d)) (eqb (rank (place h)) 1 && ltb (variable_of h) v) tt (f, p)
beyond-passed (at q d) h f p = either (Passed (at q d)) (eqb (rank q) 13 && eqb d 0) tt (f, p)

then-passed : (w : Want) (v : Word) (r : Read) → OfWord v r → OkForms r → fits w (rank (row v).place) ≡ true → Passed w (and_then r (beyond w))
then-passed w v (bad c) p q f = tt
then-passed w v (ok h) p q f = beyond-passed w h (ap (λ (u : Word). fits w (rank (row u).place)) p ∙ f) q

fields-passed : (w : Want) (v : Word) (xs : List Bytes) → Passed w (read_fields w v xs)
unfolding read_fields
fields-passed w v xs = go (fits w (rank (row v).place) && eqb (length xs) (length (row v).fields)) refl
  where
    go : (b : Bool) → (fits w (rank (row v).place) && eqb (length xs) (length (row v).fields)) ≡ b
        → Passed w (elim b [ true ↦ and_then (fill (bare v) (row v).fields xs) (beyond w) | false ↦ bad 3 ])
    go true e =
        let f = ((and-eq-true_iff (fits w (rank (row v).place)) (eqb (length xs) (length (row v).fields))).0 e).0 in
        then-passed w v (fill (bare v) (row v).fields xs) (fill-word v (bare v) (row v).fields xs refl) (fill-forms v (placed v) xs) f
    go false e = tt

as_passed : (w : Want) (o : Option Word) (xs : List Bytes) → Passed w (read_as w o xs)
as_passed w none xs = tt
as_passed w (some v) xs = fields-passed w v xs

pieces-passed : (w : Want) (ps : List Bytes) → Passed w (read_pieces w ps)
unfolding read_pieces
pieces-passed w [] = tt
pieces-passed w (x ∷ xs) = as_passed w (word_in x words) xs

line-passed : (w : Want) (l : Bytes) → Passed w (read_line w l)
unfolding read_line
line-passed w l = pieces-passed w (split 44 l)

-- ## The lines of a sheet

add-heads : (h : Head) (q : Sheet) (hs : List Head) → add h q ≡ heads hs → (ks : List Head) × (q ≡ heads ks) × (hs ≡ h ∷ ks)
unfolding add
add-heads h (refused c n) hs e = let z : ◌≡◌ {A = ℕ} 0 1 = cc in absurd (omega arith)
add-heads h (heads ks) hs e = (ks, refl, cc)

no_bound : (p : ℕ) (v : Option ℕ) (k : ℕ) (bs : List (ℕ × ℕ)) → eqb p 0 ≡ false → eqb p 1 ≡ false → bound_by p v k bs ≡ []
unfolding bound_by
no_bound p v k bs a b = rw (a, b, bound_by)

-- a line that is no `b` line ends the bindings
ends-bindings : (d v : ℕ) (h : Head) (ks : List Head) → fits (bindings v d) (rank (place h)) ≡ true → eqb (rank (place h)) 1 ≡ false → bound (h ∷ ks) ≡ []
unfolding bound fits
ends-bindings d v h ks f b =
    let p = (and-eq-true_iff (leb 1 (rank (place h))) (leb (rank (place h)) 3)).0 f in
    no_bound (rank (place h)) h.var (num h 0) (bound ks) (ne_eqb (rank (place h)) 0 (λ e. omega (arith, leb-true 1 (rank (place h)) p.0))) b

-- after a `b` line: a greater one, a clause or the end
after-binding : (d v : ℕ) (b : ℕ × ℕ) → under (bindings v d) (binding_line b) ++ [] ≡ bindings (suc b.0) d ∷ []
unfolding under roles row after rank
after-binding d v b = refl

module _ (d v n : ℕ) (ls : List Bytes) (ih : (w : ℕ) (ks : List Head) → check (bindings w d ∷ []) (suc n) ls ≡ heads ks → Form ks) where
  binding-step : (b : ℕ × ℕ) (ks : List Head) → check (under (bindings v d) (binding_line b) ++ []) (suc n) ls ≡ heads ks → Form (binding_line b ∷ ks)
  binding-step b ks e =
      let f = ih (suc b.0) ks (rw (after-binding d v b) at e) in
      record { bs = b ∷ f.bs; body = f.body; is = ap (λ z. binding_line b ∷ z) f.is; free = f.free }

  form-step : (h : Head) (ks : List Head) → (fits (bindings v d) (rank (place h)) ≡ true) × Forms h → check (under (bindings v d) h ++ []) (suc n) ls ≡ heads ks → Form (h ∷ ks)
  form-step h ks p e = go (eqb (rank (place h)) 1) refl
    where
      of : (b : ℕ × ℕ) → h ≡ binding_line b → Form (h ∷ ks)
      of b q =
          let e' : check (under (bindings v d) (binding_line b) ++ []) (suc n) ls ≡ heads ks = sym (ap (λ (z : Head). check (under (bindings v d) z ++ []) (suc n) ls) q) ∙ e in
          subst (λ (z : Head). Form (z ∷ ks)) (sym q) (binding-step b ks e')

      go : (x : Bool) → eqb (rank (place h)) 1 ≡ x → Form (h ∷ ks)
      go true b = let q = p.1.binding_form b in of q.0 q.1
      go false b = record { bs = []; body = h ∷ ks; is = refl; free = ends-bindings d v h ks p.0 b }

  carried-form : (r : Read) → Passed (bindings v d) r → (hs : List Head) → carry n r (λ h. check (under (bindings v d) h ++ []) (suc n) ls) ≡ heads hs → Form hs
  unfolding carry
  carried-form (bad c) p hs e = let z : ◌≡◌ {A = ℕ} 0 1 = cc in absurd (omega arith)
  carried-form (ok h) p hs e =
      let (ks, q, is) = add-heads h (check (under (bindings v d) h ++ []) (suc n) ls) hs e in
      subst Form (sym is) (form-step h ks p q)

-- behind the first line: `b` lines, and then a line that is none
bindings-form : (ls : List Bytes) (d v n : ℕ) (hs : List Head) → check (bindings v d ∷ []) n ls ≡ heads hs → Form hs
unfolding check
bindings-form [] d v n hs e = let z : ◌≡◌ {A = ℕ} 0 1 = cc in absurd (omega arith)
bindings-form (l ∷ []) d v n hs e = let z : ◌≡◌ {A = ℕ} 0 1 = cc in absurd (omega arith)
bindings-form (l ∷ l' ∷ ls) d v n hs e = carried-form d v n (l' ∷ ls) (λ w ks. bindings-form (l' ∷ ls) d w (suc n) ks) (read_line (bindings v d) l) (line-passed (bindings v d) l) hs e

-- ## The whole sheet

pub record Renumberable (hs : List Head) : Type 0 where
  pub bs : List (ℕ × ℕ)
  pub body : List Head
  pub is : hs ≡ with_bindings bs body
  pub free : bound body ≡ []

after_first : (d : ℕ) → under (first d) (mk cyrs_word none (1 ∷ []) []) ++ [] ≡ bindings 0 d ∷ []
unfolding under roles row after rank
after_first d = refl

first-carried : (d : ℕ) (ls : List Bytes) (r : Read) → Passed (first d) r → (hs : List Head) → carry 1 r (λ h. check (under (first d) h ++ []) 2 ls) ≡ heads hs → Renumberable hs
unfolding carry fits
first-carried d ls (bad c) p hs e = let z : ◌≡◌ {A = ℕ} 0 1 = cc in absurd (omega arith)
first-carried d ls (ok h) p hs e =
    let (ks, q, is) = add-heads h (check (under (first d) h ++ []) 2 ls) hs e in
    let h-is : h ≡ mk cyrs_word none (1 ∷ []) [] = p.1.first_form p.0 in
    let q' : check (under (first d) (mk cyrs_word none (1 ∷ []) []) ++ []) 2 ls ≡ heads ks = sym (ap (λ (z : Head). check (under (first d) z ++ []) 2 ls) h-is) ∙ q in
    let f = bindings-form ls d 0 2 ks (rw (after_first d) at q') in
    record { bs = f.bs; body = f.body; is = is ∙ ap (λ (z : Head). z ∷ ks) h-is ∙ ap (λ (z : List Head). mk cyrs_word none (1 ∷ []) [] ∷ z) f.is; free = f.free }

sheet-lines : (d : ℕ) (ls : List Bytes) (hs : List Head) → check (first d ∷ []) 1 ls ≡ heads hs → Renumberable hs
unfolding check
sheet-lines d [] hs e = let z : ◌≡◌ {A = ℕ} 0 1 = cc in absurd (omega arith)
sheet-lines d (l ∷ []) hs e = let z : ◌≡◌ {A = ℕ} 0 1 = cc in absurd (omega arith)
sheet-lines d (l ∷ l' ∷ ls) hs e = first-carried d (l' ∷ ls) (read_line (first d) l) (line-passed (first d) l) hs e

-- a sheet that can be read may be renumbered by any map that is one to one on its variables
pub read-renumberable : (d : ℕ) (s : Bytes) (hs : List Head) → sheet d s ≡ heads hs → Renumberable hs
unfolding sheet
read-renumberable d s hs e = sheet-lines d (split 10 s) hs e
