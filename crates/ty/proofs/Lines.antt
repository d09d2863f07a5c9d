-- Laws of type lines: what is written before what follows it, lengths, the skip over a type. Assumes nothing.
use mathlib.Core.Path.{◌≡◌, refl, sym, ◌∙◌, ap}
use mathlib.Core.List.{List, [], ◌∷◌, ◌++◌, map}
use mathlib.Core.Option.{Option, none, some}
use mathlib.Core.Bool.{Bool, true, false, cond, ◌||◌, false≢true}
use Prim.Native.Nat.{ℕ, suc, ◌+◌, ◌-◌, ◌*◌, ◌≤◌, ◌<◌}
use native.Mathlib.Omega.{arith}
use native.Mathlib.Numerals.{add-one}
use lib.Dec.{eqb, ltb}
use lib.ListN.{length, take, drop, length-append}
use lib.Seq.{take_all}
use borrow.Author.Tests.{ne_eqb, ltb-true, ltb-false, lt-ltb}
use Rattle.text.specs.Text.{index_of}
use Rattle.semantics.specs.Bytes.{Bytes, hex}
use Rattle.semantics.specs.Ty.{Base, t_any, t_null, t_bool, t_int, t_float, t_num, t_string, t_date, t_datetime, t_path, t_unknown, Ty, base, t_list, t_map, t_node, t_relationship, t_union, Tys, ∅, ◌⊕◌, Fields, ∅ᶠ, field, letter, name_to, names_to, labels_to, rel_to, line_to, members_to, fields_to, line, nesting, nesting_s, nesting_f}
use Rattle.semantics.proofs.Order.{hex-low}
use Rattle.ty.specs.Skip.{opened_by, goes_on, Skip, word, rel}

-- ## What follows a type stands behind its line

name-end : (n a b : Bytes) → name_to n (a ++ b) ≡ name_to n a ++ b
unfolding name_to
name-end [] a b = refl
name-end (d ∷ n) a b = ap (λ (l : Bytes). hex d ∷ l) (name-end n a b)

names-end : (ns : List Bytes) (a b : Bytes) → names_to ns (a ++ b) ≡ names_to ns a ++ b
unfolding names_to
names-end [] a b = refl
names-end (n ∷ ns) a b = ap (name_to n) (names-end ns a b) ∙ name-end n (names_to ns a) b

labels-end : (ls : Option (List Bytes)) (a b : Bytes) → labels_to ls (a ++ b) ≡ labels_to ls a ++ b
unfolding labels_to
labels-end none a b = refl
labels-end (some ls) a b = ap (λ (l : Bytes). 43 ∷ 44 ∷ l) (names-end ls a b)

rel-end : (n : Option Bytes) (a b : Bytes) → rel_to n (a ++ b) ≡ rel_to n a ++ b
unfolding rel_to
rel-end none a b = refl
rel-end (some n) a b = ap (λ (l : Bytes). 43 ∷ 44 ∷ l) (name-end n a b)

mutual
  unfolding line_to

  line-end : (t : Ty) (a b : Bytes) → line_to t (a ++ b) ≡ line_to t a ++ b
  line-end (base c) a b = refl
  line-end (t_list t) a b = ap (λ (l : Bytes). 74 ∷ 44 ∷ l) (line-end t a b)
  line-end (t_map fs) a b = ap (λ (l : Bytes). 75 ∷ 44 ∷ l) (fields-end fs a b)
  line-end (t_node ls) a b = ap (λ (l : Bytes). 76 ∷ 44 ∷ l) (labels-end ls a b)
  line-end (t_relationship n) a b = ap (λ (l : Bytes). 77 ∷ 44 ∷ l) (rel-end n a b)
  line-end (t_union ts) a b = ap (λ (l : Bytes). 79 ∷ 44 ∷ l) (members-end ts a b)

  members-end : (ts : Tys) (a b : Bytes) → members_to ts (a ++ b) ≡ members_to ts a ++ b
  members-end ∅ a b = refl
  members-end (t ⊕ ts) a b = ap (line_to t) (members-end ts a b) ∙ line-end t (members_to ts a) b

  fields-end : (fs : Fields) (a b : Bytes) → fields_to fs (a ++ b) ≡ fields_to fs a ++ b
  fields-end ∅ᶠ a b = refl
  fields-end (field n t fs) a b = ap (λ (l : Bytes). name_to n (line_to t l)) (fields-end fs a b) ∙ ap (name_to n) (line-end t (fields_to fs a) b) ∙ name-end n (line_to t (fields_to fs a)) b

pub line-to : (t : Ty) (r : Bytes) → line_to t r ≡ line t ++ r
unfolding line
line-to t r = line-end t [] r

pub length_to : (t : Ty) (r : Bytes) → length (line_to t r) ≡ length (line t) + length r
length_to t r = ap length (line-to t r) ∙ length-append (line t) r

pub name-to : (n r : Bytes) → name_to n r ≡ map hex n ++ (44 ∷ r)
unfolding name_to
name-to [] r = refl
name-to (d ∷ n) r = ap (λ (l : Bytes). hex d ∷ l) (name-to n r)

-- ## A nesting of n takes 2 * n bytes or more

name-longer : (n r : Bytes) → length r ≤ length (name_to n r)
unfolding name_to
name-longer [] r = omega arith
name-longer (d ∷ n) r = omega (arith, name-longer n r)

names-longer : (ns : List Bytes) (r : Bytes) → length r ≤ length (names_to ns r)
unfolding names_to
names-longer [] r = omega arith
names-longer (n ∷ ns) r = omega (arith, name-longer n (names_to ns r), names-longer ns r)

labels-longer : (ls : Option (List Bytes)) (r : Bytes) → length r ≤ length (labels_to ls r)
unfolding labels_to
labels-longer none r = omega arith
labels-longer (some ls) r = omega (arith, names-longer ls r)

rel-longer : (n : Option Bytes) (r : Bytes) → length r ≤ length (rel_to n r)
unfolding rel_to
rel-longer none r = omega arith
rel-longer (some n) r = omega (arith, name-longer n r)

mutual
  unfolding line_to nesting

  pub nesting-to : (t : Ty) (r : Bytes) → 2 * nesting t + length r ≤ length (line_to t r)
  nesting-to (base c) r = omega arith
  nesting-to (t_list t) r = omega (arith, nesting-to t r)
  nesting-to (t_map fs) r = omega (arith, nesting_f-to fs r)
  nesting-to (t_node ls) r = omega (arith, labels-longer ls r)
  nesting-to (t_relationship n) r = omega (arith, rel-longer n r)
  nesting-to (t_union ts) r = omega (arith, nesting_s-to ts r)

  nesting_s-to : (ts : Tys) (r : Bytes) → 2 * nesting_s ts + length r ≤ length (members_to ts r)
  nesting_s-to ∅ r = omega arith
  nesting_s-to (t ⊕ ts) r = omega (arith, nesting-to t (members_to ts r), nesting_s-to ts r)

  nesting_f-to : (fs : Fields) (r : Bytes) → 2 * nesting_f fs + length r ≤ length (fields_to fs r)
  nesting_f-to ∅ᶠ r = omega arith
  nesting_f-to (field n t fs) r = omega (arith, name-longer n (line_to t (fields_to fs r)), nesting-to t (fields_to fs r), nesting_f-to fs r)

pub nesting-line : (t : Ty) → 2 * nesting t ≤ length (line t)
unfolding line
nesting-line t = omega (arith, nesting-to t [])

pub nesting-pos : (t : Ty) → 1 ≤ nesting t
unfolding nesting
nesting-pos (base c) = omega arith
nesting-pos (t_list t) = omega arith
nesting-pos (t_map fs) = omega arith
nesting-pos (t_node ls) = omega arith
nesting-pos (t_relationship n) = omega arith
nesting-pos (t_union ts) = omega arith

-- ## Commas

abbrev pub NoComma : Bytes → Type 0
NoComma [] = Unit {0}
NoComma (b ∷ f) = (b ≡ 44 → ⊥) × NoComma f

pub comma-at : (f r : Bytes) → NoComma f → index_of 44 (f ++ (44 ∷ r)) ≡ length f
unfolding index_of
comma-at [] r h = refl
comma-at (b ∷ f) r h = rw (ne_eqb b 44 h.0) (ap suc (comma-at f r h.1))

pub hex-bytes : (n : Bytes) → NoComma (map hex n)
hex-bytes [] = tt
hex-bytes (d ∷ n) = (λ e. omega (arith, hex-low d), hex-bytes n)

drop-end : (f r : Bytes) → drop (suc (length f)) (f ++ (44 ∷ r)) ≡ r
drop-end [] r = refl
drop-end (b ∷ f) r = drop-end f r

-- ## The skip over a type

-- a byte that begins a field and neither opens nor closes
record Quiet (c : ℕ) : Type 0 where
  same : (k : ℕ) → opened_by c k ≡ k
  test : (k : ℕ) → goes_on c k ≡ ltb 0 k
  not_close : c ≡ 33 → ⊥
  not_rel : c ≡ 77 → ⊥

quiet : (c : ℕ) → (c ≡ 33 → ⊥) → (c ≡ 74 → ⊥) → (c ≡ 75 → ⊥) → (c ≡ 76 → ⊥) → (c ≡ 77 → ⊥) → (c ≡ 79 → ⊥) → Quiet c
unfolding opened_by goes_on
quiet c h33 h74 h75 h76 h77 h79 =
    record {
      same = λ k. rw (ne_eqb c 33 h33, ne_eqb c 75 h75, ne_eqb c 76 h76, ne_eqb c 79 h79);
      test = λ k. rw (ne_eqb c 74 h74);
      not_close = h33;
      not_rel = h77;
    }

unfoldable pub special : ℕ → Bool
special c = eqb c 33 || (eqb c 44 || (eqb c 74 || (eqb c 75 || (eqb c 76 || (eqb c 77 || eqb c 79)))))

letter-plain : (b : Base) → special (letter b) ≡ false
unfolding letter special
letter-plain b = elim b as (λ k. special (letter k) ≡ false) [ t_any ↦ refl | t_null ↦ refl | t_bool ↦ refl | t_int ↦ refl | t_float ↦ refl | t_num ↦ refl | t_string ↦ refl | t_date ↦ refl | t_datetime ↦ refl | t_path ↦ refl | t_unknown ↦ refl ]

pub letter-away : (b : Base) (c : ℕ) → special c ≡ true → letter b ≡ c → ⊥
letter-away b c h e = false≢true (sym (letter-plain b) ∙ ap special e ∙ h)

quiet-letter : (b : Base) → Quiet (letter b)
unfolding special
quiet-letter b = quiet (letter b) (letter-away b 33 refl) (letter-away b 74 refl) (letter-away b 75 refl) (letter-away b 76 refl) (letter-away b 77 refl) (letter-away b 79 refl)

quiet-hex : (d : ℕ) → Quiet (hex d)
unfolding hex
quiet-hex d = go (ltb d 10) refl
  where
    go : (b : Bool) → ltb d 10 ≡ b → Quiet (cond b (48 + d) (87 + d))
    go true e = let l = ltb-true d 10 e in quiet (48 + d) (λ p. omega arith) (λ p. omega arith) (λ p. omega arith) (λ p. omega arith) (λ p. omega arith) (λ p. omega arith)
    go false e = let l = ltb-false d 10 e in quiet (87 + d) (λ p. omega arith) (λ p. omega arith) (λ p. omega arith) (λ p. omega arith) (λ p. omega arith) (λ p. omega arith)

module _ (rest : Bytes) where
  -- a field that begins with c and has no comma
  field_skip : (k c : ℕ) (f x : Bytes) → NoComma (c ∷ f) → (c ≡ 33 → 0 < k) → (c ≡ 77 → ⊥)
      → Skip rest (goes_on c (opened_by c k)) (opened_by c k) x → Skip rest true k (c ∷ (f ++ (44 ∷ x)))
  field_skip k c f x h u v w =
      let e = comma-at (c ∷ f) x h in
      word {x = x} {y = c ∷ (f ++ (44 ∷ x))} c refl u v (rw e (omega (arith, length-append f (44 ∷ x)))) (rw e (rw add-one (sym (drop-end (c ∷ f) x)))) w

  quiet-skip : (k c : ℕ) (f x : Bytes) → NoComma (c ∷ f) → Quiet c → Skip rest (ltb 0 k) k x → Skip rest true k (c ∷ (f ++ (44 ∷ x)))
  quiet-skip k c f x h q w = field_skip k c f x h (λ e. absurd (q.not_close e)) q.not_rel (rw (q.same, q.test) w)

  comma-skip : (k : ℕ) (x : Bytes) → Skip rest (ltb 0 k) k x → Skip rest true k (44 ∷ x)
  unfolding index_of opened_by goes_on
  comma-skip k x w = word {x = x} {y = 44 ∷ x} 44 refl (λ e. absurd (omega arith)) (λ e. omega arith) (omega arith) refl w

  name-skip : (k : ℕ) (n x : Bytes) → Skip rest (ltb 0 k) k x → Skip rest true k (name_to n x)
  unfolding name_to
  name-skip k [] x w = comma-skip k x w
  name-skip k (d ∷ n) x w = rw (name-to n x) (quiet-skip k (hex d) (map hex n) x (hex-bytes (d ∷ n)) (quiet-hex d) w)

  -- with a bracket open the skip goes on
  on : (k : ℕ) {x : Bytes} → Skip rest true (suc k) x → Skip rest (ltb 0 (suc k)) (suc k) x
  on k w = rw (lt-ltb 0 (suc k) (omega arith)) w

  bracket : (k c : ℕ) (x : Bytes) → (c ≡ 44 → ⊥) → (c ≡ 33 → ⊥) → (c ≡ 77 → ⊥) → opened_by c k ≡ suc k → goes_on c (suc k) ≡ ltb 0 (suc k)
      → Skip rest true (suc k) x → Skip rest true k (c ∷ 44 ∷ x)
  bracket k c x h u v e g w = field_skip k c [] x (h, tt) (λ p. absurd (u p)) v (rw (e, g) (on k w))

  close-skip : (k : ℕ) (x : Bytes) → Skip rest (ltb 0 k) k x → Skip rest true (suc k) (33 ∷ 44 ∷ x)
  unfolding opened_by goes_on
  close-skip k x w = let e : suc k - 1 ≡ k = omega arith in field_skip (suc k) 33 [] x (λ p. omega arith, tt) (λ p. omega arith) (λ p. omega arith) (rw e w)

  names-skip : (ns : List Bytes) (k : ℕ) (x : Bytes) → Skip rest (ltb 0 k) k x → Skip rest true (suc k) (names_to ns x)
  unfolding names_to
  names-skip [] k x w = close-skip k x w
  names-skip (n ∷ ns) k x w = name-skip (suc k) n (names_to ns x) (on k (names-skip ns k x w))

  labels-skip : (ls : Option (List Bytes)) (k : ℕ) (x : Bytes) → Skip rest (ltb 0 k) k x → Skip rest true (suc k) (labels_to ls x)
  unfolding labels_to
  labels-skip none k x w = close-skip k x w
  labels-skip (some ls) k x w = quiet-skip (suc k) 43 [] (names_to ls x) (λ p. omega arith, tt) (quiet 43 (λ p. omega arith) (λ p. omega arith) (λ p. omega arith) (λ p. omega arith) (λ p. omega arith) (λ p. omega arith)) (on k (names-skip ls k x w))

  mutual
    unfolding line_to opened_by goes_on special

    pub line-skip : (t : Ty) (k : ℕ) (x : Bytes) → Skip rest (ltb 0 k) k x → Skip rest true k (line_to t x)
    line-skip (base b) k x w = quiet-skip k (letter b) [] x (letter-away b 44 refl, tt) (quiet-letter b) w
    line-skip (t_list t) k x w = field_skip k 74 [] (line_to t x) (λ p. omega arith, tt) (λ p. absurd (omega arith)) (λ p. omega arith) (line-skip t k x w)
    line-skip (t_map fs) k x w = bracket k 75 (fields_to fs x) (λ p. omega arith) (λ p. omega arith) (λ p. omega arith) (add-one k) refl (fields-skip fs k x w)
    line-skip (t_node ls) k x w = bracket k 76 (labels_to ls x) (λ p. omega arith) (λ p. omega arith) (λ p. omega arith) (add-one k) refl (labels-skip ls k x w)
    line-skip (t_relationship n) k x w = rel n w
    line-skip (t_union ts) k x w = bracket k 79 (members_to ts x) (λ p. omega arith) (λ p. omega arith) (λ p. omega arith) (add-one k) refl (members-skip ts k x w)

    members-skip : (ts : Tys) (k : ℕ) (x : Bytes) → Skip rest (ltb 0 k) k x → Skip rest true (suc k) (members_to ts x)
    members-skip ∅ k x w = close-skip k x w
    members-skip (t ⊕ ts) k x w = line-skip t (suc k) (members_to ts x) (on k (members-skip ts k x w))

    fields-skip : (fs : Fields) (k : ℕ) (x : Bytes) → Skip rest (ltb 0 k) k x → Skip rest true (suc k) (fields_to fs x)
    fields-skip ∅ᶠ k x w = close-skip k x w
    fields-skip (field n t fs) k x w = name-skip (suc k) n (line_to t (fields_to fs x)) (on k (line-skip t (suc k) (fields_to fs x) (on k (fields-skip fs k x w))))

-- ## The element of a list type

module _ (s : Bytes) (t : Ty) (e : s ≡ line (t_list t)) where
  pub list-room : 2 ≤ length s
  unfolding line line_to
  list-room = rw e (omega arith)

  pub list_part : take (length s - 2) (drop 2 s) ≡ line t
  unfolding line line_to
  list_part = rw e (take_all (suc (suc (length (line_to t []))) - 2) (line_to t []) (omega arith))
