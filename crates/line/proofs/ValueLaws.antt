-- Laws of single fields: what each says by the tests that the code makes. Assumes nothing.
use mathlib.Core.Path.{◌≡◌, refl, sym, ◌∙◌, ap}
use mathlib.Core.List.{[], ◌∷◌}
use mathlib.Core.Option.{Option, none, some}
use mathlib.Core.Bool.{Bool, true, false, cond, ◌&&◌}
use Prim.Native.Nat.{ℕ, suc, ◌+◌, ◌-◌, ◌*◌, ◌%◌, ◌^◌, ◌≤◌, ◌<◌}
use native.Mathlib.Omega.{arith}
use lib.Dec.{eqb, leb, ltb}
use lib.ListN.{length, get_or, take, drop, length-map}
use lib.Seq.{take_all}
use borrow.Author.Tests.{ne_eqb, eq-eqb, le-leb, leb-true, ltb-true, ltb-false}
use Rattle.std.specs.Prelude.{Result, Ok, Err}
use Rattle.semantics.specs.Limits.{name_limit, variable_limit, bound_limit}
use Rattle.semantics.specs.Bytes.{Bytes, same, decimal, unhex}
use Rattle.semantics.proofs.Reader.{unhex-sound}
use Rattle.semantics.proofs.Named.{Maybe, Digits}
use Rattle.semantics.proofs.Split.{name_f}
use Rattle.semantics.proofs.Order.{same_refl, same-ne}
use Rattle.semantics.specs.declared.refusals.Refusal.{Refusal}
use Rattle.semantics.specs.declared.refusals.Refusal.TheVariants.{BadlyWritten, OutOfRange}
use Rattle.semantics.specs.Sheet.{optional, alias, is_dash, Value, wrong, number, variable_v, name_v, alias_v, within, named, signed_of, float_of, bound_of}
use Rattle.text.specs.declared.DecimalError.{DecimalError}
use Rattle.text.specs.declared.DecimalError.TheVariants.{Bad, Over}
use Rattle.text.specs.Text.{is_found, dec_of, capped, refusal_of, named_of}
use Rattle.line.specs.Fields.{clip, val_of, said_of, decimal_of, value_at, negative_of, positive_of}

-- ## A dash

pub dash-not : (s : Bytes) → (length s ≡ 1 → ⊥) → false ≡ is_dash s
dash-not s h = sym (same-ne {a = s} {b = 45 ∷ []} (λ e. h (ap length e)))

pub dash-is : (s : Bytes) → length s ≡ 1 → get_or s 0 0 ≡ 45 → true ≡ is_dash s
dash-is [] l e = absurd (omega arith)
dash-is (c ∷ []) l e = sym (rw e (same_refl (45 ∷ [])))
dash-is (c ∷ d ∷ s) l e = absurd (omega arith)

pub dash-other : (s : Bytes) → (get_or s 0 0 ≡ 45 → ⊥) → false ≡ is_dash s
dash-other s h = sym (same-ne {a = s} {b = 45 ∷ []} (λ e. h (ap (λ (t : Bytes). get_or t 0 0) e)))

-- ## A decimal

-- a number that 64 bits hold, or not
pub decimal-at : (o : Option ℕ) (n : ℕ) → Ok n ≡ decimal_of o → (o ≡ some n) × (n < 18446744073709551616)
decimal-at none n e = absurd (let z : ⊥ = cc in z)
decimal-at (some m) n e = go (ltb m (2 ^ 64)) refl e
  where
    go : (b : Bool) → ltb m (2 ^ 64) ≡ b → Ok n ≡ elim b as (λ _. Result ℕ Refusal) [ true ↦ Ok m | false ↦ Err OutOfRange ] → (some m ≡ some n) × (n < 18446744073709551616)
    go true d f = let k : n ≡ m = cc in (ap some (sym k), omega (arith, ltb-true m (2 ^ 64) d))
    go false d f = absurd (let z : ⊥ = cc in z)

within-out : (l m n : ℕ) (f : ℕ → Value) → (l ≤ n → n ≤ m → ⊥) → within l m (some n) f ≡ wrong 4
unfolding within
within-out l m n f h = go (leb l n) refl (leb n m) refl
  where
    go : (b : Bool) → leb l n ≡ b → (d : Bool) → leb n m ≡ d → elim (b && d) [ true ↦ f n | false ↦ wrong 4 ] ≡ wrong 4
    go true e true g = absurd (h (leb-true l n e) (leb-true n m g))
    go true e false g = refl
    go false e d g = refl

pub within_in : (l m n : ℕ) (f : ℕ → Value) → l ≤ n → n ≤ m → within l m (some n) f ≡ f n
unfolding within
within_in l m n f a b = rw (le-leb l n a, le-leb n m b, within)

-- what is refused as a decimal is refused as a number of a range
pub decimal-err : (o : Option ℕ) (l m : ℕ) (f : ℕ → Value) (e : Refusal) → m < 18446744073709551616 → Err e ≡ decimal_of o → Err e ≡ val_of (within l m o f)
unfolding within
decimal-err none l m f e h p = p
decimal-err (some n) l m f e h p = go (ltb n (2 ^ 64)) refl p
  where
    go : (b : Bool) → ltb n (2 ^ 64) ≡ b → Err e ≡ elim b as (λ _. Result ℕ Refusal) [ true ↦ Ok n | false ↦ Err OutOfRange ] → Err e ≡ val_of (within l m (some n) f)
    go true d q = absurd (let z : ⊥ = cc in z)
    go false d q = q ∙ ap val_of (sym (within-out l m n f (λ a b. omega (arith, ltb-false n (2 ^ 64) d))))

pub decimal-out : (o : Option ℕ) (l m n : ℕ) (f : ℕ → Value) → Ok n ≡ decimal_of o → (l ≤ n → n ≤ m → ⊥) → Err OutOfRange ≡ val_of (within l m o f)
decimal-out o l m n f e h = rw (decimal-at o n e).0 (ap val_of (sym (within-out l m n f h)))

pub decimal-in : (o : Option ℕ) (l m n : ℕ) (f : ℕ → Value) → Ok n ≡ decimal_of o → l ≤ n → n ≤ m → val_of (f n) ≡ val_of (within l m o f)
decimal-in o l m n f e p q = rw (decimal-at o n e).0 (ap val_of (sym (within_in l m n f p q)))

pub decimal-number : (o : Option ℕ) (l m n : ℕ) → Ok n ≡ decimal_of o → l ≤ n → n ≤ m → Ok n ≡ val_of (within l m o number)
decimal-number o l m n e p q =
    let z : n ≡ clip n = omega (arith, (decimal-at o n e).1) in
    ap Ok z ∙ decimal-in o l m n number e p q

-- a number of a range, and then something else of it
pub within-err : (o : Option ℕ) (l m : ℕ) (f : ℕ → Value) (e : Refusal) → Err e ≡ val_of (within l m o number) → Err e ≡ val_of (within l m o f)
unfolding within
within-err none l m f e p = p
within-err (some n) l m f e p = go (leb l n) (leb n m) p
  where
    go : (a b : Bool) → Err e ≡ val_of (elim (a && b) [ true ↦ number n | false ↦ wrong 4 ]) → Err e ≡ val_of (elim (a && b) [ true ↦ f n | false ↦ wrong 4 ])
    go true true q = absurd (let z : ⊥ = cc in z)
    go true false q = q
    go false b q = q

pub within-then : (o : Option ℕ) (l m : ℕ) (f : ℕ → Value) (n : ℕ) → m < 18446744073709551616 → Ok n ≡ val_of (within l m o number) → (n ≤ m) × (val_of (f n) ≡ val_of (within l m o f))
unfolding within
within-then none l m f n h p = absurd (let z : ⊥ = cc in z)
within-then (some k) l m f n h p = go (leb l k) (leb k m) refl p
  where
    go : (a b : Bool) → leb k m ≡ b → Ok n ≡ val_of (elim (a && b) [ true ↦ number k | false ↦ wrong 4 ]) → (n ≤ m) × (val_of (f n) ≡ val_of (elim (a && b) [ true ↦ f k | false ↦ wrong 4 ]))
    go true true d q =
        let w : n ≡ clip k = cc in
        let z : n ≡ k = omega (arith, leb-true k m d) in
        (omega (arith, leb-true k m d), ap (λ (i : ℕ). val_of (f i)) z)
    go true false d q = absurd (let z : ⊥ = cc in z)
    go false b d q = absurd (let z : ⊥ = cc in z)

-- a variable's number is kept as it is
pub var-number : (o : Option ℕ) → val_of (within 0 variable_limit o number) ≡ val_of (within 0 variable_limit o (λ v. variable_v (some v)))
unfolding within
var-number none = refl
var-number (some n) = go (leb n variable_limit) refl
  where
    go : (b : Bool) → leb n variable_limit ≡ b
        → val_of (elim (leb 0 n && b) [ true ↦ number n | false ↦ wrong 4 ]) ≡ val_of (elim (leb 0 n && b) [ true ↦ variable_v (some n) | false ↦ wrong 4 ])
    go true e = rw (le-leb 0 n (omega arith)) (let z : clip n ≡ n = omega (arith, leb-true n variable_limit e) in cc)
    go false e = rw (le-leb 0 n (omega arith))

-- numbers that are shifted
neg_n : ℕ → Value
neg_n n = elim (eqb n 0) [ true ↦ wrong 3 | false ↦ number (9223372036854775808 - n) ]

module _ (o : Option ℕ) (n : ℕ) (e : Ok n ≡ val_of (within 0 9223372036854775808 o number)) where
  pub negative-small : n ≤ 9223372036854775808
  negative-small = (within-then o 0 9223372036854775808 number n (omega arith) e).0

  pub negative-in : (n ≡ 0 → ⊥) → Ok (9223372036854775808 - n) ≡ val_of (negative_of o)
  unfolding neg_n
  negative-in z =
      let c : 9223372036854775808 - n ≡ clip (9223372036854775808 - n) = omega arith in
      let f : number (9223372036854775808 - n) ≡ neg_n n = rw (ne_eqb n 0 z, neg_n) in
      ap Ok c ∙ ap val_of f ∙ (within-then o 0 9223372036854775808 neg_n n (omega arith) e).1

  pub negative-zero : n ≡ 0 → Err BadlyWritten ≡ val_of (negative_of o)
  unfolding neg_n
  negative-zero z =
      let f : wrong 3 ≡ neg_n n = rw (eq-eqb n 0 z, neg_n) in
      ap val_of f ∙ (within-then o 0 9223372036854775808 neg_n n (omega arith) e).1

module _ (o : Option ℕ) (n : ℕ) (e : Ok n ≡ val_of (within 0 9223372036854775807 o number)) where
  pub positive-small : n ≤ 9223372036854775807
  positive-small = (within-then o 0 9223372036854775807 number n (omega arith) e).0

  pub positive-in : Ok (9223372036854775808 + n) ≡ val_of (positive_of o)
  positive-in =
      let c : 9223372036854775808 + n ≡ clip (9223372036854775808 + n) = omega (arith, positive-small) in
      ap Ok c ∙ (within-then o 0 9223372036854775807 (λ k. number (9223372036854775808 + k)) n (omega arith) e).1

-- ## A dash first

module _ (s : Bytes) where
  pub bound-dash : (l : ℕ) → true ≡ is_dash s → Ok 0 ≡ val_of (bound_of l s)
  unfolding bound_of
  bound-dash l e = rw (sym e, bound_of)

  pub bound-none : (l : ℕ) → false ≡ is_dash s → l ≡ 0 → Err BadlyWritten ≡ val_of (bound_of l s)
  unfolding bound_of
  bound-none l e z = rw (sym e, z, bound_of)

  pub bound_some : (l : ℕ) → false ≡ is_dash s → (l ≡ 0 → ⊥) → within 0 bound_limit (decimal s) (λ n. number (suc n)) ≡ bound_of l s
  unfolding bound_of
  bound_some l e z = rw (sym e, ne_eqb l 0 z, bound_of)

  pub bound-err : (l : ℕ) (why : Refusal) → false ≡ is_dash s → (l ≡ 0 → ⊥) → Err why ≡ decimal_of (decimal s) → Err why ≡ val_of (bound_of l s)
  bound-err l why e z p = decimal-err (decimal s) 0 bound_limit (λ n. number (suc n)) why (omega arith) p ∙ ap val_of (bound_some l e z)

  pub bound-in : (l n m : ℕ) → false ≡ is_dash s → (l ≡ 0 → ⊥) → Ok n ≡ decimal_of (decimal s) → m ≡ clip (suc n) → Ok m ≡ val_of (bound_of l s)
  bound-in l n m e z p c =
      ap Ok c ∙ decimal-in (decimal s) 0 bound_limit n (λ k. number (suc k)) p (omega arith) (omega (arith, (decimal-at (decimal s) n p).1)) ∙ ap val_of (bound_some l e z)

  pub optional-dash : (l : ℕ) → true ≡ is_dash s → Ok 0 ≡ val_of (value_at optional l s)
  unfolding value_at
  optional-dash l e = rw (sym e, value_at)

  pub optional-some : (l : ℕ) → false ≡ is_dash s → val_of (within 0 variable_limit (decimal s) number) ≡ val_of (value_at optional l s)
  unfolding value_at
  optional-some l e = rw (sym e, value_at) (var-number (decimal s))

  pub alias-dash : (l : ℕ) → true ≡ is_dash s → Ok 0 ≡ val_of (value_at alias l s)
  unfolding value_at
  alias-dash l e = rw (sym e, value_at)

-- ## A name

-- a name says 0, an alias 1
pub name-says : (o : Option Bytes) → said_of (named o name_v) 0 ≡ val_of (named o name_v)
unfolding named
name-says none = refl
name-says (some ds) = go (eqb (length ds % 2) 0) (leb (length ds) (2 * name_limit))
  where
    go : (p q : Bool)
        → said_of (elim p [ true ↦ elim q [ true ↦ name_v ds | false ↦ wrong 4 ] | false ↦ wrong 3 ]) 0 ≡ val_of (elim p [ true ↦ elim q [ true ↦ name_v ds | false ↦ wrong 4 ] | false ↦ wrong 3 ])
    go true true = refl
    go true false = refl
    go false q = refl

alias-says : (o : Option Bytes) → said_of (named o name_v) 1 ≡ val_of (named o alias_v)
unfolding named
alias-says none = refl
alias-says (some ds) = go (eqb (length ds % 2) 0) (leb (length ds) (2 * name_limit))
  where
    go : (p q : Bool)
        → said_of (elim p [ true ↦ elim q [ true ↦ name_v ds | false ↦ wrong 4 ] | false ↦ wrong 3 ]) 1 ≡ val_of (elim p [ true ↦ elim q [ true ↦ alias_v ds | false ↦ wrong 4 ] | false ↦ wrong 3 ])
    go true true = refl
    go true false = refl
    go false q = refl

pub alias-some : (s : Bytes) (l : ℕ) → false ≡ is_dash s → said_of (named (unhex s) name_v) 1 ≡ val_of (value_at alias l s)
unfolding value_at
alias-some s l e = rw (sym e, value_at) (alias-says (unhex s))

-- a text's digits are as many as its bytes
pub unhex-length : (s ds : Bytes) → unhex s ≡ some ds → length ds ≡ length s
unhex-length s ds e = go (unhex s) e (unhex-sound s)
  where
    go : (o : Option Bytes) → o ≡ some ds → Maybe (λ n. (name_f n ≡ s) × Digits n) o → length ds ≡ length s
    go none d m = absurd (let z : ◌≡◌ {A = ℕ} 0 1 = cc in omega arith)
    go (some n) d m = let nd : n ≡ ds = cc in ap length (sym nd) ∙ sym (length-map n Rattle.semantics.specs.Bytes.hex) ∙ ap length m.0

some-not : (o : Option Bytes) → is_found o ≡ false → o ≡ none
some-not none e = refl
some-not (some ds) e = absurd (let z : ◌≡◌ {A = ℕ} 0 1 = cc in omega arith)

some_is : (o : Option Bytes) → is_found o ≡ true → (ds : Bytes) × (o ≡ some ds)
some_is none e = absurd (let z : ◌≡◌ {A = ℕ} 0 1 = cc in omega arith)
some_is (some ds) e = (ds, refl)

-- a name by its own test
name-is : (o : Option Bytes) (n : ℕ) (r : Result (Unit {0}) Refusal) → r ≡ named_of o → said_of (named o name_v) n ≡ elim r [ Ok u ↦ Ok n | Err why ↦ Err why ]
unfolding named named_of
name-is none n r e = rw e
name-is (some ds) n r e = rw e (go (eqb (length ds % 2) 0) (leb (length ds) (2 * name_limit)))
  where
    go : (p q : Bool)
        → said_of (elim p [ true ↦ elim q [ true ↦ name_v ds | false ↦ wrong 4 ] | false ↦ wrong 3 ]) n
        ≡ elim (cond p (cond q (Ok (tt {0})) (Err OutOfRange)) (Err BadlyWritten)) [ Ok u ↦ Ok n | Err why ↦ Err why ]
    go true true = refl
    go true false = refl
    go false q = refl

module _ (s : Bytes) (n : ℕ) where
  pub name-ok : (u : Unit {0}) → Ok u ≡ named_of (unhex s) → Ok n ≡ said_of (named (unhex s) name_v) n
  name-ok u e = sym (name-is (unhex s) n (Ok u) e)

  pub name-err : (why : Refusal) → Err why ≡ named_of (unhex s) → Err why ≡ said_of (named (unhex s) name_v) n
  name-err why e = sym (name-is (unhex s) n (Err why) e)

  pub name-fine : true ≡ is_found (unhex s) → length s % 2 ≡ 0 → length s ≤ 510 → Ok n ≡ said_of (named (unhex s) name_v) n
  unfolding named
  name-fine e h g =
      let d = some_is (unhex s) (sym e) in
      let l = unhex-length s d.0 d.1 in
      rw (d.1, l, eq-eqb (length s % 2) 0 h, l, le-leb (length s) (2 * name_limit) g, named)

module _ (s : Bytes) where
  pub float-bad : false ≡ is_found (unhex s) → Err BadlyWritten ≡ val_of (float_of (unhex s))
  unfolding float_of
  float-bad e = rw (some-not (unhex s) (sym e))

  pub float-fine : true ≡ is_found (unhex s) → length s ≡ 16 → Ok 0 ≡ val_of (float_of (unhex s))
  unfolding float_of
  float-fine e h =
      let d = some_is (unhex s) (sym e) in
      let l = unhex-length s d.0 d.1 in
      rw (d.1, l, h, float_of)

  pub float-length : (length s ≡ 16 → ⊥) → Err BadlyWritten ≡ val_of (float_of (unhex s))
  unfolding float_of
  float-length h = go (unhex s) refl
    where
      go : (o : Option Bytes) → unhex s ≡ o → Err BadlyWritten ≡ val_of (float_of (unhex s))
      go none e = rw (e, float_of)
      go (some ds) e = rw (e, unhex-length s ds e, ne_eqb (length s) 16 h, float_of)

-- ## A signed number

pub signed-empty : (s : Bytes) → length s ≡ 0 → Err BadlyWritten ≡ val_of (signed_of s)
unfolding signed_of
signed-empty [] l = refl
signed-empty (c ∷ s) l = absurd (omega arith)

pub signed-minus : (s : Bytes) → 0 < length s → get_or s 0 0 ≡ 45 → val_of (negative_of (decimal (take (length s - 1) (drop 1 s)))) ≡ val_of (signed_of s)
unfolding signed_of
signed-minus [] l e = absurd (omega arith)
signed-minus (c ∷ s) l e = rw (take_all (suc (length s) - 1) s (omega arith), eq-eqb c 45 e, signed_of)

pub signed-plain : (s : Bytes) → 0 < length s → (get_or s 0 0 ≡ 45 → ⊥) → val_of (positive_of (decimal s)) ≡ val_of (signed_of s)
unfolding signed_of
signed-plain [] l e = absurd (omega arith)
signed-plain (c ∷ s) l e = rw (ne_eqb c 45 e, signed_of)

-- ## A decimal as text reads it

pub decimal-read : (o : Option ℕ) (n : ℕ) → Ok n ≡ dec_of o → Ok n ≡ decimal_of o
unfolding dec_of capped
decimal-read none n e = absurd (let z : ⊥ = cc in z)
decimal-read (some m) n e = go (ltb m (2 ^ 64)) e
  where
    go : (b : Bool) → Ok n ≡ cond b (Ok m) (Err Over) → Ok n ≡ elim b as (λ _. Result ℕ Refusal) [ true ↦ Ok m | false ↦ Err OutOfRange ]
    go true d = let z : n ≡ m = cc in ap Ok z
    go false d = absurd (let z : ⊥ = cc in z)

pub decimal-refused : (o : Option ℕ) (e : DecimalError) → Err e ≡ dec_of o → Err (refusal_of e) ≡ decimal_of o
unfolding dec_of capped
decimal-refused none e p = let z : e ≡ Bad = cc in ap (λ (d : DecimalError). Err (refusal_of d)) z
decimal-refused (some m) e p = go (ltb m (2 ^ 64)) p
  where
    go : (b : Bool) → Err e ≡ cond b (Ok m) (Err Over) → Err (refusal_of e) ≡ elim b as (λ _. Result ℕ Refusal) [ true ↦ Ok m | false ↦ Err OutOfRange ]
    go true d = absurd (let z : ⊥ = cc in z)
    go false d = let z : e ≡ Over = cc in ap (λ (d : DecimalError). Err (refusal_of d)) z
