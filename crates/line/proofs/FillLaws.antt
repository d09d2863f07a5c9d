-- A line's fields, one after the other: what each says and what is kept of it. Assumes nothing.
use mathlib.Core.Path.{◌≡◌, refl, sym, ◌∙◌, ap}
use mathlib.Core.List.{List, [], ◌∷◌, ◌++◌}
use mathlib.Core.Option.{Option, none, some}
use mathlib.Core.Bool.{Bool, true, false, ◌&&◌}
use Prim.Native.Nat.{ℕ, suc, zero, ◌+◌, ◌-◌, ◌*◌, ◌%◌, ◌≤◌, ◌<◌}
use native.Mathlib.Omega.{arith}
use lib.Dec.{eqb, leb}
use lib.ListN.{length, get_or, replicate, length-append}
use lib.Seq.{slice}
use Rattle.std.proofs.lemmas.List.{length-set, get_or-set_same, get_or-set_other}
use borrow.Author.Tests.{eqb-true, eqb-false, ne_eqb, eq-eqb, leb-true}
use Rattle.semantics.specs.Limits.{name_limit, variable_limit, bound_limit, signed_shift}
use Rattle.semantics.specs.Bytes.{Bytes, decimal, unhex}
use Rattle.semantics.specs.Sheet.{Word, Field, range, variable, optional, name, alias, bound, letter, signed, float, is_dash, Head, Value, wrong, number, variable_v, name_v, alias_v, within, named, lettered, signed_of, float_of, bound_of, value, Read, bad, into, bare}
use Rattle.semantics.specs.declared.refusals.Refusal.{Refusal}
use Rattle.semantics.specs.Refusals.{number_of}
use Rattle.std.specs.Prelude.{Ok, Err, set}
use Rattle.line.specs.Words.{field_of}
use Rattle.line.specs.declared.shapes.Shape.{Shape}
use Rattle.line.specs.declared.shapes.Shape.TheVariants.{Variable, Optional}
use Rattle.line.specs.declared.field.Fields.{Fields}
use Rattle.line.specs.Fields.{clip, or_zero, refusal, val_of, value_at, most_fields, pick_f, pushed, nothing_yet, seen_var, seen_name, stored_in, Agrees}

-- ## What a field can say

pub data Says : Field → Bytes → Value → Type 0 where
  faulty : {f : Field} {s : Bytes} {c : ℕ} → number_of (refusal c) ≡ c → Says f s (wrong c)
  in_range : {l m n : ℕ} {s : Bytes} → n ≤ m → Says (range l m) s (number n)
  a_bound : {n : ℕ} {s : Bytes} → n ≤ 18446744073709551616 → Says bound s (number n)
  a_letter : {n : ℕ} {s : Bytes} → n ≤ 3 → Says letter s (number n)
  a_signed : {n : ℕ} {s : Bytes} → n ≤ 18446744073709551615 → Says signed s (number n)
  a_variable : {v : ℕ} {s : Bytes} → v ≤ 4294967295 → Says variable s (variable_v (some v))
  some_variable : {v : ℕ} {s : Bytes} → v ≤ 4294967295 → Says optional s (variable_v (some v))
  no_variable : {s : Bytes} → Says optional s (variable_v none)
  a_name : {s ds : Bytes} → unhex s ≡ some ds → Says name s (name_v ds)
  a_float : {s ds : Bytes} → unhex s ≡ some ds → Says float s (name_v ds)
  an_alias : {s ds : Bytes} → unhex s ≡ some ds → Says alias s (alias_v ds)
  no_alias : {s : Bytes} → Says alias s (number 0)

three : {f : Field} {s : Bytes} → Says f s (wrong 3)
three = faulty {c = 3} refl

four : {f : Field} {s : Bytes} → Says f s (wrong 4)
four = faulty {c = 4} refl

within-says : (f : Field) (s : Bytes) (l m : ℕ) (o : Option ℕ) (g : ℕ → Value) → ((n : ℕ) → l ≤ n → n ≤ m → Says f s (g n)) → Says f s (within l m o g)
unfolding within
within-says f s l m none g h = three
within-says f s l m (some n) g h = go (leb l n) refl (leb n m) refl
  where
    go : (b : Bool) → leb l n ≡ b → (d : Bool) → leb n m ≡ d → Says f s (elim (b && d) [ true ↦ g n | false ↦ wrong 4 ])
    go true e true k = h n (leb-true l n e) (leb-true n m k)
    go true e false k = four
    go false e d k = four

named-says : (f : Field) (s : Bytes) (o : Option Bytes) (g : Bytes → Value) → unhex s ≡ o → ((ds : Bytes) → unhex s ≡ some ds → Says f s (g ds)) → Says f s (named o g)
unfolding named
named-says f s none g e h = three
named-says f s (some ds) g e h = go (eqb (length ds % 2) 0) (leb (length ds) (2 * name_limit))
  where
    go : (p q : Bool) → Says f s (elim p [ true ↦ elim q [ true ↦ g ds | false ↦ wrong 4 ] | false ↦ wrong 3 ])
    go true true = h ds e
    go true false = four
    go false q = three

pub lettered-says : (s : Bytes) → Says letter s (lettered s)
unfolding lettered
lettered-says [] = three
lettered-says (c ∷ []) = go (eqb c 78) (eqb c 82) (eqb c 80) (eqb c 86)
  where
    go : (p q r t : Bool) → Says letter (c ∷ []) (elim p [ true ↦ number 0 | false ↦ elim q [ true ↦ number 1 | false ↦ elim r [ true ↦ number 2 | false ↦ elim t [ true ↦ number 3 | false ↦ wrong 3 ] ] ] ])
    go true q r t = a_letter {n = 0} (omega arith)
    go false true r t = a_letter {n = 1} (omega arith)
    go false false true t = a_letter {n = 2} (omega arith)
    go false false false true = a_letter {n = 3} (omega arith)
    go false false false false = three
lettered-says (c ∷ d ∷ s) = three

float_says : (s : Bytes) (o : Option Bytes) → unhex s ≡ o → Says float s (float_of o)
unfolding float_of
float_says s none e = three
float_says s (some ds) e = go (eqb (length ds) 16)
  where
    go : (p : Bool) → Says float s (elim p [ true ↦ name_v ds | false ↦ wrong 3 ])
    go true = a_float e
    go false = three

signed-says : (s : Bytes) → Says signed s (signed_of s)
unfolding signed_of
signed-says [] = three
signed-says (c ∷ cs) = go (eqb c 45)
  where
    minus : (n : ℕ) (b : Bool) → Says signed (c ∷ cs) (elim b [ true ↦ wrong 3 | false ↦ number (signed_shift - n) ])
    minus n true = three
    minus n false = a_signed {n = signed_shift - n} (omega arith)

    go : (p : Bool) → Says signed (c ∷ cs) (elim p [
      | true ↦ within 0 signed_shift (decimal cs) (λ n. elim (eqb n 0) [ true ↦ wrong 3 | false ↦ number (signed_shift - n) ])
      | false ↦ within 0 (signed_shift - 1) (decimal (c ∷ cs)) (λ n. number (signed_shift + n))
    ])
    go true = within-says signed (c ∷ cs) 0 signed_shift (decimal cs) _ (λ n p q. minus n (eqb n 0))
    go false = within-says signed (c ∷ cs) 0 (signed_shift - 1) (decimal (c ∷ cs)) _ (λ n p q. a_signed {n = signed_shift + n} (omega arith))

bound-says : (l : ℕ) (s : Bytes) → Says bound s (bound_of l s)
unfolding bound_of
bound-says l s = go (is_dash s) (eqb l 0)
  where
    go : (p q : Bool) → Says bound s (elim p [ true ↦ number 0 | false ↦ elim q [ true ↦ wrong 3 | false ↦ within 0 bound_limit (decimal s) (λ n. number (suc n)) ] ])
    go true q = a_bound {n = 0} (omega arith)
    go false true = three
    go false false = within-says bound s 0 bound_limit (decimal s) _ (λ n p q. a_bound {n = suc n} (omega arith))

optional-says : (s : Bytes) (p : Bool) → Says optional s (elim p [ true ↦ variable_v none | false ↦ within 0 variable_limit (decimal s) (λ v. variable_v (some v)) ])
optional-says s true = no_variable
optional-says s false = within-says optional s 0 variable_limit (decimal s) _ (λ n p q. some_variable q)

alias-says : (s : Bytes) (p : Bool) → Says alias s (elim p [ true ↦ number 0 | false ↦ named (unhex s) alias_v ])
alias-says s true = no_alias
alias-says s false = named-says alias s (unhex s) alias_v refl (λ ds e. an_alias e)

pub says : (f : Field) (l : ℕ) (s : Bytes) → Says f s (value_at f l s)
unfolding value_at
says (range a b) l s = within-says (range a b) s a b (decimal s) number (λ n p q. in_range q)
says variable l s = within-says variable s 0 variable_limit (decimal s) _ (λ n p q. a_variable q)
says optional l s = optional-says s (is_dash s)
says name l s = named-says name s (unhex s) name_v refl (λ ds e. a_name e)
says alias l s = alias-says s (is_dash s)
says bound l s = bound-says l s
says letter l s = lettered-says s
says signed l s = signed-says s
says float l s = float_says s (unhex s) refl

-- the second number may be clipped
eqb-clip : (n : ℕ) → eqb (clip n) 0 ≡ eqb n 0
eqb-clip zero = refl
eqb-clip (suc n) = ne_eqb (clip (suc n)) 0 (λ e. omega arith) ∙ sym (ne_eqb (suc n) 0 (λ e. omega arith))

abbrev bound_by : Bool → Bool → Bytes → Value
bound_by p q s = elim p [ true ↦ number 0 | false ↦ elim q [ true ↦ wrong 3 | false ↦ within 0 bound_limit (decimal s) (λ n. number (suc n)) ] ]

bound-clip : (l : ℕ) (s : Bytes) (p : Bool) → bound_by p (eqb l 0) s ≡ bound_by p (eqb (clip l) 0) s
bound-clip l s p = ap (λ (q : Bool). bound_by p q s) (sym (eqb-clip l))

pub value-at : (f : Field) (ns : List ℕ) (s : Bytes) → value f ns s ≡ value_at f (clip (get_or ns 1 0)) s
unfolding value value_at bound_of
value-at (range a b) ns s = refl
value-at variable ns s = refl
value-at optional ns s = refl
value-at name ns s = refl
value-at alias ns s = refl
value-at bound ns s = bound-clip (get_or ns 1 0) s (is_dash s)
value-at letter ns s = refl
value-at signed ns s = refl
value-at float ns s = refl

-- ## A field goes into the head

unfoldable pub absorbed : Head → Value → Head
absorbed h (wrong c) = h
absorbed h (number n) = record { word = h.word; var = h.var; nums = h.nums ++ (n ∷ []); name = h.name }
absorbed h (variable_v v) = record { word = h.word; var = v; nums = h.nums; name = h.name }
absorbed h (name_v s) = record { word = h.word; var = h.var; nums = h.nums; name = s }
absorbed h (alias_v s) = record { word = h.word; var = h.var; nums = h.nums ++ (1 ∷ []); name = s }

-- what was read of a field: its number, or what it is refused for
pub into-on : (h : Head) (v : Value) (g : Head → Read) {f : Field} {s : Bytes} (n : ℕ) → Says f s v → Ok n ≡ val_of v → into h v g ≡ g (absorbed h v)
unfolding absorbed
into-on h (wrong c) g n p e = absurd (let z : ⊥ = cc in z)
into-on h (number n) g m p e = refl
into-on h (variable_v v) g m p e = refl
into-on h (name_v s) g m p e = refl
into-on h (alias_v s) g m p e = refl

pub into-stop : (h : Head) (v : Value) (g : Head → Read) {f : Field} {s : Bytes} (why : Refusal) → Says f s v → Err why ≡ val_of v → (c : ℕ) × (into h v g ≡ bad c) × (number_of why ≡ c)
into-stop h (wrong c) g why (faulty p) e = let z : why ≡ refusal c = cc in (c, refl, ap number_of z ∙ p)
into-stop h (number n) g why p e = absurd (let z : ⊥ = cc in z)
into-stop h (variable_v v) g why p e = absurd (let z : ⊥ = cc in z)
into-stop h (name_v s) g why p e = absurd (let z : ⊥ = cc in z)
into-stop h (alias_v s) g why p e = absurd (let z : ⊥ = cc in z)

small-variable : (v : Value) (s : Bytes) (n : ℕ) → Says variable s v → Ok n ≡ val_of v → n < 4294967296
small-variable (wrong c) s n p e = absurd (let z : ⊥ = cc in z)
small-variable (variable_v (some v)) s n (a_variable p) e = let z : n ≡ v = cc in omega arith
small-variable (number _) s n x e = elim x [ ]
small-variable (variable_v none) s n x e = elim x [ ]
small-variable (name_v _) s n x e = elim x [ ]
small-variable (alias_v _) s n x e = elim x [ ]

small-optional : (v : Value) (s : Bytes) (n : ℕ) → Says optional s v → Ok n ≡ val_of v → n < 4294967296
small-optional (wrong c) s n p e = absurd (let z : ⊥ = cc in z)
small-optional (variable_v (some v)) s n (some_variable p) e = let z : n ≡ v = cc in omega arith
small-optional (variable_v none) s n no_variable e = let z : n ≡ 0 = cc in omega arith
small-optional (number _) s n x e = elim x [ ]
small-optional (name_v _) s n x e = elim x [ ]
small-optional (alias_v _) s n x e = elim x [ ]

-- what `store` asks
pub store-small : (k : Shape) (l n : ℕ) (s : Bytes) → Ok n ≡ val_of (value_at (field_of k) l s) → (k ≡ Variable → n < 4294967296) × (k ≡ Optional → n < 4294967296)
store-small k l n s e = (λ d. small-variable _ s n (says variable l s) (rw d at e), λ d. small-optional _ s n (says optional l s) (rw d at e))

-- ## What is kept

-- one number more
get_d_push : (ns : List ℕ) (n i : ℕ) → get_or (ns ++ (n ∷ [])) i 0 ≡ elim (eqb (length ns) i) [ true ↦ n | false ↦ get_or ns i 0 ]
get_d_push [] n zero = refl
get_d_push [] n (suc i) = rw (ne_eqb 0 (suc i) (λ e. omega arith))
get_d_push (m ∷ ns) n zero = rw (ne_eqb (suc (length ns)) 0 (λ e. omega arith))
get_d_push (m ∷ ns) n (suc i) = get_d_push ns n i ∙ ap (λ (b : Bool). elim b as (λ _. ℕ) [ true ↦ n | false ↦ get_or ns i 0 ]) (same (length ns) i)
  where
    same : (a b : ℕ) → eqb a b ≡ eqb (suc a) (suc b)
    same a b = go (eqb a b) refl
      where
        go : (t : Bool) → eqb a b ≡ t → t ≡ eqb (suc a) (suc b)
        go true e = sym (eq-eqb (suc a) (suc b) (ap suc (eqb-true a b e)))
        go false e = sym (ne_eqb (suc a) (suc b) (λ d. eqb-false a b e (omega arith)))

slot : (xs ns : List ℕ) (n put : ℕ) → put ≡ length ns → put < length xs → ((i : ℕ) → get_or xs i 0 ≡ clip (get_or ns i 0)) → (i : ℕ) → get_or (set xs put (clip n)) i 0 ≡ clip (get_or (ns ++ (n ∷ [])) i 0)
slot xs ns n put p l o i = go (eqb (length ns) i) refl
  where
    go : (b : Bool) → eqb (length ns) i ≡ b → get_or (set xs put (clip n)) i 0 ≡ clip (get_or (ns ++ (n ∷ [])) i 0)
    go true e =
        let q : put ≡ i = p ∙ eqb-true (length ns) i e in
        let l' : i < length xs = omega arith in
        rw q (get_or-set_same xs i (clip n) 0 l' ∙ ap clip (sym (get_d_push ns n i ∙ rw e)))
    go false e =
        let q : i ≡ put → ⊥ = λ d. eqb-false (length ns) i e (omega arith) in
        get_or-set_other xs put i (clip n) 0 q ∙ o i ∙ ap clip (sym (get_d_push ns n i ∙ rw e))

push-length : (ns : List ℕ) (n put : ℕ) → put ≡ length ns → put + 1 ≡ length (ns ++ (n ∷ []))
push-length ns n put p = omega (arith, length-append ns (n ∷ []))

module _ (s : Bytes) (f : Fields) (h : Head) (a : Agrees s f h) (room : f.put < most_fields) where
  agrees-push : (n : ℕ) → Agrees s (pushed f (clip n)) (absorbed h (number n))
  unfolding absorbed
  agrees-push n =
      record {
        var = a.var;
        nums = slot f.nums h.nums n f.put a.put (omega (arith, a.room)) a.nums;
        put = push-length h.nums n f.put a.put;
        room = length-set f.nums f.put (clip n) ∙ a.room;
        name = a.name;
        within = a.within;
      }

  agrees-var : (v : Option ℕ) → Agrees s (seen_var f (or_zero v)) (absorbed h (variable_v v))
  unfolding absorbed
  agrees-var v = record { var = go v; nums = a.nums; put = a.put; room = a.room; name = a.name; within = a.within }
    where
      go : (v : Option ℕ) → or_zero v ≡ elim v [ none ↦ 0 | some v ↦ v ]
      go none = refl
      go (some v) = refl

  agrees-name : (p q : ℕ) → q ≤ length s → (ds : Bytes) → unhex (slice p q s) ≡ some ds → Agrees s (seen_name f p q) (absorbed h (name_v ds))
  unfolding absorbed
  agrees-name p q w ds e = record { var = a.var; nums = a.nums; put = a.put; room = a.room; name = e; within = w }

  agrees-alias : (p q : ℕ) → q ≤ length s → (ds : Bytes) → unhex (slice p q s) ≡ some ds → Agrees s (seen_name (pushed f 1) p q) (absorbed h (alias_v ds))
  unfolding absorbed
  agrees-alias p q w ds e =
      let b = agrees-push 1 in
      record { var = b.var; nums = b.nums; put = b.put; room = b.room; name = e; within = w }

  on : (p q : ℕ) → q ≤ length s → (g : Field) (v : Value) (n : ℕ) → Says g (slice p q s) v → Ok n ≡ val_of v → Agrees s (stored_in g f p q n) (absorbed h v)
  unfolding stored_in
  on p q w g (wrong c) n i e = absurd (let z : ⊥ = cc in z)
  on p q w (range l m) (number n) k (in_range i) e = let z : k ≡ clip n = cc in rw z (agrees-push n)
  on p q w bound (number n) k (a_bound i) e = let z : k ≡ clip n = cc in rw z (agrees-push n)
  on p q w letter (number n) k (a_letter i) e = let z : k ≡ clip n = cc in rw z (agrees-push n)
  on p q w signed (number n) k (a_signed i) e = let z : k ≡ clip n = cc in rw z (agrees-push n)
  on p q w variable (variable_v (some v)) k (a_variable i) e = let z : k ≡ v = cc in rw z (agrees-var (some v))
  on p q w optional (variable_v (some v)) k (some_variable i) e = let z : k ≡ v = cc in rw z (agrees-var (some v))
  on p q w optional (variable_v none) k no_variable e = let z : k ≡ 0 = cc in rw z (agrees-var none)
  on p q w name (name_v ds) k (a_name i) e = agrees-name p q w ds i
  on p q w float (name_v ds) k (a_float i) e = agrees-name p q w ds i
  on p q w alias (alias_v ds) k (an_alias i) e = let z : k ≡ 1 = cc in rw z (agrees-alias p q w ds i)
  on p q w alias (number n) k no_alias e = let z : k ≡ 0 = cc in rw z (agrees-push 0)
  on p q w variable (number n) k x e = elim x [ ]
  on p q w optional (number n) k x e = elim x [ ]
  on p q w name (number n) k x e = elim x [ ]
  on p q w float (number n) k x e = elim x [ ]
  on p q w (range l m) (variable_v _) k x e = elim x [ ]
  on p q w variable (variable_v none) k x e = elim x [ ]
  on p q w name (variable_v _) k x e = elim x [ ]
  on p q w alias (variable_v _) k x e = elim x [ ]
  on p q w bound (variable_v _) k x e = elim x [ ]
  on p q w letter (variable_v _) k x e = elim x [ ]
  on p q w signed (variable_v _) k x e = elim x [ ]
  on p q w float (variable_v _) k x e = elim x [ ]
  on p q w (range l m) (name_v ds) k x e = elim x [ ]
  on p q w variable (name_v ds) k x e = elim x [ ]
  on p q w optional (name_v ds) k x e = elim x [ ]
  on p q w alias (name_v ds) k x e = elim x [ ]
  on p q w bound (name_v ds) k x e = elim x [ ]
  on p q w letter (name_v ds) k x e = elim x [ ]
  on p q w signed (name_v ds) k x e = elim x [ ]
  on p q w (range l m) (alias_v ds) k x e = elim x [ ]
  on p q w variable (alias_v ds) k x e = elim x [ ]
  on p q w optional (alias_v ds) k x e = elim x [ ]
  on p q w name (alias_v ds) k x e = elim x [ ]
  on p q w bound (alias_v ds) k x e = elim x [ ]
  on p q w letter (alias_v ds) k x e = elim x [ ]
  on p q w signed (alias_v ds) k x e = elim x [ ]
  on p q w float (alias_v ds) k x e = elim x [ ]

pub agrees_on : (s : Bytes) (f : Fields) (h : Head) → Agrees s f h → f.put < most_fields → (p q : ℕ) → q ≤ length s → (g : Field) (v : Value) (n : ℕ)
    → Says g (slice p q s) v → Ok n ≡ val_of v → Agrees s (stored_in g f p q n) (absorbed h v)
agrees_on s f h a room p q w g v n i e = on s f h a room p q w g v n i e

zeros : (k i : ℕ) → get_or {A = ℕ} (replicate k 0) i 0 ≡ 0
zeros zero i = refl
zeros (suc k) zero = refl
zeros (suc k) (suc i) = zeros k i

pub agrees_start : (s : Bytes) (v : Word) → Agrees s nothing_yet (bare v)
unfolding unhex
agrees_start s v = record { var = refl; nums = zeros 7; put = refl; room = refl; name = refl; within = omega arith }

-- one number more at most
put-alias : (b : Bool) (f g : Fields) (m : ℕ) → f.put ≤ m → g.put ≤ m → (pick_f b f g).put ≤ m
put-alias true f g m p q = p
put-alias false f g m p q = q

pub put_on : (g : Field) (f : Fields) (p q n : ℕ) → (stored_in g f p q n).put ≤ f.put + 1
unfolding stored_in
put_on (range a b) f p q n = omega arith
put_on variable f p q n = omega arith
put_on optional f p q n = omega arith
put_on name f p q n = omega arith
put_on alias f p q n = put-alias (eqb n 1) _ _ (f.put + 1) (omega arith) (omega arith)
put_on bound f p q n = omega arith
put_on letter f p q n = omega arith
put_on signed f p q n = omega arith
put_on float f p q n = omega arith
