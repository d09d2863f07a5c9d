-- The strict reader reads exactly the lines of regular types that are not too large and whose names are names. Assumes nothing.
use mathlib.Core.Path.{◌≡◌, refl, sym, ◌∙◌, ap, ap₂, subst}
use mathlib.Core.List.{List, [], ◌∷◌}
use mathlib.Core.Option.{Option, none, some}
use mathlib.Core.Bool.{Bool, true, false, ◌&&◌, not, and-eq-true_iff}
use Prim.Native.Nat.{ℕ, suc, zero, ◌+◌, ◌-◌, ◌*◌, ◌%◌, ◌≤◌, ◌<◌}
use native.Mathlib.Nat.{le_refl}
use native.Mathlib.Omega.{arith}
use lib.ListN.{length}
use lib.Dec.{eqb, ltb, leb}
use borrow.Author.Tests.{eqb-true, eq-eqb, leb-true, le-leb, lt-leb, ltb-true, ltb-false, lt-ltb, le-ltb, not-true}
use Rattle.semantics.specs.Limits.{name_limit}
use Rattle.semantics.specs.Bytes.{Bytes, lex, same, split, is_digit, hex, unhex}
use Rattle.semantics.specs.Ty.{Base, t_any, t_null, t_bool, t_int, t_float, t_num, t_string, t_date, t_datetime, t_path, t_unknown, Ty, base, t_list, t_map, t_node, t_relationship, t_union, Tys, ∅, ◌⊕◌, Fields, ∅ᶠ, field, letter, line, too_large, regular, name_of, read_name, Front, onward, is_closing, read_name_in, read_names, read_option, base_in, bases, read_base, read_by, read_type, read_entries, read_members, strict, type_line}
use Rattle.semantics.proofs.Named.{Digits, Name, Names, Maybe, Named, NamedS, NamedF}
use Rattle.semantics.proofs.Split.{split-inj, closing, opening, name_f, names_f, option_f, inside, members_f, entries_f, type_f, split-line}
use Rattle.semantics.proofs.Order.{same-eq, hex-low}

-- a fact of what there may be
maybe : {A : Type 0} {P Q : A → Type 0} → ((a : A) → P a → Q a) → (o : Option A) → Maybe P o → Maybe Q o
maybe f none h = tt
maybe f (some a) h = f a h

-- ## Names

hex-digit : (d : ℕ) → d < 10 → hex d ≡ 48 + d
unfolding hex
hex-digit d h = rw (lt-ltb d 10 h)

hex-letter : (d : ℕ) → 10 ≤ d → hex d ≡ 87 + d
unfolding hex
hex-letter d h = rw (le-ltb d 10 h)

unhex-digit : (c : ℕ) (s n : Bytes) → 48 ≤ c → c ≤ 57 → unhex s ≡ some n → unhex (c ∷ s) ≡ some ((c - 48) ∷ n)
unfolding unhex
unhex-digit c s n p q e = rw (le-leb 48 c p, le-leb c 57 q, e, unhex)

unhex-letter : (c : ℕ) (s n : Bytes) → 97 ≤ c → c ≤ 102 → unhex s ≡ some n → unhex (c ∷ s) ≡ some ((c - 87) ∷ n)
unfolding unhex
unhex-letter c s n p q e = rw (le-leb 48 c (omega arith), lt-leb c 57 (omega arith), le-leb 97 c p, le-leb c 102 q, e, unhex)

pub unhex-hex : (n : Bytes) → Digits n → unhex (name_f n) ≡ some n
unfolding unhex
unhex-hex [] h = refl
unhex-hex (d ∷ n) h = go (unhex-hex n h.1) (ltb d 10) refl
  where
    go : unhex (name_f n) ≡ some n → (b : Bool) → ltb d 10 ≡ b → unhex (hex d ∷ name_f n) ≡ some (d ∷ n)
    go ih true e =
        let x = hex-digit d (ltb-true d 10 e) in
        let l = ltb-true d 10 e in
        unhex-digit (hex d) (name_f n) n (omega arith) (omega arith) ih ∙ ap (λ (k : ℕ). some (k ∷ n)) (omega arith)
    go ih false e =
        let x = hex-letter d (ltb-false d 10 e) in
        let l = ltb-false d 10 e in
        unhex-letter (hex d) (name_f n) n (omega arith) (omega arith) ih ∙ ap (λ (k : ℕ). some (k ∷ n)) (omega arith)

pub unhex-sound : (s : Bytes) → Maybe (λ n. (name_f n ≡ s) × Digits n) (unhex s)
unfolding unhex
unhex-sound [] = (refl, tt)
unhex-sound (c ∷ s) = go (unhex s) refl (unhex-sound s) (is_digit c) refl (leb 97 c && leb c 102) refl
  where
    go : (o : Option Bytes) → unhex s ≡ o → Maybe (λ n. (name_f n ≡ s) × Digits n) o → (b : Bool) → is_digit c ≡ b → (l : Bool) → (leb 97 c && leb c 102) ≡ l
        → Maybe (λ n. (name_f n ≡ c ∷ s) × Digits n) (unhex (c ∷ s))
    go none x w true e l f = rw (e, x, unhex) tt
    go none x w false e true f = rw (e, f, x, unhex) tt
    go none x w false e false f = rw (e, f, unhex) tt
    go (some n) x w true e l f =
        let p = (and-eq-true_iff (leb 48 c) (leb c 57)).0 e in
        let q = leb-true 48 c p.0 in
        let r = leb-true c 57 p.1 in
        rw (e, x, unhex) (ap₂ (λ (k : ℕ) (m : Bytes). k ∷ m) (omega (arith, hex-digit (c - 48) (omega arith))) w.0, (omega arith, w.1))
    go (some n) x w false e true f =
        let p = (and-eq-true_iff (leb 97 c) (leb c 102)).0 f in
        let q = leb-true 97 c p.0 in
        let r = leb-true c 102 p.1 in
        rw (e, f, x, unhex) (ap₂ (λ (k : ℕ) (m : Bytes). k ∷ m) (omega (arith, hex-letter (c - 87) (omega arith))) w.0, (omega arith, w.1))
    go (some n) x w false e false f = rw (e, f, unhex) tt

pub read_name_lem : (n : Bytes) → Name n → read_name (name_f n) ≡ some n
unfolding name_of
read_name_lem n h = rw (unhex-hex n h.0, eq-eqb (length n % 2) 0 h.1, le-leb (length n) (2 * name_limit) h.2, name_of)

pub name-sound : (f : Bytes) → Maybe (λ n. (name_f n ≡ f) × Name n) (read_name f)
unfolding name_of
name-sound f = go (unhex f) (unhex-sound f)
  where
    go : (o : Option Bytes) → Maybe (λ n. (name_f n ≡ f) × Digits n) o → Maybe (λ n. (name_f n ≡ f) × Name n) (name_of o)
    go none w = tt
    go (some n) w = ok (eqb (length n % 2) 0 && leb (length n) (2 * name_limit)) refl
      where
        ok : (b : Bool) → (eqb (length n % 2) 0 && leb (length n) (2 * name_limit)) ≡ b → Maybe (λ m. (name_f m ≡ f) × Name m) (name_of (some n))
        ok true e =
            let p = (and-eq-true_iff (eqb (length n % 2) 0) (leb (length n) (2 * name_limit))).0 e in
            rw (e, name_of) (w.0, (w.1, eqb-true (length n % 2) 0 p.0, leb-true (length n) (2 * name_limit) p.1))
        ok false e = rw (e, name_of) tt

-- ## Marks: a field that is not a name

closing-mark : is_closing closing ≡ true
unfolding same lex
closing-mark = refl

name-no-mark : (n : Bytes) → is_closing (name_f n) ≡ false
unfolding same lex
name-no-mark [] = refl
name-no-mark (d ∷ n) = go (is_closing (name_f (d ∷ n))) refl
  where
    go : (b : Bool) → is_closing (name_f (d ∷ n)) ≡ b → b ≡ false
    go true e = let p = same-eq {a = name_f (d ∷ n)} {b = closing} e in let q : hex d ≡ 33 = cc in absurd (omega (arith, hex-low d))
    go false e = refl

opening-no-mark : (t : Ty) → is_closing (opening t) ≡ false
unfolding same lex opening letter
opening-no-mark (base b) = elim b as (λ k. is_closing (opening (base k)) ≡ false) [ t_any ↦ refl | t_null ↦ refl | t_bool ↦ refl | t_int ↦ refl | t_float ↦ refl | t_num ↦ refl | t_string ↦ refl | t_date ↦ refl | t_datetime ↦ refl | t_path ↦ refl | t_unknown ↦ refl ]
opening-no-mark (t_list t) = refl
opening-no-mark (t_map fs) = refl
opening-no-mark (t_node ls) = refl
opening-no-mark (t_relationship n) = refl
opening-no-mark (t_union ts) = refl

-- ## What is read is what was written

read-name-in : (n : Bytes) (r : List Bytes) → Name n → read_name_in (name_f n ∷ r) ≡ some (n, r)
unfolding read_name_in
read-name-in n r h = rw (read_name_lem n h, read_name_in)

read_names_lem : (ns : List Bytes) (r : List Bytes) → Names ns → read_names (names_f ns r) ≡ some (ns, r)
unfolding read_names names_f same lex
read_names_lem [] r h = refl
read_names_lem (n ∷ ns) r h = rw (name-no-mark n, read_name_lem n h.0, read_names_lem ns r h.1, read_names)

read-option : {A : Type 0} (write : A → List Bytes → List Bytes) (read : List Bytes → Front A) (o : Option A) (r : List Bytes)
    → Maybe (λ a. read (write a r) ≡ some (a, r)) o → read_option read (option_f write o r) ≡ some (o, r)
unfolding read_option option_f onward same lex
read-option write read none r h = refl
read-option write read (some a) r h = rw h

-- a letter that opens nothing
read-base : (ty : List Bytes → Front Ty) (entries : List Bytes → Front Fields) (membs : List Bytes → Front Tys) (b : Base) (r : List Bytes)
    → read_by ty entries membs (letter b ∷ []) r ≡ some (base b, r)
unfolding read_by read_base base_in letter
read-base ty entries membs b r =
    elim b as (λ k. read_by ty entries membs (letter k ∷ []) r ≡ some (base k, r)) [ t_any ↦ refl | t_null ↦ refl | t_bool ↦ refl | t_int ↦ refl | t_float ↦ refl | t_num ↦ refl | t_string ↦ refl | t_date ↦ refl | t_datetime ↦ refl | t_path ↦ refl | t_unknown ↦ refl ]

-- the fields after a type are no more than all of them
longer-names : (ns : List Bytes) (r : List Bytes) → length r ≤ length (names_f ns r)
unfolding names_f
longer-names [] r = omega arith
longer-names (n ∷ ns) r = omega (arith, longer-names ns r)

longer-option : {A : Type 0} (write : A → List Bytes → List Bytes) (o : Option A) (r : List Bytes)
    → ((a : A) → length r ≤ length (write a r)) → length r ≤ length (option_f write o r)
unfolding option_f
longer-option write none r h = omega arith
longer-option write (some a) r h = omega (arith, h a)

mutual
  unfolding inside

  longer : (t : Ty) (r : List Bytes) → length r ≤ length (inside t r)
  longer (base b) r = omega arith
  longer (t_list t) r = omega (arith, longer t r)
  longer (t_map fs) r = longer_f fs r
  longer (t_node ls) r = longer-option names_f ls r (λ ns. longer-names ns r)
  longer (t_relationship n) r = longer-option (λ m q. name_f m ∷ q) n r (λ m. omega arith)
  longer (t_union ts) r = longer_s ts r

  longer_s : (ts : Tys) (r : List Bytes) → length r ≤ length (members_f ts r)
  longer_s ∅ r = omega arith
  longer_s (t ⊕ ts) r = omega (arith, longer t (members_f ts r), longer_s ts r)

  longer_f : (fs : Fields) (r : List Bytes) → length r ≤ length (entries_f fs r)
  longer_f ∅ᶠ r = omega arith
  longer_f (field n t fs) r = omega (arith, longer t (entries_f fs r), longer_f fs r)

-- a bound of twice the fields is enough for a type, and one more for members and entries
mutual
  unfolding read_type read_by onward opening inside

  pub read-type : (t : Ty) (k : ℕ) (r : List Bytes) → Named t → 2 * length (type_f t r) ≤ k → read_type k (type_f t r) ≡ some (t, r)
  read-type (base b) zero r h l = absurd (omega arith)
  read-type (base b) (suc k) r h l = read-base (λ gs. read_type k gs) (λ gs. read_entries k gs) (λ gs. read_members k gs) b r
  read-type (t_list t) zero r h l = absurd (omega arith)
  read-type (t_list t) (suc k) r h l = rw (read-type t k r h (omega arith))
  read-type (t_map fs) zero r h l = absurd (omega arith)
  read-type (t_map fs) (suc k) r h l = rw (read-entries fs k r h (omega arith))
  read-type (t_node ls) zero r h l = absurd (omega arith)
  read-type (t_node ls) (suc k) r h l = rw (read-option names_f read_names ls r (maybe (λ ns w. read_names_lem ns r w) ls h))
  read-type (t_relationship n) zero r h l = absurd (omega arith)
  read-type (t_relationship n) (suc k) r h l = rw (read-option (λ m q. name_f m ∷ q) read_name_in n r (maybe (λ m w. read-name-in m r w) n h))
  read-type (t_union ts) zero r h l = absurd (omega arith)
  read-type (t_union ts) (suc k) r h l = rw (read-members ts k r h (omega arith))

  read-members : (ts : Tys) (k : ℕ) (r : List Bytes) → NamedS ts → 2 * length (members_f ts r) < k → read_members k (members_f ts r) ≡ some (ts, r)
  read-members ∅ zero r h l = absurd (omega arith)
  read-members ∅ (suc k) r h l = rw (closing-mark, read_members)
  read-members (t ⊕ ts) zero r h l = absurd (omega arith)
  read-members (t ⊕ ts) (suc k) r h l =
      let q = members_f ts r in
      rw (opening-no-mark t, read-type t k q h.0 (omega arith), read-members ts k r h.1 (omega (arith, longer t q)), read_members)

  read-entries : (fs : Fields) (k : ℕ) (r : List Bytes) → NamedF fs → 2 * length (entries_f fs r) < k → read_entries k (entries_f fs r) ≡ some (fs, r)
  read-entries ∅ᶠ zero r h l = absurd (omega arith)
  read-entries ∅ᶠ (suc k) r h l = rw (closing-mark, read_entries)
  read-entries (field n t fs) zero r h l = absurd (omega arith)
  read-entries (field n t fs) (suc k) r h l =
      let q = entries_f fs r in
      rw (name-no-mark n, read-name-in n (type_f t q) h.0, read-type t k q h.1 (omega arith), read-entries fs k r h.2 (omega (arith, longer t q)), read_entries)

-- every named regular type that is not too large is read back from its line
pub reads-back : (t : Ty) → Named t → regular t ≡ true → too_large t ≡ false → type_line (line t) ≡ some t
unfolding type_line line strict split
reads-back t h g s =
    let fs = type_f t ([] ∷ []) in
    rw (split-line t [], read-type t (2 * length fs) ([] ∷ []) h (le_refl (2 * length fs)), g, s, strict)

-- ## What is read was written so

-- something read from these fields: written before the fields after it, it gives the fields
pub data Reads {A : Type 0} (write : A → List Bytes → List Bytes) (P : A → Type 0) (fs : List Bytes) : Front A → Type 0 where
  nothing : Reads write P fs none
  reads : {a : A} {r : List Bytes} → write a r ≡ fs → P a → Reads write P fs (some (a, r))

onward-sound : {A B : Type 0} {write : A → List Bytes → List Bytes} {P : A → Type 0} {fs : List Bytes} {write_b : B → List Bytes → List Bytes} {Q : B → Type 0} {gs : List Bytes}
    {m : Front A} {f : A → List Bytes → Front B} → Reads write P fs m → ((a : A) (r : List Bytes) → write a r ≡ fs → P a → Reads write_b Q gs (f a r)) → Reads write_b Q gs (onward m f)
unfolding onward
onward-sound nothing g = nothing
onward-sound (reads {a} {r} e p) g = g a r e p

cons : {A : Type 0} {x y : A} {xs ys : List A} → x ≡ y → xs ≡ ys → x ∷ xs ≡ y ∷ ys
cons p q = ap₂ ◌∷◌ p q

name-in-sound : (fs : List Bytes) → Reads (λ n r. name_f n ∷ r) Name fs (read_name_in fs)
unfolding read_name_in
name-in-sound [] = nothing
name-in-sound (f ∷ fs) = go (read_name f) refl (name-sound f)
  where
    go : (o : Option Bytes) → read_name f ≡ o → Maybe (λ n. (name_f n ≡ f) × Name n) o → Reads (λ n r. name_f n ∷ r) Name (f ∷ fs) (read_name_in (f ∷ fs))
    go none e w = rw (e, read_name_in) nothing
    go (some n) e w = rw (e, read_name_in) (reads (cons w.0 refl) w.1)

names-sound : (fs : List Bytes) → Reads names_f Names fs (read_names fs)
unfolding read_names names_f
names-sound [] = nothing
names-sound (f ∷ fs) = go (is_closing f) refl (read_name f) refl (name-sound f) refl (names-sound fs)
  where
    go : (b : Bool) → is_closing f ≡ b → (o : Option Bytes) → read_name f ≡ o → Maybe (λ n. (name_f n ≡ f) × Name n) o
        → {m : Front (List Bytes)} → read_names fs ≡ m → Reads names_f Names fs m → Reads names_f Names (f ∷ fs) (read_names (f ∷ fs))
    go true e o p w q v = rw (e, read_names) (reads (cons (sym (same-eq {a = f} {b = closing} e)) refl) tt)
    go false e none p w q v = rw (e, p, read_names) nothing
    go false e (some n) p w q nothing = rw (e, p, q, read_names) nothing
    go false e (some n) p w q (reads {a} {r} x h) = rw (e, p, q, read_names) (reads {a = n ∷ a} {r = r} (cons w.0 x) (w.1, h))

option-sound : {A : Type 0} (write : A → List Bytes → List Bytes) (P : A → Type 0) (read : List Bytes → Front A)
    → ((fs : List Bytes) → Reads write P fs (read fs)) → (fs : List Bytes) → Reads (option_f write) (Maybe P) fs (read_option read fs)
unfolding read_option option_f
option-sound write P read h [] = nothing
option-sound write P read h (f ∷ fs) = go (is_closing f) refl (same f (43 ∷ [])) refl
  where
    go : (b : Bool) → is_closing f ≡ b → (c : Bool) → same f (43 ∷ []) ≡ c → Reads (option_f write) (Maybe P) (f ∷ fs) (read_option read (f ∷ fs))
    go true e c d = rw (e, read_option) (reads (cons (sym (same-eq {a = f} {b = closing} e)) refl) tt)
    go false e true d = rw (e, d, read_option) (onward-sound (h fs) (λ a r x p. reads (cons (sym (same-eq {a = f} {b = 43 ∷ []} d)) x) p))
    go false e false d = rw (e, d, read_option) nothing

base-sound : (c : ℕ) (bs : List Base) → Maybe (λ b. letter b ≡ c) (base_in c bs)
unfolding base_in
base-sound c [] = tt
base-sound c (b ∷ bs) = go (eqb c (letter b)) refl (base-sound c bs)
  where
    go : (t : Bool) → eqb c (letter b) ≡ t → Maybe (λ b. letter b ≡ c) (base_in c bs) → Maybe (λ b. letter b ≡ c) (base_in c (b ∷ bs))
    go true e w = rw (e, base_in) (sym (eqb-true c (letter b) e))
    go false e w = rw (e, base_in) w

-- what a letter opens
data Opens (c : ℕ) : Type 0 where
  list : c ≡ 74 → Opens c
  entries : c ≡ 75 → Opens c
  labels : c ≡ 76 → Opens c
  rel : c ≡ 77 → Opens c
  union : c ≡ 79 → Opens c
  other : eqb c 74 ≡ false → eqb c 75 ≡ false → eqb c 76 ≡ false → eqb c 77 ≡ false → eqb c 79 ≡ false → Opens c

opens : (c : ℕ) → Opens c
opens c = go (eqb c 74) (eqb c 75) (eqb c 76) (eqb c 77) (eqb c 79) refl refl refl refl refl
  where
    go : (p q r s t : Bool) → eqb c 74 ≡ p → eqb c 75 ≡ q → eqb c 76 ≡ r → eqb c 77 ≡ s → eqb c 79 ≡ t → Opens c
    go true q r s t x y z v w = list (eqb-true c 74 x)
    go false true r s t x y z v w = entries (eqb-true c 75 y)
    go false false true s t x y z v w = labels (eqb-true c 76 z)
    go false false false true t x y z v w = rel (eqb-true c 77 v)
    go false false false false true x y z v w = union (eqb-true c 79 w)
    go false false false false false x y z v w = other x y z v w

module _ (ty : List Bytes → Front Ty) (es : List Bytes → Front Fields) (ms : List Bytes → Front Tys)
    (ty-sound : (fs : List Bytes) → Reads type_f Named fs (ty fs))
    (es-sound : (fs : List Bytes) → Reads entries_f NamedF fs (es fs))
    (ms-sound : (fs : List Bytes) → Reads members_f NamedS fs (ms fs)) where
  by-sound : (f : Bytes) (fs : List Bytes) → Reads type_f Named (f ∷ fs) (read_by ty es ms f fs)
  unfolding read_by read_base opening inside
  by-sound [] fs = nothing
  by-sound (c ∷ d ∷ cs) fs = nothing
  by-sound (c ∷ []) fs = go (opens c)
    where
      bases-sound : (o : Option Base) → base_in c bases ≡ o → Maybe (λ b. letter b ≡ c) o → Reads type_f Named ((c ∷ []) ∷ fs) (read_base c fs)
      bases-sound none e w = rw (e, read_base) nothing
      bases-sound (some b) e w = rw (e, read_base) (reads (cons (cons w refl) refl) tt)

      go : Opens c → Reads type_f Named ((c ∷ []) ∷ fs) (read_by ty es ms (c ∷ []) fs)
      go (list e) = rw e (onward-sound (ty-sound fs) (λ t r x n. reads (cons refl x) n))
      go (entries e) = rw e (onward-sound (es-sound fs) (λ t r x n. reads (cons refl x) n))
      go (labels e) = rw e (onward-sound (option-sound names_f Names read_names names-sound fs) (λ t r x n. reads (cons refl x) n))
      go (rel e) = rw e (onward-sound (option-sound (λ n r. name_f n ∷ r) Name read_name_in name-in-sound fs) (λ t r x n. reads (cons refl x) n))
      go (union e) = rw e (onward-sound (ms-sound fs) (λ t r x n. reads (cons refl x) n))
      go (other x y z v w) = rw (x, y, z, v, w, read_by) (bases-sound (base_in c bases) refl (base-sound c bases))

mutual
  unfolding read_type inside

  pub type-sound : (k : ℕ) (fs : List Bytes) → Reads type_f Named fs (read_type k fs)
  type-sound zero fs = nothing
  type-sound (suc k) [] = nothing
  type-sound (suc k) (f ∷ fs) =
      by-sound (λ gs. read_type k gs) (λ gs. read_entries k gs) (λ gs. read_members k gs) (λ gs. type-sound k gs) (λ gs. entries-sound k gs) (λ gs. members-sound k gs) f fs

  entries-sound : (k : ℕ) (fs : List Bytes) → Reads entries_f NamedF fs (read_entries k fs)
  entries-sound zero fs = nothing
  entries-sound (suc k) [] = nothing
  entries-sound (suc k) (f ∷ fs) = go (is_closing f) refl (λ gs. type-sound k gs) (λ gs. entries-sound k gs)
    where
      go : (b : Bool) → is_closing f ≡ b → ((gs : List Bytes) → Reads type_f Named gs (read_type k gs)) → ((gs : List Bytes) → Reads entries_f NamedF gs (read_entries k gs))
          → Reads entries_f NamedF (f ∷ fs) (read_entries (suc k) (f ∷ fs))
      go true e ty es = rw (e, read_entries) (reads (cons (sym (same-eq {a = f} {b = closing} e)) refl) tt)
      go false e ty es =
          rw (e, read_entries)
          (onward-sound (name-in-sound (f ∷ fs)) (λ n r x g. onward-sound (ty r) (λ t q y h. onward-sound (es q) (λ fs p z m.
          reads (ap (λ (l : List Bytes). name_f n ∷ type_f t l) z ∙ ap (λ (l : List Bytes). name_f n ∷ l) y ∙ x) (g, h, m)))))

  members-sound : (k : ℕ) (fs : List Bytes) → Reads members_f NamedS fs (read_members k fs)
  members-sound zero fs = nothing
  members-sound (suc k) [] = nothing
  members-sound (suc k) (f ∷ fs) = go (is_closing f) refl (λ gs. type-sound k gs) (λ gs. members-sound k gs)
    where
      go : (b : Bool) → is_closing f ≡ b → ((gs : List Bytes) → Reads type_f Named gs (read_type k gs)) → ((gs : List Bytes) → Reads members_f NamedS gs (read_members k gs))
          → Reads members_f NamedS (f ∷ fs) (read_members (suc k) (f ∷ fs))
      go true e ty ms = rw (e, read_members) (reads (cons (sym (same-eq {a = f} {b = closing} e)) refl) tt)
      go false e ty ms =
          rw (e, read_members) (onward-sound (ty (f ∷ fs)) (λ t r x n. onward-sound (ms r) (λ ts q y m. reads (ap (type_f t) y ∙ x) (n, m))))

abbrev Line : List Bytes → Ty → Type 0
Line fs t = (type_f t ([] ∷ []) ≡ fs) × (regular t ≡ true) × (too_large t ≡ false) × Named t

strict-sound : (fs : List Bytes) (m : Front Ty) → Reads type_f Named fs m → Maybe (Line fs) (strict m)
unfolding strict
strict-sound fs none h = tt
strict-sound fs (some (t, [])) h = tt
strict-sound fs (some (t, (c ∷ cs) ∷ r)) h = tt
strict-sound fs (some (t, [] ∷ f ∷ r)) h = tt
strict-sound fs (some (t, [] ∷ [])) (reads x n) = go (regular t && not (too_large t)) refl
  where
    go : (b : Bool) → (regular t && not (too_large t)) ≡ b → Maybe (Line fs) (strict (some (t, [] ∷ [])))
    go true e =
        let p = (and-eq-true_iff (regular t) (not (too_large t))).0 e in
        rw (e, strict) (x, p.0, not-true (too_large t) p.1, n)
    go false e = rw (e, strict) tt

-- what is read is a type of which the text is the line
pub read-sound : (s : Bytes) (t : Ty) → type_line s ≡ some t → (line t ≡ s) × (regular t ≡ true) × (too_large t ≡ false) × Named t
unfolding type_line line split
read-sound s t e =
    let fs = split 44 s in
    let k = 2 * length fs in
    let (x, g, l, n) = subst (Maybe (Line fs)) e (strict-sound fs (read_type k fs) (type-sound k fs)) in
    (split-inj 44 (line t) s (split-line t [] ∙ x), g, l, n)
