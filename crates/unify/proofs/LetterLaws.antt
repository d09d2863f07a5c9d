-- The arm of two types by the first bytes of their lines. Assumes nothing.
use mathlib.Core.Path.{◌≡◌, refl, sym, ◌∙◌, ap, ap₂}
use mathlib.Core.List.{[], ◌∷◌}
use mathlib.Core.Bool.{Bool, true, false, cond, ◌&&◌, false≢true, ◌||◌}
use Prim.Native.Nat.{ℕ, ◌-◌, ◌<◌}
use native.Mathlib.Omega.{arith}
use borrow.Author.Tests.{ne_eqb}
use lib.Dec.{eqb}
use lib.ListN.{length, get_or, take, drop}
use lib.Seq.{slice}
use Rattle.semantics.specs.Codes.{any_letter, unknown_letter}
use Rattle.semantics.specs.Bytes.{Bytes, same}
use Rattle.semantics.specs.Ty.{Base, t_any, t_null, t_bool, t_int, t_float, t_num, t_string, t_date, t_datetime, t_path, t_unknown, Ty, base, t_list, t_map, t_node, t_relationship, t_union, letter, among, matches, equal}
use Rattle.semantics.specs.Unify.{numbers, widening, apart, meeting}
use Rattle.semantics.proofs.Order.{letter-inj, equal-refl}
use Rattle.ty.specs.Parts.{TypeAt}
use Rattle.text.proofs.Laws.{part_slice}
use Rattle.unify.specs.Predicates.{numeric}
use Rattle.ty.specs.Read.{kind_of}
use Rattle.ty.proofs.Lines.{special, letter-away}
use Rattle.ty.proofs.KindLaws.{kind_at, two_at}
use Rattle.unify.specs.Arms.{pair_arm, arm_of}
use Rattle.unify.specs.declared.arms.Arm.{Arm}
use Rattle.unify.specs.declared.arms.Arm.TheVariants.{Left, Right, AnyUnknown, NullLeft, NullRight, Numbers, UnionLeft, UnionRight, Apart}
use Rattle.unify.specs.Letters.{arm_of_kind, arm_of_kinds, arm_of_unequal}

-- ## By letters

or-false : (b : Bool) → (b || false) ≡ b
or-false true = refl
or-false false = refl

letter-not : (k : ℕ) (b : Base) → special k ≡ true → eqb k (letter b) ≡ false
letter-not k b h = ne_eqb k (letter b) (λ e. letter-away b k h (sym e))

not-letter : (k : ℕ) (b : Base) → special k ≡ true → eqb (letter b) k ≡ false
not-letter k b h = ne_eqb (letter b) k (letter-away b k h)

matches-letter : (t : Ty) (b : Base) → matches t (b ∷ []) ≡ eqb (kind_of t) (letter b)
unfolding matches among kind_of special
matches-letter (base c) b = or-false (eqb (letter c) (letter b))
matches-letter (t_list t) b = sym (letter-not 74 b refl)
matches-letter (t_map fs) b = sym (letter-not 75 b refl)
matches-letter (t_node ls) b = sym (letter-not 76 b refl)
matches-letter (t_relationship m) b = sym (letter-not 77 b refl)
matches-letter (t_union ts) b = sym (letter-not 79 b refl)

base-number : (b : Base) → among b numbers ≡ numeric (letter b)
unfolding among numeric letter
base-number b = elim b as (λ k. among k numbers ≡ numeric (letter k)) [ t_any ↦ refl | t_null ↦ refl | t_bool ↦ refl | t_int ↦ refl | t_float ↦ refl | t_num ↦ refl | t_string ↦ refl | t_date ↦ refl | t_datetime ↦ refl | t_path ↦ refl | t_unknown ↦ refl ]

-- a base type beside another
numeric-last : (x : Bool) → (x && false) ≡ false
numeric-last true = refl
numeric-last false = refl

module _ (b : Base) (k : ℕ) (h : special k ≡ true) (n : numeric k ≡ false) where
  first-base : cond (eqb (letter b) k) (arm_of_kind k) (arm_of_kinds (letter b) k) ≡ cond (eqb k 79) UnionRight Apart
  unfolding arm_of_kinds special
  first-base = rw (not-letter k b h, n, numeric-last (numeric (letter b)), not-letter 79 b refl)

  second-base : cond (eqb k (letter b)) (arm_of_kind (letter b)) (arm_of_kinds k (letter b)) ≡ cond (eqb k 79) UnionLeft Apart
  unfolding arm_of_kinds special
  second-base = rw (letter-not k b h, n, not-letter 79 b refl)

two-bases : (b c : Base) → equal (base b) (base c) ≡ false
    → pair_arm (meeting (base b) (base c)) ≡ cond (eqb (letter b) (letter c)) (arm_of_kind (letter c)) (arm_of_kinds (letter b) (letter c))
unfolding meeting pair_arm arm_of_kinds special
two-bases b c e =
    let d : eqb (letter b) (letter c) ≡ false = ne_eqb (letter b) (letter c) (λ q. unlike (letter-inj b c q)) in
    rw (base-number b, base-number c, d, not-letter 79 b refl, not-letter 79 c refl, meeting) (go (numeric (letter b) && numeric (letter c)))
  where
    unlike : b ≡ c → ⊥
    unlike q = false≢true (sym e ∙ ap (λ (x : Base). equal (base b) (base x)) (sym q) ∙ equal-refl (base b))

    go : (x : Bool) → pair_arm (elim x [ true ↦ widening | false ↦ apart (base b) (base c) ]) ≡ cond x Numbers Apart
    go true = refl
    go false = refl

-- two types that are not equal, none Any, Unknown or Null
pair-letters : (t u : Ty) → equal t u ≡ false → pair_arm (meeting t u) ≡ cond (eqb (kind_of t) (kind_of u)) (arm_of_kind (kind_of u)) (arm_of_kinds (kind_of t) (kind_of u))
unfolding pair_arm meeting kind_of arm_of_kind arm_of_kinds numeric special
pair-letters (base b) (base c) e = two-bases b c e
pair-letters (base b) (t_list u) e = sym (first-base b 74 refl refl)
pair-letters (base b) (t_map gs) e = sym (first-base b 75 refl refl)
pair-letters (base b) (t_node ks) e = sym (first-base b 76 refl refl)
pair-letters (base b) (t_relationship n) e = sym (first-base b 77 refl refl)
pair-letters (base b) (t_union us) e = sym (first-base b 79 refl refl)
pair-letters (t_list t) (base c) e = sym (second-base c 74 refl refl)
pair-letters (t_list t) (t_list u) e = refl
pair-letters (t_list t) (t_map gs) e = refl
pair-letters (t_list t) (t_node ks) e = refl
pair-letters (t_list t) (t_relationship n) e = refl
pair-letters (t_list t) (t_union us) e = refl
pair-letters (t_map fs) (base c) e = sym (second-base c 75 refl refl)
pair-letters (t_map fs) (t_list u) e = refl
pair-letters (t_map fs) (t_map gs) e = refl
pair-letters (t_map fs) (t_node ks) e = refl
pair-letters (t_map fs) (t_relationship n) e = refl
pair-letters (t_map fs) (t_union us) e = refl
pair-letters (t_node ls) (base c) e = sym (second-base c 76 refl refl)
pair-letters (t_node ls) (t_list u) e = refl
pair-letters (t_node ls) (t_map gs) e = refl
pair-letters (t_node ls) (t_node ks) e = refl
pair-letters (t_node ls) (t_relationship n) e = refl
pair-letters (t_node ls) (t_union us) e = refl
pair-letters (t_relationship m) (base c) e = sym (second-base c 77 refl refl)
pair-letters (t_relationship m) (t_list u) e = refl
pair-letters (t_relationship m) (t_map gs) e = refl
pair-letters (t_relationship m) (t_node ks) e = refl
pair-letters (t_relationship m) (t_relationship n) e = refl
pair-letters (t_relationship m) (t_union us) e = refl
pair-letters (t_union ts) (base c) e = sym (second-base c 79 refl refl)
pair-letters (t_union ts) (t_list u) e = refl
pair-letters (t_union ts) (t_map gs) e = refl
pair-letters (t_union ts) (t_node ks) e = refl
pair-letters (t_union ts) (t_relationship n) e = refl
pair-letters (t_union ts) (t_union us) e = refl

unequal-letters : (t u : Ty) → equal t u ≡ false
    → elim (matches t (t_null ∷ [])) [ true ↦ NullLeft | false ↦ elim (matches u (t_null ∷ [])) [ true ↦ NullRight | false ↦ pair_arm (meeting t u) ] ] ≡ arm_of_unequal (kind_of t) (kind_of u)
unfolding arm_of_unequal letter
unequal-letters t u e = go (matches t (t_null ∷ [])) (matches u (t_null ∷ [])) (sym (matches-letter t t_null)) (sym (matches-letter u t_null))
  where
    go : (x y : Bool) → eqb (kind_of t) 66 ≡ x → eqb (kind_of u) 66 ≡ y → elim x [ true ↦ NullLeft | false ↦ elim y [ true ↦ NullRight | false ↦ pair_arm (meeting t u) ] ] ≡ arm_of_unequal (kind_of t) (kind_of u)
    go true y p q = rw (p, arm_of_unequal)
    go false true p q = rw (p, q, arm_of_unequal)
    go false false p q = rw (p, q, arm_of_unequal) (pair-letters t u e)

-- what the code reads
reads : {s : Bytes} {a e : ℕ} {t : Ty} → TypeAt s a e t → (b : Base) {x : Bool} → eqb (get_or s a 0) (letter b) ≡ x → matches t (b ∷ []) ≡ x
reads {s} {a} {e} {t} f b p = matches-letter t b ∙ ap (λ (k : ℕ). eqb k (letter b)) (sym (kind_at s a e t f)) ∙ p

pub type-begins : {s : Bytes} {a e : ℕ} {t : Ty} → TypeAt s a e t → a < length s
type-begins {s} {a} {e} {t} f = omega (arith, two_at s a e t f, f.inside)

module _ {s : Bytes} {a ae b be : ℕ} {t u : Ty} (f : TypeAt s a ae t) (g : TypeAt s b be u) where
  pub arm-any-first : eqb (get_or s a 0) any_letter ≡ true → Right ≡ arm_of t u
  unfolding arm_of letter
  arm-any-first p = rw (reads f t_any p, arm_of)

  pub arm-any-second : eqb (get_or s a 0) any_letter ≡ false → eqb (get_or s b 0) any_letter ≡ true → Left ≡ arm_of t u
  unfolding arm_of letter
  arm-any-second p q = rw (reads f t_any p, reads g t_any q, arm_of)

  pub arm-unknown-first : eqb (get_or s a 0) any_letter ≡ false → eqb (get_or s b 0) any_letter ≡ false → eqb (get_or s a 0) unknown_letter ≡ true → AnyUnknown ≡ arm_of t u
  unfolding arm_of letter
  arm-unknown-first p q v = rw (reads f t_any p, reads g t_any q, reads f t_unknown v, arm_of)

  pub arm-unknown-second : eqb (get_or s a 0) any_letter ≡ false → eqb (get_or s b 0) any_letter ≡ false → eqb (get_or s a 0) unknown_letter ≡ false → eqb (get_or s b 0) unknown_letter ≡ true → AnyUnknown ≡ arm_of t u
  unfolding arm_of letter
  arm-unknown-second p q v w = rw (reads f t_any p, reads g t_any q, reads f t_unknown v, reads g t_unknown w, arm_of)

  pub same_lines : same (slice a ae s) (slice b be s) ≡ equal t u
  unfolding equal
  same_lines = ap₂ same f.is g.is

  module _ (p : eqb (get_or s a 0) any_letter ≡ false) (q : eqb (get_or s b 0) any_letter ≡ false) (v : eqb (get_or s a 0) unknown_letter ≡ false) (w : eqb (get_or s b 0) unknown_letter ≡ false) (r : Bool) (x : r ≡ same (take (ae - a) (drop a s)) (take (be - b) (drop b s))) where
    alike : r ≡ same (slice a ae s) (slice b be s)
    alike = x ∙ ap₂ same (part_slice a ae s) (part_slice b be s)

    pub arm-equal : r ≡ true → Left ≡ arm_of t u
    unfolding arm_of letter
    arm-equal e = let z : equal t u ≡ true = sym same_lines ∙ sym alike ∙ e in rw (reads f t_any p, reads g t_any q, reads f t_unknown v, reads g t_unknown w, z, arm_of)

    pub arm-unequal : r ≡ false → (n : Arm) → n ≡ arm_of_unequal (get_or s a 0) (get_or s b 0) → n ≡ arm_of t u
    unfolding arm_of letter
    arm-unequal e n h =
        let z : equal t u ≡ false = sym same_lines ∙ sym alike ∙ e in
        let k : n ≡ arm_of_unequal (kind_of t) (kind_of u) = h ∙ ap₂ arm_of_unequal (kind_at s a ae t f) (kind_at s b be u g) in
        rw (reads f t_any p, reads g t_any q, reads f t_unknown v, reads g t_unknown w, z, arm_of) (k ∙ sym (unequal-letters t u z))
