-- The children of a line are two groups: a case for each shape. Assumes nothing.
use mathlib.Core.Path.{◌≡◌, refl, sym, ◌∙◌, ap}
use mathlib.Core.List.{List, [], ◌∷◌, ◌++◌, map, append-nil}
use mathlib.Core.Bool.{Bool, true, false, cond, ◌&&◌}
use Prim.Native.Nat.{ℕ, suc, zero, ◌+◌, ◌*◌, ◌/◌, ◌%◌, ◌≤◌}
use native.Mathlib.Omega.{arith}
use lib.Dec.{eqb, leb}
use borrow.Author.Tests.{leb-true}
use lib.ListN.{get_or, replicate}
use lib.Count.{ones}
use Rattle.semantics.specs.Sheet.{kids, Word, Shape, nothing, one, two, bounds, arms, times, times_then, around, one_then, one_times, Field, Place, expression_place, Role, plain, condition, answer, inner, low, high, present, arm_roles, Want, at, wanted, row}
use Rattle.semantics.proofs.Words.{holds}
use Rattle.line.specs.Fields.{number_at}
use Rattle.line.specs.Line.{most, flag_at, count_at}
use Rattle.hir.specs.Kids.{role_place, bits, two_groups, kid_wants}

module _ (d n m : ℕ) (a b : Want) where
  none-kids : n ≡ 0 → m ≡ 0 → [] ≡ two_groups n a m b
  none-kids e f = rw (e, f)

  one-kid : n ≡ 1 → m ≡ 0 → a ∷ [] ≡ two_groups n a m b
  one-kid e f = rw (e, f)

  two-kids : n ≡ 2 → m ≡ 0 → a ∷ a ∷ [] ≡ two_groups n a m b
  two-kids e f = rw (e, f)

map-replicate : (f : Role → Want) (k : ℕ) (p : Role) → map f (replicate k p) ≡ replicate k (f p)
map-replicate f zero p = refl
map-replicate f (suc k) p = ap (λ (l : List Want). f p ∷ l) (map-replicate f k p)

map-append : (f : Role → Want) (a b : List Role) → map f (a ++ b) ≡ map f a ++ map f b
map-append f [] b = refl
map-append f (x ∷ a) b = ap (λ (l : List Want). f x ∷ l) (map-append f a b)

many-kids : (d k : ℕ) (p : Role) (n m : ℕ) (b : Want) → n ≡ k → m ≡ 0 → map (wanted d) (replicate k p) ≡ two_groups n (wanted d p) m b
many-kids d k p n m b e f = rw (e, f) (map-replicate (wanted d) k p ∙ sym (append-nil (replicate k (wanted d p))))

bit-kids : (d t : ℕ) (p : Role) → t ≤ 1 → map (wanted d) (present t p []) ≡ replicate t (wanted d p)
bit-kids d zero p h = refl
bit-kids d (suc zero) p h = refl
bit-kids d (suc (suc t)) p h = absurd (omega arith)

then-kids : (d k t : ℕ) (p : Role) (n m : ℕ) → t ≤ 1 → n ≡ k → m ≡ t → map (wanted d) (replicate k p ++ present t plain []) ≡ two_groups n (wanted d p) m (at expression_place d)
then-kids d k t p n m h e f = rw (e, f) (map-append (wanted d) (replicate k p) (present t plain []) ∙ rw (map-replicate (wanted d) k p, bit-kids d t plain h))

slice-kids : (d f n m : ℕ) (b : Want) → f ≤ 3 → n ≡ 1 + (f % 2 + f / 2) → m ≡ 0
    → map (wanted d) (plain ∷ present (low f) plain (present (high f) plain [])) ≡ two_groups n (at expression_place d) m b
slice-kids d zero n m b h e g = rw (e, g)
slice-kids d (suc zero) n m b h e g = rw (e, g)
slice-kids d (suc (suc zero)) n m b h e g = rw (e, g)
slice-kids d (suc (suc (suc zero))) n m b h e g = rw (e, g)
slice-kids d (suc (suc (suc (suc f)))) n m b h e g = absurd (omega arith)

arm-kids : (d k : ℕ) (c : Role) (r : List Role) → wanted d c ≡ at expression_place d → map (wanted d) (arm_roles c k r) ≡ replicate (2 * k) (at expression_place d) ++ map (wanted d) r
unfolding arm_roles
arm-kids d zero c r e = refl
arm-kids d (suc k) c r e =
    let z : 2 * suc k ≡ suc (suc (2 * k)) = omega arith in
    rw (z, e) (ap (λ (l : List Want). at expression_place d ∷ at expression_place d ∷ l) (arm-kids d k c r e))

either-plain : (d : ℕ) (t : Bool) → wanted d (cond t condition plain) ≡ at expression_place d
either-plain d true = refl
either-plain d false = refl

replicate-add : (k j : ℕ) (w : Want) → replicate k w ++ replicate j w ≡ replicate (k + j) w
replicate-add zero j w = let z : 0 + j ≡ j = omega arith in rw z
replicate-add (suc k) j w = let z : suc k + j ≡ suc (k + j) = omega arith in rw z (ap (λ (l : List Want). w ∷ l) (replicate-add k j w))

bits-kids : (d f k : ℕ) (c : Role) → wanted d c ≡ at expression_place d → f ≤ 3
    → map (wanted d) (present (low f) plain (arm_roles c k (present (high f) answer []))) ≡ replicate (2 * k + (f % 2 + f / 2)) (at expression_place d)
bits-kids d zero k c e h = arm-kids d k c [] e ∙ replicate-add (2 * k) 0 (at expression_place d)
bits-kids d (suc zero) k c e h =
    let z : 2 * k + 1 ≡ suc (2 * k + 0) = omega arith in
    rw z (ap (λ (l : List Want). at expression_place d ∷ l) (arm-kids d k c [] e ∙ replicate-add (2 * k) 0 (at expression_place d)))
bits-kids d (suc (suc zero)) k c e h = arm-kids d k c (answer ∷ []) e ∙ replicate-add (2 * k) 1 (at expression_place d)
bits-kids d (suc (suc (suc zero))) k c e h =
    let z : 2 * k + 2 ≡ suc (2 * k + 1) = omega arith in
    rw z (ap (λ (l : List Want). at expression_place d ∷ l) (arm-kids d k c (answer ∷ []) e ∙ replicate-add (2 * k) 1 (at expression_place d)))
bits-kids d (suc (suc (suc (suc f)))) k c e h = absurd (omega arith)

case-kids : (d f k n m : ℕ) (b : Want) → f ≤ 3 → n ≡ 2 * k + (f % 2 + f / 2) → m ≡ 0
    → map (wanted d) (present (low f) plain (arm_roles (cond (eqb (low f) 0) condition plain) k (present (high f) answer []))) ≡ two_groups n (at expression_place d) m b
case-kids d f k n m b h e g = rw (e, g) (bits-kids d f k (cond (eqb (low f) 0) condition plain) (either-plain d (eqb (low f) 0)) h ∙ sym (append-nil (replicate (2 * k + (f % 2 + f / 2)) (at expression_place d))))

around-kids : (d t n m : ℕ) (b : Want) → t ≤ 1 → n ≡ 2 + t → m ≡ 0 → map (wanted d) (plain ∷ present t condition (plain ∷ [])) ≡ two_groups n (at expression_place d) m b
around-kids d zero n m b h e g = rw (e, g)
around-kids d (suc zero) n m b h e g = rw (e, g)
around-kids d (suc (suc t)) n m b h e g = absurd (omega arith)

pattern-kids : (q : Place) (d t n m : ℕ) → t ≤ 1 → n ≡ 1 → m ≡ 1 + t → map (wanted d) (inner q ∷ present t condition (plain ∷ [])) ≡ two_groups n (at q d) m (at expression_place d)
pattern-kids q d zero n m h e g = rw (e, g)
pattern-kids q d (suc zero) n m h e g = rw (e, g)
pattern-kids q d (suc (suc t)) n m h e g = absurd (omega arith)

predicate-kids : (d t n m : ℕ) (b : Want) → t ≤ 1 → n ≡ 1 + t → m ≡ 0 → map (wanted d) (plain ∷ present t plain []) ≡ two_groups n (at expression_place d) m b
predicate-kids d zero n m b h e g = rw (e, g)
predicate-kids d (suc zero) n m b h e g = rw (e, g)
predicate-kids d (suc (suc t)) n m b h e g = absurd (omega arith)

projected-kids : (d k : ℕ) (p : Role) (n m : ℕ) → n ≡ 1 → m ≡ k → map (wanted d) (plain ∷ replicate k p) ≡ two_groups n (at expression_place d) m (wanted d p)
projected-kids d k p n m e g = rw (e, g) (ap (λ (l : List Want). at expression_place d ∷ l) (map-replicate (wanted d) k p))

-- a flag number has as many bits as the code counts
pub ones-bits : (f : ℕ) → f ≤ 3 → ones f ≡ bits f
unfolding ones
ones-bits zero h = refl
ones-bits (suc zero) h = refl
ones-bits (suc (suc zero)) h = refl
ones-bits (suc (suc (suc zero))) h = refl
ones-bits (suc (suc (suc (suc f)))) h = absurd (omega arith)

-- ## By shapes

wanted-at : (d : ℕ) (p : Role) → wanted d p ≡ at (role_place p) d
wanted-at d plain = refl
wanted-at d condition = refl
wanted-at d answer = refl
wanted-at d (inner q) = refl

-- the bits of a shape are bits
ok_bits : Shape → List Field → Bool
ok_bits nothing fs = true
ok_bits two fs = true
ok_bits bounds fs = leb (most fs 0) 3
ok_bits arms fs = leb (most fs 0) 3
ok_bits (one p) fs = true
ok_bits (times i p) fs = true
ok_bits (times_then i p j) fs = leb (most fs j) 1
ok_bits (around p j) fs = leb (most fs j) 1
ok_bits (one_then j) fs = leb (most fs j) 1
ok_bits (one_times i p) fs = true

pub both : (a b : Bool) → a && b ≡ true → (a ≡ true) × (b ≡ true)
both true b e = (refl, e)
both false b e = absurd (let z : ◌≡◌ {A = ℕ} 0 1 = cc in omega arith)

shape-kids : (ns : List ℕ) (fs : List Field) → ((i : ℕ) → get_or ns i 0 ≤ most fs i) → (s : Shape) → ok_bits s fs ≡ true → (d : ℕ)
    → map (wanted d) (kids s ns) ≡ kid_wants s (number_at ns (count_at s)) (number_at ns (flag_at s)) d
unfolding ok_bits kid_wants
shape-kids ns fs h nothing o d = refl
shape-kids ns fs h two o d = refl
shape-kids ns fs h bounds o d = slice-kids d (get_or ns 0 0) _ 0 (at expression_place d) (omega (arith, h 0, leb-true (most fs 0) 3 o)) refl refl
shape-kids ns fs h arms o d = case-kids d (get_or ns 0 0) (get_or ns 1 0) _ 0 (at expression_place d) (omega (arith, h 0, leb-true (most fs 0) 3 o)) refl refl
shape-kids ns fs h (one p) o d = ap (λ (w : Want). w ∷ []) (wanted-at d p)
shape-kids ns fs h (times i p) o d = many-kids d (get_or ns i 0) p _ 0 (at expression_place d) refl refl ∙ ap (λ (w : Want). two_groups (get_or ns i 0) w 0 (at expression_place d)) (wanted-at d p)
shape-kids ns fs h (times_then i p j) o d =
    let small : get_or ns j 0 ≤ 1 = omega (arith, h j, leb-true (most fs j) 1 o) in
    then-kids d (get_or ns i 0) (get_or ns j 0) p (get_or ns i 0) (get_or ns j 0 % 2 + get_or ns j 0 / 2) small refl (omega arith)
    ∙ ap (λ (w : Want). two_groups (get_or ns i 0) w (get_or ns j 0 % 2 + get_or ns j 0 / 2) (at expression_place d)) (wanted-at d p)
shape-kids ns fs h (around p j) o d = go p
  where
    small : get_or ns j 0 ≤ 1
    small = omega (arith, h j, leb-true (most fs j) 1 o)

    go : (p : Role) → map (wanted d) (kids (around p j) ns) ≡ kid_wants (around p j) (number_at ns (count_at (around p j))) (number_at ns (flag_at (around p j))) d
    go plain = around-kids d (get_or ns j 0) (2 + (get_or ns j 0 % 2 + get_or ns j 0 / 2)) 0 (at expression_place d) small (omega (arith, small)) refl
    go condition = around-kids d (get_or ns j 0) (2 + (get_or ns j 0 % 2 + get_or ns j 0 / 2)) 0 (at expression_place d) small (omega (arith, small)) refl
    go answer = around-kids d (get_or ns j 0) (2 + (get_or ns j 0 % 2 + get_or ns j 0 / 2)) 0 (at expression_place d) small (omega (arith, small)) refl
    go (inner q) = pattern-kids q d (get_or ns j 0) 1 (1 + (get_or ns j 0 % 2 + get_or ns j 0 / 2)) small refl (omega (arith, small))
shape-kids ns fs h (one_then j) o d =
    let small : get_or ns j 0 ≤ 1 = omega (arith, h j, leb-true (most fs j) 1 o) in
    predicate-kids d (get_or ns j 0) (1 + (get_or ns j 0 % 2 + get_or ns j 0 / 2)) 0 (at expression_place d) small (omega arith) refl
shape-kids ns fs h (one_times i p) o d =
    projected-kids d (get_or ns i 0) p 1 (get_or ns i 0) refl refl ∙ ap (λ (w : Want). two_groups 1 (at expression_place d) (get_or ns i 0) w) (wanted-at d p)

-- ## The table

bits-rule : (v : Word) → ok_bits (row v).under (row v).fields ≡ true
unfolding ok_bits most row
bits-rule v = holds (λ (v : Word). ok_bits (row v).under (row v).fields) refl v

pub kids-rule : (v : Word) (ns : List ℕ) (d : ℕ) → ((i : ℕ) → get_or ns i 0 ≤ most (row v).fields i)
    → map (wanted d) (kids (row v).under ns) ≡ kid_wants (row v).under (number_at ns (count_at (row v).under)) (number_at ns (flag_at (row v).under)) d
kids-rule v ns d h = shape-kids ns (row v).fields h (row v).under (bits-rule v) d
