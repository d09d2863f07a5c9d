-- The roles of a line's children: a computed case for each word. Assumes nothing.
use mathlib.Core.Path.{◌≡◌, refl, sym, ◌∙◌, ap}
use mathlib.Core.Logic.{◌⊎◌, inl, inr}
use mathlib.Core.List.{List, [], ◌∷◌}
use mathlib.Core.Bool.{Bool, true, false, cond}
use Prim.Native.Nat.{ℕ, suc, zero, ◌+◌, ◌-◌, ◌*◌, ◌/◌, ◌%◌, ◌≤◌, ◌<◌}
use native.Mathlib.Omega.{arith}
use lib.Dec.{eqb}
use lib.ListN.{length, get_or}
use borrow.Author.Tests.{eq-eqb, ne_eqb}
use Rattle.semantics.specs.Bytes.{Bytes}
use Rattle.semantics.specs.Sheet.{kids, Word, case_word, lcp_word, pcp_word, Head, parts_place, Role, plain, condition, answer, inner, present, arm_roles, row, roles, arity}
use Rattle.semantics.proofs.All.{all_at}
use Rattle.semantics.proofs.Words.{holds, named, each, kids-each}
use Rattle.line.specs.Fields.{number_at}
use Rattle.line.specs.Words.{word_of}
use Rattle.line.specs.Line.{most, flag_at, count_at, flag_of, count_of, HeadIs}
use Rattle.line.specs.declared.line.Head.{Head as Seen}
use Rattle.line.specs.declared.words.Word.TheVariants.{Case, Lcp, Pcp}
use Rattle.exprs.specs.declared.role.Role.{Role as CodeRole}
use Rattle.exprs.specs.declared.role.Role.TheVariants.{Plain, Condition, Answer}
use Rattle.exprs.specs.Rules.{child_role, case_row}

-- ## Words whose children have no condition and no answer

abbrev Quiet : List Role → Type 0
Quiet ps = (j : ℕ) → child_role (get_or ps j plain) ≡ Plain

quiet_role : Role → Bool
quiet_role plain = true
quiet_role condition = false
quiet_role answer = false
quiet_role (inner p) = true

quiet-plain : (p : Role) → quiet_role p ≡ true → child_role p ≡ Plain
unfolding quiet_role child_role
quiet-plain plain e = refl
quiet-plain condition e = cc
quiet-plain answer e = cc
quiet-plain (inner p) e = refl

-- a CASE or a comprehension
abbrev pub asking : Word → Bool
asking case_word = true
asking lcp_word = true
asking pcp_word = true
asking _ = false

others : (v : Word) (ns : List ℕ) → asking v ≡ false → Quiet (kids (row v).under ns)
unfolding quiet_role each row child_role
others v ns e j =
    let t : cond (asking v) true (each quiet_role (named (row v).under)) ≡ true = holds (λ (v : Word). cond (asking v) true (each quiet_role (named (row v).under))) refl v in
    all_at {P = λ (p : Role). child_role p ≡ Plain} plain refl (kids-each quiet_role quiet-plain (row v).under (ap (λ (b : Bool). cond b true (each quiet_role (named (row v).under))) (sym e) ∙ t) ns) j

module _ (s : Bytes) (h : Seen) (hd : Head) (i : HeadIs s h hd) (j : ℕ) where
  -- any other word
  pub other-role : asking (word_of h.word) ≡ false → Plain ≡ child_role (get_or (roles hd) j plain)
  unfolding roles
  other-role e = sym (others hd.word hd.nums (ap asking (sym i.word) ∙ e) j)

-- ## CASE

odd-or-even : (i : ℕ) → (i % 2 ≡ 1 → ⊥) → i % 2 ≡ 0
odd-or-even i n = omega arith

arm-answer : (c : Role) (k : ℕ) (r : List Role) (i : ℕ) → i < 2 * k → i % 2 ≡ 1 → get_or (arm_roles c k r) i plain ≡ answer
unfolding arm_roles
arm-answer c zero r i h o = absurd (omega arith)
arm-answer c (suc k) r zero h o = absurd (omega arith)
arm-answer c (suc k) r (suc zero) h o = refl
arm-answer c (suc k) r (suc (suc i)) h o = arm-answer c k r i (omega arith) (omega arith)

arm-condition : (c : Role) (k : ℕ) (r : List Role) (i : ℕ) → i < 2 * k → i % 2 ≡ 0 → get_or (arm_roles c k r) i plain ≡ c
unfolding arm_roles
arm-condition c zero r i h o = absurd (omega arith)
arm-condition c (suc k) r zero h o = refl
arm-condition c (suc k) r (suc zero) h o = absurd (omega arith)
arm-condition c (suc k) r (suc (suc i)) h o = arm-condition c k r i (omega arith) (omega arith)

last-answer : (b i : ℕ) → i < length (present b answer []) → get_or (present b answer []) i plain ≡ answer
last-answer zero i h = absurd (omega arith)
last-answer (suc b) zero h = refl
last-answer (suc b) (suc i) h = absurd (omega arith)

arm-behind : (c : Role) (k b i : ℕ) → 2 * k ≤ i → i < length (arm_roles c k (present b answer [])) → get_or (arm_roles c k (present b answer [])) i plain ≡ answer
unfolding arm_roles
arm-behind c zero b i h l = last-answer b i l
arm-behind c (suc k) b zero h l = absurd (omega arith)
arm-behind c (suc k) b (suc zero) h l = absurd (omega arith)
arm-behind c (suc k) b (suc (suc i)) h l = arm-behind c k b i (omega arith) (omega arith)

behind-bit : (b : ℕ) (ps : List Role) (i : ℕ) → b < 2 → get_or (present b plain ps) (i + b) plain ≡ get_or ps i plain
behind-bit zero ps i h = let z : i + 0 ≡ i = omega arith in rw z
behind-bit (suc zero) ps i h = let z : i + 1 ≡ suc i = omega arith in rw z
behind-bit (suc (suc b)) ps i h = absurd (omega arith)

length-bit : (b : ℕ) (ps : List Role) → b < 2 → length (present b plain ps) ≡ b + length ps
length-bit zero ps h = omega arith
length-bit (suc zero) ps h = omega arith
length-bit (suc (suc b)) ps h = absurd (omega arith)

scrutinee-bit : (b : ℕ) (ps : List Role) (j : ℕ) → j < b → b < 2 → get_or (present b plain ps) j plain ≡ plain
scrutinee-bit zero ps j h l = absurd (omega arith)
scrutinee-bit (suc zero) ps zero h l = refl
scrutinee-bit (suc zero) ps (suc j) h l = absurd (omega arith)
scrutinee-bit (suc (suc b)) ps j h l = absurd (omega arith)

-- the j-th child of a CASE: the scrutinee; else the i-th behind it
abbrev arms_of : ℕ → ℕ → List Role
arms_of f k = arm_roles (cond (eqb (f % 2) 0) condition plain) k (present (f / 2) answer [])

pub scrutinee : (f k j : ℕ) → j < f % 2 → Plain ≡ child_role (get_or (case_row f k) j plain)
unfolding case_row child_role
scrutinee f k j h = sym (ap child_role (scrutinee-bit (f % 2) (arms_of f k) j h (omega arith)))

module _ (f k j : ℕ) (fits : j < length (case_row f k)) (past : f % 2 ≤ j) where
  inside : j - f % 2 < length (arms_of f k)
  unfolding case_row
  inside = omega (arith, length-bit (f % 2) (arms_of f k) (omega arith), fits)

  there : (p : Role) → get_or (arms_of f k) (j - f % 2) plain ≡ p → child_role p ≡ child_role (get_or (case_row f k) j plain)
  unfolding case_row
  there p e =
      let z : j - f % 2 + f % 2 ≡ j = omega arith in
      sym (ap child_role (rw z at (behind-bit (f % 2) (arms_of f k) (j - f % 2) (omega arith)) ∙ e))

  pub case-last : 2 * k ≤ j - f % 2 → Answer ≡ child_role (get_or (case_row f k) j plain)
  unfolding child_role
  case-last h = there answer (arm-behind (cond (eqb (f % 2) 0) condition plain) k (f / 2) (j - f % 2) h inside)

  pub case-answer : j - f % 2 < 2 * k → (j - f % 2) % 2 ≡ 1 → Answer ≡ child_role (get_or (case_row f k) j plain)
  unfolding child_role
  case-answer h o = there answer (arm-answer (cond (eqb (f % 2) 0) condition plain) k (present (f / 2) answer []) (j - f % 2) h o)

  condition-there : j - f % 2 < 2 * k → ((j - f % 2) % 2 ≡ 1 → ⊥) → child_role (cond (eqb (f % 2) 0) condition plain) ≡ child_role (get_or (case_row f k) j plain)
  condition-there h o = there (cond (eqb (f % 2) 0) condition plain) (arm-condition (cond (eqb (f % 2) 0) condition plain) k (present (f / 2) answer []) (j - f % 2) h (odd-or-even (j - f % 2) o))

  pub case-plain : j - f % 2 < 2 * k → ((j - f % 2) % 2 ≡ 1 → ⊥) → f % 2 ≡ 1 → Plain ≡ child_role (get_or (case_row f k) j plain)
  unfolding child_role
  case-plain h o e = rw (ne_eqb (f % 2) 0 (λ z. omega arith)) at (condition-there h o)

  pub case-condition : j - f % 2 < 2 * k → ((j - f % 2) % 2 ≡ 1 → ⊥) → (f % 2 ≡ 1 → ⊥) → Condition ≡ child_role (get_or (case_row f k) j plain)
  unfolding child_role
  case-condition h o n = rw (eq-eqb (f % 2) 0 (odd-or-even f n)) at (condition-there h o)

-- ## A line that is read

case-under : (v : Word) (ns : List ℕ) → v ≡ case_word → kids (row v).under ns ≡ case_row (number_at ns (flag_at (row v).under)) (number_at ns (count_at (row v).under))
unfolding row case_row
case-under v ns e = rw e

-- a first child, one by the bit, and a last
pub around-role : (p : Role) (b j : ℕ) → child_role p ≡ Plain → b ≤ 1 → (j ≡ 0) ⊎ (b < j) → child_role (get_or (p ∷ present b condition (plain ∷ [])) j plain) ≡ Plain
unfolding child_role
around-role p b zero e h o = e
around-role p zero (suc zero) e h o = refl
around-role p zero (suc (suc j)) e h o = refl
around-role p (suc zero) (suc zero) e h (inl o) = absurd (omega arith)
around-role p (suc zero) (suc zero) e h (inr o) = absurd (omega arith)
around-role p (suc zero) (suc (suc zero)) e h o = refl
around-role p (suc zero) (suc (suc (suc j))) e h o = refl
around-role p (suc (suc b)) (suc j) e h o = absurd (omega arith)

pub around-condition : (p : Role) (b j : ℕ) → b ≤ 1 → (j ≡ 0 → ⊥) → j ≤ b → child_role (get_or (p ∷ present b condition (plain ∷ [])) j plain) ≡ Condition
unfolding child_role
around-condition p b zero h n l = absurd (n refl)
around-condition p zero (suc j) h n l = absurd (omega arith)
around-condition p (suc zero) (suc zero) h n l = refl
around-condition p (suc zero) (suc (suc j)) h n l = absurd (omega arith)
around-condition p (suc (suc b)) (suc j) h n l = absurd (omega arith)

-- of a comprehension
pub record Around (v : Word) (ns : List ℕ) : Type 0 where
  pub first : Role
  pub quiet : child_role first ≡ Plain
  pub bit : number_at ns (flag_at (row v).under) ≤ 1
  pub is : kids (row v).under ns ≡ first ∷ present (number_at ns (flag_at (row v).under)) condition (plain ∷ [])

around-of : (v : Word) (ns : List ℕ) → ((i : ℕ) → get_or ns i 0 ≤ most (row v).fields i) → (v ≡ lcp_word) ⊎ (v ≡ pcp_word) → Around v ns
unfolding row child_role most
around-of v ns r (inl e) = rw e (record { first = plain; quiet = refl; bit = rw e at r 0; is = refl })
around-of v ns r (inr e) = rw e (record { first = inner parts_place; quiet = refl; bit = rw e at r 0; is = refl })

module _ (s : Bytes) (h : Seen) (hd : Head) (i : HeadIs s h hd) where
  pub case-roles : h.word ≡ Case → roles hd ≡ case_row h.flag h.count
  unfolding roles flag_of count_of
  case-roles e = rw (i.flag, i.count) (case-under hd.word hd.nums (sym i.word ∙ ap word_of e))

  pub case-role : (j : ℕ) (r : CodeRole) → h.word ≡ Case → (j < length (case_row h.flag h.count) → r ≡ child_role (get_or (case_row h.flag h.count) j plain)) → j < arity hd → r ≡ child_role (get_or (roles hd) j plain)
  unfolding arity
  case-role j r e f l = rw (case-roles e) (f (rw (case-roles e) at l))

  pub around-is : (j : ℕ) (r : CodeRole) → (h.word ≡ Lcp) ⊎ (h.word ≡ Pcp)
      → ((p : Role) → child_role p ≡ Plain → h.flag ≤ 1 → r ≡ child_role (get_or (p ∷ present h.flag condition (plain ∷ [])) j plain)) → r ≡ child_role (get_or (roles hd) j plain)
  unfolding roles flag_of
  around-is j r o f =
      let a = around-of hd.word hd.nums i.ranged (said o) in
      rw (a.is, ← i.flag) (f a.first a.quiet (rw i.flag a.bit))
    where
      said : (h.word ≡ Lcp) ⊎ (h.word ≡ Pcp) → (hd.word ≡ lcp_word) ⊎ (hd.word ≡ pcp_word)
      said (inl e) = inl (sym i.word ∙ ap word_of e)
      said (inr e) = inr (sym i.word ∙ ap word_of e)
