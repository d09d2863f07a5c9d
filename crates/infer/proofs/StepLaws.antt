-- What is kept by a rule and a role. Assumes nothing.
use mathlib.Core.Path.{◌≡◌, refl, sym, ◌∙◌, ap}
use mathlib.Core.List.{[], map}
use mathlib.Core.Option.{Option, none, some}
use mathlib.Core.Logic.{◌⊎◌, inl, inr}
use mathlib.Core.Bool.{Bool, true, false}
use Rattle.std.specs.declared.option.Option.{Option as Optional}
use Rattle.std.specs.declared.option.Option.TheVariants.{Some, None}
use Prim.Native.Nat.{ℕ, ◌+◌, ◌<◌}
use native.Mathlib.Omega.{arith}
use lib.ListN.{length, get_or}
use lib.Seq.{length-sets}
use Rattle.semantics.specs.Bytes.{Bytes, hex}
use Rattle.semantics.specs.Ty.{Ty, t_any, base, ∅ᶠ}
use Rattle.semantics.specs.Sheet.{Role, plain, condition, inner, answer, Typing, constant, var_type, element, slice as slicing, listing, mapping, calling, operator, unary, casing, membership, comprehension}
use Rattle.semantics.specs.Walk.{asked, require, a_bool}
use Rattle.ty.specs.Read.{kind_of}
use Rattle.ty.proofs.KindLaws.{two_at, kind_at}
use Rattle.walk_run.specs.Run.{Kept, empty, over, kept, both, items, last, entries, arms, start, keep_first, keep_item, keep_entry, child}
use Rattle.report.specs.Report.{Adds}
use Rattle.report.specs.declared.Report.{Report}
use Rattle.report.proofs.ReportLaws.{adds_none}
use Rattle.exprs.specs.State.{StAs, FineKept, ChildAt, LastChild, FirstForm, Keeps, SomeItem, ItemKept, SomeEntry, EntryKept, SomeArm}
use Rattle.exprs.specs.declared.state.Accumulator.{Accumulator}
use Rattle.exprs.specs.declared.rule.Rule.{Rule}
use Rattle.exprs.specs.declared.rule.Rule.TheVariants.{Constant, Variable, Element, Slice, Listing, Mapping, Call, Operator, Unary, Casing, Membership, Comprehension, Silent, Entry}
use Rattle.exprs.specs.declared.role.Role.{Role as CodeRole}
use Rattle.exprs.specs.declared.role.Role.TheVariants.{Plain, Condition, Answer}
use Rattle.exprs.proofs.FineLaws.{FineSome, start_fine, child-fine, child-last}
use Rattle.exprs.specs.Rules.{typing_rule, child_role, TwoKept, AnswerKept}
use Rattle.infer.specs.Steps.{AskedBy, Items, Lasts, Entries, RoomIn, StepAt, SomeStep, KeptBy, Steps}

-- ## Rules

-- how a rule types; of a constant with some type, and of a line that has none by no rule that is used
abbrev pub typing_of : Rule → Typing
typing_of Constant = constant (base t_any)
typing_of Variable = var_type
typing_of Element = element
typing_of Slice = slicing
typing_of Listing = listing
typing_of Mapping = mapping
typing_of Call = calling
typing_of Operator = operator
typing_of Unary = unary
typing_of Casing = casing
typing_of Membership = membership
typing_of Comprehension = comprehension
typing_of Silent = var_type
typing_of Entry = var_type

typing-is : (q : Typing) → (typing_rule q ≡ Constant → ⊥) → q ≡ typing_of (typing_rule q)
unfolding typing_rule
typing-is (constant t) h = absurd (h refl)
typing-is var_type h = refl
typing-is element h = refl
typing-is slicing h = refl
typing-is listing h = refl
typing-is mapping h = refl
typing-is calling h = refl
typing-is operator h = refl
typing-is unary h = refl
typing-is casing h = refl
typing-is membership h = refl
typing-is comprehension h = refl

pub typing-at : (q : Typing) (i n : Rule) → i ≡ typing_rule q → i ≡ n → (n ≡ Constant → ⊥) → q ≡ typing_of n
typing-at q i n e f h = typing-is q (λ z. h (sym f ∙ (e ∙ z))) ∙ ap typing_of (sym e ∙ f)

-- ## Before the first child

module _ {s : Bytes} {r : Accumulator} (q : Typing) (i : Rule) (e : i ≡ typing_rule q) where
  started : (k : Kept) → start q ≡ k → StAs k s r → StAs (start q) s r × FineKept (start q)
  started k z a = (rw z a, start_fine q)

  pub start-list : i ≡ Listing → StAs (items none) s r → StAs (start q) s r × FineKept (start q)
  unfolding start
  start-list f a = started (items none) (rw (typing-at q i Listing e f (λ z. cc))) a

  pub start-map : i ≡ Mapping → StAs (entries ∅ᶠ) s r → StAs (start q) s r × FineKept (start q)
  unfolding start
  start-map f a = started (entries ∅ᶠ) (rw (typing-at q i Mapping e f (λ z. cc))) a

  pub start-arms : i ≡ Casing → StAs (arms []) s r → StAs (start q) s r × FineKept (start q)
  unfolding start
  start-arms f a = started (arms []) (rw (typing-at q i Casing e f (λ z. cc))) a

  pub start-last : i ≡ Comprehension → StAs (last none) s r → StAs (start q) s r × FineKept (start q)
  unfolding start
  start-last f a = started (last none) (rw (typing-at q i Comprehension e f (λ z. cc))) a

nothing-first : (q : Typing) (i : Rule) → i ≡ typing_rule q → (i ≡ Listing → ⊥) → (i ≡ Mapping → ⊥) → (i ≡ Casing → ⊥) → (i ≡ Comprehension → ⊥) → start q ≡ empty
unfolding start typing_rule
nothing-first (constant t) i e a b c d = refl
nothing-first var_type i e a b c d = refl
nothing-first element i e a b c d = refl
nothing-first slicing i e a b c d = refl
nothing-first listing i e a b c d = absurd (a e)
nothing-first mapping i e a b c d = absurd (b e)
nothing-first calling i e a b c d = refl
nothing-first operator i e a b c d = refl
nothing-first unary i e a b c d = refl
nothing-first casing i e a b c d = absurd (c e)
nothing-first membership i e a b c d = refl
nothing-first comprehension i e a b c d = absurd (d e)

pub start-empty : {s : Bytes} {r : Accumulator} (q : Typing) (i : Rule) → i ≡ typing_rule q → (i ≡ Listing → ⊥) → (i ≡ Mapping → ⊥) → (i ≡ Casing → ⊥) → (i ≡ Comprehension → ⊥) → StAs empty s r → StAs (start q) s r × FineKept (start q)
start-empty q i e a b c d z = (rw (nothing-first q i e a b c d) z, start_fine q)

-- ## What is kept, by the rule

-- the first child's type stays
abbrev FirstKept : Accumulator → ℕ → Accumulator → Type 0
FirstKept st n b = (s : Bytes) (k : Kept) (t : Ty) → FirstForm k → ChildAt k t s st n → StAs (keep_first k t) s b

-- rules that keep something of a child
abbrev has_children : Rule → Bool
has_children Constant = false
has_children Variable = false
has_children Silent = false
has_children Entry = false
has_children _ = true

module _ {i : Rule} {r : CodeRole} {s : Bytes} {st : Accumulator} {n : ℕ} {x : Bytes} where
  -- the rule is that of q'
  keeps-by : {s' : Bytes} {a : Optional Accumulator} (q' : Typing) → ((q : Typing) → i ≡ typing_rule q → q ≡ q')
      → ((p : Role) (k : Kept) (t : Ty) (m : Bytes) → r ≡ child_role p → StepAt q' p k t m s st n x → Keeps (child q' p k m t) s s' a) → KeptBy i r s s' st n x a
  keeps-by q' u f q p k t m g h d = rw (u q g) (f p k t m h (rw (u q g) at d))

  keep-element : {b : Accumulator} → i ≡ Element → FirstKept st n b → KeptBy i r s s st n x (Some b)
  unfolding child
  keep-element e f = keeps-by element (λ q g. typing-at q i Element g e (λ z. cc)) (λ p k t m h d. record { kept = f s k t d.before d.at; long = refl })

  keep-slice : {b : Accumulator} → i ≡ Slice → FirstKept st n b → KeptBy i r s s st n x (Some b)
  unfolding child
  keep-slice e f = keeps-by slicing (λ q g. typing-at q i Slice g e (λ z. cc)) (λ p k t m h d. record { kept = f s k t d.before d.at; long = refl })

  keep-call : {b : Accumulator} → i ≡ Call → FirstKept st n b → KeptBy i r s s st n x (Some b)
  unfolding child
  keep-call e f = keeps-by calling (λ q g. typing-at q i Call g e (λ z. cc)) (λ p k t m h d. record { kept = f s k t d.before d.at; long = refl })

  keep-unary : {b : Accumulator} → i ≡ Unary → FirstKept st n b → KeptBy i r s s st n x (Some b)
  unfolding child
  keep-unary e f = keeps-by unary (λ q g. typing-at q i Unary g e (λ z. cc)) (λ p k t m h d. record { kept = f s k t d.before d.at; long = refl })

  keep-operator : {b : Accumulator} → i ≡ Operator → TwoKept st n b → KeptBy i r s s st n x (Some b)
  unfolding child
  keep-operator e f = keeps-by operator (λ q g. typing-at q i Operator g e (λ z. cc)) (λ p k t m h d. record { kept = f s k t d.before d.at; long = refl })

  keep-membership : {b : Accumulator} → i ≡ Membership → TwoKept st n b → KeptBy i r s s st n x (Some b)
  unfolding child
  keep-membership e f = keeps-by membership (λ q g. typing-at q i Membership g e (λ z. cc)) (λ p k t m h d. record { kept = f s k t d.before d.at; long = refl })

  pub keep-last : {b : Accumulator} → i ≡ Comprehension → ((s : Bytes) (t : Ty) → LastChild t s st n → StAs (last (some t)) s b) → KeptBy i r s s st n x (Some b)
  unfolding child
  keep-last e f = keeps-by comprehension (λ q g. typing-at q i Comprehension g e (λ z. cc)) (λ p k t m h d. record { kept = f s t (go k t d.before d.at); long = refl })
    where
      go : (k : Kept) (t : Ty) → Lasts k → ChildAt k t s st n → LastChild t s st n
      go empty t g c = absurd g
      go over t g c = absurd g
      go (kept u) t g c = absurd g
      go (both u v) t g c = absurd g
      go (items e) t g c = absurd g
      go (last e) t g c = child-last c
      go (entries fs) t g c = absurd g
      go (arms ms) t g c = absurd g

  pub keep-answer : {s' : Bytes} {b : Accumulator} → i ≡ Casing → AnswerKept r s s' st n b → KeptBy i r s s' st n x (Some b)
  unfolding child
  keep-answer e a = keeps-by casing (λ q g. typing-at q i Casing g e (λ z. cc)) (λ p k t m h d. record { kept = a.kept p k t h d.before d.at; long = a.long })

  pub keep-item : {s' : Bytes} {a : Optional Accumulator} → i ≡ Listing → ItemKept s s' st n a → KeptBy i r s s' st n x a
  unfolding child
  keep-item {s'} {a} e f = keeps-by listing (λ q g. typing-at q i Listing g e (λ z. cc)) (λ p k t m h d. go k t d.before d.at)
    where
      go : (k : Kept) (t : Ty) → Items k → ChildAt k t s st n → Keeps (keep_item k t) s s' a
      go empty t g c = absurd g
      go over t g c = absurd g
      go (kept u) t g c = absurd g
      go (both u v) t g c = absurd g
      go (items e) t g c = f e t c
      go (last e) t g c = absurd g
      go (entries fs) t g c = absurd g
      go (arms ms) t g c = absurd g

  pub keep-entry : {s' : Bytes} {a : Optional Accumulator} → i ≡ Mapping → EntryKept s s' st n x a → KeptBy i r s s' st n x a
  unfolding child
  keep-entry {s'} {a} e f = keeps-by mapping (λ q g. typing-at q i Mapping g e (λ z. cc)) (λ p k t m h d. go k t m d.before d.at d.spelt)
    where
      go : (k : Kept) (t : Ty) (m : Bytes) → Entries k → ChildAt k t s st n → x ≡ map hex m → Keeps (keep_entry k m t) s s' a
      go empty t m g c z = absurd g
      go over t m g c z = absurd g
      go (kept u) t m g c z = absurd g
      go (both u v) t m g c z = absurd g
      go (items e) t m g c z = absurd g
      go (last e) t m g c z = absurd g
      go (entries fs) t m g c z = f fs t m c z
      go (arms ms) t m g c z = absurd g

  pub keeps-first : {b : Accumulator} → (i ≡ Element) ⊎ ((i ≡ Slice) ⊎ ((i ≡ Call) ⊎ (i ≡ Unary))) → FirstKept st n b → KeptBy i r s s st n x (Some b)
  keeps-first (inl e) f = keep-element e f
  keeps-first (inr (inl e)) f = keep-slice e f
  keeps-first (inr (inr (inl e))) f = keep-call e f
  keeps-first (inr (inr (inr e))) f = keep-unary e f

  pub keeps-two : {b : Accumulator} → (i ≡ Operator) ⊎ (i ≡ Membership) → TwoKept st n b → KeptBy i r s s st n x (Some b)
  keeps-two (inl e) f = keep-operator e f
  keeps-two (inr e) f = keep-membership e f

  pub keep-none : (i ≡ Constant) ⊎ ((i ≡ Variable) ⊎ ((i ≡ Silent) ⊎ (i ≡ Entry))) → KeptBy i r s s st n x (Some st)
  unfolding child typing_rule
  keep-none u q p k t m g h d = go q g d
    where
      childless : (i ≡ Constant) ⊎ ((i ≡ Variable) ⊎ ((i ≡ Silent) ⊎ (i ≡ Entry))) → has_children i ≡ false
      childless (inl e) = ap has_children e
      childless (inr (inl e)) = ap has_children e
      childless (inr (inr (inl e))) = ap has_children e
      childless (inr (inr (inr e))) = ap has_children e

      no : has_children i ≡ true → ⊥
      no z = let f = childless u in cc

      go : (q : Typing) → i ≡ typing_rule q → StepAt q p k t m s st n x → Keeps (child q p k m t) s s (Some st)
      go (constant t) g d = record { kept = d.at.state; long = refl }
      go var_type g d = record { kept = d.at.state; long = refl }
      go element g d = absurd (no (ap has_children g))
      go slicing g d = absurd (no (ap has_children g))
      go listing g d = absurd (no (ap has_children g))
      go mapping g d = absurd (no (ap has_children g))
      go calling g d = absurd (no (ap has_children g))
      go operator g d = absurd (no (ap has_children g))
      go unary g d = absurd (no (ap has_children g))
      go casing g d = absurd (no (ap has_children g))
      go membership g d = absurd (no (ap has_children g))
      go comprehension g d = absurd (no (ap has_children g))

  -- ## What the calls ask for

  pub item_in : i ≡ Listing → SomeStep i r s st n x → SomeItem s st n
  item_in e d = go d.kept z.before z.at z.room
    where
      z : StepAt listing d.role d.kept d.ty d.name s st n x
      z = rw (typing-at d.typing i Listing d.rule_is e (λ z. cc)) at d.at

      go : (k : Kept) → Items k → ChildAt k d.ty s st n → RoomIn k d.ty s (st.len + n) → SomeItem s st n
      go empty g c w = absurd g
      go over g c w = absurd g
      go (kept u) g c w = absurd g
      go (both u v) g c w = absurd g
      go (items e) g c w = record { before = e; ty = d.ty; at = c; room = w; wide = z.wide }
      go (last e) g c w = absurd g
      go (entries fs) g c w = absurd g
      go (arms ms) g c w = absurd g

  pub entry_in : i ≡ Mapping → SomeStep i r s st n x → SomeEntry s st n x
  entry_in e d = go d.kept z.before z.at
    where
      z : StepAt mapping d.role d.kept d.ty d.name s st n x
      z = rw (typing-at d.typing i Mapping d.rule_is e (λ z. cc)) at d.at

      go : (k : Kept) → Entries k → ChildAt k d.ty s st n → SomeEntry s st n x
      go empty g c = absurd g
      go over g c = absurd g
      go (kept u) g c = absurd g
      go (both u v) g c = absurd g
      go (items e) g c = absurd g
      go (last e) g c = absurd g
      go (entries fs) g c = record { before = fs; ty = d.ty; name = d.name; at = c; spelt = z.spelt; wide = z.wide }
      go (arms ms) g c = absurd g

  pub arm_in : i ≡ Casing → SomeStep i r s st n x → SomeArm s st n
  arm_in e d = record { before = d.kept; ty = d.ty; form = z.before; at = z.at }
    where
      z : StepAt casing d.role d.kept d.ty d.name s st n x
      z = rw (typing-at d.typing i Casing d.rule_is e (λ z. cc)) at d.at

-- ## What a child's type is asked for

pub ask-bool : {i : CodeRole} {kind : ℕ} {y z : Report} → i ≡ Condition → ((t : Ty) → kind_of t ≡ kind → Adds (require a_bool t) y z) → AskedBy i kind y z
unfolding child_role asked
ask-bool e f plain t g h = cc
ask-bool e f condition t g h = f t h
ask-bool e f answer t g h = cc
ask-bool e f (inner q) t g h = cc

pub ask-none : {i : CodeRole} {kind : ℕ} {y : Report} → (i ≡ Plain) ⊎ (i ≡ Answer) → AskedBy i kind y y
unfolding child_role asked
ask-none e plain t g h = adds_none
ask-none (inl e) condition t g h = cc
ask-none (inr e) condition t g h = cc
ask-none e answer t g h = adds_none
ask-none e (inner q) t g h = adds_none

-- ## After a child

pub child-first : {i : Rule} {r : CodeRole} {s : Bytes} {st : Accumulator} {n : ℕ} {x : Bytes} → SomeStep i r s st n x → st.len < length s
child-first d = let c = d.at.at.child in omega (arith, two_at _ _ _ _ c, c.inside)

module _ {i : Rule} {r : CodeRole} {s s' : Bytes} {st : Accumulator} {n : ℕ} {x : Bytes} {y z : Report} {a : Optional Accumulator} (f : KeptBy i r s s' st n x a) (g : AskedBy r (get_or s st.len 0) y z)
    (q : Typing) (p : Role) (k : Kept) (t : Ty) (m : Bytes) (e : i ≡ typing_rule q) (h : r ≡ child_role p) (d : StepAt q p k t m s st n x) where
  adds : Adds (asked p t) y z
  adds = g p t h (sym (kind_at _ _ _ _ d.at.child))

  as_long : length z.writer.now.out.now ≡ length y.writer.now.out.now
  as_long = ap length adds.text ∙ simp length-sets

  pub step-by : Steps (child q p k m t) p t s s' y z a
  step-by = go (child q p k m t) a (f q p k t m e h d) (child-fine q p k m t d.at.fine d.at.good)
    where
      go : (o : Option Kept) (a : Optional Accumulator) → Keeps o s s' a → FineSome o → Steps o p t s s' y z a
      go none (Some b) v u = absurd v.kept
      go none None v u = record { answer = tt; long = v.long; as_long = as_long }
      go (some j) (Some b) v u = record { answer = (v.kept, u, adds); long = v.long; as_long = as_long }
      go (some j) None v u = absurd v.kept
