-- The ends of expressions by their rules, and the types of constants. Assumes nothing.
use mathlib.Core.Path.{◌≡◌, refl, sym, ◌∙◌, ap, subst}
use mathlib.Core.List.{List, [], ◌∷◌, map}
use mathlib.Core.Option.{Option, none, some}
use mathlib.Core.Logic.{◌⊎◌, inl, inr}
use Rattle.std.specs.declared.option.Option.{Option as Optional}
use Rattle.std.specs.declared.option.Option.TheVariants.{Some}
use mathlib.Core.Bool.{Bool, true, false, ◌&&◌}
use Prim.Native.Nat.{ℕ}
use native.Mathlib.Omega.{arith}
use lib.Dec.{eqb, leb}
use lib.ListN.{length, take, length-take}
use lib.Seq.{slice}
use Rattle.semantics.specs.Bytes.{Bytes, hex, unhex, split, decimal}
use Rattle.semantics.specs.Limits.{variable_limit}
use Rattle.semantics.specs.Ty.{t_any, Ty, base, t_list, t_map, Fields, ∅ᶠ, line}
use Rattle.semantics.specs.Builtins.{lookup, element_of, list_or}
use Rattle.semantics.specs.Sheet.{Word, var_word, Head, variable, variable_of, Typing, constant, var_type, element, slice as slicing, listing, mapping, calling, operator, unary, casing, membership, comprehension, typed, row, wrong, variable_v, into, within, value, Read, bad, ok, fill, bare, word_in, words}
use Rattle.semantics.specs.Walk.{Env, kind_type, var_type_of, op, unary_type, unary_faults, call_type, call_faults}
use Rattle.semantics.proofs.Named.{Maybe, Digits}
use Rattle.semantics.proofs.Reader.{unhex-sound}
use Rattle.text.specs.Text.{digit_of}
use Rattle.text.proofs.Words.{values-unhex}
use Rattle.semantics.proofs.Words.{every-where}
use Rattle.line.specs.Words.{word_of}
use Rattle.line.specs.Line.{Plain, unknown, known, word_says, pieces_say, line_says}
use Rattle.line.specs.declared.line.Head.{Head as Seen}
use Rattle.hir.specs.Lines.{LineAt}
use Rattle.hir.specs.Bind.{BindsAt}
use Rattle.hir.specs.Bind.{kind_of as bind_kind}
use Rattle.ty.specs.Parts.{TypeAt}
use Rattle.builtins.specs.Rows.{Returned}
use Rattle.report.specs.declared.Report.{Report}
use Rattle.report.proofs.ReportLaws.{adds_none}
use Rattle.walk_run.specs.Run.{Kept, empty, over, kept, both, items, last, entries, arms, Told, told, first_of, second_of, args_of, end_op, end_in, end_list, end_map, end_case, end_last, end}
use Rattle.exprs.specs.State.{text_of, place, ArmForm}
use Rattle.exprs.specs.declared.state.Accumulator.{Accumulator}
use Rattle.exprs.specs.End.{Ends, Countable, KeptAt, TwoAt, SomeTwo, SomeOne, arg_kept, SomeArg, SomeItems, SomeArms, SomeLast}
use Rattle.exprs.specs.declared.rule.Rule.{Rule}
use Rattle.exprs.specs.declared.rule.Rule.TheVariants.{Constant, Variable, Element, Slice, Listing, Mapping, Call, Operator, Unary, Casing, Membership, Comprehension, Silent, Entry}
use Rattle.exprs.specs.Rules.{typing_rule, line_rule, ConstantBy}
use Rattle.infer.specs.Steps.{AtMostOne, One, Two, Items, LastOne, Entries, EnvAs, EndAt, SomeEnd, EndedBy, QuietBy}
use Rattle.infer.specs.declared.step.Env.{Env as Binds}
use Rattle.infer.proofs.StepLaws.{typing_of, typing-at}

-- ## Names

-- the digits of a name that is read spell it
pub name-spelt : (s n : Bytes) → unhex s ≡ some n → s ≡ map hex n
name-spelt s n e = sym (subst (Maybe (λ (m : Bytes). (map hex m ≡ s) × Digits m)) e (unhex-sound s)).0

-- ## Variables

-- only `var` is a variable
abbrev is_variable : Rule → Bool
is_variable Variable = true
is_variable _ = false

var-word : (v : Word) → line_rule (row v).rule ≡ Variable → v ≡ var_word
unfolding row line_rule typing_rule
var-word v e = every-where (λ (v : Word). is_variable (line_rule (row v).rule)) (λ (v : Word). v) var_word refl v (ap is_variable e)

-- ## What is kept, by its form

one-is : (k : Kept) → One k → k ≡ kept (first_of k)
one-is empty w = absurd w
one-is over w = absurd w
one-is (kept u) w = refl
one-is (both u v) w = absurd w
one-is (items e) w = absurd w
one-is (last e) w = absurd w
one-is (entries fs) w = absurd w
one-is (arms ms) w = absurd w

two_is : (k : Kept) → Two k → k ≡ both (first_of k) (second_of k)
two_is empty w = absurd w
two_is over w = absurd w
two_is (kept u) w = absurd w
two_is (both u v) w = refl
two_is (items e) w = absurd w
two_is (last e) w = absurd w
two_is (entries fs) w = absurd w
two_is (arms ms) w = absurd w

item_of : Kept → Option Ty
item_of empty = none
item_of over = none
item_of (kept u) = none
item_of (both u v) = none
item_of (items e) = e
item_of (last e) = none
item_of (entries fs) = none
item_of (arms ms) = none

items-is : (k : Kept) → Items k → k ≡ items (item_of k)
unfolding item_of
items-is empty w = absurd w
items-is over w = absurd w
items-is (kept u) w = absurd w
items-is (both u v) w = absurd w
items-is (items e) w = refl
items-is (last e) w = absurd w
items-is (entries fs) w = absurd w
items-is (arms ms) w = absurd w

map_of : Kept → Fields
map_of empty = ∅ᶠ
map_of over = ∅ᶠ
map_of (kept u) = ∅ᶠ
map_of (both u v) = ∅ᶠ
map_of (items e) = ∅ᶠ
map_of (last e) = ∅ᶠ
map_of (entries fs) = fs
map_of (arms ms) = ∅ᶠ

entries-is : (k : Kept) → Entries k → k ≡ entries (map_of k)
unfolding map_of
entries-is empty w = absurd w
entries-is over w = absurd w
entries-is (kept u) w = absurd w
entries-is (both u v) w = absurd w
entries-is (items e) w = absurd w
entries-is (last e) w = absurd w
entries-is (entries fs) w = refl
entries-is (arms ms) w = absurd w

arg_of : Kept → Option Ty
arg_of empty = none
arg_of over = none
arg_of (kept u) = some u
arg_of (both u v) = none
arg_of (items e) = none
arg_of (last e) = none
arg_of (entries fs) = none
arg_of (arms ms) = none

arg_is : (k : Kept) → AtMostOne k → k ≡ arg_kept (arg_of k)
unfolding arg_of
arg_is empty w = refl
arg_is over w = absurd w
arg_is (kept u) w = refl
arg_is (both u v) w = absurd w
arg_is (items e) w = absurd w
arg_is (last e) w = absurd w
arg_is (entries fs) w = absurd w
arg_is (arms ms) w = absurd w

-- the last child's type
record IsLast (k : Kept) : Type 0 where
  ty : Ty
  is : k ≡ last (some ty)

last-is : (k : Kept) → LastOne k → IsLast k
last-is (last (some t)) w = record { ty = t; is = refl }
last-is (last none) w = absurd w
last-is empty w = absurd w
last-is over w = absurd w
last-is (kept u) w = absurd w
last-is (both u v) w = absurd w
last-is (items e) w = absurd w
last-is (entries fs) w = absurd w
last-is (arms ms) w = absurd w

at-kept : {q : Typing} {k : Kept} {hd : Head} {sheet : Bytes} {h : Seen} {s : Bytes} {st : Accumulator} → EndAt q k hd sheet h s st → KeptAt k s st
at-kept d = record { state = d.state; fine = d.fine; wide = omega (arith, d.wide) }

module _ {q : Typing} {k : Kept} {hd : Head} {sheet : Bytes} {h : Seen} {s : Bytes} {st : Accumulator} (d : EndAt q k hd sheet h s st) where
  at_one : One k → KeptAt (kept (first_of k)) s st
  at_one w = rw (one-is k w) at (at-kept d)

  at-two : Two k → TwoAt (first_of k) (second_of k) s st
  at-two w =
      let e = two_is k w in
      let r = rw e at d.room in
      record { at = rw e at (at-kept d); room = r.0; small = r.1 }

-- ## A line's rule

abbrev pub RuleIs : Rule → Seen → Type 0
RuleIs i h = i ≡ line_rule (row (word_of h.word)).rule

rule-of : {q : Typing} {k : Kept} {hd : Head} {sheet : Bytes} {h : Seen} {s : Bytes} {st : Accumulator} {i : Rule} → RuleIs i h → EndAt q k hd sheet h s st → i ≡ typing_rule q
unfolding line_rule
rule-of f d = f ∙ ap (λ (v : Word). line_rule (row v).rule) d.head.word ∙ ap line_rule d.ruled

-- what is typed by no rule is no expression
typed-rule : (q : Typing) → (typing_rule q ≡ Silent) ⊎ (typing_rule q ≡ Entry) → ⊥
unfolding typing_rule
typed-rule (constant t) (inl e) = cc
typed-rule (constant t) (inr e) = cc
typed-rule var_type (inl e) = cc
typed-rule var_type (inr e) = cc
typed-rule element (inl e) = cc
typed-rule element (inr e) = cc
typed-rule slicing (inl e) = cc
typed-rule slicing (inr e) = cc
typed-rule listing (inl e) = cc
typed-rule listing (inr e) = cc
typed-rule mapping (inl e) = cc
typed-rule mapping (inr e) = cc
typed-rule calling (inl e) = cc
typed-rule calling (inr e) = cc
typed-rule operator (inl e) = cc
typed-rule operator (inr e) = cc
typed-rule unary (inl e) = cc
typed-rule unary (inr e) = cc
typed-rule casing (inl e) = cc
typed-rule casing (inr e) = cc
typed-rule membership (inl e) = cc
typed-rule membership (inr e) = cc
typed-rule comprehension (inl e) = cc
typed-rule comprehension (inr e) = cc

module _ {i : Rule} {sheet : Bytes} {b : Binds} {h : Seen} {s : Bytes} {st : Accumulator} {y : Report} (nr : RuleIs i h) where
  pub some-rule : SomeEnd sheet b h s st y → (i ≡ Silent) ⊎ (i ≡ Entry) → ⊥
  some-rule d (inl e) = typed-rule d.typing (inl (sym (rule-of nr d.at) ∙ e))
  some-rule d (inr e) = typed-rule d.typing (inr (sym (rule-of nr d.at) ∙ e))

  -- ## What the calls ask for

  end-at : (n : Rule) → (n ≡ Constant → ⊥) → i ≡ n → (d : SomeEnd sheet b h s st y) → EndAt (typing_of n) d.kept d.head sheet h s st
  end-at n p e d = rw (typing-at d.typing i n (rule-of nr d.at) e p) at d.at

  pub call-in : i ≡ Call → SomeEnd sheet b h s st y → SomeArg s st × Countable y
  call-in e d = let z = end-at Call (λ z. cc) e d in (record { arg = arg_of d.kept; at = rw (arg_is d.kept z.whole) at (at-kept z) }, d.count)

  pub operator-in : i ≡ Operator → SomeEnd sheet b h s st y → SomeTwo s st × Countable y
  operator-in e d = let z = end-at Operator (λ z. cc) e d in (record { left = first_of d.kept; right = second_of d.kept; at = at-two z z.whole }, d.count)

  pub unary-in : i ≡ Unary → SomeEnd sheet b h s st y → SomeOne s st × Countable y
  unary-in e d = let z = end-at Unary (λ z. cc) e d in (record { ty = first_of d.kept; at = at_one z z.whole }, d.count)

  pub case-in : i ≡ Casing → SomeEnd sheet b h s st y → SomeArms s st
  case-in e d = let z = end-at Casing (λ z. cc) e d in record { is = d.kept; form = z.whole; at = at-kept z; room = z.wide }

  pub member-in : i ≡ Membership → SomeEnd sheet b h s st y → SomeTwo s st × Countable y
  member-in e d = let z = end-at Membership (λ z. cc) e d in (record { left = first_of d.kept; right = second_of d.kept; at = at-two z z.whole }, d.count)

  pub last-in : i ≡ Comprehension → SomeEnd sheet b h s st y → SomeLast s st
  last-in e d =
      let z = end-at Comprehension (λ z. cc) e d in
      let l = last-is d.kept z.whole in
      record { ty = l.ty; at = rw l.is at (at-kept z) }

  pub element-in : i ≡ Element → SomeEnd sheet b h s st y → SomeOne s st
  element-in e d = let z = end-at Element (λ z. cc) e d in record { ty = first_of d.kept; at = at_one z z.whole }

  pub slice_in : i ≡ Slice → SomeEnd sheet b h s st y → SomeOne s st
  slice_in e d = let z = end-at Slice (λ z. cc) e d in record { ty = first_of d.kept; at = at_one z z.whole }

  pub list-in : i ≡ Listing → SomeEnd sheet b h s st y → SomeItems s st
  list-in e d = let z = end-at Listing (λ z. cc) e d in record { element = item_of d.kept; at = rw (items-is d.kept z.whole) at (at-kept z) }

-- ## What they ensure

module _ {i : Rule} {sheet : Bytes} {b : Binds} {h : Seen} {s s' : Bytes} {st : Accumulator} {y z : Report} {r : Optional ℕ} (nr : RuleIs i h) where
  ends_by : (n : Rule) → (n ≡ Constant → ⊥) → i ≡ n → ((k : Kept) (hd : Head) (env : Env) → EndAt (typing_of n) k hd sheet h s st → Ends (end (typing_of n) env hd k) s s' y z r)
      → EndedBy sheet b h s s' st y z r
  ends_by n p e f q k hd env d w = let z = typing-at q i n (rule-of nr d) e p in rw z (f k hd env (rw z at d))

  pub end-call : {x : Bytes} → i ≡ Call → x ≡ slice h.name h.stop sheet
      → ((a : Option Ty) → KeptAt (arg_kept a) s st → Ends (told (call_type (lookup (map digit_of x)) (args_of (arg_kept a))) (call_faults (lookup (map digit_of x)) (args_of (arg_kept a)))) s s' y z r)
      → EndedBy sheet b h s s' st y z r
  unfolding end
  end-call {x} e spelt f = ends_by Call (λ z. cc) e go
    where
      go : (k : Kept) (hd : Head) (env : Env) → EndAt calling k hd sheet h s st → Ends (end calling env hd k) s s' y z r
      go k hd env d =
          let n : map digit_of x ≡ hd.name = ap (map digit_of) spelt ∙ values-unhex _ _ d.head.name in
          let a = arg_is k d.whole in
          let u : args_of (arg_kept (arg_of k)) ≡ args_of k = sym (ap args_of a) in
          rw (n, u) at (f (arg_of k) (rw a at (at-kept d)))

  pub end-operator : i ≡ Operator → ((a b : Ty) → TwoAt a b s st → Ends (end_op (op h.num) a b) s s' y z r) → EndedBy sheet b h s s' st y z r
  unfolding end
  end-operator e f = ends_by Operator (λ z. cc) e go
    where
      go : (k : Kept) (hd : Head) (env : Env) → EndAt operator k hd sheet h s st → Ends (end operator env hd k) s s' y z r
      go k hd env d = subst (λ (m : ℕ). Ends (end_op (op m) (first_of k) (second_of k)) s s' y z r) d.head.num (f (first_of k) (second_of k) (at-two d d.whole))

  pub end-unary : i ≡ Unary → ((t : Ty) → KeptAt (kept t) s st → Ends (told (unary_type h.num t) (unary_faults h.num t)) s s' y z r) → EndedBy sheet b h s s' st y z r
  unfolding end
  end-unary e f = ends_by Unary (λ z. cc) e go
    where
      go : (k : Kept) (hd : Head) (env : Env) → EndAt unary k hd sheet h s st → Ends (end unary env hd k) s s' y z r
      go k hd env d = subst (λ (m : ℕ). Ends (told (unary_type m (first_of k)) (unary_faults m (first_of k))) s s' y z r) d.head.num (f (first_of k) (at_one d d.whole))

  pub end-case : i ≡ Casing → ((k : Kept) → ArmForm k → KeptAt k s st → Ends (end_case k) s s' y z r) → EndedBy sheet b h s s' st y z r
  unfolding end
  end-case e f = ends_by Casing (λ z. cc) e (λ k hd env d. f k d.whole (at-kept d))

  pub end-in : i ≡ Membership → ((a b : Ty) → TwoAt a b s st → Ends (end_in a b) s s' y z r) → EndedBy sheet b h s s' st y z r
  unfolding end
  end-in e f = ends_by Membership (λ z. cc) e (λ k hd env d. f (first_of k) (second_of k) (at-two d d.whole))

  pub end-last : i ≡ Comprehension → ((t : Ty) → KeptAt (last (some t)) s st → Ends (end_last (last (some t))) s s' y z r) → EndedBy sheet b h s s' st y z r
  unfolding end
  end-last e f = ends_by Comprehension (λ z. cc) e go
    where
      go : (k : Kept) (hd : Head) (env : Env) → EndAt comprehension k hd sheet h s st → Ends (end comprehension env hd k) s s' y z r
      go k hd env d = let l = last-is k d.whole in subst (λ (j : Kept). Ends (end_last j) s s' y z r) (sym l.is) (f l.ty (rw l.is at (at-kept d)))

-- ## Rules that add no fault

record Telling (x : Told) : Type 0 where
  ty : Ty
  is : x ≡ told ty []

tells : (t : Ty) → Telling (told t [])
tells t = record { ty = t; is = refl }

list_tells : (k : Kept) → Telling (end_list k)
unfolding end_list
list_tells (items none) = tells (t_list (base t_any))
list_tells (items (some t)) = tells (t_list t)
list_tells empty = tells (t_list (base t_any))
list_tells over = tells (t_list (base t_any))
list_tells (kept u) = tells (t_list (base t_any))
list_tells (both u v) = tells (t_list (base t_any))
list_tells (last e) = tells (t_list (base t_any))
list_tells (entries fs) = tells (t_list (base t_any))
list_tells (arms ms) = tells (t_list (base t_any))

map-tells : (k : Kept) → Telling (end_map k)
unfolding end_map
map-tells empty = tells (t_map ∅ᶠ)
map-tells over = tells (t_map ∅ᶠ)
map-tells (kept u) = tells (t_map ∅ᶠ)
map-tells (both u v) = tells (t_map ∅ᶠ)
map-tells (items e) = tells (t_map ∅ᶠ)
map-tells (last e) = tells (t_map ∅ᶠ)
map-tells (entries fs) = tells (t_map fs)
map-tells (arms ms) = tells (t_map ∅ᶠ)

abbrev pub quiet : Rule → Bool
quiet Constant = true
quiet Variable = true
quiet Element = true
quiet Slice = true
quiet Listing = true
quiet Mapping = true
quiet _ = false

quiet-tells : (q : Typing) (env : Env) (hd : Head) (k : Kept) → quiet (typing_rule q) ≡ true → Telling (end q env hd k)
unfolding end typing_rule
quiet-tells (constant t) env hd k l = tells t
quiet-tells var_type env hd k l = tells (var_type_of hd.var env)
quiet-tells element env hd k l = tells (element_of (first_of k))
quiet-tells slicing env hd k l = tells (list_or (base t_any) (first_of k))
quiet-tells listing env hd k l = list_tells k
quiet-tells mapping env hd k l = map-tells k
quiet-tells calling env hd k l = cc
quiet-tells operator env hd k l = cc
quiet-tells unary env hd k l = cc
quiet-tells casing env hd k l = cc
quiet-tells membership env hd k l = cc
quiet-tells comprehension env hd k l = cc

-- whatever line it is, this is its rule
abbrev pub Ruled : Rule → Bytes → Seen → Bytes → Accumulator → Type 0
Ruled i sheet h s st = (q : Typing) (k : Kept) (hd : Head) → EndAt q k hd sheet h s st → i ≡ typing_rule q

pub by-rule : {i : Rule} {sheet : Bytes} {h : Seen} {s : Bytes} {st : Accumulator} → RuleIs i h → Ruled i sheet h s st
by-rule nr q k hd d = rule-of nr d

pub settled : {i : Rule} {sheet : Bytes} {b : Binds} {h : Seen} {s s' : Bytes} {st : Accumulator} {y : Report} {r : ℕ} → Ruled i sheet h s st → quiet i ≡ true → QuietBy i sheet b h s s' st r
    → EndedBy sheet b h s s' st y y (Some r)
settled nr l f q k hd env d w =
    let e = nr q k hd d in
    let t = quiet-tells q env hd k (sym (ap quiet e) ∙ l) in
    let z = f q k hd env e d w t.ty t.is in
    rw t.is (record { answer = (z.at, adds_none); long = z.long; as_long = refl })

-- ## Their types

told_same : {t u : Ty} → told t [] ≡ told u [] → t ≡ u
told_same e = cc

module _ {i : Rule} {sheet : Bytes} {b : Binds} {h : Seen} {s s' : Bytes} {st : Accumulator} {r : ℕ} where
  quiet_by : (n : Rule) → (n ≡ Constant → ⊥) → i ≡ n → ((k : Kept) (hd : Head) (env : Env) → EndAt (typing_of n) k hd sheet h s st → EnvAs sheet b env → (t : Ty) → end (typing_of n) env hd k ≡ told t [] → Returned s s' t r)
      → QuietBy i sheet b h s s' st r
  quiet_by n p e f q k hd env g d w t x = let z = typing-at q i n g e p in f k hd env (rw z at d) w t (rw z at x)

  pub quiet-constant : i ≡ Constant → ConstantBy h.word s s' r → QuietBy i sheet b h s s' st r
  unfolding end typing_rule
  quiet-constant e f q k hd env g d w t x = go q g d x
    where
      go : (q : Typing) → i ≡ typing_rule q → EndAt q k hd sheet h s st → end q env hd k ≡ told t [] → Returned s s' t r
      go (constant c) g d x = f t (ap (λ (v : Word). (row v).rule) d.head.word ∙ d.ruled ∙ ap (λ (u : Ty). typed (constant u)) (told_same x))
      go var_type g d x = cc
      go element g d x = cc
      go slicing g d x = cc
      go listing g d x = cc
      go mapping g d x = cc
      go calling g d x = cc
      go operator g d x = cc
      go unary g d x = cc
      go casing g d x = cc
      go membership g d x = cc
      go comprehension g d x = cc

  pub quiet-variable : i ≡ Variable → ((b' : BindsAt sheet b.from b.to) → TypeAt s' 0 r (kind_type (bind_kind h.var.0 b'.heads))) × (length s' ≡ length s) → QuietBy i sheet b h s s' st r
  unfolding end var_type_of typing_rule line_rule
  quiet-variable e a = quiet_by Variable (λ z. cc) e go
    where
      go : (k : Kept) (hd : Head) (env : Env) → EndAt var_type k hd sheet h s st → EnvAs sheet b env → (t : Ty) → end var_type env hd k ≡ told t [] → Returned s s' t r
      go k hd env d w t x =
          let v = d.variable (var-word hd.word (ap line_rule d.ruled)) in
          let n : kind_type (bind_kind h.var.0 w.binds.heads) ≡ kind_type (bind_kind (variable_of hd) w.binds.heads) = ap (λ (i : ℕ). kind_type (bind_kind i w.binds.heads)) d.head.var in
          let u : kind_type (bind_kind h.var.0 w.binds.heads) ≡ t = n ∙ (sym (w.same (variable_of hd)) ∙ (sym (ap (λ (o : Option ℕ). var_type_of o env) v) ∙ told_same x)) in
          record { at = subst (λ (z : Ty). TypeAt s' 0 r z) u (a.0 w.binds); long = a.1 }

  pub quiet-element : i ≡ Element → (length s' ≡ length s) × ((t : Ty) → KeptAt (kept t) s st → TypeAt s' 0 r (element_of t)) → QuietBy i sheet b h s s' st r
  unfolding end
  quiet-element e a = quiet_by Element (λ z. cc) e (λ k hd env d w t x. record { at = subst (λ (z : Ty). TypeAt s' 0 r z) (told_same x) (a.1 (first_of k) (at_one d d.whole)); long = a.0 })

  pub quiet-slice : i ≡ Slice → (length s' ≡ length s) × ((t : Ty) → KeptAt (kept t) s st → TypeAt s' 0 r (list_or (base t_any) t)) → QuietBy i sheet b h s s' st r
  unfolding end
  quiet-slice e a = quiet_by Slice (λ z. cc) e (λ k hd env d w t x. record { at = subst (λ (z : Ty). TypeAt s' 0 r z) (told_same x) (a.1 (first_of k) (at_one d d.whole)); long = a.0 })

  pub quiet-list : i ≡ Listing → (length s' ≡ length s) × ((o : Option Ty) → KeptAt (items o) s st → (t : Ty) → end_list (items o) ≡ told t [] → TypeAt s' 0 r t) → QuietBy i sheet b h s s' st r
  unfolding end
  quiet-list e a = quiet_by Listing (λ z. cc) e go
    where
      go : (k : Kept) (hd : Head) (env : Env) → EndAt listing k hd sheet h s st → EnvAs sheet b env → (t : Ty) → end listing env hd k ≡ told t [] → Returned s s' t r
      go k hd env d w t x = let o = items-is k d.whole in record { at = a.1 (item_of k) (rw o at (at-kept d)) t (rw o at x); long = a.0 }

map_at : {s : Bytes} {st : Accumulator} (fs : Fields) → KeptAt (entries fs) s st → TypeAt s 0 st.len (t_map fs)
unfolding text_of place
map_at {s} {st} fs k =
    let e = k.state.len in
    let f = k.state.front in
    record { ordered = omega arith; inside = omega (arith, e, ap length f, length-take (length (line (t_map fs))) s); is = ap (λ (m : ℕ). take m s) e ∙ f }

pub quiet-map : {i : Rule} {sheet : Bytes} {b : Binds} {h : Seen} {s : Bytes} {st : Accumulator} → i ≡ Mapping → QuietBy i sheet b h s s st st.len
unfolding end end_map
quiet-map {i} {sheet} {b} {h} {s} {st} e = quiet_by Mapping (λ z. cc) e go
  where
    go : (k : Kept) (hd : Head) (env : Env) → EndAt mapping k hd sheet h s st → EnvAs sheet b env → (t : Ty) → end mapping env hd k ≡ told t [] → Returned s s t st.len
    go k hd env d w t x =
        let e = entries-is k d.whole in
        record { at = subst (λ (z : Ty). TypeAt s 0 st.len z) (told_same (rw e at x)) (map_at (map_of k) (rw e at (at-kept d))); long = refl }

-- ## A line that names a variable has one

abbrev HasVar : Read → Type 0
HasVar (bad c) = Unit {0}
HasVar (ok h) = h.var ≡ some (variable_of h)

filled-var : (n : ℕ) (b : Bool) (ys : List Bytes) → HasVar (into (bare var_word) (elim b [ true ↦ variable_v (some n) | false ↦ wrong 4 ]) (λ k. fill k [] ys))
unfolding fill
filled-var n true [] = refl
filled-var n true (y ∷ ys) = tt
filled-var n false ys = tt

fill-var : (fs : List Bytes) → HasVar (fill (bare var_word) (variable ∷ []) fs)
unfolding fill value within
fill-var [] = tt
fill-var (x ∷ ys) = go (decimal x)
  where
    go : (o : Option ℕ) → HasVar (into (bare var_word) (within 0 variable_limit o (λ v. variable_v (some v))) (λ k. fill k [] ys))
    go none = tt
    go (some n) = filled-var n (leb 0 n && leb n variable_limit) ys

abbrev PlainVar : Plain → Type 0
PlainVar unknown = Unit {0}
PlainVar (known v r) = v ≡ var_word → HasVar r

counted-var : (b : Bool) (fs : List Bytes) → HasVar (elim b [ true ↦ fill (bare var_word) (row var_word).fields fs | false ↦ bad 3 ])
unfolding row
counted-var true fs = fill-var fs
counted-var false fs = tt

says-var : (o : Option Word) (fs : List Bytes) → PlainVar (word_says o fs)
unfolding word_says
says-var none fs = tt
says-var (some v) fs = λ e. subst (λ (w : Word). HasVar (elim (eqb (length fs) (length (row w).fields)) [ true ↦ fill (bare w) (row w).fields fs | false ↦ bad 3 ])) (sym e) (counted-var (eqb (length fs) (length (row var_word).fields)) fs)

pieces-var : (ps : List Bytes) → PlainVar (pieces_say ps)
unfolding pieces_say
pieces-var [] = tt
pieces-var (x ∷ fs) = says-var (word_in x words) fs

pub variable-read : {s : Bytes} {p : ℕ} {h : Head} {q : ℕ} → LineAt s p h q → h.word ≡ var_word → h.var ≡ some (variable_of h)
unfolding line_says
variable-read l e = subst PlainVar l.says (pieces-var (split 44 l.text)) e
