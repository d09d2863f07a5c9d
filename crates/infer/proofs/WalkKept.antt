-- What a line keeps between its children: by its rule and how many children it has had, how long it is, how deep, and what of it stands
-- when the next child's type is behind it. Assumes nothing.
use mathlib.Core.Path.{◌≡◌, refl, sym, ◌∙◌, ap, subst}
use mathlib.Core.List.{List, [], ◌∷◌, ◌++◌}
use mathlib.Core.Option.{Option, none, some}
use mathlib.Core.Bool.{Bool, true, false}
use Prim.Native.Nat.{ℕ, suc, zero, ◌≤◌, ◌<◌}
use native.Mathlib.Omega.{arith}
use lib.ListN.{length, take}
use lib.Seq.{take-take, take-append-le, length-take-le}
use borrow.Author.Tests.{ltb-false}
use Rattle.semantics.specs.Limits.{type_limit}
use Rattle.semantics.specs.Bytes.{Bytes}
use Rattle.semantics.specs.Ty.{Ty, t_list, t_map, line, line_to, too_large, opened, joined, set_field}
use Rattle.semantics.specs.Unify.{Answer, agreed, Unified, unify}
use Rattle.semantics.specs.Sheet.{Role, plain, condition, answer, inner, Typing, constant, var_type, element, slice, listing, mapping, calling, operator, unary, casing, membership, comprehension}
use Rattle.semantics.specs.Calls.{any_large}
use Rattle.unify_run.specs.Run.{Run, done, mismatch, large, unless, answered, verdict, given, add}
use Rattle.ty.specs.Parts.{lines_of}
use Rattle.ty.specs.Union.{overlong}
use Rattle.ty.proofs.Sizes.{large-no}
use Rattle.ty.proofs.Members.{one_line}
use Rattle.ty.proofs.UnionLaws.{many-long}
use Rattle.walk_run.specs.Depth.{levels}
use Rattle.walk_run.specs.Run.{Kept, empty, over, kept, both, items, last, entries, arms, start, unless_large, keep_first, keep_two, meet_item, keep_item, keep_entry, keep_arm, keep_answer, child}
use Rattle.walk_run.proofs.Levels.{Low}
use Rattle.walk_run.proofs.LevelsUnify.{LowAnswer, unify-low}
use Rattle.exprs.specs.State.{list_text, text_of, place, behind, full, StAs, Fine, FineKept}
use Rattle.exprs.specs.declared.state.Accumulator.{Accumulator}
use Rattle.infer.specs.Steps.{Nothing, AtMostOne, One, Two, Items, Lasts, LastOne, Entries, Arms, Before, Whole}
use Rattle.infer.proofs.WalkTable.{KidsOf}

-- ## By the number of children

abbrev FirstBy : ℕ → Kept → Type 0
FirstBy zero k = Nothing k
FirstBy (suc j) k = One k

abbrev TwoBy : ℕ → Kept → Type 0
TwoBy zero k = Nothing k
TwoBy (suc zero) k = One k
TwoBy (suc (suc j)) k = Two k

abbrev LastBy : ℕ → Kept → Type 0
LastBy zero k = Lasts k
LastBy (suc j) k = LastOne k

abbrev pub Form : Typing → ℕ → Kept → Type 0
Form (constant t) j k = Nothing k
Form var_type j k = Nothing k
Form element j k = FirstBy j k
Form slice j k = FirstBy j k
Form listing j k = Items k
Form mapping j k = Entries k
Form calling j k = AtMostOne k
Form operator j k = TwoBy j k
Form unary j k = FirstBy j k
Form casing j k = Arms k
Form membership j k = TwoBy j k
Form comprehension j k = LastBy j k

pub form-start : (q : Typing) → Form q 0 (start q)
unfolding start
form-start (constant t) = tt
form-start var_type = tt
form-start element = tt
form-start slice = tt
form-start listing = tt
form-start mapping = tt
form-start calling = tt
form-start operator = tt
form-start unary = tt
form-start casing = tt
form-start membership = tt
form-start comprehension = tt

nothing-most : (k : Kept) → Nothing k → AtMostOne k
nothing-most empty x = tt
nothing-most over x = absurd x
nothing-most (kept u) x = absurd x
nothing-most (both u v) x = absurd x
nothing-most (items e) x = absurd x
nothing-most (last e) x = absurd x
nothing-most (entries fs) x = absurd x
nothing-most (arms ms) x = absurd x

one-most : (k : Kept) → One k → AtMostOne k
one-most empty x = absurd x
one-most over x = absurd x
one-most (kept u) x = tt
one-most (both u v) x = absurd x
one-most (items e) x = absurd x
one-most (last e) x = absurd x
one-most (entries fs) x = absurd x
one-most (arms ms) x = absurd x

last-lasts : (k : Kept) → LastOne k → Lasts k
last-lasts empty x = absurd x
last-lasts over x = absurd x
last-lasts (kept u) x = absurd x
last-lasts (both u v) x = absurd x
last-lasts (items e) x = absurd x
last-lasts (last none) x = absurd x
last-lasts (last (some t)) x = tt
last-lasts (entries fs) x = absurd x
last-lasts (arms ms) x = absurd x

first-most : (j : ℕ) (k : Kept) → FirstBy j k → AtMostOne k
first-most zero k f = nothing-most k f
first-most (suc j) k f = one-most k f

two-most : (j : ℕ) (k : Kept) → j < 2 → TwoBy j k → AtMostOne k
two-most zero k l f = nothing-most k f
two-most (suc zero) k l f = one-most k f
two-most (suc (suc j)) k l f = absurd (omega arith)

last_some : (j : ℕ) (k : Kept) → LastBy j k → Lasts k
last_some zero k f = f
last_some (suc j) k f = last-lasts k f

pub form-before : (q : Typing) (n j : ℕ) (ps : List Role) (k : Kept) → KidsOf q ps → n ≡ length ps → j < n → Form q j k → Before q k
form-before (constant t) n j ps k d e l f = f
form-before var_type n j ps k d e l f = f
form-before element n j ps k d e l f = first-most j k f
form-before slice n j ps k d e l f = first-most j k f
form-before listing n j ps k d e l f = f
form-before mapping n j ps k d e l f = f
form-before calling n j ps k d e l f = f
form-before operator n j ps k d e l f = two-most j k (omega arith) f
form-before unary n j ps k d e l f = first-most j k f
form-before casing n j ps k d e l f = f
form-before membership n j ps k d e l f = two-most j k (omega arith) f
form-before comprehension n j ps k d e l f = last_some j k f

first-whole : (j : ℕ) (k : Kept) → 1 ≤ j → FirstBy j k → One k
first-whole zero k l f = absurd (omega arith)
first-whole (suc j) k l f = f

two-whole : (j : ℕ) (k : Kept) → j ≡ 2 → TwoBy j k → Two k
two-whole zero k l f = absurd (omega arith)
two-whole (suc zero) k l f = absurd (omega arith)
two-whole (suc (suc j)) k l f = f

last-whole : (j : ℕ) (k : Kept) → 1 ≤ j → LastBy j k → LastOne k
last-whole zero k l f = absurd (omega arith)
last-whole (suc j) k l f = f

pub form-whole : (q : Typing) (j : ℕ) (ps : List Role) (k : Kept) → KidsOf q ps → j ≡ length ps → Form q j k → Whole q k
form-whole (constant t) j ps k d e f = f
form-whole var_type j ps k d e f = f
form-whole element j ps k d e f = first-whole j k (omega arith) f
form-whole slice j ps k d e f = first-whole j k (omega arith) f
form-whole listing j ps k d e f = f
form-whole mapping j ps k d e f = f
form-whole calling j ps k d e f = f
form-whole operator j ps k d e f = two-whole j k (omega arith) f
form-whole unary j ps k d e f = first-whole j k (omega arith) f
form-whole casing j ps k d e f = f
form-whole membership j ps k d e f = two-whole j k (omega arith) f
form-whole comprehension j ps k d e f = last-whole j k (omega arith) f

-- ## After a child

-- of what is kept then, if anything is
abbrev pub IfKept : (Kept → Type 0) → Option Kept → Type 0
IfKept P none = Unit {0}
IfKept P (some k) = P k

pub if_kept : (P : Kept → Type 0) (o : Option Kept) (k : Kept) → IfKept P o → o ≡ some k → P k
if_kept P none k x e = absurd (let z : ◌≡◌ {A = ℕ} 0 1 = cc in omega arith)
if_kept P (some i) k x e = let z : i ≡ k = cc in subst P z x

unless-kept : (P : Kept → Type 0) (t : Ty) (k : Kept) → P k → IfKept P (unless_large t k)
unless-kept P t k x = go (too_large t)
  where
    go : (b : Bool) → IfKept P (elim b [ true ↦ none | false ↦ some k ])
    go true = tt
    go false = x

keep-first : (j : ℕ) (k : Kept) (t : Ty) → FirstBy j k → One (keep_first k t)
unfolding keep_first
keep-first zero empty t x = tt
keep-first zero over t x = absurd x
keep-first zero (kept u) t x = absurd x
keep-first zero (both u v) t x = absurd x
keep-first zero (items e) t x = absurd x
keep-first zero (last e) t x = absurd x
keep-first zero (entries fs) t x = absurd x
keep-first zero (arms ms) t x = absurd x
keep-first (suc j) empty t x = absurd x
keep-first (suc j) over t x = absurd x
keep-first (suc j) (kept u) t x = tt
keep-first (suc j) (both u v) t x = absurd x
keep-first (suc j) (items e) t x = absurd x
keep-first (suc j) (last e) t x = absurd x
keep-first (suc j) (entries fs) t x = absurd x
keep-first (suc j) (arms ms) t x = absurd x

keep-most : (k : Kept) (t : Ty) → AtMostOne k → AtMostOne (keep_first k t)
unfolding keep_first
keep-most empty t x = tt
keep-most over t x = absurd x
keep-most (kept u) t x = tt
keep-most (both u v) t x = absurd x
keep-most (items e) t x = absurd x
keep-most (last e) t x = absurd x
keep-most (entries fs) t x = absurd x
keep-most (arms ms) t x = absurd x

keep_two_lem : (j : ℕ) (k : Kept) (t : Ty) → TwoBy j k → TwoBy (suc j) (keep_two k t)
unfolding keep_two
keep_two_lem zero empty t x = tt
keep_two_lem zero over t x = absurd x
keep_two_lem zero (kept u) t x = absurd x
keep_two_lem zero (both u v) t x = absurd x
keep_two_lem zero (items e) t x = absurd x
keep_two_lem zero (last e) t x = absurd x
keep_two_lem zero (entries fs) t x = absurd x
keep_two_lem zero (arms ms) t x = absurd x
keep_two_lem (suc zero) empty t x = absurd x
keep_two_lem (suc zero) over t x = absurd x
keep_two_lem (suc zero) (kept u) t x = tt
keep_two_lem (suc zero) (both u v) t x = absurd x
keep_two_lem (suc zero) (items e) t x = absurd x
keep_two_lem (suc zero) (last e) t x = absurd x
keep_two_lem (suc zero) (entries fs) t x = absurd x
keep_two_lem (suc zero) (arms ms) t x = absurd x
keep_two_lem (suc (suc j)) empty t x = absurd x
keep_two_lem (suc (suc j)) over t x = absurd x
keep_two_lem (suc (suc j)) (kept u) t x = absurd x
keep_two_lem (suc (suc j)) (both u v) t x = tt
keep_two_lem (suc (suc j)) (items e) t x = absurd x
keep_two_lem (suc (suc j)) (last e) t x = absurd x
keep_two_lem (suc (suc j)) (entries fs) t x = absurd x
keep_two_lem (suc (suc j)) (arms ms) t x = absurd x

meet-items : (r : Run) → IfKept Items (meet_item r)
unfolding meet_item
meet-items (done t) = unless-kept Items (t_list t) (items (some t)) tt
meet-items (mismatch a b) = tt
meet-items large = tt

keep-items : (k : Kept) (t : Ty) → Items k → IfKept Items (keep_item k t)
unfolding keep_item
keep-items empty t x = absurd x
keep-items over t x = absurd x
keep-items (kept u) t x = absurd x
keep-items (both u v) t x = absurd x
keep-items (items none) t x = unless-kept Items (t_list t) (items (some t)) tt
keep-items (items (some s)) t x = meet-items (verdict (unify s t))
keep-items (last e) t x = absurd x
keep-items (entries fs) t x = absurd x
keep-items (arms ms) t x = absurd x

keep-entries : (k : Kept) (n : Bytes) (t : Ty) → Entries k → IfKept Entries (keep_entry k n t)
unfolding keep_entry
keep-entries empty n t x = absurd x
keep-entries over n t x = absurd x
keep-entries (kept u) n t x = absurd x
keep-entries (both u v) n t x = absurd x
keep-entries (items e) n t x = absurd x
keep-entries (last e) n t x = absurd x
keep-entries (entries fs) n t x = unless-kept Entries (t_map (set_field n t fs)) (entries (set_field n t fs)) tt
keep-entries (arms ms) n t x = absurd x

given-arms : (o : Option (List Ty)) → Arms (given o over arms)
given-arms none = tt
given-arms (some ms) = tt

keep-arm : (k : Kept) (t : Ty) → Arms k → Arms (keep_arm k t)
unfolding keep_arm
keep-arm empty t x = absurd x
keep-arm over t x = tt
keep-arm (kept u) t x = absurd x
keep-arm (both u v) t x = absurd x
keep-arm (items e) t x = absurd x
keep-arm (last e) t x = absurd x
keep-arm (entries fs) t x = absurd x
keep-arm (arms ms) t x = given-arms (add (opened t) ms)

keep-answer : (p : Role) (k : Kept) (t : Ty) → Arms k → Arms (keep_answer p k t)
keep-answer plain k t x = x
keep-answer condition k t x = x
keep-answer answer k t x = keep-arm k t x
keep-answer (inner q) k t x = x

pub form-step : (q : Typing) (p : Role) (j : ℕ) (k : Kept) (n : Bytes) (t : Ty) → Form q j k → IfKept (Form q (suc j)) (child q p k n t)
unfolding child
form-step (constant c) p j k n t f = f
form-step var_type p j k n t f = f
form-step element p j k n t f = keep-first j k t f
form-step slice p j k n t f = keep-first j k t f
form-step listing p j k n t f = keep-items k t f
form-step mapping p j k n t f = keep-entries k n t f
form-step calling p j k n t f = keep-most k t f
form-step operator p j k n t f = keep_two_lem j k t f
form-step unary p j k n t f = keep-first j k t f
form-step casing p j k n t f = keep-answer p k t f
form-step membership p j k n t f = keep_two_lem j k t f
form-step comprehension p j k n t f = tt

-- ## Depth

abbrev LowMaybe : ℕ → Option Ty → Type 0
LowMaybe m none = Unit {0}
LowMaybe m (some t) = Low m t

-- of what is unified later
abbrev pub LowKept : ℕ → Kept → Type 0
LowKept m empty = Unit {0}
LowKept m over = Unit {0}
LowKept m (kept t) = Low m t
LowKept m (both s t) = Low m s × Low m t
LowKept m (items e) = LowMaybe m e
LowKept m (last e) = Unit {0}
LowKept m (entries fs) = Unit {0}
LowKept m (arms ms) = Unit {0}

pub low-start : (m : ℕ) (q : Typing) → LowKept m (start q)
unfolding start
low-start m (constant t) = tt
low-start m var_type = tt
low-start m element = tt
low-start m slice = tt
low-start m listing = tt
low-start m mapping = tt
low-start m calling = tt
low-start m operator = tt
low-start m unary = tt
low-start m casing = tt
low-start m membership = tt
low-start m comprehension = tt

low_first : (m : ℕ) (k : Kept) (t : Ty) → LowKept m k → Low m t → LowKept m (keep_first k t)
unfolding keep_first
low_first m empty t x l = l
low_first m over t x l = x
low_first m (kept u) t x l = x
low_first m (both u v) t x l = x
low_first m (items e) t x l = x
low_first m (last e) t x l = x
low_first m (entries fs) t x l = x
low_first m (arms ms) t x l = x

low-two : (m : ℕ) (k : Kept) (t : Ty) → LowKept m k → Low m t → LowKept m (keep_two k t)
unfolding keep_two
low-two m empty t x l = l
low-two m over t x l = x
low-two m (kept u) t x l = (x, l)
low-two m (both u v) t x l = x
low-two m (items e) t x l = x
low-two m (last e) t x l = x
low-two m (entries fs) t x l = x
low-two m (arms ms) t x l = x

low-meet : (m : ℕ) (u : Unified) → LowAnswer m u.answer → IfKept (LowKept m) (meet_item (verdict u))
unfolding meet_item verdict
low-meet m u l = go (any_large u.tests) u.answer l
  where
    go : (b : Bool) (a : Answer) → LowAnswer m a → IfKept (LowKept m) (meet_item (unless b (answered a)))
    go true a x = tt
    go false (agreed t) x = unless-kept (LowKept m) (t_list t) (items (some t)) x
    go false (Answer.mismatch a b) x = unfold levels in omega arith

low-item : (m : ℕ) (k : Kept) (t : Ty) → LowKept m k → Low m t → IfKept (LowKept m) (keep_item k t)
unfolding keep_item
low-item m empty t x l = x
low-item m over t x l = x
low-item m (kept u) t x l = x
low-item m (both u v) t x l = x
low-item m (items none) t x l = unless-kept (LowKept m) (t_list t) (items (some t)) l
low-item m (items (some s)) t x l = low-meet m (unify s t) (unify-low m s t x l)
low-item m (last e) t x l = x
low-item m (entries fs) t x l = x
low-item m (arms ms) t x l = x

low-entry : (m : ℕ) (k : Kept) (n : Bytes) (t : Ty) → LowKept m k → IfKept (LowKept m) (keep_entry k n t)
unfolding keep_entry
low-entry m (entries fs) n t x = unless-kept (LowKept m) (t_map (set_field n t fs)) (entries (set_field n t fs)) tt
low-entry m empty n t x = x
low-entry m over n t x = x
low-entry m (kept u) n t x = x
low-entry m (both u v) n t x = x
low-entry m (items e) n t x = x
low-entry m (last e) n t x = x
low-entry m (arms ms) n t x = x

low-given : (m : ℕ) (o : Option (List Ty)) → LowKept m (given o over arms)
low-given m none = tt
low-given m (some ms) = tt

low-arm : (m : ℕ) (k : Kept) (t : Ty) → LowKept m k → LowKept m (keep_arm k t)
unfolding keep_arm
low-arm m (arms ms) t x = low-given m (add (opened t) ms)
low-arm m empty t x = x
low-arm m over t x = x
low-arm m (kept u) t x = x
low-arm m (both u v) t x = x
low-arm m (items e) t x = x
low-arm m (last e) t x = x
low-arm m (entries fs) t x = x

low-answer : (m : ℕ) (p : Role) (k : Kept) (t : Ty) → LowKept m k → LowKept m (keep_answer p k t)
low-answer m plain k t x = x
low-answer m condition k t x = x
low-answer m answer k t x = low-arm m k t x
low-answer m (inner q) k t x = x

pub low_step : (m : ℕ) (q : Typing) (p : Role) (k : Kept) (n : Bytes) (t : Ty) → LowKept m k → Low m t → IfKept (LowKept m) (child q p k n t)
unfolding child
low_step m (constant c) p k n t x l = x
low_step m var_type p k n t x l = x
low_step m element p k n t x l = low_first m k t x l
low_step m slice p k n t x l = low_first m k t x l
low_step m listing p k n t x l = low-item m k t x l
low_step m mapping p k n t x l = low-entry m k n t x
low_step m calling p k n t x l = low_first m k t x l
low_step m operator p k n t x l = low-two m k t x l
low_step m unary p k n t x l = low_first m k t x l
low_step m casing p k n t x l = low-answer m p k t x
low_step m membership p k n t x l = low-two m k t x l
low_step m comprehension p k n t x l = tt

-- ## Length

fine-long : (t : Ty) → Fine t → length (line t) ≤ 1024
fine-long t f = (large-no t f.small).0

arms-long : (ms : List Ty) → overlong ms ≡ false → length (lines_of ms) ≤ 1024
unfolding overlong lines_of joined
arms-long [] e = omega arith
arms-long (t ∷ []) e = omega (arith, ltb-false type_limit (length (line t)) e, ap length (one_line t))
arms-long (t ∷ u ∷ ts) e = omega (arith, ltb-false type_limit (length (line (joined (t ∷ u ∷ ts)))) e, many-long t u ts)

pub place-small : (k : Kept) → FineKept k → place k ≤ 1024
unfolding place
place-small empty f = omega arith
place-small over f = omega arith
place-small (kept t) f = fine-long t f
place-small (both s t) f = fine-long s f.0
place-small (items none) f = omega arith
place-small (items (some t)) f = fine-long (t_list t) f
place-small (last e) f = omega arith
place-small (entries fs) f = fine-long (t_map fs) f
place-small (arms ms) f = arms-long ms f.1

-- ## What stands when a child's type is behind it

abbrev pub weak : Kept → Kept
weak empty = empty
weak over = over
weak (kept t) = kept t
weak (both s t) = both s t
weak (items e) = items e
weak (last e) = last none
weak (entries fs) = entries fs
weak (arms ms) = arms ms

-- neither two types nor the last of a comprehension
abbrev Usual : Kept → Type 0
Usual empty = Unit {0}
Usual over = Unit {0}
Usual (kept t) = Unit {0}
Usual (both s t) = ⊥
Usual (items e) = Unit {0}
Usual (last e) = ⊥
Usual (entries fs) = Unit {0}
Usual (arms ms) = Unit {0}

usual-weak : (k : Kept) → Usual k → weak k ≡ k
usual-weak empty x = refl
usual-weak over x = refl
usual-weak (kept u) x = refl
usual-weak (both u v) x = absurd x
usual-weak (items e) x = refl
usual-weak (last e) x = absurd x
usual-weak (entries fs) x = refl
usual-weak (arms ms) x = refl

nothing-usual : (k : Kept) → Nothing k → Usual k
nothing-usual empty x = tt
nothing-usual over x = absurd x
nothing-usual (kept u) x = absurd x
nothing-usual (both u v) x = absurd x
nothing-usual (items e) x = absurd x
nothing-usual (last e) x = absurd x
nothing-usual (entries fs) x = absurd x
nothing-usual (arms ms) x = absurd x

most-usual : (k : Kept) → AtMostOne k → Usual k
most-usual empty x = tt
most-usual over x = absurd x
most-usual (kept u) x = tt
most-usual (both u v) x = absurd x
most-usual (items e) x = absurd x
most-usual (last e) x = absurd x
most-usual (entries fs) x = absurd x
most-usual (arms ms) x = absurd x

items-usual : (k : Kept) → Items k → Usual k
items-usual empty x = absurd x
items-usual over x = absurd x
items-usual (kept u) x = absurd x
items-usual (both u v) x = absurd x
items-usual (items e) x = tt
items-usual (last e) x = absurd x
items-usual (entries fs) x = absurd x
items-usual (arms ms) x = absurd x

entries-usual : (k : Kept) → Entries k → Usual k
entries-usual empty x = absurd x
entries-usual over x = absurd x
entries-usual (kept u) x = absurd x
entries-usual (both u v) x = absurd x
entries-usual (items e) x = absurd x
entries-usual (last e) x = absurd x
entries-usual (entries fs) x = tt
entries-usual (arms ms) x = absurd x

arms-usual : (k : Kept) → Arms k → Usual k
arms-usual empty x = absurd x
arms-usual over x = tt
arms-usual (kept u) x = absurd x
arms-usual (both u v) x = absurd x
arms-usual (items e) x = absurd x
arms-usual (last e) x = absurd x
arms-usual (entries fs) x = absurd x
arms-usual (arms ms) x = tt

-- of every rule but that of a comprehension
data How (q : Typing) (k : Kept) : Type 0 where
  usual : Usual k → How q k
  lasts : (e : Option Ty) → k ≡ last e → q ≡ comprehension → How q k

lasts-last : (k : Kept) → Lasts k → (e : Option Ty) × (k ≡ last e)
lasts-last empty x = absurd x
lasts-last over x = absurd x
lasts-last (kept u) x = absurd x
lasts-last (both u v) x = absurd x
lasts-last (items e) x = absurd x
lasts-last (last e) x = (e, refl)
lasts-last (entries fs) x = absurd x
lasts-last (arms ms) x = absurd x

how : (q : Typing) (k : Kept) → Before q k → How q k
how (constant t) k b = usual (nothing-usual k b)
how var_type k b = usual (nothing-usual k b)
how element k b = usual (most-usual k b)
how slice k b = usual (most-usual k b)
how listing k b = usual (items-usual k b)
how mapping k b = usual (entries-usual k b)
how calling k b = usual (most-usual k b)
how operator k b = usual (most-usual k b)
how unary k b = usual (most-usual k b)
how casing k b = usual (arms-usual k b)
how membership k b = usual (most-usual k b)
how comprehension k b = let l = lasts-last k b in lasts l.0 l.1 refl

pub before-weak : (q : Typing) (k : Kept) → Before q k → Before q (weak k)
before-weak q k b = go (how q k b)
  where
    go : How q k → Before q (weak k)
    go (usual u) = subst (Before q) (sym (usual-weak k u)) b
    go (lasts e i c) = subst (λ (x : Kept). Before q (weak x)) (sym i) (subst (λ (y : Typing). Before y (last none)) (sym c) tt)

pub fine-weak : (k : Kept) → FineKept k → FineKept (weak k)
fine-weak empty x = x
fine-weak over x = x
fine-weak (kept u) x = x
fine-weak (both u v) x = x
fine-weak (items e) x = x
fine-weak (last e) x = tt
fine-weak (entries fs) x = x
fine-weak (arms ms) x = x

-- the name counts for a map alone
same_name : (q : Typing) (p : Role) (k : Kept) (n m : Bytes) (t : Ty) → (q ≡ mapping → n ≡ m) → child q p k n t ≡ child q p k m t
unfolding child
same_name (constant c) p k n m t e = refl
same_name var_type p k n m t e = refl
same_name element p k n m t e = refl
same_name slice p k n m t e = refl
same_name listing p k n m t e = refl
same_name mapping p k n m t e = ap (λ (x : Bytes). keep_entry k x t) (e refl)
same_name calling p k n m t e = refl
same_name operator p k n m t e = refl
same_name unary p k n m t e = refl
same_name casing p k n m t e = refl
same_name membership p k n m t e = refl
same_name comprehension p k n m t e = refl

last-same : (p : Role) (k i : Kept) (n : Bytes) (t : Ty) → child comprehension p k n t ≡ child comprehension p i n t
unfolding child
last-same p k i n t = refl

pub child-weak : (q : Typing) (p : Role) (k : Kept) (n m : Bytes) (t : Ty) → Before q k → (q ≡ mapping → n ≡ m) → child q p (weak k) n t ≡ child q p k m t
child-weak q p k n m t b e = go (how q k b) ∙ same_name q p k n m t e
  where
    go : How q k → child q p (weak k) n t ≡ child q p k n t
    go (usual u) = ap (λ (x : Kept). child q p x n t) (usual-weak k u)
    go (lasts o i c) = subst (λ (y : Typing). child y p (weak k) n t ≡ child y p k n t) (sym c) (last-same p (weak k) k n t)

-- ### The text

list-line : (t : Ty) → line (t_list t) ≡ 74 ∷ 44 ∷ line t
unfolding line line_to
list-line t = refl

list-head : (s : Bytes) (t : Ty) → take (length (line (t_list t))) s ≡ line (t_list t) → take 2 s ≡ 74 ∷ 44 ∷ []
list-head s t f = sym (take-take 2 (length (line (t_list t))) s (omega (arith, ap length (list-line t)))) ∙ ap (take 2) (f ∙ list-line t)

front-stays : (x s ys : Bytes) (m : ℕ) → m ≡ length x → m ≤ length s → take (length x) s ≡ x → take (length x) (take m s ++ ys) ≡ x
front-stays x s ys m e l f =
    take-append-le (length x) (take m s) ys (omega (arith, length-take-le m s l)) ∙ take-take (length x) m s (omega arith) ∙ f

pub leaves : (q : Typing) (k : Kept) (s ys : Bytes) (st st' : Accumulator) → Before q k → StAs k s st → st.len ≤ length s → (st'.len ≡ st.len) × (st'.second ≡ 0) × (st'.over ≡ st.over)
    → StAs (weak k) (take st.len s ++ ys) st'
unfolding text_of place behind full
leaves q k s ys st st' b a l h = go (how q k b)
  where
    plainly : (i : Kept) → k ≡ i → Usual i → StAs i s st → StAs (weak i) (take st.len s ++ ys) st'
    plainly empty e u a = record { len = omega (arith, a.len, h.0); second = omega (arith, h.1); over = h.2 ∙ a.over; front = refl }
    plainly over e u a = record { len = omega (arith, a.len, h.0); second = omega (arith, h.1); over = h.2 ∙ a.over; front = refl }
    plainly (kept t) e u a = record { len = h.0 ∙ a.len; second = h.1; over = h.2 ∙ a.over; front = front-stays (line t) s ys st.len a.len l a.front }
    plainly (both v t) e u a = absurd u
    plainly (items o) e u a = record { len = h.0 ∙ a.len; second = h.1; over = h.2 ∙ a.over; front = front-stays (list_text o) s ys st.len a.len l a.front }
    plainly (last o) e u a = absurd u
    plainly (entries fs) e u a = record { len = h.0 ∙ a.len; second = h.1; over = h.2 ∙ a.over; front = front-stays (line (t_map fs)) s ys st.len a.len l a.front }
    plainly (arms ms) e u a = record { len = h.0 ∙ a.len; second = h.1; over = h.2 ∙ a.over; front = front-stays (lines_of ms) s ys st.len a.len l a.front }

    two : (o : Option Ty) → StAs (last o) s st → take 2 s ≡ 74 ∷ 44 ∷ []
    two none a = a.front
    two (some t) a = list-head s t a.front

    lastly : (o : Option Ty) → StAs (last o) s st → StAs (last none) (take st.len s ++ ys) st'
    lastly o a = record { len = h.0 ∙ a.len; second = h.1; over = h.2 ∙ a.over; front = front-stays (74 ∷ 44 ∷ []) s ys st.len a.len l (two o a) }

    go : How q k → StAs (weak k) (take st.len s ++ ys) st'
    go (usual u) = plainly k refl u a
    go (lasts o i c) = subst (λ (x : Kept). StAs (weak x) (take st.len s ++ ys) st') (sym i) (lastly o (subst (λ (x : Kept). StAs x s st) i a))
