-- What is kept stays regular and not too large, and a child that is typed behind it leaves it as it stands: for the caller. Assumes nothing.
use mathlib.Core.Path.{◌≡◌, refl, ◌∙◌, ap, subst}
use mathlib.Core.List.{List, [], ◌∷◌, ◌++◌}
use mathlib.Core.Option.{Option, none, some}
use mathlib.Core.Bool.{Bool, true, false}
use Prim.Native.Nat.{ℕ, ◌+◌}
use native.Mathlib.Omega.{arith}
use lib.ListN.{length, take}
use lib.Seq.{take_at}
use Rattle.semantics.specs.Bytes.{Bytes}
use Rattle.semantics.specs.Ty.{t_any, Ty, base, t_list, t_map, Fields, ∅ᶠ, line, line_to, nesting, regular, too_large, inserts, opened, joined, set_field}
use Rattle.semantics.specs.Unify.{unify}
use Rattle.semantics.specs.Sheet.{Role, plain, condition, answer, inner, Typing, constant, var_type, element, slice, listing, mapping, calling, operator, unary, casing, membership, comprehension}
use Rattle.semantics.proofs.All.{empty}
use Rattle.semantics.proofs.Regular.{Sorted, regular-true, regular-sound, opened-members, inserts-sorted, no-entries, set-regular}
use Rattle.ty.specs.Parts.{TypeAt}
use Rattle.ty.specs.Union.{overlong}
use Rattle.unify_run.specs.Run.{Run, done, mismatch, large, verdict, given, fitting, add}
use Rattle.unify_run.proofs.Size.{small-sound, small-true, element-inside}
use Rattle.unify_run.proofs.Answers.{FineRun, unify-fine}
use Rattle.walk_run.specs.Run.{Kept, over, kept, both, items, last, entries, arms, start, meet_item, keep_first, keep_two, keep_item, keep_entry, keep_arm, child}
use Rattle.walk_run.specs.Run.{empty as nothing}
use Rattle.exprs.specs.State.{text_of, place, behind, full, StAs, Fine, FineKept, ChildAt, LastChild}
use Rattle.exprs.specs.declared.state.Accumulator.{Accumulator}
use Rattle.exprs.proofs.StateLaws.{list-head}
use Rattle.exprs.proofs.ChildLaws.{long-overlong}

-- ## What is kept is fine

abbrev pub FineSome : Option Kept → Type 0
FineSome none = Unit {0}
FineSome (some k) = FineKept k

pub fine-some : {o : Option Kept} (k : Kept) → FineSome o → o ≡ some k → FineKept k
fine-some k f e = subst FineSome e f

pub fine-element : {t : Ty} → Fine (t_list t) → Fine t
unfolding regular
fine-element {t} f =
    let i = element-inside t in
    let m = small-sound (t_list t) f.small in
    record { regular = f.regular; small = small-true t (omega arith) }

any-fine : Fine (t_list (base t_any))
unfolding regular line line_to nesting
any-fine = record { regular = refl; small = small-true (t_list (base t_any)) (omega arith) }

pub start_fine : (q : Typing) → FineKept (start q)
unfolding start overlong joined line line_to nesting
start_fine (constant t) = tt
start_fine var_type = tt
start_fine element = tt
start_fine slice = tt
start_fine listing = tt
start_fine mapping = record { regular = regular-true (t_map ∅ᶠ) no-entries; small = small-true (t_map ∅ᶠ) (omega arith) }
start_fine calling = tt
start_fine operator = tt
start_fine unary = tt
start_fine casing = ((tt, empty), refl)
start_fine membership = tt
start_fine comprehension = tt

pub first_fine : (k : Kept) (t : Ty) → FineKept k → Fine t → FineKept (keep_first k t)
unfolding keep_first
first_fine nothing t f g = g
first_fine over t f g = tt
first_fine (kept u) t f g = f
first_fine (both u v) t f g = f
first_fine (items e) t f g = f
first_fine (last e) t f g = f
first_fine (entries fs) t f g = f
first_fine (arms ms) t f g = f

pub two-fine : (k : Kept) (t : Ty) → FineKept k → Fine t → FineKept (keep_two k t)
unfolding keep_two
two-fine nothing t f g = g
two-fine over t f g = tt
two-fine (kept u) t f g = (f, g)
two-fine (both u v) t f g = f
two-fine (items e) t f g = f
two-fine (last e) t f g = f
two-fine (entries fs) t f g = f
two-fine (arms ms) t f g = f

-- a list of a fine element, tested
list-fine : (t : Ty) → regular t ≡ true → FineSome (elim (too_large (t_list t)) [ true ↦ none | false ↦ some (items (some t)) ])
unfolding regular
list-fine t r = go (too_large (t_list t)) refl
  where
    go : (b : Bool) → too_large (t_list t) ≡ b → FineSome (elim b [ true ↦ none | false ↦ some (items (some t)) ])
    go true p = tt
    go false p = record { regular = r; small = p }

meet-fine : (v : Run) → FineRun v → FineSome (meet_item v)
unfolding meet_item
meet-fine (done t) f = list-fine t (regular-true t f.0)
meet-fine (mismatch a b) f = any-fine
meet-fine large f = tt

pub item-fine : (k : Kept) (t : Ty) → FineKept k → Fine t → FineSome (keep_item k t)
unfolding keep_item
item-fine nothing t f g = tt
item-fine over t f g = tt
item-fine (kept u) t f g = f
item-fine (both u v) t f g = f
item-fine (items none) t f g = list-fine t g.regular
item-fine (items (some u)) t f g =
    let h = fine-element f in
    meet-fine (verdict (unify u t)) (unify-fine u t (regular-sound u h.regular, h.small) (regular-sound t g.regular, g.small))
item-fine (last e) t f g = f
item-fine (entries fs) t f g = f
item-fine (arms ms) t f g = f

pub entry-fine : (k : Kept) (n : Bytes) (t : Ty) → FineKept k → Fine t → FineSome (keep_entry k n t)
unfolding keep_entry
entry-fine nothing n t f g = tt
entry-fine over n t f g = tt
entry-fine (kept u) n t f g = f
entry-fine (both u v) n t f g = f
entry-fine (items e) n t f g = f
entry-fine (last e) n t f g = f
entry-fine (entries fs) n t f g = go (too_large (t_map (set_field n t fs))) refl
  where
    gs : Fields
    gs = set_field n t fs

    go : (b : Bool) → too_large (t_map gs) ≡ b → FineSome (elim b [ true ↦ none | false ↦ some (entries gs) ])
    go true p = tt
    go false p = record { regular = regular-true (t_map gs) (set-regular n t fs (regular-sound t g.regular) (regular-sound (t_map fs) f.regular)); small = p }
entry-fine (arms ms) n t f g = f

union-fine : (us : List Ty) → Sorted us → FineKept (given (fitting us) over arms)
unfolding fitting
union-fine us s = go (overlong us) refl
  where
    go : (b : Bool) → overlong us ≡ b → FineKept (given (fitting us) over arms)
    go true p = rw (long-overlong us ∙ p) tt
    go false p = rw (long-overlong us ∙ p) (s, p)

pub arm-fine : (k : Kept) (t : Ty) → FineKept k → Fine t → FineKept (keep_arm k t)
unfolding keep_arm add
arm-fine nothing t f g = tt
arm-fine over t f g = tt
arm-fine (kept u) t f g = f
arm-fine (both u v) t f g = f
arm-fine (items e) t f g = f
arm-fine (last e) t f g = f
arm-fine (entries fs) t f g = f
arm-fine (arms ms) t f g = union-fine (inserts (opened t) ms) (inserts-sorted (opened-members t (regular-sound t g.regular)) ms f.0)

answer-fine : (p : Role) (k : Kept) (t : Ty) → FineKept k → Fine t → FineSome (child casing p k [] t)
unfolding child
answer-fine plain k t f g = f
answer-fine condition k t f g = f
answer-fine answer k t f g = arm-fine k t f g
answer-fine (inner p) k t f g = f

-- whatever the rule
pub child-fine : (q : Typing) (p : Role) (k : Kept) (n : Bytes) (t : Ty) → FineKept k → Fine t → FineSome (child q p k n t)
unfolding child
child-fine (constant c) p k n t f g = f
child-fine var_type p k n t f g = f
child-fine element p k n t f g = first_fine k t f g
child-fine slice p k n t f g = first_fine k t f g
child-fine listing p k n t f g = item-fine k t f g
child-fine mapping p k n t f g = entry-fine k n t f g
child-fine calling p k n t f g = first_fine k t f g
child-fine operator p k n t f g = two-fine k t f g
child-fine unary p k n t f g = first_fine k t f g
child-fine casing p k n t f g = answer-fine p k t f g
child-fine membership p k n t f g = two-fine k t f g
child-fine comprehension p k n t f g = g

-- ## A child is typed from `st.len` on

-- the text ends where the next child's type goes
abbrev pub Ends : Kept → Type 0
Ends nothing = Unit {0}
Ends over = Unit {0}
Ends (kept t) = Unit {0}
Ends (both s t) = ⊥
Ends (items e) = Unit {0}
Ends (last none) = Unit {0}
Ends (last (some t)) = ⊥
Ends (entries fs) = Unit {0}
Ends (arms ms) = Unit {0}

ends-long : (k : Kept) → Ends k → place k ≡ length (text_of k)
unfolding place text_of
ends-long nothing e = refl
ends-long over e = refl
ends-long (kept t) e = refl
ends-long (both s t) e = absurd e
ends-long (items o) e = refl
ends-long (last none) e = refl
ends-long (last (some t)) e = absurd e
ends-long (entries fs) e = refl
ends-long (arms ms) e = refl

pub child-leaves : (k : Kept) (s ys : Bytes) {st : Accumulator} → Ends k → StAs k s st → StAs k (take st.len s ++ ys) st
child-leaves k s ys {st} e a =
    let l : st.len ≡ length (text_of k) = a.len ∙ ends-long k e in
    let f : take st.len s ≡ text_of k = ap (λ (m : ℕ). take m s) l ∙ a.front in
    record {
      len = a.len;
      second = a.second;
      over = a.over;
      front = take_at (take st.len s) ys (length (text_of k)) (ap length f) ∙ f;
    }

-- of a comprehension `J,` is left
front-head : (o : Option Ty) (s : Bytes) {st : Accumulator} → StAs (last o) s st → take 2 s ≡ 74 ∷ 44 ∷ []
unfolding text_of
front-head none s a = a.front
front-head (some t) s a = list-head s t a.front

last-head : (o : Option Ty) (s ys : Bytes) {st : Accumulator} → StAs (last o) s st → take 2 (take st.len s ++ ys) ≡ 74 ∷ 44 ∷ []
unfolding place
last-head o s ys {st} a = let f = ap (λ (m : ℕ). take m s) a.len ∙ front-head o s a in take_at (take st.len s) ys 2 (ap length f) ∙ f

pub last-leaves : (o : Option Ty) (s ys : Bytes) {st : Accumulator} → StAs (last o) s st → StAs (last none) (take st.len s ++ ys) (record { len = st.len; second = 0; over = st.over })
unfolding text_of place behind full
last-leaves o s ys a = record { len = a.len; second = refl; over = a.over; front = last-head o s ys a }

pub last-child : {o : Option Ty} (s ys : Bytes) {st : Accumulator} {n : ℕ} {t : Ty} → StAs (last o) s st → TypeAt (take st.len s ++ ys) st.len (st.len + n) t → LastChild t (take st.len s ++ ys) st n
unfolding place
last-child {o} s ys a g = record { len = a.len; head = last-head o s ys a; child = g }

-- the same of a child that stands there with what was kept
pub child-last : {o : Option Ty} {t : Ty} {s : Bytes} {st : Accumulator} {n : ℕ} → ChildAt (last o) t s st n → LastChild t s st n
unfolding place
child-last {o} {s = s} c = record { len = c.state.len; head = front-head o s c.state; child = c.child }
