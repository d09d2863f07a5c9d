-- What the table of words says of a line: its rule by its place and by its number, and how many children of which roles a rule has. Assumes nothing.
use mathlib.Core.Path.{◌≡◌, refl, sym, ◌∙◌, ap}
use mathlib.Core.Bool.{Bool, true, false, not, ◌&&◌}
use lib.Dec.{eqb}
use borrow.Author.Tests.{eqb-true, eqb-false, not-true}
use mathlib.Core.List.{List, [], ◌∷◌}
use Prim.Native.Nat.{ℕ, ◌≤◌}
use native.Mathlib.Omega.{arith}
use lib.ListN.{length}
use Rattle.semantics.specs.Sheet.{kids, Word, Shape, nothing, one, two, bounds, arms, times, times_then, around, one_then, one_times, Head, Role, plain, condition, answer, inner, Place, first_place, binding_place, clause_place, end_place, projection_place, set_item_place, remove_item_place, label_place, parts_place, part_place, element_place, entry_place, item_place, expression_place, Typing, constant, var_type, element, slice, listing, mapping, calling, operator, unary, casing, membership, comprehension, Rule, silent, entering, typed, row, rank, rule, place, roles, arity}
use Rattle.semantics.proofs.All.{All}
use Rattle.line.specs.Words.{place_of}
use Rattle.line.specs.declared.places.Place.{Place as Spot}
use Rattle.line.specs.declared.places.Place.TheVariants.{End, Expression}
use Rattle.hir.proofs.PlaceLaws.{other-rank, spot-by-rank}
use Rattle.semantics.proofs.Words.{holds, named, each, kids-each}
use Rattle.walk_run.proofs.Silent.{entry-one}

-- ## Rules and places

both : (a b : Bool) → a && b ≡ true → (a ≡ true) × (b ≡ true)
both true b e = (refl, e)
both false b e = cc

abbrev ByPlace : Rule → ℕ → Type 0
ByPlace silent r = (r ≡ 13 → ⊥) × (r ≡ 11 → ⊥)
ByPlace entering r = r ≡ 11
ByPlace (typed q) r = r ≡ 13

abbrev ok_place : Rule → ℕ → Bool
ok_place silent r = not (eqb r 13) && not (eqb r 11)
ok_place entering r = eqb r 11
ok_place (typed q) r = eqb r 13

differ : (a b : ℕ) → not (eqb a b) ≡ true → a ≡ b → ⊥
differ a b e = eqb-false a b (not-true (eqb a b) e)

place-true : (q : Rule) (r : ℕ) → ok_place q r ≡ true → ByPlace q r
place-true silent r e = let x = both (not (eqb r 13)) (not (eqb r 11)) e in (differ r 13 x.0, differ r 11 x.1)
place-true entering r e = eqb-true r 11 e
place-true (typed q) r e = eqb-true r 13 e

by_place : (v : Word) → ByPlace (row v).rule (rank (row v).place)
unfolding row rank
by_place v = place-true (row v).rule (rank (row v).place) (holds (λ (v : Word). ok_place (row v).rule (rank (row v).place)) refl v)

-- an entry's rule
abbrev pub enters_by : Rule → Bool
enters_by silent = false
enters_by entering = true
enters_by (typed q) = false

-- ## Places of expressions and of the end

pub expression-class : {p : Place} → expression_place ≡ p → rank p ≡ 13
unfolding rank
expression-class e = rw (← e) refl

pub end-class : {p : Place} → end_place ≡ p → rank p ≡ 3
unfolding rank
end-class e = rw (← e) refl

-- any other place
pub other-class : {r : Spot} {p : Place} → place_of r ≡ p → (r ≡ Expression → ⊥) → rank p ≡ 13 → ⊥
other-class {r} e n z = other-rank r n (ap rank e ∙ z)

pub not-end : {r : Spot} {p : Place} → place_of r ≡ p → (r ≡ End → ⊥) → rank p ≡ 3 → ⊥
unfolding rank
not-end {r} e n z = n (spot-by-rank r End (ap rank e ∙ z))

-- the typing of a rule
unfoldable pub typing_of : Rule → Typing
typing_of silent = var_type
typing_of entering = var_type
typing_of (typed q) = q

pub typed_at : (h : Head) → rank (place h) ≡ 13 → rule h ≡ typed (typing_of (rule h))
unfolding typing_of
typed_at h e = go (rule h) (by_place h.word)
  where
    go : (r : Rule) → ByPlace r (rank (place h)) → r ≡ typed (typing_of r)
    go silent b = absurd (b.0 e)
    go entering b = absurd (omega (arith, b))
    go (typed q) b = refl

pub entering-at : (h : Head) → rank (place h) ≡ 11 → rule h ≡ entering
entering-at h e = go (rule h) (by_place h.word)
  where
    go : (r : Rule) → ByPlace r (rank (place h)) → r ≡ entering
    go silent b = absurd (b.1 e)
    go entering b = refl
    go (typed q) b = absurd (omega (arith, b))

-- a line that is no expression
pub data Passes (h : Head) : Type 0 where
  is_silent : rule h ≡ silent → Passes h
  is_entry : rule h ≡ entering → Passes h

pub passes_at : (h : Head) → (rank (place h) ≡ 13 → ⊥) → Passes h
passes_at h n = go (rule h) refl (by_place h.word)
  where
    go : (r : Rule) → rule h ≡ r → ByPlace r (rank (place h)) → Passes h
    go silent d b = is_silent d
    go entering d b = is_entry d
    go (typed q) d b = absurd (n b)

pub silent-at : (h : Head) → (rank (place h) ≡ 13 → ⊥) → (rule h ≡ entering → ⊥) → rule h ≡ silent
silent-at h n k = go (rule h) refl (by_place h.word)
  where
    go : (r : Rule) → rule h ≡ r → ByPlace r (rank (place h)) → r ≡ silent
    go silent d b = refl
    go entering d b = absurd (k d)
    go (typed q) d b = absurd (n b)

-- ## Children

abbrev Entry : Role → Type 0
Entry p = p ≡ inner entry_place

abbrev pub KidsOf : Typing → List Role → Type 0
KidsOf (constant t) ps = Unit {0}
KidsOf var_type ps = Unit {0}
KidsOf element ps = 1 ≤ length ps
KidsOf slice ps = 1 ≤ length ps
KidsOf listing ps = Unit {0}
KidsOf mapping ps = All Entry ps
KidsOf calling ps = Unit {0}
KidsOf operator ps = length ps ≡ 2
KidsOf unary ps = 1 ≤ length ps
KidsOf casing ps = Unit {0}
KidsOf membership ps = length ps ≡ 2
KidsOf comprehension ps = 1 ≤ length ps

-- shapes with a child, with two
abbrev has_one : Shape → Bool
has_one nothing = false
has_one two = true
has_one bounds = true
has_one arms = false
has_one (one p) = true
has_one (times i p) = false
has_one (times_then i p j) = false
has_one (around p j) = true
has_one (one_then j) = true
has_one (one_times i p) = true

one-kid : (s : Shape) → has_one s ≡ true → (ns : List ℕ) → 1 ≤ length (kids s ns)
one-kid nothing e ns = absurd (let z : ◌≡◌ {A = ℕ} 0 1 = cc in omega arith)
one-kid two e ns = omega arith
one-kid bounds e ns = omega arith
one-kid arms e ns = absurd (let z : ◌≡◌ {A = ℕ} 0 1 = cc in omega arith)
one-kid (one p) e ns = omega arith
one-kid (times i p) e ns = absurd (let z : ◌≡◌ {A = ℕ} 0 1 = cc in omega arith)
one-kid (times_then i p j) e ns = absurd (let z : ◌≡◌ {A = ℕ} 0 1 = cc in omega arith)
one-kid (around p j) e ns = omega arith
one-kid (one_then j) e ns = omega arith
one-kid (one_times i p) e ns = omega arith

abbrev has_two : Shape → Bool
has_two nothing = false
has_two two = true
has_two bounds = false
has_two arms = false
has_two (one p) = false
has_two (times i p) = false
has_two (times_then i p j) = false
has_two (around p j) = false
has_two (one_then j) = false
has_two (one_times i p) = false

two-kids : (s : Shape) → has_two s ≡ true → (ns : List ℕ) → length (kids s ns) ≡ 2
two-kids nothing e ns = absurd (let z : ◌≡◌ {A = ℕ} 0 1 = cc in omega arith)
two-kids two e ns = omega arith
two-kids bounds e ns = absurd (let z : ◌≡◌ {A = ℕ} 0 1 = cc in omega arith)
two-kids arms e ns = absurd (let z : ◌≡◌ {A = ℕ} 0 1 = cc in omega arith)
two-kids (one p) e ns = absurd (let z : ◌≡◌ {A = ℕ} 0 1 = cc in omega arith)
two-kids (times i p) e ns = absurd (let z : ◌≡◌ {A = ℕ} 0 1 = cc in omega arith)
two-kids (times_then i p j) e ns = absurd (let z : ◌≡◌ {A = ℕ} 0 1 = cc in omega arith)
two-kids (around p j) e ns = absurd (let z : ◌≡◌ {A = ℕ} 0 1 = cc in omega arith)
two-kids (one_then j) e ns = absurd (let z : ◌≡◌ {A = ℕ} 0 1 = cc in omega arith)
two-kids (one_times i p) e ns = absurd (let z : ◌≡◌ {A = ℕ} 0 1 = cc in omega arith)

abbrev at_entry : Place → Bool
at_entry entry_place = true
at_entry _ = false

entry-place : (q : Place) → at_entry q ≡ true → q ≡ entry_place
entry-place first_place e = cc
entry-place binding_place e = cc
entry-place clause_place e = cc
entry-place end_place e = cc
entry-place projection_place e = cc
entry-place set_item_place e = cc
entry-place remove_item_place e = cc
entry-place label_place e = cc
entry-place parts_place e = cc
entry-place part_place e = cc
entry-place element_place e = cc
entry-place entry_place e = refl
entry-place item_place e = cc
entry-place expression_place e = cc

abbrev entry_role : Role → Bool
entry_role plain = false
entry_role condition = false
entry_role answer = false
entry_role (inner q) = at_entry q

entry-role : (p : Role) → entry_role p ≡ true → Entry p
entry-role plain e = absurd (let z : ◌≡◌ {A = ℕ} 0 1 = cc in omega arith)
entry-role condition e = absurd (let z : ◌≡◌ {A = ℕ} 0 1 = cc in omega arith)
entry-role answer e = absurd (let z : ◌≡◌ {A = ℕ} 0 1 = cc in omega arith)
entry-role (inner q) e = ap inner (entry-place q e)

abbrev ok_kids : Typing → Shape → Bool
ok_kids (constant t) s = true
ok_kids var_type s = true
ok_kids element s = has_one s
ok_kids slice s = has_one s
ok_kids listing s = true
ok_kids mapping s = each entry_role (named s)
ok_kids calling s = true
ok_kids operator s = has_two s
ok_kids unary s = has_one s
ok_kids casing s = true
ok_kids membership s = has_two s
ok_kids comprehension s = has_one s

kids-by : (q : Typing) (s : Shape) → ok_kids q s ≡ true → (ns : List ℕ) → KidsOf q (kids s ns)
kids-by (constant t) s e ns = tt
kids-by var_type s e ns = tt
kids-by element s e ns = one-kid s e ns
kids-by slice s e ns = one-kid s e ns
kids-by listing s e ns = tt
kids-by mapping s e ns = kids-each entry_role entry-role s e ns
kids-by calling s e ns = tt
kids-by operator s e ns = two-kids s e ns
kids-by unary s e ns = one-kid s e ns
kids-by casing s e ns = tt
kids-by membership s e ns = two-kids s e ns
kids-by comprehension s e ns = one-kid s e ns

abbrev ok_row : Rule → Shape → Bool
ok_row silent s = true
ok_row entering s = true
ok_row (typed q) s = ok_kids q s

pub kids-at : (h : Head) (q : Typing) → rule h ≡ typed q → KidsOf q (roles h)
unfolding roles row each rank
kids-at h q e =
    let w = h.word in
    let t : ok_row (row w).rule (row w).under ≡ true = holds (λ (v : Word). ok_row (row v).rule (row v).under) refl w in
    kids-by q (row w).under (ap (λ (r : Rule). ok_row r (row w).under) (sym e) ∙ t) h.nums

pub entry-roles : (h : Head) → rule h ≡ entering → roles h ≡ plain ∷ []
entry-roles h e = entry-one h e

pub entry-arity : (h : Head) → rule h ≡ entering → arity h ≡ 1
unfolding arity
entry-arity h e = ap length (entry-roles h e)

pub silent-place : (h : Head) → rule h ≡ silent → rank (place h) ≡ 13 → ⊥
silent-place h e = go (rule h) e (by_place h.word)
  where
    go : (r : Rule) → r ≡ silent → ByPlace r (rank (place h)) → rank (place h) ≡ 13 → ⊥
    go silent d b = b.0
    go entering d b = cc
    go (typed q) d b = cc

pub typed-place : (h : Head) (q : Typing) → rule h ≡ typed q → rank (place h) ≡ 13
typed-place h q e = go (rule h) e (by_place h.word)
  where
    go : (r : Rule) → r ≡ typed q → ByPlace r (rank (place h)) → rank (place h) ≡ 13
    go silent d b = cc
    go entering d b = cc
    go (typed k) d b = b

pub entry_place_lem : (h : Head) → rule h ≡ entering → rank (place h) ≡ 11
entry_place_lem h e = go (rule h) e (by_place h.word)
  where
    go : (r : Rule) → r ≡ entering → ByPlace r (rank (place h)) → rank (place h) ≡ 11
    go silent d b = cc
    go entering d b = b
    go (typed k) d b = cc
