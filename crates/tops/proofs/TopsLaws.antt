-- The report's way over the lines is `typing` and the tests. Assumes nothing.
use mathlib.Core.Path.{◌≡◌, refl, sym, ◌∙◌, ap, subst}
use mathlib.Core.List.{List, [], ◌∷◌, ◌++◌, append_assoc, append-nil, map}
use mathlib.Core.Bool.{Bool, true, false, cond, ◌&&◌}
use Prim.Native.Nat.{ℕ, suc, zero, ◌+◌, ◌≤◌, ◌<◌}
use native.Mathlib.Omega.{arith}
use lib.Dec.{eqb, ltb, leb}
use lib.ListN.{length, take, drop, length-append, length-map}
use lib.Seq.{drop-drop}
use borrow.Author.Tests.{eqb-true, eqb-false, ltb-true, leb-true, ne_eqb, eq-eqb}
use Rattle.semantics.specs.Bytes.{Bytes}
use Rattle.semantics.specs.Sheet.{kids, Word, Place, first_place, binding_place, clause_place, end_place, projection_place, set_item_place, remove_item_place, label_place, parts_place, part_place, element_place, entry_place, item_place, expression_place, Role, plain, condition, answer, inner, Typing, Rule, silent, entering, typed, deeper, Head, rank, place, rule, row, Want, clauses, at, wanted, fits, beyond, ok, under, after, roles, arity}
use Rattle.semantics.specs.Ty.{Ty}
use Rattle.semantics.specs.Walk.{Env, Res, Top, no_part, tops_of, tops, tops_by, through, last_tests, child, step, walk, env_of, results, all_tops, all_tests, typing}
use Rattle.semantics.proofs.All.{All, empty, also}
use Rattle.semantics.proofs.Words.{holds, named, each, kids-each}
use Rattle.hir.specs.Lines.{Met, all_met, meets, Ascends, no_binding, ascends}
use Rattle.hir.specs.Check.{Laid}
use Rattle.hir.specs.declared.valid.Outline.{Outline}
use Rattle.hir.proofs.TopLaws.{plain-rule}
use Rattle.hir.proofs.LinesLaws.{met-split, Inner, AllIn, none_in, one_in, inner-under, met-walk}
use Rattle.tops.specs.Tops.{fronts, tops_for, top_of, zip_tops, out_tops}
use Rattle.tops.specs.Standing.{Open, open_top, open_in, Standing, Skipped, Typed}
use Rattle.tops.specs.Claims.{TopsInOrder}

both : (a b : Bool) → a && b ≡ true → (a ≡ true) × (b ≡ true)
both true b e = (refl, e)
both false b e = cc

-- ## Places and rules

abbrev kind : Rule → ℕ
kind silent = 0
kind entering = 1
kind (typed q) = 2

-- expressions are typed, entries are entering, any other line is silent
abbrev ok_rule : ℕ → ℕ → Bool
ok_rule p k = cond (eqb p 13) (eqb k 2) (cond (eqb p 11) (eqb k 1) (eqb k 0))

rule-rule : (v : Word) → ok_rule (rank (row v).place) (kind (row v).rule) ≡ true
unfolding row rank
rule-rule v = holds (λ (v : Word). ok_rule (rank (row v).place) (kind (row v).rule)) refl v

is-typed : (p k : ℕ) → ok_rule p k ≡ true → p ≡ 13 → k ≡ 2
is-typed p k e h = eqb-true k 2 (rw (eq-eqb p 13 h) at e)

is_silent : (p k : ℕ) → ok_rule p k ≡ true → (p ≡ 13 → ⊥) → (p ≡ 11 → ⊥) → k ≡ 0
is_silent p k e a b = eqb-true k 0 (rw (ne_eqb p 13 a, ne_eqb p 11 b) at e)

no-type : (p k : ℕ) → ok_rule p k ≡ true → p < 13 → k < 2
no-type p k e h = go (eqb p 11) refl
  where
    rest : cond (eqb p 11) (eqb k 1) (eqb k 0) ≡ true
    rest = rw (ne_eqb p 13 (λ d. omega arith)) at e

    go : (b : Bool) → eqb p 11 ≡ b → k < 2
    go true d = omega (arith, eqb-true k 1 (rw d at rest))
    go false d = omega (arith, eqb-true k 0 (rw d at rest))

silent-of : (q : Rule) → kind q ≡ 0 → q ≡ silent
silent-of silent e = refl
silent-of entering e = absurd (omega arith)
silent-of (typed t) e = absurd (omega arith)

typed-of : (q : Rule) → kind q ≡ 2 → (t : Typing) × (q ≡ typed t)
typed-of silent e = absurd (omega arith)
typed-of entering e = absurd (omega arith)
typed-of (typed t) e = (t, refl)

-- a line that is no expression and no entry is silent, and an expression is typed
pub line-silent : (h : Head) → (rank (place h) ≡ 13 → ⊥) → (rank (place h) ≡ 11 → ⊥) → rule h ≡ silent
line-silent h a b = silent-of (rule h) (is_silent (rank (place h)) (kind (rule h)) (rule-rule h.word) a b)

pub line-typed : (h : Head) → rank (place h) ≡ 13 → (q : Typing) × (rule h ≡ typed q)
line-typed h e = typed-of (rule h) (is-typed (rank (place h)) (kind (rule h)) (rule-rule h.word) e)

top-silent : (h : Head) → rank (place h) < 4 → rule h ≡ silent
top-silent h l = line-silent h (λ d. omega arith) (λ d. omega arith)

expr-top : (q : Rule) (r : Res) → kind q ≡ 2 → tops_for q r ≡ top_of r ∷ []
unfolding tops_for
expr-top silent r e = absurd (omega arith)
expr-top entering r e = absurd (omega arith)
expr-top (typed t) r e = refl

other-top : (q : Rule) (r : Res) → kind q < 2 → tops_for q r ≡ r.tops
unfolding tops_for
other-top silent r e = refl
other-top entering r e = refl
other-top (typed t) r e = absurd (omega arith)

-- ## Roles of the children

-- an inner place is inside a clause and none of an expression; entries stand only under an expression (kind 2)
data FineRole (c : ℕ) : Role → Type 0 where
  fine_plain : FineRole c plain
  fine_condition : FineRole c condition
  fine_answer : FineRole c answer
  fine_inner : (x : Place) → 3 < rank x → rank x < 13 → (rank x ≡ 11 → c ≡ 2) → FineRole c (inner x)

abbrev Fine : ℕ → List Role → Type 0
Fine c ps = All (FineRole c) ps

abbrev fine_role : ℕ → Role → Bool
fine_role c plain = true
fine_role c condition = true
fine_role c answer = true
fine_role c (inner x) = ltb 3 (rank x) && (ltb (rank x) 13 && cond (eqb (rank x) 11) (eqb c 2) true)

fine-true : (c : ℕ) (p : Role) → fine_role c p ≡ true → FineRole c p
fine-true c plain e = fine_plain
fine-true c condition e = fine_condition
fine-true c answer e = fine_answer
fine-true c (inner x) e =
    let a = both (ltb 3 (rank x)) (ltb (rank x) 13 && cond (eqb (rank x) 11) (eqb c 2) true) e in
    let b = both (ltb (rank x) 13) (cond (eqb (rank x) 11) (eqb c 2) true) a.1 in
    fine_inner x (ltb-true 3 (rank x) a.0) (ltb-true (rank x) 13 b.0) (λ d. eqb-true c 2 (rw (eq-eqb (rank x) 11 d) at b.1))

roles-fine : (v : Word) (ns : List ℕ) → Fine (kind (row v).rule) (kids (row v).under ns)
unfolding each row rank
roles-fine v ns =
    let c = kind (row v).rule in
    kids-each (fine_role c) (fine-true c) (row v).under (holds (λ (v : Word). each (fine_role (kind (row v).rule)) (named (row v).under)) refl v) ns

all-fine : (h : Head) → Fine (kind (rule h)) (roles h)
unfolding roles
all-fine h = roles-fine h.word h.nums

-- the places of children are inside a clause
fine-in : {c : ℕ} {p : Role} → FineRole c p → (d : ℕ) → Inner (wanted d p)
unfolding rank
fine-in fine_plain d = omega arith
fine-in fine_condition d = omega arith
fine-in fine_answer d = omega arith
fine-in (fine_inner x a b o) d = a

kids-in : {c : ℕ} {ps : List Role} → Fine c ps → (d : ℕ) → AllIn (map (wanted d) ps)
kids-in empty d = none_in
kids-in (also g x) d = one_in (fine-in g d) (kids-in x d)

-- what the report has of a child is what its role makes of it
front-as : {c : ℕ} {p : Role} → FineRole c p → (d : ℕ) (h : Head) (r : Res) → fits (wanted d p) (rank (place h)) ≡ true → tops_of p r ≡ tops_for (rule h) r
unfolding fits tops_of rank
front-as {c = c} g d h r e = go g e
  where
    expr : fits (at expression_place d) (rank (place h)) ≡ true → top_of r ∷ [] ≡ tops_for (rule h) r
    expr e = sym (expr-top (rule h) r (is-typed (rank (place h)) (kind (rule h)) (rule-rule h.word) (eqb-true (rank (place h)) 13 e)))

    go : {p : Role} → FineRole c p → fits (wanted d p) (rank (place h)) ≡ true → tops_of p r ≡ tops_for (rule h) r
    go fine_plain e = expr e
    go fine_condition e = expr e
    go fine_answer e = expr e
    go (fine_inner x a b o) e = sym (other-top (rule h) r (no-type (rank (place h)) (kind (rule h)) (rule-rule h.word) (omega (arith, eqb-true (rank (place h)) (rank x) e))))

-- ## Where a tree ends

-- a want that is met
record Opened (w : Want) (ws : List Want) (h : Head) (hs ks : List Head) : Type 0 where
  fits : fits w (rank (place h)) ≡ true
  beyond : beyond w h ≡ ok h
  below : Met (under w h ++ ws) hs ks

opened : {w : Want} {ws : List Want} {h : Head} {hs ks : List Head} → Met (w ∷ ws) (h ∷ hs) ks → Opened w ws h hs ks
opened (meets f g m) = record { fits = f; beyond = g; below = m }

none_left : {hs ks : List Head} → Met [] hs ks → hs ≡ ks
none_left all_met = refl

some-there : {w : Want} {ws : List Want} {hs ks : List Head} → Met (w ∷ ws) hs ks → (h : Head) × (t : List Head) × (hs ≡ h ∷ t)
some-there (meets {h = h} {hs = hs} f g m) = (h, hs, refl)

all_in : {a b : List Want} → AllIn a → AllIn b → AllIn (a ++ b)
all_in none_in y = y
all_in (one_in i x) y = one_in i (all_in x y)

-- the fronts behind the trees that meet some wants
met-fronts : {ws : List Want} {hs ks : List Head} → AllIn ws → Met ws hs ks → drop (length ws) (fronts hs) ≡ fronts ks
unfolding fronts arity
met-fronts i all_met = refl
met-fronts (one_in i is) (meets {w = w} {ws = ws} {h = h} {hs = hs} f g m) =
    let u = inner-under w h i f in
    let r = met-fronts (all_in u.1 is) m in
    let l : length (under w h ++ ws) ≡ arity h + length ws = omega (arith, length-append (under w h) ws, ap length u.0, length-map (roles h) (wanted (deeper w))) in
    drop-drop (length ws) (arity h) (fronts hs) ∙ ap (λ (x : ℕ). drop x (fronts hs)) (sym l) ∙ r

-- behind k trees: as many lines on, the results and the fronts of what is left
pub record Behind (env : Env) (n k : ℕ) (hs left : List Head) : Type 0 where
  pub lines : ℕ
  pub long : length hs ≡ lines + length left
  pub results : drop k (walk env n hs) ≡ walk env (n + lines) left
  pub fronts : drop k (fronts hs) ≡ fronts left

behind : {ws : List Want} {hs left : List Head} → AllIn ws → Met ws hs left → (env : Env) (n k : ℕ) → length ws ≡ k → Behind env n k hs left
behind {ws = ws} {hs = hs} i m env n k e =
    let r = met-walk i m env n in
    record {
      lines = r.0;
      long = r.1;
      results = ap (λ (x : ℕ). drop x (walk env n hs)) (sym e) ∙ r.2;
      fronts = ap (λ (x : ℕ). drop x (fronts hs)) (sym e) ∙ met-fronts i m;
    }

-- behind the children of a line
pub kids-behind : (d : ℕ) (h : Head) (hs left : List Head) → Met (map (wanted d) (roles h)) hs left → (env : Env) (n : ℕ) → Behind env n (arity h) hs left
unfolding arity
kids-behind d h hs left m env n = behind (kids-in (all-fine h) d) m env n (arity h) (length-map (roles h) (wanted d))

-- ## An expression

pub out-expr : (env : Env) (n : ℕ) (w : Want) (h : Head) (hs left : List Head) (q : Typing) (m : ℕ) → rule h ≡ typed q → Inner w → fits w (rank (place h)) ≡ true
    → Met (under w h) hs left → length (h ∷ hs) ≡ m + length left
    → let r = step env n h (take (arity h) (walk env (suc n) hs)) in
    (out_tops env n (h ∷ hs) ≡ top_of r ∷ out_tops env (n + m) left) × (all_tests (walk env n (h ∷ hs)) ≡ r.tests ++ all_tests (walk env (n + m) left))
unfolding out_tops fronts walk zip_tops tops_for all_tests
out-expr env n w h hs left q m e i f x l =
    let b = kids-behind (deeper w) h hs left (subst (λ (y : List Want). Met y hs left) (inner-under w h i f).0 x) env (suc n) in
    let nm : suc n + b.lines ≡ n + m = omega (arith, b.long) in
    let d : drop (arity h) (walk env (suc n) hs) ≡ walk env (n + m) left = b.results ∙ ap (λ (y : ℕ). walk env y left) nm in
    let r = step env n h (take (arity h) (walk env (suc n) hs)) in (
      ap (λ (y : Rule). tops_for y r ++ zip_tops (drop (arity h) (fronts hs)) (drop (arity h) (walk env (suc n) hs))) e
          ∙ ap (λ (y : List Head). top_of r ∷ zip_tops y (drop (arity h) (walk env (suc n) hs))) b.fronts
          ∙ ap (λ (y : List Res). top_of r ∷ zip_tops (fronts left) y) d,
      ap (λ (y : List Res). r.tests ++ all_tests y) d,
    )

-- with what is left and how many lines the tree has, from the wants
pub record Past (env : Env) (n : ℕ) (w : Want) (ws : List Want) (h : Head) (hs ks : List Head) (r : Res) : Type 0 where
  pub left : List Head
  pub lines : ℕ
  pub long : length (h ∷ hs) ≡ lines + length left
  pub inside : Met (under w h) hs left
  pub rest : Met ws left ks
  pub tops : out_tops env n (h ∷ hs) ≡ top_of r ∷ out_tops env (n + lines) left
  pub tests : all_tests (walk env n (h ∷ hs)) ≡ r.tests ++ all_tests (walk env (n + lines) left)

pub out-expr-met : (env : Env) (n : ℕ) (w : Want) (ws : List Want) (h : Head) (hs ks : List Head) (q : Typing) → rule h ≡ typed q → Inner w → Met (w ∷ ws) (h ∷ hs) ks
    → Past env n w ws h hs ks (step env n h (take (arity h) (walk env (suc n) hs)))
out-expr-met env n w ws h hs ks q e i x =
    let o = opened x in
    let p = met-split (under w h) ws hs ks o.below in
    let b = met-walk (inner-under w h i o.fits).1 p.1 env (suc n) in
    let l : length (h ∷ hs) ≡ suc b.0 + length p.0 = omega (arith, b.1) in
    let y = out-expr env n w h hs p.0 q (suc b.0) e i o.fits p.1 l in
    record { left = p.0; lines = suc b.0; long = l; inside = p.1; rest = p.2; tops = y.0; tests = y.1 }

-- ## Any other line

tests-through : (n : ℕ) (rs : List Res) → through n silent no_part rs ≡ all_tests rs
unfolding through child all_tests
tests-through n [] = refl
tests-through n (r ∷ rs) = ap (λ (x : List (ℕ × Ty)). r.tests ++ x) (tests-through n rs)

-- what a silent line comes to
silent-tests : (env : Env) (n : ℕ) (h : Head) (rs : List Res) → rule h ≡ silent → (step env n h rs).tests ≡ all_tests rs
unfolding step last_tests
silent-tests env n h rs e = rw e (append-nil (through n silent no_part rs) ∙ tests-through n rs)

silent-tops : (env : Env) (n : ℕ) (h : Head) (rs : List Res) → rule h ≡ silent → (step env n h rs).tops ≡ tops (roles h) rs
unfolding step tops_by
silent-tops env n h rs e = rw e

all_split : (k : ℕ) (rs : List Res) → all_tests (take k rs) ++ all_tests (drop k rs) ≡ all_tests rs
unfolding all_tests
all_split zero rs = refl
all_split (suc k) [] = refl
all_split (suc k) (r ∷ rs) = append_assoc r.tests (all_tests (take k rs)) (all_tests (drop k rs)) ∙ ap (λ (x : List (ℕ × Ty)). r.tests ++ x) (all_split k rs)

pub skip-tests : (env : Env) (n : ℕ) (h : Head) (hs : List Head) → rule h ≡ silent → all_tests (walk env n (h ∷ hs)) ≡ all_tests (walk env (suc n) hs)
unfolding walk all_tests
skip-tests env n h hs e =
    let rs = walk env (suc n) hs in
    ap (λ (x : List (ℕ × Ty)). x ++ all_tests (drop (arity h) rs)) (silent-tests env n h (take (arity h) rs) e) ∙ all_split (arity h) rs

-- the children in their roles are the trees side by side
kids-tops : {c : ℕ} {ps : List Role} → Fine c ps → (d : ℕ) (vs : List Want) (hs ks : List Head) → Met (map (wanted d) ps ++ vs) hs ks → (env : Env) (n : ℕ)
    → tops ps (take (length ps) (walk env n hs)) ++ zip_tops (drop (length ps) (fronts hs)) (drop (length ps) (walk env n hs)) ≡ zip_tops (fronts hs) (walk env n hs)
unfolding tops zip_tops fronts walk
kids-tops empty d vs hs ks m env n = refl
kids-tops (also {x = p} {xs = ps} g x) d vs hs ks m env n =
    let s = some-there m in
    subst (λ (ys : List Head). tops (p ∷ ps) (take (suc (length ps)) (walk env n ys)) ++ zip_tops (drop (suc (length ps)) (fronts ys)) (drop (suc (length ps)) (walk env n ys)) ≡ zip_tops (fronts ys) (walk env n ys)) (sym s.2)
    (go s.0 s.1 (subst (λ (ys : List Head). Met (wanted d p ∷ (map (wanted d) ps ++ vs)) ys ks) s.2 m) (kids-tops x d vs))
  where
    go : (h : Head) (hs : List Head) → Met (wanted d p ∷ (map (wanted d) ps ++ vs)) (h ∷ hs) ks
        → ((hs ks : List Head) → Met (map (wanted d) ps ++ vs) hs ks → (env : Env) (n : ℕ)
        → tops ps (take (length ps) (walk env n hs)) ++ zip_tops (drop (length ps) (fronts hs)) (drop (length ps) (walk env n hs)) ≡ zip_tops (fronts hs) (walk env n hs))
        → tops (p ∷ ps) (take (suc (length ps)) (walk env n (h ∷ hs))) ++ zip_tops (drop (suc (length ps)) (fronts (h ∷ hs))) (drop (suc (length ps)) (walk env n (h ∷ hs))) ≡ zip_tops (fronts (h ∷ hs)) (walk env n (h ∷ hs))
    go h hs m ih =
        let w = wanted d p in
        let o = opened m in
        let i : Inner w = fine-in g d in
        let s = met-split (under w h) (map (wanted d) ps ++ vs) hs ks o.below in
        let b = kids-behind (deeper w) h hs s.0 (subst (λ (y : List Want). Met y hs s.0) (inner-under w h i o.fits).0 s.1) env (suc n) in
        let r = step env n h (take (arity h) (walk env (suc n) hs)) in
        let rs = drop (arity h) (walk env (suc n) hs) in
        let fs = drop (arity h) (fronts hs) in
        let more : tops ps (take (length ps) rs) ++ zip_tops (drop (length ps) fs) (drop (length ps) rs) ≡ zip_tops fs rs = rw (b.results, b.fronts) (ih s.0 ks s.2 env (suc n + b.lines)) in
        append_assoc (tops_of p r) (tops ps (take (length ps) rs)) (zip_tops (drop (length ps) fs) (drop (length ps) rs))
        ∙ ap (λ (y : List Top). tops_of p r ++ y) more
        ∙ ap (λ (y : List Top). y ++ zip_tops fs rs) (front-as g d h r o.fits)

skip-tops : (env : Env) (n : ℕ) (w : Want) (ws : List Want) (h : Head) (hs ks : List Head) → rule h ≡ silent → Met (w ∷ ws) (h ∷ hs) ks → out_tops env n (h ∷ hs) ≡ out_tops env (suc n) hs
unfolding out_tops fronts walk zip_tops tops_for under arity
skip-tops env n w ws h hs ks e m =
    let d = deeper w in
    let o = opened m in
    let rs = walk env (suc n) hs in
    let r = step env n h (take (arity h) rs) in
    let below : Met (map (wanted d) (roles h) ++ (after d h ++ ws)) hs ks = subst (λ (y : List Want). Met y hs ks) (append_assoc (map (wanted d) (roles h)) (after d h) ws) o.below in
    ap (λ (y : Rule). tops_for y r ++ zip_tops (drop (arity h) (fronts hs)) (drop (arity h) rs)) e
    ∙ ap (λ (y : List Top). y ++ zip_tops (drop (arity h) (fronts hs)) (drop (arity h) rs)) (silent-tops env n h (take (arity h) rs) e)
    ∙ kids-tops (all-fine h) d (after d h ++ ws) hs ks below env (suc n)

-- a line that is no expression: its children come next, with their tops and their tests
pub out-skip : (env : Env) (n : ℕ) (w : Want) (ws : List Want) (h : Head) (hs ks : List Head) → rule h ≡ silent → Met (w ∷ ws) (h ∷ hs) ks
    → (out_tops env n (h ∷ hs) ≡ out_tops env (suc n) hs) × (all_tests (walk env n (h ∷ hs)) ≡ all_tests (walk env (suc n) hs))
out-skip env n w ws h hs ks e m = (skip-tops env n w ws h hs ks e m, skip-tests env n h hs e)

-- ## The end

-- nothing is left
pub out_none : (env : Env) (n : ℕ) → (out_tops env n [] ≡ []) × (all_tests (walk env n []) ≡ [])
unfolding out_tops fronts walk zip_tops all_tests
out_none env n = (refl, refl)

bare-roles : (h : Head) → rank (place h) < 4 → (rank (place h) ≡ 2 → ⊥) → roles h ≡ []
unfolding roles
bare-roles h a b = plain-rule h.word h.nums a b

after-end : (d : ℕ) (h : Head) → rank (place h) ≡ 3 → after d h ≡ []
unfolding after
after-end d h e = rw (ne_eqb (rank (place h)) 0 (λ d. omega arith), ne_eqb (rank (place h)) 1 (λ d. omega arith), ne_eqb (rank (place h)) 2 (λ d. omega arith), after)

end-under : (w : Want) (h : Head) → rank (place h) ≡ 3 → under w h ≡ []
unfolding under
end-under w h e = rw (bare-roles h (omega arith) (λ d. omega arith)) (after-end (deeper w) h e)

-- nothing stands behind the end
pub met-end : (w : Want) (h : Head) (hs ks : List Head) → rank (place h) ≡ 3 → Met (w ∷ []) (h ∷ hs) ks → hs ≡ ks
met-end w h hs ks e m = none_left (subst (λ (y : List Want). Met (y ++ []) hs ks) (end-under w h e) (opened m).below)

end-met : (d : ℕ) (h : Head) → rank (place h) ≡ 3 → Met (clauses d ∷ []) (h ∷ []) []
unfolding fits beyond
end-met d h e = meets (ap (fits (clauses d)) e) refl (subst (λ (y : List Want). Met (y ++ []) [] []) (sym (end-under (clauses d) h e)) all_met)

pub out-end : (env : Env) (n : ℕ) (h : Head) → rank (place h) ≡ 3 → (out_tops env n (h ∷ []) ≡ []) × (all_tests (walk env n (h ∷ [])) ≡ [])
out-end env n h e =
    let s = out-skip env n (clauses 0) [] h [] [] (top-silent h (omega arith)) (end-met 0 h e) in
    (s.0 ∙ (out_none env (suc n)).0, s.1 ∙ (out_none env (suc n)).1)

-- ## The whole sheet

-- a line that holds no others has no top expression
bare-tops : (env : Env) (n : ℕ) (h : Head) (hs : List Head) → rank (place h) < 4 → (rank (place h) ≡ 2 → ⊥) → all_tops (walk env n (h ∷ hs)) ≡ all_tops (walk env (suc n) hs)
unfolding walk all_tops arity tops
bare-tops env n h hs l ne =
    let z = bare-roles h l ne in
    let rs = walk env (suc n) hs in
    ap (λ (x : ℕ). all_tops (step env n h (take x rs) ∷ drop x rs)) (ap length z)
    ∙ ap (λ (x : List Top). x ++ all_tops rs) (silent-tops env n h [] (top-silent h l) ∙ ap (λ (ps : List Role). tops ps []) z)

binds-out : {v w : ℕ} {bs : List Head} → Ascends v bs w → (env : Env) (n : ℕ) (rest : List Head)
    → (all_tops (walk env n (bs ++ rest)) ≡ all_tops (walk env (n + length bs) rest)) × (all_tests (walk env n (bs ++ rest)) ≡ all_tests (walk env (n + length bs) rest))
binds-out no_binding env n rest =
    let z : n ≡ n + 0 = omega arith in
    (ap (λ (x : ℕ). all_tops (walk env x rest)) z, ap (λ (x : ℕ). all_tests (walk env x rest)) z)
binds-out (ascends {h = h} {hs = hs} one low more) env n rest =
    let z : suc n + length hs ≡ n + suc (length hs) = omega arith in
    let r = binds-out more env (suc n) rest in (
      bare-tops env n h (hs ++ rest) (omega arith) (λ d. omega arith) ∙ r.0 ∙ ap (λ (x : ℕ). all_tops (walk env x rest)) z,
      skip-tests env n h (hs ++ rest) (top-silent h (omega arith)) ∙ r.1 ∙ ap (λ (x : ℕ). all_tests (walk env x rest)) z,
    )

after-clause : (d : ℕ) (h : Head) → rank (place h) ≡ 2 → after d h ≡ clauses d ∷ []
unfolding after
after-clause d h e = rw (ne_eqb (rank (place h)) 0 (λ d. omega arith), ne_eqb (rank (place h)) 1 (λ d. omega arith), eq-eqb (rank (place h)) 2 e, after)

clause-rank : (d p : ℕ) → fits (clauses d) p ≡ true → (2 ≤ p) × (p ≤ 3)
unfolding fits
clause-rank d p e = let x = both (leb 2 p) (leb p 3) e in (leb-true 2 p x.0, leb-true p 3 x.1)

-- clauses and the end are silent: their own tops are all
clauses-out : (k d : ℕ) (env : Env) (n : ℕ) (rest : List Head) → length rest < k → Met (clauses d ∷ []) rest [] → all_tops (walk env n rest) ≡ out_tops env n rest
unfolding out_tops fronts walk zip_tops all_tops tops_for under
clauses-out zero d env n rest l m = absurd (omega arith)
clauses-out (suc k) d env n [] l m = refl
clauses-out (suc k) d env n (h ∷ hs) l m =
    let o = opened m in
    let c = clause-rank d (rank (place h)) o.fits in
    let kids = map (wanted d) (roles h) in
    let s = met-split kids (after d h ++ []) hs [] (subst (λ (y : List Want). Met y hs []) (append_assoc kids (after d h) []) o.below) in
    let b = kids-behind d h hs s.0 s.1 env (suc n) in
    let r = step env n h (take (arity h) (walk env (suc n) hs)) in
    let rs = drop (arity h) (walk env (suc n) hs) in
    let fs = drop (arity h) (fronts hs) in
    let more : all_tops rs ≡ zip_tops fs rs = rw (b.results, b.fronts) (next c s.0 s.2 (omega (arith, b.long)) (suc n + b.lines) (clauses-out k d env)) in
    ap (λ (y : List Top). r.tops ++ y) more ∙ ap (λ (y : Rule). tops_for y r ++ zip_tops fs rs) (sym (top-silent h (omega (arith, c.1))))
  where
    next : (2 ≤ rank (place h)) × (rank (place h) ≤ 3) → (left : List Head) → Met (after d h ++ []) left [] → length left < k → (n : ℕ)
        → ((n : ℕ) (rest : List Head) → length rest < k → Met (clauses d ∷ []) rest [] → all_tops (walk env n rest) ≡ zip_tops (fronts rest) (walk env n rest))
        → all_tops (walk env n left) ≡ zip_tops (fronts left) (walk env n left)
    next c left m l n ih = go (eqb (rank (place h)) 2) refl
      where
        go : (b : Bool) → eqb (rank (place h)) 2 ≡ b → all_tops (walk env n left) ≡ zip_tops (fronts left) (walk env n left)
        go true e = ih n left l (subst (λ (y : List Want). Met (y ++ []) left []) (after-clause d h (eqb-true (rank (place h)) 2 e)) m)
        go false e =
            let z : left ≡ [] = none_left (subst (λ (y : List Want). Met (y ++ []) left []) (after-end d h (omega (arith, c.0, c.1, eqb-false (rank (place h)) 2 e))) m) in
            rw z

-- an accepted sheet: the report starts at the clauses
pub laid_out : (d : ℕ) (s : Bytes) (r : Outline) (x : Laid d s r)
    → let hs = x.head ∷ (x.binds ++ x.rest) in
    (typing hs ≡ out_tops (env_of hs) (2 + length x.binds) x.rest) × (all_tests (results hs) ≡ all_tests (walk (env_of hs) (2 + length x.binds) x.rest))
unfolding typing results
laid_out d s r x =
    let tail = x.binds ++ x.rest in
    let env = env_of (x.head ∷ tail) in
    let b = binds-out x.ascending env 2 x.rest in (
      bare-tops env 1 x.head tail (omega (arith, x.zero)) (λ d. omega (arith, x.zero))
          ∙ b.0
          ∙ clauses-out (suc (length x.rest)) d env (2 + length x.binds) x.rest (omega arith) x.met,
      skip-tests env 1 x.head tail (top-silent x.head (omega (arith, x.zero))) ∙ b.1,
    )

-- ## The report's way

-- at the clauses
pub stand-start : (levels : ℕ) (s : Bytes) (r : Outline) (x : Laid levels s r) → Standing levels x.rest
stand-start levels s r x = record { wants = clauses levels ∷ []; opens = open_top; met = x.met }

-- there is a line
pub stand-some : {levels : ℕ} (hs : List Head) → Standing levels hs → 0 < length hs
stand-some {levels = levels} hs x = go x.opens x.met
  where
    some : {w : Want} {ws : List Want} → Met (w ∷ ws) hs [] → 0 < length hs
    some m = let s = some-there m in omega (arith, ap length s.2)

    go : {ws : List Want} → Open levels ws → Met ws hs [] → 0 < length hs
    go open_top m = some m
    go (open_in a b y) m = some m

-- the end is the last line
pub stand-end : {levels : ℕ} (h : Head) (hs : List Head) → Standing levels (h ∷ hs) → rank (place h) ≡ 3 → hs ≡ []
unfolding fits
stand-end {levels = levels} h hs x e = go x.opens x.met
  where
    go : {ws : List Want} → Open levels ws → Met ws (h ∷ hs) [] → hs ≡ []
    go open_top m = met-end (clauses levels) h hs [] e m
    go (open_in {x = p} a b y) m = absurd (omega (arith, eqb-true (rank (place h)) (rank p) (opened m).fits))

open-kids : {levels c : ℕ} {ps : List Role} {ws : List Want} → Fine c ps → c ≡ 0 → Open levels ws → Open levels (map (wanted levels) ps ++ ws)
unfolding rank
open-kids empty e y = y
open-kids (also fine_plain x) e y = open_in {x = expression_place} (omega arith) (λ z. omega arith) (open-kids x e y)
open-kids (also fine_condition x) e y = open_in {x = expression_place} (omega arith) (λ z. omega arith) (open-kids x e y)
open-kids (also fine_answer x) e y = open_in {x = expression_place} (omega arith) (λ z. omega arith) (open-kids x e y)
open-kids (also (fine_inner p a b o) x) e y = open_in a (λ z. omega (arith, o z)) (open-kids x e y)

-- below a line that is no expression the depth is the same
same-depth : (levels : ℕ) (p : Place) → (rank p ≡ 13 → ⊥) → deeper (at p levels) ≡ levels
same-depth levels p n = rw (ne_eqb (rank p) 13 n)

-- the place of an expression
expression : (p : Place) → rank p ≡ 13 → p ≡ expression_place
unfolding rank
expression p =
    elim p as (λ q. rank q ≡ 13 → q ≡ expression_place) [ first_place ↦ λ e. absurd (omega arith) | binding_place ↦ λ e. absurd (omega arith) | clause_place ↦ λ e. absurd (omega arith) | end_place ↦ λ e. absurd (omega arith) | projection_place ↦ λ e. absurd (omega arith) | set_item_place ↦ λ e. absurd (omega arith) | remove_item_place ↦ λ e. absurd (omega arith) | label_place ↦ λ e. absurd (omega arith) | parts_place ↦ λ e. absurd (omega arith) | part_place ↦ λ e. absurd (omega arith) | element_place ↦ λ e. absurd (omega arith) | entry_place ↦ λ e. absurd (omega arith) | item_place ↦ λ e. absurd (omega arith) | expression_place ↦ λ e. refl ]

between : (p : ℕ) → (2 ≤ p) × (p ≤ 3) → (p ≡ 3 → ⊥) → p ≡ 2
between p c n = omega (arith, c.0, c.1, n)

pub stand-skip : {levels : ℕ} (env : Env) (n : ℕ) (h : Head) (hs : List Head) → Standing levels (h ∷ hs) → (rank (place h) ≡ 13 → ⊥) → (rank (place h) ≡ 3 → ⊥) → Skipped levels env n h hs
unfolding fits under
stand-skip {levels = levels} env n h hs x ne nl = go x.opens x.met
  where
    kids : {ws : List Want} → rule h ≡ silent → Open levels ws → Open levels (map (wanted levels) (roles h) ++ ws)
    kids e y = open-kids (all-fine h) (ap kind e) y

    done : (w : Want) (ws : List Want) → rule h ≡ silent → Met (w ∷ ws) (h ∷ hs) [] → Open levels (under w h ++ ws) → Skipped levels env n h hs
    done w ws e m y = let s = out-skip env n w ws h hs [] e m in record { next = record { wants = under w h ++ ws; opens = y; met = (opened m).below }; tops = s.0; tests = s.1 }

    go : {ws : List Want} → Open levels ws → Met ws (h ∷ hs) [] → Skipped levels env n h hs
    go open_top m =
        let c = clause-rank levels (rank (place h)) (opened m).fits in
        let e : rule h ≡ silent = top-silent h (omega (arith, c.1)) in
        let two : rank (place h) ≡ 2 = between (rank (place h)) c nl in
        let u : under (clauses levels) h ≡ map (wanted levels) (roles h) ++ (clauses levels ∷ []) = ap (λ (z : List Want). map (wanted levels) (roles h) ++ z) (after-clause levels h two) in
        done (clauses levels) [] e m (subst (Open levels) (sym (append-nil (under (clauses levels) h))) (subst (Open levels) (sym u) (kids e open_top)))
    go (open_in {x = p} {ws = ws} a b y) m =
        let f = eqb-true (rank (place h)) (rank p) (opened m).fits in
        let e : rule h ≡ silent = line-silent h ne (λ z. b (sym f ∙ z)) in
        let u : under (at p levels) h ≡ map (wanted levels) (roles h) = (inner-under (at p levels) h a (opened m).fits).0 ∙ ap (λ (d : ℕ). map (wanted d) (roles h)) (same-depth levels p (λ z. ne (f ∙ z))) in
        done (at p levels) ws e m (subst (λ (z : List Want). Open levels (z ++ ws)) (sym u) (kids e y))

pub stand-expr : {levels : ℕ} (env : Env) (n : ℕ) (h : Head) (hs : List Head) → Standing levels (h ∷ hs) → rank (place h) ≡ 13 → Typed levels env n h hs (step env n h (take (arity h) (walk env (suc n) hs)))
unfolding fits
stand-expr {levels = levels} env n h hs x e = go x.opens x.met
  where
    go : {ws : List Want} → Open levels ws → Met ws (h ∷ hs) [] → Typed levels env n h hs (step env n h (take (arity h) (walk env (suc n) hs)))
    go open_top m = absurd (omega (arith, (clause-rank levels (rank (place h)) (opened m).fits).1))
    go (open_in {x = p} {ws = ws} a b y) m =
        let q = line-typed h e in
        let o = opened m in
        let t = out-expr-met env n (at p levels) ws h hs [] q.0 q.1 a m in
        let x : p ≡ expression_place = expression p (sym (eqb-true (rank (place h)) (rank p) o.fits) ∙ e) in
        record {
          typing = q.0;
          rule = q.1;
          left = t.left;
          lines = t.lines;
          long = t.long;
          met = subst (λ (z : Place). Met (at z levels ∷ []) (h ∷ hs) t.left) x (meets o.fits o.beyond (subst (λ (z : List Want). Met z hs t.left) (sym (append-nil (under (at p levels) h))) t.inside));
          next = record { wants = ws; opens = y; met = t.rest };
          tops = t.tops;
          tests = t.tests;
        }

-- ## The claim

pub tops-in-order : TopsInOrder
tops-in-order =
    record { starts = laid_out; stands = stand-start; skips = stand-skip; types = stand-expr; ends = λ h hs x e. (stand-end h hs x e, λ env n. out-end env n h e) }
