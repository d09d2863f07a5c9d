-- Every line of a walk is fine: its type is regular, and not too large if none of its tests is. Assumes nothing.
use mathlib.Core.Path.{◌≡◌, refl, sym, ◌∙◌, ap, subst}
use mathlib.Core.List.{List, [], ◌∷◌, ◌++◌, map}
use mathlib.Core.Option.{Option, none, some}
use mathlib.Core.Bool.{Bool, true, false, ◌||◌}
use Prim.Native.Nat.{ℕ, suc}
use Rattle.semantics.specs.Ty.{t_unknown, Ty, too_large}
use Rattle.semantics.specs.Sheet.{Head, Role, Rule, silent, entering, rule, roles, arity}
use Rattle.semantics.specs.Walk.{Res, Env, type_of, last_by, last_tests, no_part, child, on, through, named, label, spread, own, tops_by, step, walk}
use Rattle.semantics.specs.Calls.{first_large, any_large}
use Rattle.semantics.proofs.All.{All, empty, also, all_map, all_take, all_drop}
use Rattle.semantics.proofs.Regular.{Regular}
use Rattle.semantics.proofs.RegularWalk.{RegularRes, step-regular}
use Rattle.unify_run.proofs.Verdict.{large-append}
use Rattle.unify_run.proofs.UnionsMeet.{base-small}
use Rattle.walk_run.proofs.Steps.{first, line_if, first-append, first_on}
pub use Rattle.walk_run.specs.Claims.{FineRes}

-- ## Tests none of which is too large

pub none_left : (x y : Option ℕ) → first x y ≡ none → x ≡ none
none_left none y p = refl
none_left (some l) y p = p

pub none_right : (x y : Option ℕ) → first x y ≡ none → y ≡ none
none_right none y p = p
none_right (some l) y p = cc

pub line-none : (n : ℕ) (b : Bool) → line_if n b ≡ none → b ≡ false
line-none n true p = cc
line-none n false p = refl

pub first-left : (a b : List (ℕ × Ty)) → first_large (a ++ b) ≡ none → first_large a ≡ none
first-left a b p = none_left (first_large a) (first_large b) (sym (first-append a b) ∙ p)

pub first-right : (a b : List (ℕ × Ty)) → first_large (a ++ b) ≡ none → first_large b ≡ none
first-right a b p = none_right (first_large a) (first_large b) (sym (first-append a b) ∙ p)

or_right : (a b : Bool) → (a || b) ≡ false → b ≡ false
or_right true b p = cc
or_right false b p = p

pub large-one : (t : Ty) → any_large (t ∷ []) ≡ too_large t
unfolding any_large
large-one t = go (too_large t)
  where
    go : (c : Bool) → ◌≡◌ {A = Bool} (elim c [ true ↦ true | false ↦ false ]) c
    go true = refl
    go false = refl

-- the last of a line's own tests
last-small : (n : ℕ) (ts : List Ty) (t : Ty) → first_large (on n (ts ++ (t ∷ []))) ≡ none → too_large t ≡ false
last-small n ts t p =
    sym (large-one t)
    ∙ or_right (any_large ts) (any_large (t ∷ [])) (sym (large-append ts (t ∷ [])) ∙ line-none n (any_large (ts ++ (t ∷ []))) (sym (first_on n (ts ++ (t ∷ []))) ∙ p))

-- ## A line

-- by its rule and its roles
abbrev pub step_by : Rule → List Role → Env → ℕ → Head → List Res → Res
step_by q ps env n h rs =
    let es = named rs in
    let t = type_of q env h ps es in
    record {
      name = label q h.name;
      ty = t;
      faults = spread ps rs ++ own q h es;
      tops = tops_by q ps rs;
      tests = through n q no_part rs ++ on n (last_tests q h ps es t);
    }

pub step_by_lem : (env : Env) (n : ℕ) (h : Head) (q : Rule) → rule h ≡ q → (rs : List Res) → step env n h rs ≡ step_by q (roles h) env n h rs
unfolding step
step_by_lem env n h q e rs = ap (λ x. step_by x (roles h) env n h rs) e

small_by : (q : Rule) (ps : List Role) (env : Env) (n : ℕ) (h : Head) {rs : List Res} → All FineRes rs → first_large (step_by q ps env n h rs).tests ≡ none → too_large (step_by q ps env n h rs).ty ≡ false
unfolding type_of
small_by silent ps env n h a p = base-small t_unknown
small_by entering ps env n h empty p = base-small t_unknown
small_by entering ps env n h (also {x = r} {xs = rs} f a) p =
    unfold through in
    f.1 (first-left r.tests (on n (child entering no_part (r.name, r.ty)).tests ++ through n entering (child entering no_part (r.name, r.ty)).kept rs)
    (first-left (through n entering no_part (r ∷ rs)) (on n (last_tests entering h ps (named (r ∷ rs)) r.ty)) p))
small_by (Rule.typed k) ps env n h {rs} a p =
    unfold last_tests in
    let es = named rs in
    let t = type_of (Rule.typed k) env h ps es in
    last-small n (last_by k h ps es) t (first-right (through n (Rule.typed k) no_part rs) (on n (last_by k h ps es ++ (t ∷ []))) p)

-- without its top expressions: the type does not ask for them
abbrev topless : Res → Res
topless r = record { name = r.name; ty = r.ty; faults = r.faults; tops = []; tests = r.tests }

named-topless : (rs : List Res) → named (map topless rs) ≡ named rs
named-topless [] = refl
named-topless (r ∷ rs) = ap (λ l. (r.name, r.ty) ∷ l) (named-topless rs)

type-topless : (env : Env) (n : ℕ) (h : Head) (rs : List Res) → (step env n h (map topless rs)).ty ≡ (step env n h rs).ty
unfolding step
type-topless env n h rs = ap (type_of (rule h) env h (roles h)) (named-topless rs)

-- a line whose children are fine is fine
pub step-fine : (env : Env) (n : ℕ) (h : Head) {rs : List Res} → All FineRes rs → FineRes (step env n h rs)
step-fine env n h {rs} a = (
  subst Regular (type-topless env n h rs) (step-regular env n h (all_map {Q = RegularRes} topless (λ r f. (f.0, empty)) a)).0,
  (unfold step in small_by (rule h) (roles h) env n h a),
)

pub walk_fine : (env : Env) (n : ℕ) (hs : List Head) → All FineRes (walk env n hs)
unfolding walk
walk_fine env n [] = empty
walk_fine env n (h ∷ hs) = let a = walk_fine env (suc n) hs in also (step-fine env n h (all_take (arity h) a)) (all_drop (arity h) a)
