-- Lines that test nothing between their children: what they keep of the first children, and what they leave alone. Assumes nothing.
use mathlib.Core.Path.{◌≡◌, refl, sym, ◌∙◌, ap}
use mathlib.Core.List.{List, [], ◌∷◌, ◌++◌}
use mathlib.Core.Option.{Option, none, some}
use mathlib.Core.Bool.{false}
use Prim.Native.Nat.{ℕ}
use native.Mathlib.Omega.{arith}
use lib.ListN.{length}
use Rattle.semantics.specs.Bytes.{Bytes}
use Rattle.semantics.specs.Ty.{Ty, too_large}
use Rattle.semantics.specs.Sheet.{Head, Role, Typing, Rule}
use Rattle.semantics.specs.Walk.{Fault, Res, Env, type_by, type_of, own_by, own, last_by, last_tests, Part, no_part, no_more, child_by, named}
use Rattle.semantics.specs.Calls.{first_large, any_large}
use Rattle.unify_run.specs.Run.{given}
use Rattle.walk_run.specs.Run.{Kept, empty, kept, both, start, child, Told, told, end, kids, halted, concluded, closed, run_step, judged_by, judged}
use Rattle.walk_run.proofs.Steps.{line_if, outcome, halt_ran, defined, ending, Alike, alike-nil, alike-cons}
use Rattle.walk_run.proofs.Fine.{large-one, step_by}

-- ## The statement for a line

-- the definition comes to what is run
abbrev pub Said : Typing → Env → ℕ → Head → List Role → List Res → Type 0
Said q env n h ps rs = judged (step_by (Rule.typed q) ps env n h rs) ≡ run_step env n q h ps rs

judged-outcome : (o : Option ℕ) (r : Res) → judged_by o r ≡ outcome o r.ty r.faults
judged-outcome none r = refl
judged-outcome (some l) r = refl

-- by the types that the line itself tests last, its type and its faults
module _ (q : Typing) (env : Env) (n : ℕ) (h : Head) (ps : List Role) (rs : List Res) where
  abbrev pub lasts : List Ty
  lasts = let t = type_by q env h ps (named rs) in last_by q h ps (named rs) ++ (t ∷ [])

  pub said-alike : Alike n q lasts (type_by q env h ps (named rs)) (own_by q h (named rs)) (end q env h) no_part (start q) ps rs → Said q env n h ps rs
  unfolding judged run_step type_of own last_tests
  said-alike e = judged-outcome (first_large (step_by (Rule.typed q) ps env n h rs).tests) (step_by (Rule.typed q) ps env n h rs) ∙ e

-- ## The end of a line whose type cannot be too large

pub ending-small : (n : ℕ) (t : Ty) (gs : List Fault) → too_large t ≡ false → ending n (t ∷ []) t gs ≡ concluded n (told t gs) []
ending-small n t gs p = ap (λ b. outcome (line_if n b) t gs) (large-one t ∙ p)

-- ## No tests between the children

abbrev pub Quiet : Typing → Type 0
Quiet q = (j : Part) (e : Bytes × Ty) → child_by q j e ≡ no_more

module _ (n : ℕ) (q : Typing) (ts : List Ty) (t : Ty) (gs : List Fault) (f : Kept → Told) (quiet : Quiet q) where
  pub alike-quiet : (j : Part) (k i : Kept) (p : Role) (ps : List Role) (r : Res) (rs : List Res) → child q p k r.name r.ty ≡ some i
      → (first_large r.tests ≡ none → Alike n q ts t gs f no_part i ps rs) → Alike n q ts t gs f j k (p ∷ ps) (r ∷ rs)
  unfolding any_large
  alike-quiet j k i p ps r rs c e =
      alike-cons n q ts t gs f j k p ps r rs
      (λ s. ap (λ a. halt_ran (line_if n (any_large a.tests)) (defined n q a.kept ps rs ts t gs)) (quiet j (r.name, r.ty)) ∙ e s
      ∙ ap (λ o. given o (halted n) (λ x. closed n (kids n q x ps rs) f)) (sym c))

  -- nothing changes any more
  pub alike-idle : (k : Kept) → ((p : Role) (b : Bytes) (u : Ty) → child q p k b u ≡ some k) → ending n ts t gs ≡ concluded n (f k) []
      → (j : Part) (ps : List Role) (rs : List Res) → length ps ≡ length rs → Alike n q ts t gs f j k ps rs
  alike-idle k c e j [] [] l = alike-nil n q ts t gs f j k e
  alike-idle k c e j [] (r ∷ rs) l = absurd (omega arith)
  alike-idle k c e j (p ∷ ps) [] l = absurd (omega arith)
  alike-idle k c e j (p ∷ ps) (r ∷ rs) l = alike-quiet j k k p ps r rs (c p r.name r.ty) (λ s. alike-idle k c e no_part ps rs (omega arith))

  -- the first child is kept
  abbrev pub AtFirst : List Res → Type 0
  AtFirst [] = ending n ts t gs ≡ concluded n (f empty) []
  AtFirst (r ∷ rs) = first_large r.tests ≡ none → ending n ts t gs ≡ concluded n (f (kept r.ty)) []

  pub alike-first : ((p : Role) (b : Bytes) (u : Ty) → child q p empty b u ≡ some (kept u)) → ((v : Ty) (p : Role) (b : Bytes) (u : Ty) → child q p (kept v) b u ≡ some (kept v))
      → (ps : List Role) (rs : List Res) → length ps ≡ length rs → AtFirst rs → Alike n q ts t gs f no_part empty ps rs
  alike-first c d [] [] l e = alike-nil n q ts t gs f no_part empty e
  alike-first c d [] (r ∷ rs) l e = absurd (omega arith)
  alike-first c d (p ∷ ps) [] l e = absurd (omega arith)
  alike-first c d (p ∷ ps) (r ∷ rs) l e =
      alike-quiet no_part empty (kept r.ty) p ps r rs (c p r.name r.ty) (λ s. alike-idle (kept r.ty) (d r.ty) (e s) no_part ps rs (omega arith))

  -- the first two are kept
  abbrev pub AtTwo : List Res → Type 0
  AtTwo [] = ending n ts t gs ≡ concluded n (f empty) []
  AtTwo (r ∷ []) = first_large r.tests ≡ none → ending n ts t gs ≡ concluded n (f (kept r.ty)) []
  AtTwo (r ∷ s ∷ rs) = first_large r.tests ≡ none → first_large s.tests ≡ none → ending n ts t gs ≡ concluded n (f (both r.ty s.ty)) []

  pub alike-two : ((p : Role) (b : Bytes) (u : Ty) → child q p empty b u ≡ some (kept u)) → ((v : Ty) (p : Role) (b : Bytes) (u : Ty) → child q p (kept v) b u ≡ some (both v u))
      → ((v w : Ty) (p : Role) (b : Bytes) (u : Ty) → child q p (both v w) b u ≡ some (both v w))
      → (ps : List Role) (rs : List Res) → length ps ≡ length rs → AtTwo rs → Alike n q ts t gs f no_part empty ps rs
  alike-two c d g [] [] l e = alike-nil n q ts t gs f no_part empty e
  alike-two c d g [] (r ∷ rs) l e = absurd (omega arith)
  alike-two c d g (p ∷ ps) [] l e = absurd (omega arith)
  alike-two c d g (p ∷ []) (r ∷ []) l e =
      alike-quiet no_part empty (kept r.ty) p [] r [] (c p r.name r.ty) (λ s. alike-nil n q ts t gs f no_part (kept r.ty) (e s))
  alike-two c d g (p ∷ o ∷ ps) (r ∷ []) l e = absurd (omega arith)
  alike-two c d g (p ∷ []) (r ∷ s ∷ rs) l e = absurd (omega arith)
  alike-two c d g (p ∷ o ∷ ps) (r ∷ s ∷ rs) l e =
      alike-quiet no_part empty (kept r.ty) p (o ∷ ps) r (s ∷ rs) (c p r.name r.ty)
      (λ x. alike-quiet no_part (kept r.ty) (both r.ty s.ty) o ps s rs (d r.ty o s.name s.ty)
      (λ y. alike-idle (both r.ty s.ty) (g r.ty s.ty) (e x y) no_part ps rs (omega arith)))
