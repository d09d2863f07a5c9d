-- Where the report stands in a sheet that was read: what the contracts of the walk cite. Contract vocabulary; nothing here is to be believed.
use Rattle.std.specs.Prelude.{◌≡◌, List, [], ◌∷◌, ◌++◌, ℕ, suc, ◌+◌, ◌<◌, length}
use Rattle.semantics.specs.Sheet.{Place, expression_place, Typing, typed, Head, rank, rule, Want, clauses, at}
use Rattle.semantics.specs.Walk.{Env, Res, walk, all_tests}
use Rattle.hir.specs.Lines.{Met}
use Rattle.tops.specs.Tops.{top_of, out_tops}

-- the wants before a line to which the report comes, all with the levels of the sheet left: places inside a clause, none of an entry, not below an expression, and last the clauses
pub data Open (levels : ℕ) : List Want → Type 0 where
  open_top : Open levels (clauses levels ∷ [])
  open_in : {x : Place} {ws : List Want} → 3 < rank x → (rank x ≡ 11 → ⊥) → Open levels ws → Open levels (at x levels ∷ ws)

-- the report is before these lines
pub record Standing (levels : ℕ) (hs : List Head) : Type 0 where
  pub wants : List Want
  pub opens : Open levels wants
  pub met : Met wants hs []

-- a line that is no expression and not the end is stepped over
pub record Skipped (levels : ℕ) (env : Env) (n : ℕ) (h : Head) (hs : List Head) : Type 0 where
  pub next : Standing levels hs
  pub tops : out_tops env n (h ∷ hs) ≡ out_tops env (suc n) hs
  pub tests : all_tests (walk env n (h ∷ hs)) ≡ all_tests (walk env (suc n) hs)

-- an expression is typed, and the report is behind its tree
pub record Typed (levels : ℕ) (env : Env) (n : ℕ) (h : Head) (hs : List Head) (r : Res) : Type 0 where
  pub typing : Typing
  pub rule : rule h ≡ typed typing
  pub left : List Head
  pub lines : ℕ
  pub long : length (h ∷ hs) ≡ lines + length left
  pub met : Met (at expression_place levels ∷ []) (h ∷ hs) left
  pub next : Standing levels left
  pub tops : out_tops env n (h ∷ hs) ≡ top_of r ∷ out_tops env (n + lines) left
  pub tests : all_tests (walk env n (h ∷ hs)) ≡ r.tests ++ all_tests (walk env (n + lines) left)
