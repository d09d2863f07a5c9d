-- What is claimed of a report's way: it meets the top expressions in the order that the definition gives them, and their tests too.
use Rattle.std.specs.Prelude.{◌≡◌, List, [], ◌∷◌, ◌++◌, ℕ, suc, ◌+◌, length, take}
use Rattle.semantics.specs.Bytes.{Bytes}
use Rattle.semantics.specs.Sheet.{Head, rank, place, arity}
use Rattle.semantics.specs.Walk.{Env, step, walk, env_of, results, all_tests, typing}
use Rattle.hir.specs.Check.{Laid}
use Rattle.hir.specs.declared.valid.Outline.{Outline}
use Rattle.tops.specs.Tops.{out_tops}
use Rattle.tops.specs.Standing.{Standing, Skipped, Typed}

pub record TopsInOrder : Type 0 where
  -- all top expressions of a sheet that was read are those from its clauses on, and no test stands before them
  pub starts : (d : ℕ) (s : Bytes) (r : Outline) (x : Laid d s r)
      → let hs = x.head ∷ (x.binds ++ x.rest) in
      (typing hs ≡ out_tops (env_of hs) (2 + length x.binds) x.rest) × (all_tests (results hs) ≡ all_tests (walk (env_of hs) (2 + length x.binds) x.rest))
  pub stands : (levels : ℕ) (s : Bytes) (r : Outline) (x : Laid levels s r) → Standing levels x.rest
  -- a line that is no expression (place 13) and not the end (place 3) is stepped over
  pub skips : {levels : ℕ} (env : Env) (n : ℕ) (h : Head) (hs : List Head) → Standing levels (h ∷ hs) → (rank (place h) ≡ 13 → ⊥) → (rank (place h) ≡ 3 → ⊥)
      → Skipped levels env n h hs
  -- an expression is the next top expression, and the report goes on behind its tree
  pub types : {levels : ℕ} (env : Env) (n : ℕ) (h : Head) (hs : List Head) → Standing levels (h ∷ hs) → rank (place h) ≡ 13
      → Typed levels env n h hs (step env n h (take (arity h) (walk env (suc n) hs)))
  -- the end is the last line, and no top expression
  pub ends : {levels : ℕ} (h : Head) (hs : List Head) → Standing levels (h ∷ hs) → rank (place h) ≡ 3
      → (hs ≡ []) × ((env : Env) (n : ℕ) → (out_tops env n (h ∷ []) ≡ []) × (all_tests (walk env n (h ∷ [])) ≡ []))
