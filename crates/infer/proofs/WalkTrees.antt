-- Trees of lines under a cursor, and their results. Assumes nothing.
use mathlib.Core.Path.{◌≡◌, refl, sym, ◌∙◌, ap, subst}
use mathlib.Core.List.{List, [], ◌∷◌, ◌++◌, append-nil, append_assoc, map}
use mathlib.Core.Option.{Option, none, some}
use mathlib.Core.Bool.{true}
use Prim.Native.Nat.{ℕ, suc, ◌+◌, ◌≤◌}
use native.Mathlib.Omega.{arith}
use lib.ListN.{length, take, drop, length-append, length-take, length-drop}
use borrow.Author.Tests.{eqb-true}
use Rattle.semantics.specs.Bytes.{Bytes}
use Rattle.semantics.specs.Ty.{Ty}
use Rattle.semantics.specs.Sheet.{Head, Place, entering, rule, roles, arity, rank, place, Want, at, wanted, deeper, fits, beyond, ok, under, under as wants_under}
use Rattle.semantics.specs.Walk.{Env, Res, Fault, step, walk, env_of, all_tests}
use Rattle.semantics.specs.Calls.{first_large}
use Rattle.hir.specs.Lines.{LineAt, Lines, no_line, a_line, Met, all_met, meets}
use Rattle.hir.proofs.LinesLaws.{met-split, Inner, AllIn, none_in, one_in, inner-under, met-walk}
use Rattle.walk_run.specs.Run.{halted, typed, judged, all_faults}
use Rattle.walk_run.proofs.Silent.{silent-run, entering-run}
use Rattle.bounds.proofs.Growth.{under-many, all_in}
use Rattle.infer.specs.Walks.{result_of}
use Rattle.infer.proofs.WalkTable.{Passes, is_silent, is_entry, entry-arity}

-- ## Lines

pub lines-in : {s : Bytes} {p r : ℕ} {hs : List Head} → Lines s p hs r → p ≤ r
lines-in no_line = omega arith
lines-in (a_line a l) = omega (arith, a.on, lines-in l)

pub record FirstLine (s : Bytes) (p : ℕ) (h : Head) (hs : List Head) (r : ℕ) : Type 0 where
  pub next : ℕ
  pub line : LineAt s p h next
  pub lines : Lines s next hs r

pub first-line : {s : Bytes} {p r : ℕ} {h : Head} {hs : List Head} → Lines s p (h ∷ hs) r → FirstLine s p h hs r
first-line (a_line {q = q} a l) = record { next = q; line = a; lines = l }

-- ## Trees

pub no-wants : {hs ks : List Head} → Met [] hs ks → hs ≡ ks
no-wants all_met = refl

-- the first of some trees
pub record First (w : Want) (ws : List Want) (hs ks : List Head) : Type 0 where
  pub head : Head
  pub under : List Head
  pub behind : List Head
  pub same : hs ≡ head ∷ under
  pub fits : fits w (rank (place head)) ≡ true
  pub met : Met (w ∷ []) (head ∷ under) behind
  pub rest : Met ws behind ks
  pub whole : Met (wants_under w head ++ ws) under ks

pub first-met : {w : Want} {ws : List Want} {hs ks : List Head} → Met (w ∷ ws) hs ks → First w ws hs ks
first-met (meets {w = w} {ws = ws} {h = h} {hs = hs} {ks = ks} f g m) =
    let p = met-split (w ∷ []) ws (h ∷ hs) ks (meets f g m) in
    record { head = h; under = hs; behind = p.0; same = refl; fits = f; met = p.1; rest = p.2; whole = m }

-- what a tree's first line is, and what hangs under it
pub met-fits : {w : Want} {h : Head} {hs ks : List Head} → Met (w ∷ []) (h ∷ hs) ks → (fits w (rank (place h)) ≡ true) × (beyond w h ≡ ok h) × Met (under w h ++ []) hs ks
met-fits (meets f g m) = (f, g, m)

pub met-rank : {q : Place} {e : ℕ} {h : Head} {hs ks : List Head} → Met (at q e ∷ []) (h ∷ hs) ks → rank (place h) ≡ rank q
unfolding fits
met-rank {q} {e} {h} m = eqb-true (rank (place h)) (rank q) (met-fits m).0

pub met-under : {w : Want} {h : Head} {hs ks : List Head} → Inner w → Met (w ∷ []) (h ∷ hs) ks → Met (map (wanted (deeper w)) (roles h)) hs ks
met-under {w} {h} {hs} {ks} i m =
    let f = met-fits m in
    subst (λ (x : List Want). Met x hs ks) (append-nil (under w h) ∙ (inner-under w h i f.0).0) f.2

-- as many results as trees
pub met-many : {ws : List Want} {hs ks : List Head} → AllIn ws → Met ws hs ks → (env : Env) (n : ℕ) → length ws ≤ length (walk env n hs)
unfolding walk
met-many i all_met env n = omega arith
met-many (one_in i is) (meets {w = w} {ws = ws} {h = h} {hs = hs} f g m) env n =
    let u = inner-under w h i f in
    let r = met-many (all_in u.1 is) m env (suc n) in
    omega (arith, r, length-append (under w h) ws, under-many w h i f, length-drop (arity h) (walk env (suc n) hs))

pub kids-many : {w : Want} {h : Head} {hs ks : List Head} → Inner w → Met (w ∷ []) (h ∷ hs) ks → (env : Env) (n : ℕ) → length (take (arity h) (walk env n hs)) ≡ arity h
kids-many {w} {h} {hs} {ks} i m env n =
    let f = met-fits m in
    let l = met-many (all_in (inner-under w h i f.0).1 none_in) f.2 env n in
    omega (arith, length-take (arity h) (walk env n hs), l, length-append (under w h) [], under-many w h i f.0)

-- ## The results of what is left

pub walk_first : (env : Env) (n m : ℕ) (h : Head) (hs : List Head) → take (suc m) (walk env n (h ∷ hs)) ≡ result_of env n h hs ∷ take m (drop (arity h) (walk env (suc n) hs))
unfolding walk
walk_first env n m h hs = refl

pub walk-next : (env : Env) (n m k : ℕ) (h : Head) (hs ks : List Head) → drop (arity h) (walk env (suc n) hs) ≡ walk env k ks
    → take (suc m) (walk env n (h ∷ hs)) ≡ result_of env n h hs ∷ take m (walk env k ks)
walk-next env n m k h hs ks e = walk_first env n m h hs ∙ ap (λ (x : List Res). result_of env n h hs ∷ take m x) e

-- where a tree ends
pub tree-ends : {w : Want} {h : Head} {hs ks : List Head} → Inner w → Met (w ∷ []) (h ∷ hs) ks → (env : Env) (n k : ℕ) → k + length ks ≡ n + suc (length hs)
    → drop (arity h) (walk env (suc n) hs) ≡ walk env k ks
unfolding walk
tree-ends {w} {h} {hs} {ks} i m env n k e =
    let r = met-walk (one_in i none_in) m env n in
    let z : n + r.0 ≡ k = omega (arith, r.1) in
    r.2 ∙ ap (λ (x : ℕ). walk env x ks) z

pub tree-shorter : {w : Want} {h : Head} {hs ks : List Head} → Inner w → Met (w ∷ []) (h ∷ hs) ks → length ks ≤ length hs
tree-shorter {w} {h} {hs} {ks} i m =
    let f = met-fits m in
    let r = met-walk (all_in (inner-under w h i f.0).1 none_in) f.2 (env_of []) 0 in
    omega (arith, r.1)

-- ## Lines that pass on what hangs under them

pub faults-append : (a b : List Res) → all_faults (a ++ b) ≡ all_faults a ++ all_faults b
unfolding all_faults
faults-append [] b = refl
faults-append (r ∷ a) b = ap (λ (x : List Fault). r.faults ++ x) (faults-append a b) ∙ sym (append_assoc r.faults (all_faults a) (all_faults b))

pub tests-append : (a b : List Res) → all_tests (a ++ b) ≡ all_tests a ++ all_tests b
unfolding all_tests
tests-append [] b = refl
tests-append (r ∷ a) b = ap (λ (x : List (ℕ × Ty)). r.tests ++ x) (tests-append a b) ∙ sym (append_assoc r.tests (all_tests a) (all_tests b))

one_only : (rs : List Res) → length rs ≡ 1 → (r : Res) × (rs ≡ r ∷ [])
one_only [] e = absurd (omega arith)
one_only (r ∷ []) e = (r, refl)
one_only (r ∷ r' ∷ rs) e = absurd (omega arith)

pub passes_on : (env : Env) (n : ℕ) (h : Head) (rs : List Res) → Passes h → length rs ≡ arity h → ((step env n h rs).faults ≡ all_faults rs) × ((step env n h rs).tests ≡ all_tests rs)
unfolding all_faults all_tests
passes_on env n h rs (is_silent e) l = silent-run env n h e rs l
passes_on env n h rs (is_entry e) l =
    let o = one_only rs (l ∙ entry-arity h e) in
    let x = entering-run env n h e o.0 in (
      ap (λ (y : List Res). (step env n h y).faults) o.1 ∙ x.2 ∙ sym (append-nil o.0.faults) ∙ ap all_faults (sym o.1),
      ap (λ (y : List Res). (step env n h y).tests) o.1 ∙ x.3 ∙ sym (append-nil o.0.tests) ∙ ap all_tests (sym o.1),
    )

-- ## Judgement

pub judged-none : (r : Res) → first_large r.tests ≡ none → judged r ≡ typed r.ty r.faults
unfolding judged
judged-none r e = rw (e, judged)

pub judged-some : (r : Res) (l : ℕ) → first_large r.tests ≡ some l → judged r ≡ halted l
unfolding judged
judged-some r l e = rw (e, judged)

-- an entry is judged as its expression
pub judged-entry : (env : Env) (n : ℕ) (h : Head) (r : Res) → rule h ≡ entering → judged (step env n h (r ∷ [])) ≡ judged r
unfolding judged
judged-entry env n h r e =
    let x = entering-run env n h e r in
    go (step env n h (r ∷ [])) x.1 x.2 x.3
  where
    go : (y : Res) → y.ty ≡ r.ty → y.faults ≡ r.faults → y.tests ≡ r.tests → judged y ≡ judged r
    go y a b c = go' (first_large r.tests) refl (ap first_large c)
      where
        go' : (o : Option ℕ) → first_large r.tests ≡ o → first_large y.tests ≡ first_large r.tests → judged y ≡ judged r
        go' none f g = judged-none y (g ∙ f) ∙ ap (λ (t : Ty). typed t y.faults) a ∙ ap (typed r.ty) b ∙ sym (judged-none r f)
        go' (some l) f g = judged-some y l (g ∙ f) ∙ sym (judged-some r l f)
