-- CASE: the running union of its answers comes to what the definition unites. Assumes nothing.
use mathlib.Core.Path.{◌≡◌, refl, ◌∙◌, ap}
use mathlib.Core.List.{List, [], ◌∷◌, ◌++◌}
use mathlib.Core.Option.{some}
use mathlib.Core.Bool.{Bool, true, false, ◌||◌}
use Prim.Native.Nat.{ℕ}
use native.Mathlib.Omega.{arith}
use lib.ListN.{length}
use Rattle.semantics.specs.Bytes.{Bytes}
use Rattle.semantics.specs.Ty.{t_unknown, Ty, too_large, inserts, opened, gather, joined, unite, firsts}
use Rattle.semantics.specs.Sheet.{Head, Role, plain, condition, answer, inner, casing}
use Rattle.semantics.specs.Walk.{Res, Env, answers, tys, type_by, own_by, last_by, no_part, child_by, named}
use Rattle.semantics.specs.Calls.{any_large}
use Rattle.unify_run.specs.Run.{given, drops, long, fitting, add}
use Rattle.unify_run.proofs.Size.{below-large, long-large, gather-grows}
use Rattle.unify_run.proofs.Verdict.{large-append, firsts-large}
use Rattle.unify_run.proofs.UnionsMeet.{base-small}
use Rattle.walk_run.specs.Run.{Kept, over, arms, keep_arm, start, child, told, too_much, or_told, end_case, end, halted, concluded}
use Rattle.walk_run.proofs.Steps.{line_if, outcome, ending, Alike, alike-nil}
use Rattle.walk_run.proofs.Fine.{large-one}
use Rattle.walk_run.proofs.Quiet.{Said, said-alike, Quiet, alike-quiet, alike-idle}

-- ## The tests of a union: the whole is what counts

pub union-ending : (n : ℕ) (us : List Ty) → ending n (firsts [] us ++ (unite us ∷ [])) (unite us) [] ≡ concluded n (or_told (unite us)) []
union-ending n us =
    ap (λ b. outcome (line_if n b) (unite us) []) (large-append (firsts [] us) (unite us ∷ []) ∙ ap (λ b. any_large (firsts [] us) || b) (large-one (unite us)) ∙ ap (λ b. b || too_large (unite us)) all)
    ∙ go (too_large (unite us))
  where
    all : any_large (firsts [] us) ≡ too_large (unite us)
    all = unfold unite in firsts-large us [] (unfold joined in base-small t_unknown)

    go : (c : Bool) → outcome (line_if n (c || c)) (unite us) [] ≡ concluded n (elim c [ true ↦ too_much | false ↦ told (unite us) [] ]) []
    go true = refl
    go false = refl

-- ## The children

casing-quiet : Quiet casing
unfolding child_by
casing-quiet j e = refl

over-child : (p : Role) (b : Bytes) (u : Ty) → child casing p over b u ≡ some over
unfolding child keep_arm
over-child plain b u = refl
over-child condition b u = refl
over-child answer b u = refl
over-child (inner q) b u = refl

or-too-much : (n : ℕ) (t : Ty) → too_large t ≡ true → concluded n (or_told t) [] ≡ halted n
or-too-much n t p = ap (λ c. concluded n (elim c [ true ↦ too_much | false ↦ told t [] ]) []) p

module _ (n : ℕ) (env : Env) (h : Head) (ts : List Ty) (t : Ty) where
  -- the line from here on
  abbrev Casing : Kept → List Role → List Res → Type 0
  Casing k ps rs = Alike n casing ts t [] (end casing env h) no_part k ps rs

  -- what is left to unite beside these members
  abbrev Whole : List Ty → List Role → List Res → Type 0
  Whole ms ps rs = ending n ts t [] ≡ concluded n (or_told (joined (gather (answers ps (tys (named rs))) ms))) []

  over-run : ending n ts t [] ≡ halted n → (ps : List Role) (rs : List Res) → length ps ≡ length rs → Casing over ps rs
  over-run e ps rs l = alike-idle n casing ts t [] (end casing env h) casing-quiet over over-child (unfold end end_case in e) no_part ps rs l

  -- a child that is no answer, and one that is
  arms-other : (ms : List Ty) (p : Role) (ps : List Role) (r : Res) (rs : List Res) → child casing p (arms ms) r.name r.ty ≡ some (arms ms) → Casing (arms ms) ps rs → Casing (arms ms) (p ∷ ps) (r ∷ rs)
  arms-other ms p ps r rs c e = alike-quiet n casing ts t [] (end casing env h) casing-quiet no_part (arms ms) (arms ms) p ps r rs c (λ s. e)

  arms-answer : (ms : List Ty) (ps : List Role) (r : Res) (rs : List Res) → length ps ≡ length rs → Whole (inserts (opened r.ty) ms) ps rs → Casing (arms (inserts (opened r.ty) ms)) ps rs
      → Casing (arms ms) (answer ∷ ps) (r ∷ rs)
  arms-answer ms ps r rs l w e =
      alike-quiet n casing ts t [] (end casing env h) casing-quiet no_part (arms ms) (given (add (opened r.ty) ms) over arms) answer ps r rs (unfold child keep_arm in refl)
      (λ s. unfold add fitting in go (long (joined more)) refl)
    where
      more : List Ty
      more = inserts (opened r.ty) ms

      go : (c : Bool) → long (joined more) ≡ c → Casing (given (drops c more) over arms) ps rs
      go true p = over-run (w ∙ or-too-much n (joined (gather (answers ps (tys (named rs))) more)) (below-large (gather-grows (answers ps (tys (named rs))) more) (long-large (joined more) p))) ps rs l
      go false p = e

  arms-run : (ms : List Ty) (ps : List Role) (rs : List Res) → length ps ≡ length rs → Whole ms ps rs → Casing (arms ms) ps rs
  arms-run ms [] [] l w = alike-nil n casing ts t [] (end casing env h) no_part (arms ms) (unfold end end_case answers gather in w)
  arms-run ms [] (r ∷ rs) l w = absurd (omega arith)
  arms-run ms (p ∷ ps) [] l w = absurd (omega arith)
  arms-run ms (plain ∷ ps) (r ∷ rs) l w = arms-other ms plain ps r rs (unfold child in refl) (arms-run ms ps rs (omega arith) (unfold answers in w))
  arms-run ms (condition ∷ ps) (r ∷ rs) l w = arms-other ms condition ps r rs (unfold child in refl) (arms-run ms ps rs (omega arith) (unfold answers in w))
  arms-run ms (answer ∷ ps) (r ∷ rs) l w =
      let v : Whole (inserts (opened r.ty) ms) ps rs = unfold answers gather in w in
      arms-answer ms ps r rs (omega arith) v (arms-run (inserts (opened r.ty) ms) ps rs (omega arith) v)
  arms-run ms (inner q ∷ ps) (r ∷ rs) l w = arms-other ms (inner q) ps r rs (unfold child in refl) (arms-run ms ps rs (omega arith) (unfold answers in w))

pub casing-run : (env : Env) (n : ℕ) (h : Head) (ps : List Role) (rs : List Res) → length ps ≡ length rs → Said casing env n h ps rs
casing-run env n h ps rs l =
    let us = answers ps (tys (named rs)) in
    said-alike casing env n h ps rs (unfold type_by last_by own_by start in arms-run n env h (firsts [] us ++ (unite us ∷ [])) (unite us) [] ps rs l (union-ending n us ∙ (unfold unite in refl)))
