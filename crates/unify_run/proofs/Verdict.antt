-- What the verdict makes of the definition's steps: tests in a row, an answer and what follows it, unions. Assumes nothing.
use mathlib.Core.Path.{◌≡◌, refl, sym, ◌∙◌, ap}
use mathlib.Core.List.{List, [], ◌∷◌, ◌++◌, map}
use mathlib.Core.Option.{Option, none, some}
use mathlib.Core.Bool.{Bool, true, false, ◌||◌}
use Rattle.semantics.specs.Ty.{Ty, line, line_to, letter, nesting, too_large, inserts, opened, gather, joined, unite, firsts}
use Rattle.semantics.specs.Unify.{Answer, Unified, gives, differs, unites, on_agreed, tested, Variants, variants_with, widened}
use Rattle.semantics.specs.Calls.{any_large}
use Rattle.unify_run.specs.Run.{Run, done, mismatch, large, answered, verdict, checked, unless, on_done, given, drops}
use Rattle.unify_run.proofs.Size.{below-large, gather-grows}

-- ## Tests in a row

pub large-append : (a b : List Ty) → any_large (a ++ b) ≡ (any_large a || any_large b)
unfolding any_large
large-append [] b = refl
large-append (t ∷ a) b = go (too_large t) (large-append a b)
  where
    go : (c : Bool) → any_large (a ++ b) ≡ (any_large a || any_large b) → ◌≡◌ {A = Bool} (elim c [ true ↦ true | false ↦ any_large (a ++ b) ]) ((elim c [ true ↦ true | false ↦ any_large a ]) || any_large b)
    go true ih = refl
    go false ih = ih

-- one of the first parts of a union is too large exactly if the whole is
pub firsts-large : (ts ms : List Ty) → too_large (joined ms) ≡ false → any_large (firsts ms ts) ≡ too_large (joined (gather ts ms))
unfolding firsts any_large gather
firsts-large [] ms h = sym h
firsts-large (t ∷ ts) ms h = go (too_large (joined (inserts (opened t) ms))) refl (firsts-large ts (inserts (opened t) ms))
  where
    l : List Ty
    l = inserts (opened t) ms

    go : (c : Bool) → too_large (joined l) ≡ c → (too_large (joined l) ≡ false → any_large (firsts l ts) ≡ too_large (joined (gather ts l)))
        → ◌≡◌ {A = Bool} (elim c [ true ↦ true | false ↦ any_large (firsts l ts) ]) (too_large (joined (gather ts l)))
    go true p ih = sym (below-large (gather-grows ts l) p)
    go false p ih = ih p

-- ## The verdict of an answer and what follows it

pub checked-large : (t : Ty) → too_large t ≡ true → checked t ≡ large
unfolding checked
checked-large t p = ap (λ c. unless c (done t)) p

pub checked-small : (t : Ty) → too_large t ≡ false → checked t ≡ done t
unfolding checked
checked-small t p = ap (λ c. unless c (done t)) p

pub then-assoc : (r : Run) (f g : Ty → Run) → on_done (on_done r f) g ≡ on_done r (λ t. on_done (f t) g)
then-assoc (done t) f g = refl
then-assoc (mismatch a b) f g = refl
then-assoc large f g = refl

pub verdict-agreed : (u : Unified) (f : Ty → Unified) → verdict (on_agreed u f) ≡ on_done (verdict u) (λ t. verdict (f t))
unfolding verdict on_agreed
verdict-agreed u f = go u.answer u.tests
  where
    either : (t : Ty) (b : Bool) → unless (b || any_large (f t).tests) (answered (f t).answer) ≡ on_done (unless b (done t)) (λ s. verdict (f s))
    either t true = refl
    either t false = refl

    still : (a b : Ty) (c : Bool) → unless c (mismatch a b) ≡ on_done (unless c (mismatch a b)) (λ t. verdict (f t))
    still a b true = refl
    still a b false = refl

    go : (a : Answer) (ts : List Ty) → verdict (on_agreed (record { answer = a; tests = ts }) f) ≡ on_done (verdict (record { answer = a; tests = ts })) (λ t. verdict (f t))
    go (Answer.agreed t) ts = ap (λ c. unless c (answered (f t).answer)) (large-append ts (f t).tests) ∙ either t (any_large ts)
    go (Answer.mismatch a b) ts = still a b (any_large ts)

-- `tested` is one more step
pub tested-step : (u : Unified) → tested u ≡ on_agreed u (λ t. gives (t ∷ []) t)
unfolding tested on_agreed
tested-step u = go u.answer u.tests
  where
    go : (a : Answer) (ts : List Ty) → tested (record { answer = a; tests = ts }) ≡ on_agreed (record { answer = a; tests = ts }) (λ t. gives (t ∷ []) t)
    go (Answer.agreed t) ts = refl
    go (Answer.mismatch a b) ts = refl

verdict-one : (t : Ty) → verdict (gives (t ∷ []) t) ≡ checked t
unfolding verdict any_large checked
verdict-one t = go (too_large t)
  where
    go : (c : Bool) → unless (elim c [ true ↦ true | false ↦ false ]) (done t) ≡ unless c (done t)
    go true = refl
    go false = refl

pub verdict-tested : (u : Unified) → verdict (tested u) ≡ on_done (verdict u) checked
verdict-tested u = ap verdict (tested-step u) ∙ verdict-agreed u (λ t. gives (t ∷ []) t) ∙ ap (on_done (verdict u)) (λ i t. verdict-one t i)

pub verdict-gives : (t : Ty) → verdict (tested (gives [] t)) ≡ checked t
verdict-gives t = verdict-tested (gives [] t) ∙ (unfold verdict any_large in refl)

pub verdict-differs : (a b : Ty) → verdict (tested (differs a b)) ≡ mismatch a b
verdict-differs a b = verdict-tested (differs a b) ∙ (unfold verdict any_large in refl)

-- an answer, what follows it, and the test of all
pub verdict-then : (u : Unified) (f : Ty → Unified) → verdict (tested (on_agreed u f)) ≡ on_done (verdict u) (λ t. verdict (tested (f t)))
verdict-then u f =
    verdict-tested (on_agreed u f)
    ∙ ap (λ r. on_done r checked) (verdict-agreed u f)
    ∙ then-assoc (verdict u) (λ t. verdict (f t)) checked
    ∙ ap (on_done (verdict u)) (λ i t. sym (verdict-tested (f t)) i)

-- ## The verdict of unions

-- the whole is what counts
pub verdict-unites : (ts us : List Ty) → verdict (tested (unites ts us)) ≡ unless (any_large ts) (checked (unite us))
unfolding verdict checked unite
verdict-unites ts us =
    verdict-tested (unites ts us) ∙ ap (λ c. on_done (unless c (done (unite us))) checked) (large-append ts (firsts [] us) ∙ ap (λ c. any_large ts || c) all) ∙ go (any_large ts) (too_large (unite us)) refl
  where
    all : any_large (firsts [] us) ≡ too_large (unite us)
    all = firsts-large us [] (unfold joined too_large line line_to letter nesting in refl)

    go : (c d : Bool) → too_large (unite us) ≡ d → on_done (unless (c || d) (done (unite us))) checked ≡ unless c (unless d (done (unite us)))
    go true d p = refl
    go false true p = refl
    go false false p = ap (λ d. unless d (done (unite us))) p

pub verdict-union : (us : List Ty) → verdict (tested (unites [] us)) ≡ checked (unite us)
unfolding any_large
verdict-union us = verdict-unites [] us

-- the answers of these runs, if none is too large
abbrev pub collect : Run → Option (List Ty) → Option (List Ty)
collect (done r) k = given k none (λ ts. some (r ∷ ts))
collect (mismatch a b) k = k
collect large k = none

unfoldable pub collected : List Run → Option (List Ty)
collected [] = some []
collected (r ∷ rs) = collect r (collected rs)

-- the answers, or the variants and the other type
unfoldable pub fallback : List Ty → Ty → List Ty → List Ty
fallback vs o [] = vs ++ (o ∷ [])
fallback vs o (t ∷ ts) = t ∷ ts

pub variants-collected : (f : Ty → Unified) (vs : List Ty) → collected (map (λ v. verdict (f v)) vs) ≡ drops (any_large (variants_with f vs).tests) (variants_with f vs).answers
variants-collected f [] = unfold variants_with collected any_large in refl
variants-collected f (v ∷ vs) = go (f v).answer refl (variants-collected f vs)
  where
    r : Variants
    r = variants_with f vs

    with-one : (t : Ty) → (f v).answer ≡ Answer.agreed t → variants_with f (v ∷ vs) ≡ record { answers = t ∷ r.answers; tests = (f v).tests ++ r.tests }
    with-one t p = unfold variants_with in (rw (p, variants_with))

    with_none : (a b : Ty) → (f v).answer ≡ Answer.mismatch a b → variants_with f (v ∷ vs) ≡ record { answers = r.answers; tests = (f v).tests ++ r.tests }
    with_none a b p = unfold variants_with in (rw (p, variants_with))

    one : (t : Ty) (c d : Bool) → collect (unless c (done t)) (drops d r.answers) ≡ drops (c || d) (t ∷ r.answers)
    one t true d = refl
    one t false true = refl
    one t false false = refl

    none_more : (a b : Ty) (c d : Bool) → collect (unless c (mismatch a b)) (drops d r.answers) ≡ drops (c || d) r.answers
    none_more a b true d = refl
    none_more a b false d = refl

    both : (us : List Ty) → drops (any_large (f v).tests || any_large r.tests) us ≡ drops (any_large ((f v).tests ++ r.tests)) us
    both us = ap (λ c. drops c us) (sym (large-append (f v).tests r.tests))

    go : (a : Answer) → (f v).answer ≡ a → collected (map (λ u. verdict (f u)) vs) ≡ drops (any_large r.tests) r.answers
        → collected (verdict (f v) ∷ map (λ u. verdict (f u)) vs) ≡ drops (any_large (variants_with f (v ∷ vs)).tests) (variants_with f (v ∷ vs)).answers
    go (Answer.agreed t) p ih = unfold collected verdict in (rw (ih, with-one t p, p) (one t (any_large (f v).tests) (any_large r.tests) ∙ both (t ∷ r.answers)))
    go (Answer.mismatch a b) p ih = unfold collected verdict in (rw (ih, with_none a b p, p) (none_more a b (any_large (f v).tests) (any_large r.tests) ∙ both r.answers))

pub widened-fallback : (vs : List Ty) (o : Ty) (r : Variants) → widened vs o r ≡ unites r.tests (fallback vs o r.answers)
unfolding widened fallback
widened-fallback vs o r = go r.answers r.tests
  where
    go : (us ts : List Ty) → widened vs o (record { answers = us; tests = ts }) ≡ unites ts (fallback vs o us)
    go [] ts = refl
    go (u ∷ us) ts = refl

-- the variants' answers united, or the variants and the other type
pub verdict-widened : (f : Ty → Unified) (vs : List Ty) (o : Ty) → verdict (tested (widened vs o (variants_with f vs))) ≡ given (collected (map (λ v. verdict (f v)) vs)) large (λ ts. checked (unite (fallback vs o ts)))
verdict-widened f vs o =
    let r = variants_with f vs in
    ap (λ u. verdict (tested u)) (widened-fallback vs o r) ∙ verdict-unites r.tests (fallback vs o r.answers) ∙ go (any_large r.tests) r.answers
    ∙ ap (λ k. given k large (λ ts. checked (unite (fallback vs o ts)))) (sym (variants-collected f vs))
  where
    go : (c : Bool) (us : List Ty) → unless c (checked (unite (fallback vs o us))) ≡ given (drops c us) large (λ ts. checked (unite (fallback vs o ts)))
    go true us = refl
    go false us = refl
