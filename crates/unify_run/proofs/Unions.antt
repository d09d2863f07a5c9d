-- The running union: tests of its bytes on the way change nothing, and a union met with a union is what the definition says. Assumes nothing.
use mathlib.Core.Path.{◌≡◌, refl, sym, ◌∙◌, ap}
use mathlib.Core.List.{List, [], ◌∷◌, ◌++◌, map}
use mathlib.Core.Option.{Option, none, some, some-injective}
use mathlib.Core.Bool.{Bool, true, false, false≢true}
use Prim.Native.Nat.{◌≤◌}
use borrow.Author.Tests.{ltb-false}
use Rattle.semantics.specs.Limits.{type_limit}
use Rattle.semantics.specs.Ty.{Ty, inserts, opened, gather, joined, is_union}
use Rattle.semantics.proofs.All.{All, empty, also}
use Rattle.semantics.proofs.Order.{gather_append}
use Rattle.unify_run.specs.Run.{Run, done, mismatch, large, unless, checked, given, long, drops, fitting, add, widen, join, run_variants, met_by, run_union_with, run_members}
use Rattle.unify_run.proofs.Size.{bytes, long-large, below-long, inserts-grow, gather-grows}
use Rattle.unify_run.proofs.Gather.{opened-plain, gather-plain}
use Rattle.unify_run.proofs.Verdict.{collect, collected, fallback}

-- ## What comes after

pub given-assoc : {A B C : Type 0} (x : Option A) (f : A → Option B) (d : C) (k : B → C) → given (given x none f) d k ≡ given x d (λ a. given (f a) d k)
given-assoc none f d k = refl
given-assoc (some a) f d k = refl

pub given-cong : {A B : Type 0} (x : Option A) (d : B) {f g : A → B} → ((a : A) → f a ≡ g a) → given x d f ≡ given x d g
given-cong none d e = refl
given-cong (some a) d e = e a

-- what ends in `large` once the running union is too long
abbrev pub Ends : (List Ty → Run) → Type 0
Ends k = (ms : List Ty) → long (joined ms) ≡ true → k ms ≡ large

-- the bytes need no test where what comes after tests them
pub add-run : (k : List Ty → Run) → Ends k → (xs ms : List Ty) → given (add xs ms) large k ≡ k (inserts xs ms)
unfolding add fitting
add-run k e xs ms = go (long (joined (inserts xs ms))) refl
  where
    go : (c : Bool) → long (joined (inserts xs ms)) ≡ c → given (drops c (inserts xs ms)) large k ≡ k (inserts xs ms)
    go true p = sym (e (inserts xs ms) p)
    go false p = refl

abbrev pub is_there : {A : Type 0} → Option A → Bool
is_there none = false
is_there (some a) = true

-- what was added is in, and it fits
pub add-some : (xs ms : List Ty) {r : List Ty} → add xs ms ≡ some r → (r ≡ inserts xs ms) × (bytes (joined r) ≤ type_limit)
unfolding add fitting
add-some xs ms {r} = go (long (joined (inserts xs ms))) refl
  where
    go : (c : Bool) → long (joined (inserts xs ms)) ≡ c → drops c (inserts xs ms) ≡ some r → (r ≡ inserts xs ms) × (bytes (joined r) ≤ type_limit)
    go true p e = absurd (false≢true (ap is_there e))
    go false p e =
        let same : r ≡ inserts xs ms = some-injective r (inserts xs ms) (sym e) in
        (same, rw same (ltb-false type_limit (bytes (joined (inserts xs ms))) (unfold long in p)))

pub checked-ends : Ends (λ ms. checked (joined ms))
unfolding checked
checked-ends ms p = ap (λ c. unless c (done (joined ms))) (long-large (joined ms) p)

-- a running union of types in a row: `Type::union` with a stop at the first part that is too long
unfoldable pub add_all : List Ty → List Ty → Option (List Ty)
add_all [] ms = some ms
add_all (t ∷ ts) ms = given (add (opened t) ms) none (add_all ts)

pub add-all-run : (k : List Ty → Run) → Ends k → (ts ms : List Ty) → given (add_all ts ms) large k ≡ k (gather ts ms)
unfolding add_all gather
add-all-run k e [] ms = refl
add-all-run k e (t ∷ ts) ms = go (add-all-run k e ts)
  where
    go : ((l : List Ty) → given (add_all ts l) large k ≡ k (gather ts l)) → given (given (add (opened t) ms) none (add_all ts)) large k ≡ k (gather ts (inserts (opened t) ms))
    go ih =
        given-assoc (add (opened t) ms) (add_all ts) large k
        ∙ add-run (λ l. given (add_all ts l) large k) (λ l h. ih l ∙ e (gather ts l) (below-long (gather-grows ts l) h)) (opened t) ms
        ∙ ih (inserts (opened t) ms)

-- ## One outer type and the variants

-- what joins the running union of the answers
abbrev settled : Bool → List Ty → Ty → List Ty → List Ty
settled true all o ts = ts
settled false all o ts = fallback all o ts

settled-some : (met : Bool) (all : List Ty) (o t : Ty) (ts : List Ty) → settled met all o (t ∷ ts) ≡ t ∷ ts
unfolding fallback
settled-some true all o t ts = refl
settled-some false all o t ts = refl

module _ (rec : Ty → Ty → Run) (all : List Ty) (plain : All (λ t. is_union t ≡ false) all) (o : Ty) (p : is_union o ≡ false) (k : List Ty → Run) (e : Ends k) where
  abbrev Goes : List Ty → Bool → List Ty → Type 0
  Goes vs met ms = given (run_variants rec all o vs met ms) large k ≡ given (collected (map (λ v. rec v o) vs)) large (λ ts. k (gather (settled met all o ts) ms))

  widen-run : (ms : List Ty) → given (widen all o ms) large k ≡ k (gather (all ++ (o ∷ [])) ms)
  unfolding widen
  widen-run ms =
      given-assoc (add all ms) (add (o ∷ [])) large k ∙ add-run (λ l. given (add (o ∷ []) l) large k) ends all ms ∙ add-run k e (o ∷ []) (inserts all ms)
      ∙ ap k (sym (gather_append all (o ∷ []) ms ∙ last))
    where
      ends : Ends (λ l. given (add (o ∷ []) l) large k)
      ends l h = add-run k e (o ∷ []) l ∙ e (inserts (o ∷ []) l) (below-long (inserts-grow (o ∷ []) l) h)

      last : gather (o ∷ []) (gather all ms) ≡ inserts (o ∷ []) (inserts all ms)
      last = unfold gather in (ap (λ l. inserts l (gather all ms)) (opened-plain o p) ∙ ap (inserts (o ∷ [])) (gather-plain plain ms))

  later-ends : (vs : List Ty) → ((l : List Ty) → Goes vs true l) → Ends (λ l. given (run_variants rec all o vs true l) large k)
  later-ends vs ih l h = ih l ∙ go (collected (map (λ v. rec v o) vs))
    where
      go : (x : Option (List Ty)) → given x large (λ ts. k (gather ts l)) ≡ large
      go none = refl
      go (some ts) = e (gather ts l) (below-long (gather-grows ts l) h)

  variants-run : (vs : List Ty) (met : Bool) (ms : List Ty) → Goes vs met ms
  unfolding run_variants collected
  variants-run [] true ms = unfold gather in refl
  variants-run [] false ms = unfold fallback in widen-run ms
  variants-run (v ∷ vs) met ms = go (rec v o) (λ l. variants-run vs true l) (variants-run vs met ms)
    where
      rest : Option (List Ty)
      rest = collected (map (λ u. rec u o) vs)

      go : (r : Run) → ((l : List Ty) → Goes vs true l) → Goes vs met ms
          → given (join r ms (λ l. run_variants rec all o vs true l) (run_variants rec all o vs met ms)) large k ≡ given (collect r rest) large (λ ts. k (gather (settled met all o ts) ms))
      go (done r) next skip = unfold join gather in
          (given-assoc (add (opened r) ms) (λ l. run_variants rec all o vs true l) large k
          ∙ add-run (λ l. given (run_variants rec all o vs true l) large k) (later-ends vs next) (opened r) ms
          ∙ next (inserts (opened r) ms)
          ∙ given-cong rest large (λ ts. ap (λ l. k (gather l ms)) (sym (settled-some met all o r ts)))
          ∙ sym (given-assoc rest (λ ts. some (r ∷ ts)) large (λ ts. k (gather (settled met all o ts) ms))))
      go (mismatch a b) next skip = unfold join in skip
      go large next skip = unfold join in refl

-- the types that an outer type adds, if none of its answers is too large
unfoldable pub added : (Ty → Ty → Run) → List Ty → Ty → Option (List Ty)
added rec vs o = given (collected (map (λ v. rec v o) (met_by o vs))) none (λ ts. some (fallback vs o ts))

pub with-run : (rec : Ty → Ty → Run) (vs : List Ty) → All (λ t. is_union t ≡ false) vs → (o : Ty) → is_union o ≡ false → (k : List Ty → Run) → Ends k → (ms : List Ty)
    → given (run_union_with rec vs o ms) large k ≡ given (added rec vs o) large (λ ts. k (gather ts ms))
unfolding added
with-run rec vs a o p k e ms = variants-run rec vs a o p k e (met_by o vs) false ms ∙ sym (given-assoc (collected (map (λ v. rec v o) (met_by o vs))) (λ ts. some (fallback vs o ts)) large (λ ts. k (gather ts ms)))

-- ## All outer types

unfoldable pub all_added : (Ty → Ty → Run) → List Ty → List Ty → Option (List Ty)
all_added rec vs [] = some []
all_added rec vs (o ∷ os) = given (added rec vs o) none (λ ts. given (all_added rec vs os) none (λ us. some (ts ++ us)))

-- one running union for all is the union of all that they add
pub members_run : (rec : Ty → Ty → Run) (vs : List Ty) → All (λ t. is_union t ≡ false) vs → {os : List Ty} → All (λ t. is_union t ≡ false) os → (ms : List Ty)
    → run_members rec vs os ms ≡ given (all_added rec vs os) large (λ ts. checked (joined (gather ts ms)))
unfolding run_members all_added
members_run rec vs a empty ms = unfold gather in refl
members_run rec vs a (also {x = o} {xs = os} p ps) ms = go (members_run rec vs a ps)
  where
    Rest : List Ty → Type 0
    Rest l = run_members rec vs os l ≡ given (all_added rec vs os) large (λ ts. checked (joined (gather ts l)))

    ends : ((l : List Ty) → Rest l) → Ends (run_members rec vs os)
    ends ih l h = ih l ∙ last (all_added rec vs os)
      where
        last : (x : Option (List Ty)) → given x large (λ ts. checked (joined (gather ts l))) ≡ large
        last none = refl
        last (some ts) = checked-ends (gather ts l) (below-long (gather-grows ts l) h)

    go : ((l : List Ty) → Rest l) → given (run_union_with rec vs o ms) large (run_members rec vs os)
        ≡ given (given (added rec vs o) none (λ ts. given (all_added rec vs os) none (λ us. some (ts ++ us)))) large (λ ts. checked (joined (gather ts ms)))
    go ih =
        with-run rec vs a o p (run_members rec vs os) (ends ih) ms
        ∙ given-cong (added rec vs o) large (λ ts. ih (gather ts ms) ∙ given-cong (all_added rec vs os) large (λ us. ap (λ l. checked (joined l)) (sym (gather_append ts us ms))) ∙ sym (given-assoc (all_added rec vs os) (λ us. some (ts ++ us)) large (λ us. checked (joined (gather us ms)))))
        ∙ sym (given-assoc (added rec vs o) (λ ts. given (all_added rec vs os) none (λ us. some (ts ++ us))) large (λ ts. checked (joined (gather ts ms))))
