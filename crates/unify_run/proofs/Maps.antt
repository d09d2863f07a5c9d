-- Two maps merged in the order of their names, with a partial map that is dropped once it is too long: what the definition says. Assumes nothing.
use mathlib.Core.Path.{◌≡◌, refl, sym, ◌∙◌, ap, fun_ext}
use mathlib.Core.List.{List, [], ◌∷◌}
use mathlib.Core.Option.{Option, none, some}
use mathlib.Core.Bool.{Bool, true, false, false≢true}
use Rattle.semantics.specs.Bytes.{Bytes, same}
use Rattle.semantics.specs.Ty.{Ty, t_map, Fields, ∅ᶠ, field, names, set_field, get_field}
use Rattle.semantics.specs.Unify.{Unified, gives, on_agreed, on_field, tested, extras, unify_maps, unify}
use Rattle.semantics.proofs.All.{All, empty, also, all-weaken}
use Rattle.semantics.proofs.Order.{Less, less-trans, lex-lt, lex-gt, lex-eq, Tri, lt, eq, gt, tri, same_refl, same-lt, same-gt, set-gt, set-swap}
use Rattle.semantics.proofs.Regular.{Ascends}
use Rattle.unify_run.specs.Run.{Run, large, verdict, checked, on_done, given, long, drops, attach, kept, keep, close_map, run_rest, run_entry, run_maps}
use Rattle.unify_run.proofs.Size.{long-large, attach-long}
use Rattle.unify_run.proofs.Verdict.{checked-large, verdict-gives, verdict-then}
use Rattle.unify_run.proofs.Unions.{is_there}
use Rattle.unify_run.proofs.UnionsMeet.{judged}

-- ## The steps of the merge

pub maps-end : (rec : Ty → Ty → Run) (k : Option Fields) → run_maps rec ∅ᶠ ∅ᶠ k ≡ close_map k
unfolding run_maps run_rest
maps-end rec k = refl

pub maps-left : (rec : Ty → Ty → Run) (n : Bytes) (t : Ty) (fs : Fields) (k : Option Fields) → run_maps rec (field n t fs) ∅ᶠ k ≡ run_maps rec fs ∅ᶠ (keep n t k)
unfolding run_maps run_entry
maps-left rec n t fs k = refl

pub maps-right : (rec : Ty → Ty → Run) (m : Bytes) (u : Ty) (gs : Fields) (k : Option Fields) → run_maps rec ∅ᶠ (field m u gs) k ≡ run_maps rec ∅ᶠ gs (keep m u k)
unfolding run_maps run_rest
maps-right rec m u gs k = refl

pub maps-first : (rec : Ty → Ty → Run) (n m : Bytes) (t u : Ty) (fs gs : Fields) (k : Option Fields) → Less n m → run_maps rec (field n t fs) (field m u gs) k ≡ run_maps rec fs (field m u gs) (keep n t k)
unfolding run_maps run_entry
maps-first rec n m t u fs gs k h = rw (lex-lt h, run_entry)

pub maps-both : (rec : Ty → Ty → Run) (n : Bytes) (t u : Ty) (fs gs : Fields) (k : Option Fields) → run_maps rec (field n t fs) (field n u gs) k ≡ on_done (rec t u) (λ v. run_maps rec fs gs (keep n v k))
unfolding run_maps run_entry
maps-both rec n t u fs gs k = rw (lex-eq n, run_entry)

pub maps-second : (rec : Ty → Ty → Run) (n m : Bytes) (t u : Ty) (fs gs : Fields) (k : Option Fields) → Less m n → run_maps rec (field n t fs) (field m u gs) k ≡ run_maps rec (field n t fs) gs (keep m u k)
unfolding run_maps run_entry
maps-second rec n m t u fs gs k h = rw (lex-gt h, run_entry)

-- ## The partial map

-- once over, over for good
pub keep-kept : (n : Bytes) (t : Ty) (fs : Fields) → keep n t (kept fs) ≡ kept (attach n t fs)
unfolding keep kept
keep-kept n t fs = go (long (t_map fs)) refl
  where
    go : (c : Bool) → long (t_map fs) ≡ c → given (drops c fs) none (λ es. drops (long (t_map (attach n t es))) (attach n t es)) ≡ drops (long (t_map (attach n t fs))) (attach n t fs)
    go true p = ap (λ c. drops c (attach n t fs)) (sym (attach-long n t fs p))
    go false p = refl

pub close-kept : (fs : Fields) → close_map (kept fs) ≡ checked (t_map fs)
unfolding close_map kept
close-kept fs = go (long (t_map fs)) refl
  where
    go : (c : Bool) → long (t_map fs) ≡ c → given (drops c fs) large (λ es. checked (t_map es)) ≡ checked (t_map fs)
    go true p = sym (checked-large (t_map fs) (long-large (t_map fs) p))
    go false p = refl

-- ## Names in order

pub ascends-all : (n : Bytes) (ns : List Bytes) → Ascends (n ∷ ns) → All (Less n) ns
ascends-all n [] h = empty
ascends-all n (m ∷ ns) h = also h.0 (all-weaken (λ k q. less-trans h.0 q) (ascends-all m ns h.1))

-- each of these names comes behind the entries
abbrev pub Behind : Fields → List Bytes → Type 0
Behind d ns = All (λ n. All (λ m. Less m n) (names d)) ns

none-behind : (ns : List Bytes) → Behind ∅ᶠ ns
unfolding names
none-behind [] = empty
none-behind (n ∷ ns) = also empty (none-behind ns)

names-attach : {P : Bytes → Type 0} (n : Bytes) (t : Ty) (d : Fields) → P n → All P (names d) → All P (names (attach n t d))
unfolding attach names
names-attach n t ∅ᶠ p a = also p empty
names-attach n t (field m u d) p (also q a) = also q (names-attach n t d p a)

pub behind-attach : (n : Bytes) (t : Ty) (d : Fields) {ns : List Bytes} → All (Less n) ns → Behind d ns → Behind (attach n t d) ns
behind-attach n t d empty empty = empty
behind-attach n t d (also {x = m} p a) (also q b) = also (names-attach n t d p q) (behind-attach n t d a b)

-- behind the others an entry is attached
pub set-attach : (n : Bytes) (t : Ty) (d : Fields) → All (λ m. Less m n) (names d) → set_field n t d ≡ attach n t d
unfolding attach names
set-attach n t ∅ᶠ a = unfold set_field in refl
set-attach n t (field m u d) (also p a) = set-gt n m t u d p ∙ ap (field m u) (set-attach n t d a)

get_none : (n : Bytes) (fs : Fields) → All (Less n) (names fs) → get_field n fs ≡ none
unfolding get_field names
get_none n ∅ᶠ a = refl
get_none n (field m u fs) (also p a) = rw (same-lt p, get_field) (get_none n fs a)

get-head : (n : Bytes) (t : Ty) (fs : Fields) → get_field n (field n t fs) ≡ some t
unfolding get_field
get-head n t fs = rw (same_refl n, get_field)

get-tail : (n m : Bytes) (t : Ty) (fs : Fields) → Less m n → get_field n (field m t fs) ≡ get_field n fs
unfolding get_field
get-tail n m t fs h = rw (same-gt h, get_field)

-- ## The second map's own entries

extras-none : (fs : Fields) (n : Bytes) (u : Ty) (gs d : Fields) → get_field n fs ≡ none → extras fs (field n u gs) d ≡ extras fs gs (set_field n u d)
unfolding extras
extras-none fs n u gs d p = rw (p, extras)

extras-some : (fs : Fields) (n : Bytes) (u t : Ty) (gs d : Fields) → get_field n fs ≡ some t → extras fs (field n u gs) d ≡ extras fs gs d
unfolding extras
extras-some fs n u t gs d p = rw (p, extras)

-- an entry of the first may go in before them
extras-set : (fs gs : Fields) (n : Bytes) (t v : Ty) (d : Fields) → get_field n fs ≡ some t → extras fs gs (set_field n v d) ≡ set_field n v (extras fs gs d)
extras-set fs ∅ᶠ n t v d p = unfold extras in refl
extras-set fs (field m u gs) n t v d p = go (get_field m fs) refl (λ e. extras-set fs gs n t v e p)
  where
    apart : get_field m fs ≡ none → m ≡ n → ⊥
    apart q e = false≢true (ap is_there (sym q ∙ ap (λ k. get_field k fs) e ∙ p))

    go : (o : Option Ty) → get_field m fs ≡ o → ((e : Fields) → extras fs gs (set_field n v e) ≡ set_field n v (extras fs gs e)) → extras fs (field m u gs) (set_field n v d) ≡ set_field n v (extras fs (field m u gs) d)
    go none q ih = extras-none fs m u gs (set_field n v d) q ∙ ap (extras fs gs) (set-swap m n u v (apart q) d) ∙ ih (set_field m u d) ∙ ap (set_field n v) (sym (extras-none fs m u gs d q))
    go (some w) q ih = extras-some fs m u w gs (set_field n v d) q ∙ ih d ∙ ap (set_field n v) (sym (extras-some fs m u w gs d q))

-- a name before all of theirs does not count
extras-skip : (n : Bytes) (t : Ty) (fs gs d : Fields) → All (Less n) (names gs) → extras (field n t fs) gs d ≡ extras fs gs d
unfolding names
extras-skip n t fs ∅ᶠ d a = unfold extras in refl
extras-skip n t fs (field m u gs) d (also p a) = go (get_field m fs) refl (λ e. extras-skip n t fs gs e a)
  where
    go : (o : Option Ty) → get_field m fs ≡ o → ((e : Fields) → extras (field n t fs) gs e ≡ extras fs gs e) → extras (field n t fs) (field m u gs) d ≡ extras fs (field m u gs) d
    go none q ih = extras-none (field n t fs) m u gs d (get-tail m n t fs p ∙ q) ∙ ih (set_field m u d) ∙ sym (extras-none fs m u gs d q)
    go (some w) q ih = extras-some (field n t fs) m u w gs d (get-tail m n t fs p ∙ q) ∙ ih d ∙ sym (extras-some fs m u w gs d q)

-- ## The definition, with the second map's own entries in before the first's

unfoldable pub commons : (Ty → Ty → Unified) → Fields → Fields → Fields → Unified
commons rec ∅ᶠ gs d = gives [] (t_map d)
commons rec (field n t fs) gs d = on_field rec t (get_field n gs) (λ u. commons rec fs gs (set_field n u d))

-- the names of these entries are in the map
abbrev pub Has : Fields → Bytes → Type 0
Has all n = (t : Ty) × (get_field n all ≡ some t)

field-cong : (rec : Ty → Ty → Unified) (t : Ty) (o : Option Ty) {f g : Ty → Unified} → ((u : Ty) → f u ≡ g u) → on_field rec t o f ≡ on_field rec t o g
field-cong rec t none e = e t
field-cong rec t (some u) e = ap (on_agreed (rec t u)) (fun_ext e)

pub maps-commons : (rec : Ty → Ty → Unified) (all gs fs d : Fields) → All (Has all) (names fs) → unify_maps rec all fs gs d ≡ commons rec fs gs (extras all gs d)
unfolding unify_maps commons names
maps-commons rec all gs ∅ᶠ d h = refl
maps-commons rec all gs (field n t fs) d (also p h) = field-cong rec t (get_field n gs) (λ u. maps-commons rec all gs fs (set_field n u d) h ∙ ap (commons rec fs gs) (step u))
  where
    step : (u : Ty) → extras all gs (set_field n u d) ≡ set_field n u (extras all gs d)
    step u = extras-set all gs n p.0 u d p.1

commons-skip : (rec : Ty → Ty → Unified) (m : Bytes) (u : Ty) (gs fs d : Fields) → All (Less m) (names fs) → commons rec fs (field m u gs) d ≡ commons rec fs gs d
unfolding commons names
commons-skip rec m u gs ∅ᶠ d a = refl
commons-skip rec m u gs (field n t fs) d (also p a) = rw (get-tail n m u gs p) (field-cong rec t (get_field n gs) (λ v. commons-skip rec m u gs fs (set_field n v d) a))

has_more : (n m : Bytes) (t : Ty) (fs : Fields) → Has fs m → Has (field n t fs) m
unfolding get_field
has_more n m t fs h = go (same m n)
  where
    go : (c : Bool) → (u : Ty) × (elim c [ true ↦ some t | false ↦ get_field m fs ] ≡ some u)
    go true = (t, refl)
    go false = h

pub has_all : (fs : Fields) → All (Has fs) (names fs)
unfolding names
has_all ∅ᶠ = empty
has_all (field n t fs) = also (t, get-head n t fs) (all-weaken (λ m h. has_more n m t fs h) (has_all fs))

-- ## The merge

-- each value of these entries
abbrev pub Values : (Ty → Type 0) → Fields → Type 0
Values P ∅ᶠ = Unit {0}
Values P (field n t fs) = P t × Values P fs

rest-run : (gs d : Fields) → Ascends (names gs) → Behind d (names gs) → run_rest gs (kept d) ≡ checked (t_map (extras ∅ᶠ gs d))
unfolding run_rest names
rest-run ∅ᶠ d h b = unfold extras in close-kept d
rest-run (field m u gs) d h (also p b) =
    ap (run_rest gs) (keep-kept m u d) ∙ rest-run gs (attach m u d) h.1 (behind-attach m u d (ascends-all m (names gs) h) b)
    ∙ ap (λ e. checked (t_map (extras ∅ᶠ gs e))) (sym (set-attach m u d p)) ∙ ap (λ e. checked (t_map e)) (sym (extras-none ∅ᶠ m u gs d (unfold get_field in refl)))

commons-none : (rec : Ty → Ty → Unified) (n : Bytes) (t : Ty) (fs gs d : Fields) → get_field n gs ≡ none → commons rec (field n t fs) gs d ≡ commons rec fs gs (set_field n t d)
unfolding commons
commons-none rec n t fs gs d p = ap (λ o. on_field rec t o (λ u. commons rec fs gs (set_field n u d))) p

commons-some : (rec : Ty → Ty → Unified) (n : Bytes) (t u : Ty) (fs gs d : Fields) → get_field n gs ≡ some u → commons rec (field n t fs) gs d ≡ on_agreed (rec t u) (λ v. commons rec fs gs (set_field n v d))
unfolding commons
commons-some rec n t u fs gs d p = ap (λ o. on_field rec t o (λ v. commons rec fs gs (set_field n v d))) p

-- the definition from here on: what is left of both maps, and the entries so far
abbrev Said : Fields → Fields → Fields → Run
Said fs gs d = verdict (tested (commons unify fs gs (extras fs gs d)))

module _ (n : Bytes) (t : Ty) (fs : Fields) where
  set-extras : (v : Ty) (gs d : Fields) → All (Less n) (names gs) → All (λ m. Less m n) (names d) → set_field n v (extras (field n t fs) gs d) ≡ extras fs gs (attach n v d)
  set-extras v gs d a b = sym (extras-set (field n t fs) gs n t v d (get-head n t fs)) ∙ extras-skip n t fs gs (set_field n v d) a ∙ ap (extras fs gs) (set-attach n v d b)

  -- an entry of the first alone, of both, of the second alone
  said-first : (gs d : Fields) → All (Less n) (names gs) → All (λ m. Less m n) (names d) → Said (field n t fs) gs d ≡ Said fs gs (attach n t d)
  said-first gs d a b =
      ap (λ u. verdict (tested u)) (commons-none unify n t fs gs (extras (field n t fs) gs d) (get_none n gs a) ∙ ap (commons unify fs gs) (set-extras t gs d a b))

  said-both : (u : Ty) (gs d : Fields) → All (Less n) (names fs) → All (Less n) (names gs) → All (λ m. Less m n) (names d) → Said (field n t fs) (field n u gs) d ≡ on_done (judged t u) (λ v. Said fs gs (attach n v d))
  said-both u gs d c a b =
      ap (λ e. verdict (tested (commons unify (field n t fs) (field n u gs) e))) (extras-some (field n t fs) n u t gs d (get-head n t fs))
      ∙ ap (λ x. verdict (tested x)) (commons-some unify n t u fs (field n u gs) (extras (field n t fs) gs d) (get-head n u gs))
      ∙ verdict-then (unify t u) (λ v. commons unify fs (field n u gs) (set_field n v (extras (field n t fs) gs d)))
      ∙ ap (on_done (judged t u)) (fun_ext (λ v. ap (λ x. verdict (tested x)) (commons-skip unify n u gs fs (set_field n v (extras (field n t fs) gs d)) c ∙ ap (commons unify fs gs) (set-extras v gs d a b))))

  said-second : (m : Bytes) (u : Ty) (gs d : Fields) → All (Less m) (n ∷ names fs) → All (λ k. Less k m) (names d) → Said (field n t fs) (field m u gs) d ≡ Said (field n t fs) gs (attach m u d)
  said-second m u gs d a b =
      ap (λ e. verdict (tested (commons unify (field n t fs) (field m u gs) e))) (extras-none (field n t fs) m u gs d (get_none m (field n t fs) below) ∙ ap (extras (field n t fs) gs) (set-attach m u d b))
      ∙ ap (λ x. verdict (tested x)) (commons-skip unify m u gs (field n t fs) (extras (field n t fs) gs (attach m u d)) below)
    where
      below : All (Less m) (names (field n t fs))
      below = unfold names in a

module _ (rec : Ty → Ty → Run) (A B : Ty → Type 0) (same-rec : (t u : Ty) → A t → B u → rec t u ≡ judged t u) where
  abbrev Merges : Fields → Fields → Fields → Type 0
  Merges fs gs d = Ascends (names gs) → Behind d (names fs) → Behind d (names gs) → Values B gs → run_maps rec fs gs (kept d) ≡ Said fs gs d

  entry-run : (n : Bytes) (t : Ty) (fs : Fields) → Ascends (n ∷ names fs) → A t → ((gs d : Fields) → Merges fs gs d) → (gs d : Fields) → Merges (field n t fs) gs d
  unfolding names
  entry-run n t fs up at ih ∅ᶠ d g (also p ps) q v =
      maps-left rec n t fs (kept d) ∙ ap (run_maps rec fs ∅ᶠ) (keep-kept n t d) ∙ ih ∅ᶠ (attach n t d) tt (behind-attach n t d (ascends-all n (names fs) up) ps) empty tt ∙ sym (said-first n t fs ∅ᶠ d empty p)
  entry-run n t fs up at ih (field m u gs) d g (also p ps) (also q qs) v = go (tri n m) (λ e. entry-run n t fs up at ih gs e)
    where
      later : All (Less n) (names fs)
      later = ascends-all n (names fs) up

      Goal : Type 0
      Goal = run_maps rec (field n t fs) (field m u gs) (kept d) ≡ Said (field n t fs) (field m u gs) d

      go : Tri n m → ((e : Fields) → Merges (field n t fs) gs e) → Goal
      go (lt h) inner =
          let above : All (Less n) (m ∷ names gs) = also h (all-weaken (λ k r. less-trans h r) (ascends-all m (names gs) g)) in
          maps-first rec n m t u fs gs (kept d) h ∙ ap (run_maps rec fs (field m u gs)) (keep-kept n t d)
          ∙ ih (field m u gs) (attach n t d) g (behind-attach n t d later ps) (behind-attach n t d above (also q qs)) v ∙ sym (said-first n t fs (field m u gs) d above p)
      go (eq h) inner =
          let above : All (Less n) (names gs) = rw h (ascends-all m (names gs) g) in
          rw (← h)
          (maps-both rec n t u fs gs (kept d)
          ∙ ap (λ r. on_done r (λ w. run_maps rec fs gs (keep n w (kept d)))) (same-rec t u at v.0)
          ∙ ap (on_done (judged t u)) (fun_ext (λ w. ap (run_maps rec fs gs) (keep-kept n w d) ∙ ih gs (attach n w d) g.1 (behind-attach n w d later ps) (behind-attach n w d above qs) v.1))
          ∙ sym (said-both n t fs u gs d later above p))
      go (gt h) inner =
          let above : All (Less m) (n ∷ names fs) = also h (all-weaken (λ k r. less-trans h r) later) in
          maps-second rec n m t u fs gs (kept d) h ∙ ap (run_maps rec (field n t fs) gs) (keep-kept m u d)
          ∙ inner (attach m u d) g.1 (behind-attach m u d above (also p ps)) (behind-attach m u d (ascends-all m (names gs) g) qs) v.1 ∙ sym (said-second n t fs m u gs d above q)

  merge-run : (fs gs d : Fields) → Ascends (names fs) → Values A fs → Merges fs gs d
  merge-run ∅ᶠ gs d up at g p q v = unfold run_maps commons in (rest-run gs d g q ∙ sym (verdict-gives (t_map (extras ∅ᶠ gs d))))
  merge-run (field n t fs) gs d up at g p q v = entry-run n t fs (unfold names in up) at.0 (λ hs e. merge-run fs hs e (unfold names in up.1) at.1) gs d g p q v

  pub maps-run : (fs gs : Fields) → Ascends (names fs) → Ascends (names gs) → Values A fs → Values B gs → run_maps rec fs gs (kept ∅ᶠ) ≡ verdict (tested (unify_maps unify fs fs gs ∅ᶠ))
  maps-run fs gs f g a b =
      merge-run fs gs ∅ᶠ f a g (none-behind (names fs)) (none-behind (names gs)) b
      ∙ ap (λ u. verdict (tested u)) (sym (maps-commons unify fs gs fs ∅ᶠ (has_all fs)))
