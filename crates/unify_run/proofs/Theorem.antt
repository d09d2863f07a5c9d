-- The running form of `unify` answers what the definition's answer and tests come to. Assumes nothing.
use mathlib.Core.Path.{◌≡◌, refl, sym, ◌∙◌, ap}
use mathlib.Core.List.{List, [], ◌∷◌}
use mathlib.Core.Option.{Option, none, some}
use mathlib.Core.Bool.{Bool, true, false, ◌||◌, false≢true}
use Prim.Native.Nat.{ℕ, suc, zero, ◌+◌, ◌≤◌, ◌<◌}
use native.Mathlib.Nat.{le_refl}
use native.Mathlib.Omega.{arith}
use lib.Dec.{ltb}
use borrow.Author.Tests.{ltb-true, lt-ltb}
use Rattle.semantics.specs.Limits.{type_limit, nesting_limit}
use Rattle.semantics.specs.Bytes.{Bytes, same}
use Rattle.semantics.specs.Ty.{t_any, t_null, t_num, t_unknown, Ty, base, t_list, t_map, t_node, t_relationship, t_union, Tys, Fields, ∅ᶠ, field, members, matches, line_to, line, equal, nesting, nesting_f, too_large, insert, inserts, opened, gather, joined, unite}
use Rattle.semantics.specs.Unify.{Unified, gives, differs, unites, on_agreed, tested, unify_maps, unify_label_sets, unify_names, unify_union_with, Meeting, pair, arms, unify}
use Rattle.semantics.proofs.All.{All, empty, also, all-weaken}
use Rattle.semantics.proofs.Order.{TriTy, lt, eq, gt, tri_ty, insert-lt, insert-gt, inserts-swap, same-eq, equal-refl}
use Rattle.semantics.proofs.Meetings.{Met, two_numbers, two_lists, two_maps, two_nodes, two_relationships, two_unions, union_left, union_right, no_rule, met}
use Rattle.semantics.proofs.Regular.{Regular, RegularF, Member}
use Rattle.unify_run.specs.Run.{Run, done, mismatch, large, verdict, checked, on_done, given, long, kept, add, sizes, nullable, run_maps, run_members, run_pair, run_arms, run_unify, run}
use Rattle.unify_run.specs.Claims.{RunningUnify}
use Rattle.unify_run.proofs.Size.{bytes, entry_sizes, union-bytes, map-bytes, nests, Small, small-sound, small-true, long-large, Put, there, more, insert-put, joined-two, members-inside, element-inside}
use Rattle.unify_run.proofs.Gather.{inserts-ascending}
use Rattle.unify_run.proofs.Verdict.{checked-large, checked-small, verdict-gives, verdict-differs, verdict-then, verdict-union}
use Rattle.unify_run.proofs.Unions.{add-run, checked-ends}
use Rattle.unify_run.proofs.UnionsMeet.{judged, judged-arms, Plain, union-one, base-small, union-members, union-both}
use Rattle.unify_run.proofs.Maps.{Values, maps-run}
use Rattle.unify_run.proofs.Labels.{nodes-run}

-- ## Null with a type

-- the members of a regular type go in as they are
opened-sorted : (t : Ty) → Regular t → inserts (opened t) [] ≡ opened t
unfolding opened inserts insert
opened-sorted (base b) h = refl
opened-sorted (t_list t) h = refl
opened-sorted (t_map fs) h = refl
opened-sorted (t_node ls) h = refl
opened-sorted (t_relationship n) h = refl
opened-sorted (t_union ts) h = inserts-ascending (members ts) h.1

too_long : (t : Ty) → type_limit < bytes t → too_large t ≡ true
too_long t l = long-large t (unfold long in lt-ltb type_limit (bytes t) l)

-- a union of two types has four bytes beside theirs
pair-long : (x y : Ty) → type_limit < bytes x + bytes y + 4 → too_large (joined (x ∷ y ∷ [])) ≡ true
unfolding sizes
pair-long x y l = let e = joined-two (x ∷ y ∷ []) (omega arith) in too_long (joined (x ∷ y ∷ [])) (omega arith)

null-bytes : bytes (base t_null) ≡ 2
unfolding line line_to
null-bytes = refl

plain-early : (t : Ty) → type_limit < bytes t + 2 → too_large (joined (insert (base t_null) (t ∷ []))) ≡ true
plain-early t l = go (tri_ty (base t_null) t)
  where
    go : TriTy (base t_null) t → too_large (joined (insert (base t_null) (t ∷ []))) ≡ true
    go (lt h) = rw (insert-lt (base t_null) t [] h) (pair-long (base t_null) t (omega (arith, null-bytes)))
    go (eq h) = absurd (omega (arith, null-bytes, ap bytes h))
    go (gt h) = rw (insert-gt (base t_null) t [] h) (unfold insert in pair-long t (base t_null) (omega (arith, null-bytes)))

union-early : (ts : Tys) → Regular (t_union ts) → Small (t_union ts) → type_limit < sizes (members ts) + 2 → too_large (joined (insert (base t_null) (members ts))) ≡ true
union-early ts h s l = go (insert-put (base t_null) (members ts))
  where
    go : {r : List Ty} → Put (base t_null) (members ts) r → too_large (joined r) ≡ true
    go there = absurd (omega (arith, union-bytes ts))
    go (more {r} a b c) = let e = joined-two r (omega arith) in too_long (joined r) (omega (arith, null-bytes))

-- the test before writing is right
early : (t : Ty) → Regular t → Small t → type_limit < sizes (opened t) + 2 → too_large (joined (insert (base t_null) (opened t))) ≡ true
unfolding opened sizes
early (base b) h s l = plain-early (base b) (omega arith)
early (t_list t) h s l = plain-early (t_list t) (omega arith)
early (t_map fs) h s l = plain-early (t_map fs) (omega arith)
early (t_node ls) h s l = plain-early (t_node ls) (omega arith)
early (t_relationship n) h s l = plain-early (t_relationship n) (omega arith)
early (t_union ts) h s l = union-early ts h s l

null-union : (t : Ty) → Regular t → unite (base t_null ∷ t ∷ []) ≡ joined (insert (base t_null) (opened t))
unfolding unite gather opened inserts
null-union t h = ap joined (inserts-swap (opened t) (base t_null ∷ []) [] ∙ ap (inserts (base t_null ∷ [])) (opened-sorted t h))

pub nullable-run : (t : Ty) → Regular t → Small t → nullable t ≡ verdict (tested (unites [] (base t_null ∷ t ∷ [])))
nullable-run t h s = go (ltb type_limit (sizes (opened t) + 2)) refl ∙ ap checked (sym (null-union t h)) ∙ sym (verdict-union (base t_null ∷ t ∷ []))
  where
    l : List Ty
    l = insert (base t_null) (opened t)

    late : given (add (base t_null ∷ []) (opened t)) large (λ ms. checked (joined ms)) ≡ checked (joined l)
    late = unfold inserts in add-run (λ ms. checked (joined ms)) checked-ends (base t_null ∷ []) (opened t)

    go : (c : Bool) → ltb type_limit (sizes (opened t) + 2) ≡ c → nullable t ≡ checked (joined l)
    go true p = unfold nullable in (rw p (sym (checked-large (joined l) (early t h s (ltb-true type_limit (sizes (opened t) + 2) p)))))
    go false p = unfold nullable in (rw p late)

-- ## What is asked of the inner calls

-- they are right on regular types that are not too large, below a bound on the nesting of both
abbrev pub Right : ℕ → (Ty → Ty → Run) → Type 0
Right k rec = (a b : Ty) → nesting a + nesting b < k → Regular a → Regular b → Small a → Small b → rec a b ≡ judged a b

-- what stands inside a type of this nesting
abbrev pub Part : ℕ → Ty → Type 0
Part k t = Regular t × Small t × (nesting t < k)

pub part-members : (ts : Tys) → Regular (t_union ts) → Small (t_union ts) → All (Part (nesting (t_union ts))) (members ts)
part-members ts h s = go (union-members ts h) (members-inside ts)
  where
    go : {ms : List Ty} → All Member ms → All (λ t. (bytes t < bytes (t_union ts)) × (nesting t < nesting (t_union ts))) ms → All (Part (nesting (t_union ts))) ms
    go empty empty = empty
    go (also {x} m a) (also i b) = also {x = x} (m.1, (omega arith, omega arith), omega arith) (go a b)

part-values : (k : ℕ) (fs : Fields) → RegularF fs → entry_sizes fs ≤ type_limit → nesting_f fs < k → k ≤ nesting_limit → Values (Part k) fs
unfolding entry_sizes nesting
part-values k ∅ᶠ h s d l = tt
part-values k (field n t fs) h s d l = ((h.0, (omega arith, omega arith), omega arith), part-values k fs h.1 (omega arith) (omega arith) l)

pub part-map : (fs : Fields) → Regular (t_map fs) → Small (t_map fs) → Values (Part (nesting (t_map fs))) fs
part-map fs h s = part-values (nesting (t_map fs)) fs h.1 (omega (arith, map-bytes fs)) (unfold nesting in omega arith) s.1

-- ## The arms

-- what is run is what the definition says
record Says (r : Run) (u : Unified) : Type 0 where
  says : r ≡ verdict (tested u)

-- the same test on both sides
branch : (c : Bool) {x y : Run} {u v : Unified} → (c ≡ true → Says x u) → (c ≡ false → Says y v) → Says (elim c [ true ↦ x | false ↦ y ]) (elim c [ true ↦ u | false ↦ v ])
branch true f g = f refl
branch false f g = g refl

fixed : (t : Ty) → too_large t ≡ false → done t ≡ verdict (tested (gives [] t))
fixed t s = sym (verdict-gives t ∙ checked-small t s)

copied : (t : Ty) → Small t → done t ≡ verdict (tested (gives [] t))
copied t s = fixed t (small-true t s)

rel-none : (m n : Option Bytes) → equal (t_relationship m) (t_relationship n) ≡ false → unify_names m n ≡ none
unfolding unify_names
rel-none none n p = refl
rel-none (some a) none p = refl
rel-none (some a) (some b) p = go (same a b) refl
  where
    go : (c : Bool) → same a b ≡ c → ◌≡◌ {A = Option Bytes} (elim c [ true ↦ some a | false ↦ none ]) none
    go true q = absurd (false≢true (sym p ∙ ap (λ x. equal (t_relationship (some a)) (t_relationship (some x))) (sym (same-eq q)) ∙ equal-refl (t_relationship (some a))))
    go false q = refl

rel-small : too_large (t_relationship none) ≡ false
unfolding too_large line line_to nesting Rattle.semantics.specs.Ty.rel_to
rel-small = refl

module _ (k : ℕ) (rec : Ty → Ty → Run) (right : Right k rec) where
  -- a type and a union, either way round
  union-run : (o : Ty) (us : Tys) → Plain o → matches o (t_null ∷ []) ≡ false → nesting o + nesting (t_union us) ≤ k → Regular o → Small o → Regular (t_union us) → Small (t_union us)
      → run_members rec (members us) (o ∷ []) [] ≡ verdict (tested (unify_union_with unify (members us) o))
  union-run o us p n l ro so ru su =
      union-one rec o (all-weaken (λ v m. m.0) (union-members us ru)) p n (all-weaken (λ v i. right v o (omega arith) i.0 ro i.1 so) (part-members us ru su))

  unions-both : (ts us : Tys) → nesting (t_union ts) + nesting (t_union us) ≤ k → Regular (t_union ts) → Small (t_union ts) → Regular (t_union us) → Small (t_union us)
      → run_members rec (members us) (members ts) [] ≡ verdict (tested (unify_union_with unify (members ts) (t_union us)))
  unions-both ts us l rt st ru su =
      union-both rec ts us rt ru su
      (all-weaken (λ o j. all-weaken (λ v i. right v o (omega arith) i.0 j.0 i.1 j.1) (part-members us ru su)) (part-members ts rt st))

  maps-pair : (fs gs : Fields) → nesting (t_map fs) + nesting (t_map gs) ≤ k → Regular (t_map fs) → Small (t_map fs) → Regular (t_map gs) → Small (t_map gs) → run_maps rec fs gs (kept ∅ᶠ) ≡ verdict (tested (unify_maps unify fs fs gs ∅ᶠ))
  maps-pair fs gs l rf sf rg sg =
      maps-run rec (Part (nesting (t_map fs))) (Part (nesting (t_map gs))) (λ t u i j. right t u (omega arith) i.0 j.0 i.1 j.1) fs gs rf.0 rg.0 (part-map fs rf sf) (part-map gs rg sg)

  lists-pair : (t u : Ty) → nesting (t_list t) + nesting (t_list u) ≤ k → Regular t → Small (t_list t) → Regular u → Small (t_list u) → on_done (rec t u) (λ v. checked (t_list v)) ≡ verdict (tested (on_agreed (unify t u) (λ v. gives [] (t_list v))))
  lists-pair t u l rt st ru su =
      let i = element-inside t in
      let j = element-inside u in
      ap (λ r. on_done r (λ v. checked (t_list v))) (right t u (omega arith) rt ru (omega arith) (omega arith))
      ∙ ap (on_done (judged t u)) (λ i v. sym (verdict-gives (t_list v)) i)
      ∙ sym (verdict-then (unify t u) (λ v. gives [] (t_list v)))

  differ : (a b : Ty) → Says (mismatch a b) (differs a b)
  differ a b = record { says = sym (verdict-differs a b) }

  pair-run : {a b : Ty} {r : Meeting} → Met a b r → nesting a + nesting b ≤ k → Regular a → Small a → Regular b → Small b → matches a (t_null ∷ []) ≡ false → matches b (t_null ∷ []) ≡ false → equal a b ≡ false → Says (run_pair rec r) (pair unify r)
  unfolding run_pair pair
  pair-run (two_numbers b c x y) l p s q t m n e = record { says = fixed (base t_num) (base-small t_num) }
  pair-run (two_lists x u) l p s q t m n e = record { says = lists-pair x u l p s q t }
  pair-run (two_maps fs gs) l p s q t m n e = record { says = maps-pair fs gs l p s q t }
  pair-run (two_nodes ls ks) l p s q t m n e = record { says = nodes-run ls ks p q ∙ sym (verdict-gives (t_node (unify_label_sets ls ks))) }
  pair-run (two_relationships r o) l p s q t m n e = record { says = fixed (t_relationship none) rel-small ∙ ap (λ x. verdict (tested (gives [] (t_relationship x)))) (sym (rel-none r o e)) }
  pair-run (two_unions ts us) l p s q t m n e = record { says = unions-both ts us l p s q t }
  pair-run (union_left ts u x) l p s q t m n e = record { says = union-run u ts x n (omega arith) q t p s }
  pair-run (union_right x us y) l p s q t m n e = record { says = union-run x us y m l p s q t }
  pair-run (no_rule a b x) l p s q t m n e = differ a b

  arms-says : (a b : Ty) → nesting a + nesting b ≤ k → Regular a → Regular b → Small a → Small b → Says (run_arms rec a b) (arms unify a b)
  unfolding run_arms arms
  arms-says a b l p q s t =
      branch (matches a (t_any ∷ [])) (λ h. record { says = copied b t })
      (λ h. branch (matches b (t_any ∷ [])) (λ h. record { says = copied a s })
      (λ h. branch (matches a (t_unknown ∷ []) || matches b (t_unknown ∷ [])) (λ h. record { says = fixed (base t_unknown) (base-small t_unknown) })
      (λ h. branch (equal a b) (λ h. record { says = copied a s })
      (λ e. branch (matches a (t_null ∷ [])) (λ h. record { says = nullable-run b q t })
      (λ m. branch (matches b (t_null ∷ [])) (λ h. record { says = nullable-run a p s }) (λ n. pair-run (met a b) l p s q t m n e))))))

-- ## The theorem

-- one step, over inner calls that are right
pub arms-run : (rec : Ty → Ty → Run) (a b : Ty) → Right (nesting a + nesting b) rec → Regular a → Regular b → Small a → Small b → run_arms rec a b ≡ verdict (unify a b)
arms-run rec a b right p q s t = (arms-says (nesting a + nesting b) rec right a b (le_refl (nesting a + nesting b)) p q s t).says ∙ sym (judged-arms a b)

-- the definition's verdict is the run over the definition's verdicts: what the code's inner calls answer, the code makes of it
pub verdict-arms : (a b : Ty) → Regular a → Regular b → too_large a ≡ false → too_large b ≡ false → verdict (unify a b) ≡ run_arms judged a b
verdict-arms a b p q s t = sym (arms-run judged a b (λ c d l g h u v. refl) p q (small-sound a s) (small-sound b t))

-- any bound that is enough
pub run-enough : (k : ℕ) → Right (suc k) (run_unify k)
unfolding run_unify
run-enough zero a b l p q s t = absurd (omega (arith, nests a))
run-enough (suc k) a b l p q s t = arms-run (run_unify k) a b (λ c d i. run-enough k c d (omega arith)) p q s t

pub run-unify : (a b : Ty) → Regular a → Regular b → too_large a ≡ false → too_large b ≡ false → run_unify (nesting a + nesting b) a b ≡ verdict (unify a b)
run-unify a b p q s t = run-enough (nesting a + nesting b) a b (omega arith) p q (small-sound a s) (small-sound b t)

-- it is the recursion with no bound
pub run_arms_lem : (a b : Ty) → Regular a → Regular b → too_large a ≡ false → too_large b ≡ false → run a b ≡ run_arms run a b
unfolding run
run_arms_lem a b p q s t = run-unify a b p q s t ∙ sym (arms-run run a b (λ c d l g h u v. run-enough (nesting c + nesting d) c d (omega arith) g h u v) p q (small-sound a s) (small-sound b t))

pub running-unify : RunningUnify
running-unify = record { answers = run-unify; steps = verdict-arms; recurs = run_arms_lem }
