-- Unions: an outer type meets the variants, and each outer type does. Assumes nothing.
use Rattle.std.specs.Prelude.{Option as StdOption, Some, None, Ok, Err}
use mathlib.Core.Path.{◌≡◌, refl, sym, ◌∙◌, ap, subst}
use mathlib.Core.List.Memᴰ
use mathlib.Core.List.{List, [], ◌∷◌, ◌++◌, Memᴰ}
use mathlib.Core.Option.{Option, none, some}
use mathlib.Core.Bool.{Bool, true, false}
use Prim.Native.Nat.{ℕ, ◌+◌, ◌-◌, ◌≤◌, ◌<◌}
use native.Mathlib.Omega.{arith}
use lib.ListN.{length, take, drop, get_or}
use lib.Seq.{slice_empty}
use Rattle.semantics.specs.Bytes.{Bytes}
use Rattle.semantics.specs.Ty.{Ty, line, inserts, opened}
use Rattle.semantics.proofs.All.{All, empty, also}
use Rattle.semantics.proofs.Regular.{regular-sound}
use Rattle.ty.specs.Parts.{lines_of, TypeFrom, EndsAt, TypeAt}
use Rattle.ty.specs.Read.{kind_of}
use Rattle.ty.specs.Union.{TypesAt, Placing, AddedOpened}
use Rattle.ty.proofs.KindLaws.{kind_at}
use Rattle.ty.proofs.Members.{types_long, no-types, as-types, one_type, first_at}
use Rattle.unify_run.specs.Run.{Run, done, mismatch, large, given, add, widen, join, met_by, run_variants, run_union_with, run_members}
use Rattle.unify_run.proofs.Answers.{Fine, FineRun, unify-fine}
use Rattle.unify.specs.Work.{Unified, span, Operand, PartReady, judged, Answered, Unifies, Below}
use Rattle.unify.specs.Made.{SomeUnion, ClosedUnion}
use Rattle.unify.specs.Variants.{Plain, Members, RunningAt, FewAt, Grows, Widening, Widened, UnionAt, SomeOuter, Joins, OuterJoined, SomeOuters, UnionAnswer}
use Rattle.unify.specs.declared.Span.{Span}
use Rattle.unify.specs.declared.UnifyError.{UnifyError}
use Rattle.unify.specs.declared.UnifyError.TheVariants.{Mismatch, TooLarge}
use Rattle.std.specs.Option.{ok_or}
use Rattle.unify.proofs.Marks.{types-stay, operand_less, below-same, below_then, below_less, below-types, part-types, part_type, back_below, back-types}
use Rattle.unify.proofs.UnionRun.{MembersIf, add-members, widen-members, opened-plain, all_of, grows, null-kind, other-kind}
use Rattle.unify.proofs.UnionJoins.{first-type, first_is, rest-is, first-less, first-operand, small-long, grows-len, grows-over, few_on}
use Rattle.unify.proofs.PartAnswers.{answer-done}

all_head : {P : Ty → Type 0} {x : Ty} {xs : List Ty} → All P (x ∷ xs) → P x
all_head (also p a) = p

all_tail : {P : Ty → Type 0} {x : Ty} {xs : List Ty} → All P (x ∷ xs) → All P xs
all_tail (also p a) = a

-- with other members, and other outer types of those that were there
union-on : {s s' : Bytes} {o o' v : Span} {mark n n' : ℕ} {os ps all ms ls : List Ty} → UnionAt s o v mark n os all ms → Below s s' mark → TypesAt s o'.from o'.to ps → o'.to ≤ mark
    → ((y : Ty) → Memᴰ y ps → Memᴰ y os) → All Plain ps → RunningAt s' mark n' ls → Members ls → UnionAt s' o' v mark n' ps all ls
union-on u b t below among plain r m =
    record {
      outers_at = below-types b below t;
      outers_below = below;
      variants_at = few_on b u.variants_at;
      running = r;
      outers_plain = plain;
      all_plain = u.all_plain;
      members = m;
      rooms = λ x y h k. omega (arith, u.rooms x y h (among y k), b.long);
      room_for_two = omega (arith, u.room_for_two, b.long);
    }

-- ## What a variant's answer makes of the run

module _ (v o : Ty) (vs all ms : List Ty) (met : Bool) where
  variants-done : {t : Ty} {l : List Ty} → judged v o ≡ done t → add (opened t) ms ≡ some l → run_variants judged all o (v ∷ vs) met ms ≡ run_variants judged all o vs true l
  unfolding run_variants join
  variants-done e d =
      ap (λ (R : Run). join R ms (λ l. run_variants judged all o vs true l) (run_variants judged all o vs met ms)) e
      ∙ ap (λ (z : Option (List Ty)). given z none (λ l. run_variants judged all o vs true l)) d

  variants-over : {t : Ty} → judged v o ≡ done t → add (opened t) ms ≡ none → run_variants judged all o (v ∷ vs) met ms ≡ none
  unfolding run_variants join
  variants-over e d =
      ap (λ (R : Run). join R ms (λ l. run_variants judged all o vs true l) (run_variants judged all o vs met ms)) e
      ∙ ap (λ (z : Option (List Ty)). given z none (λ l. run_variants judged all o vs true l)) d

  variants-apart : {x y : Ty} → judged v o ≡ mismatch x y → run_variants judged all o (v ∷ vs) met ms ≡ run_variants judged all o vs met ms
  unfolding run_variants join
  variants-apart e = ap (λ (R : Run). join R ms (λ l. run_variants judged all o vs true l) (run_variants judged all o vs met ms)) e

  variants-large : judged v o ≡ large → run_variants judged all o (v ∷ vs) met ms ≡ none
  unfolding run_variants join
  variants-large e = ap (λ (R : Run). join R ms (λ l. run_variants judged all o vs true l) (run_variants judged all o vs met ms)) e

apart-of : (s : Bytes) (m : ℕ) (p q : Span) (R : Run) → Answered R s m (Err (Mismatch p q)) → (x : Ty) × (y : Ty) × (R ≡ mismatch x y)
apart-of s m p q (done t) h = absurd h
apart-of s m p q (mismatch x y) h = (x, y, refl)
apart-of s m p q large h = absurd h

large-of : (s : Bytes) (m : ℕ) (R : Run) → Answered R s m (Err TooLarge) → R ≡ large
large-of s m (done t) h = absurd h
large-of s m (mismatch x y) h = absurd h
large-of s m large h = refl

fine-answer : {s : Bytes} {a b : Span} {m : ℕ} {v o t : Ty} → Operand s a m v → Operand s b m o → judged v o ≡ done t → Fine t
fine-answer {v = v} {o = o} p q e = subst FineRun e (unify-fine v o (regular-sound v p.regular, p.small) (regular-sound o q.regular, q.small))

few-outer : {s : Bytes} {outer variants : Span} {mark n : ℕ} {o : Ty} {all ms : List Ty} → UnionAt s outer variants mark n (o ∷ []) all ms → FewAt s outer mark (o ∷ [])
few-outer u = record { at = u.outers_at; below = u.outers_below; few = small-long (one_type u.outers_at) (all_head u.outers_plain).small }

-- ## An outer type meets the variants

-- it is still to meet the variants vs, from `next` on, and what comes of that is G
pub record VariantsFor (s : Bytes) (outer variants : Span) (mark next n : ℕ) (met : Bool) (o : Ty) (all : List Ty) (G : Option (List Ty)) : Type 0 where
  pub vs : List Ty
  pub ms : List Ty
  pub union : UnionAt s outer variants mark n (o ∷ []) all ms
  pub rest : TypesAt s next variants.to vs
  pub among : (x : Ty) → Memᴰ x vs → Memᴰ x all
  pub comes : run_variants judged all o vs met ms ≡ G

pub record MeetInv (s₀ : Bytes) (outer variants : Span) (mark n₀ : ℕ) (s : Bytes) (next n : ℕ) (met : Bool) : Type 0 where
  pub some : SomeOuter s₀ outer variants mark n₀
  pub below : Below s₀ s mark
  pub comes : (o : Ty) (all ms : List Ty) → UnionAt s₀ outer variants mark n₀ (o ∷ []) all ms → VariantsFor s outer variants mark next n met o all (run_union_with judged all o ms)

outer-at : {s : Bytes} {outer variants : Span} {mark n : ℕ} {o : Ty} {all ms : List Ty} → UnionAt s outer variants mark n (o ∷ []) all ms → Operand s outer mark o
outer-at u = record { at = one_type u.outers_at; below = u.outers_below; regular = (all_head u.outers_plain).regular; small = (all_head u.outers_plain).small }

module _ {s : Bytes} {outer variants : Span} {mark n : ℕ} (p : SomeOuter s outer variants mark n) where
  outer-kind : {o : Ty} {all ms : List Ty} → UnionAt s outer variants mark n (o ∷ []) all ms → get_or s outer.from 0 ≡ kind_of o
  outer-kind {o} u = kind_at s outer.from (outer.from + length (line o)) o (first_at u.outers_at)

  -- Null meets none
  pub meet-null : get_or s outer.from 0 ≡ 66 → MeetInv s outer variants mark n s variants.to n false
  unfolding met_by lines_of
  meet-null h =
      record {
        some = p;
        below = below-same s mark;
        comes = λ o all ms u.
            record {
              vs = [];
              ms = ms;
              union = u;
              rest = record { ordered = omega arith; inside = u.variants_at.at.inside; is = slice_empty variants.to s };
              among = λ x m. elim m [ ];
              comes = ap (λ (b : Bool). run_variants judged all o (elim b [ true ↦ [] | false ↦ all ]) false ms) (sym (null-kind o (sym (outer-kind u) ∙ h)));
            };
      }

  pub meet-first : (get_or s outer.from 0 ≡ 66 → ⊥) → MeetInv s outer variants mark n s variants.from n false
  unfolding met_by
  meet-first h =
      record {
        some = p;
        below = below-same s mark;
        comes = λ o all ms u.
            record {
              vs = all;
              ms = ms;
              union = u;
              rest = u.variants_at.at;
              among = λ x m. m;
              comes = ap (λ (b : Bool). run_variants judged all o (elim b [ true ↦ [] | false ↦ all ]) false ms) (sym (other-kind o (λ k. h (outer-kind u ∙ k))));
            };
      }

module _ {s₀ : Bytes} {outer variants : Span} {mark n₀ : ℕ} {s : Bytes} {next n : ℕ} {met : Bool} (i : MeetInv s₀ outer variants mark n₀ s next n met) where
  the-goal : Option (List Ty)
  the-goal = run_union_with judged i.some.all i.some.type i.some.members

  now : VariantsFor s outer variants mark next n met i.some.type i.some.all the-goal
  unfolding the-goal
  now = i.comes i.some.type i.some.all i.some.members i.some.union

  -- ### A variant

  record Ahead (o : Ty) (all : List Ty) (G : Option (List Ty)) : Type 0 where
    v : Ty
    vs : List Ty
    ms : List Ty
    union : UnionAt s outer variants mark n (o ∷ []) all ms
    rest : TypesAt s next variants.to (v ∷ vs)
    among : (x : Ty) → Memᴰ x (v ∷ vs) → Memᴰ x all
    comes : run_variants judged all o (v ∷ vs) met ms ≡ G

  module _ (less : next < variants.to) where
    ahead : {o : Ty} {all : List Ty} {G : Option (List Ty)} → VariantsFor s outer variants mark next n met o all G → Ahead o all G
    unfolding lines_of
    ahead {o} {all} {G} h = go h.vs h.rest h.among h.comes
      where
        go : (vs : List Ty) → TypesAt s next variants.to vs → ((x : Ty) → Memᴰ x vs → Memᴰ x all) → run_variants judged all o vs met h.ms ≡ G → Ahead o all G
        go [] t a c = absurd (omega (arith, types_long t))
        go (v ∷ vs) t a c = record { v = v; vs = vs; ms = h.ms; union = h.union; rest = t; among = a; comes = c }

    pub variant-type : TypeFrom s next
    variant-type = first-type (ahead now).rest

    module _ {ve : ℕ} (e : EndsAt s next ve) where
      pub variant-less : variants.to - ve < variants.to - next
      variant-less = let l = first-less (ahead now).rest e in omega arith

      first-one : {o : Ty} {all : List Ty} {G : Option (List Ty)} (h : Ahead o all G) → Operand s (span next ve) mark h.v
      first-one h = first-operand h.rest e h.union.variants_at.below (all_of h.union.all_plain (h.among h.v (Memᴰ.head refl)))

      pub variant-at : mark + n ≤ length s
      variant-at = (ahead now).union.running.at.inside

      pub variant-part : PartReady s (span next ve) outer (mark + n) mark
      variant-part =
          let h = ahead now in
          record {
            left = h.v;
            right = i.some.type;
            first = operand_less (omega arith) (first-one h);
            second = operand_less (omega arith) (outer-at h.union);
            above = omega arith;
            within = omega (arith, h.union.running.fit);
            room = h.union.rooms h.v i.some.type (h.among h.v (Memᴰ.head refl)) (Memᴰ.head refl);
          }

      module _ {s₁ : Bytes} {r : Unified} (u : Unifies s s₁ (span next ve) outer (mark + n) r) where
        below₁ : Below s s₁ mark
        below₁ = below_less (omega arith) u.below

        -- the running union is not touched
        union₁ : {o : Ty} {all ms : List Ty} → UnionAt s outer variants mark n (o ∷ []) all ms → UnionAt s₁ outer variants mark n (o ∷ []) all ms
        union₁ w =
            union-on w below₁ w.outers_at w.outers_below (λ y m. m) w.outers_plain (record { at = types-stay (mark + n) s s₁ u.below.kept (omega arith) w.running.at; fit = w.running.fit }) w.members

        variant-answer : {o : Ty} {all : List Ty} {G : Option (List Ty)} (h : Ahead o all G) → Answered (judged h.v o) s₁ (mark + n) r
        variant-answer {o} h = u.answer h.v o (operand_less (omega arith) (first-one h)) (operand_less (omega arith) (outer-at h.union))

        rest₁ : {o : Ty} {all : List Ty} {G : Option (List Ty)} (h : Ahead o all G) → TypesAt s₁ ve variants.to h.vs
        rest₁ h = below-types below₁ h.union.variants_at.below (rest-is h.rest e)

        -- they do not unify: the next variant
        pub meet-apart : {x y : Span} → r ≡ Err (Mismatch x y) → MeetInv s₀ outer variants mark n₀ s₁ ve n met
        meet-apart {x} {y} k = record { some = i.some; below = below_then i.below below₁; comes = λ o all ms w. go (ahead (i.comes o all ms w)) }
          where
            go : {o : Ty} {all : List Ty} {G : Option (List Ty)} → Ahead o all G → VariantsFor s₁ outer variants mark ve n met o all G
            go {o} {all} h = let (a, b, d) = apart-of s₁ (mark + n) x y (judged h.v o) (subst (λ (z : Unified). Answered (judged h.v o) s₁ (mark + n) z) k (variant-answer h)) in
                record {
                  vs = h.vs;
                  ms = h.ms;
                  union = union₁ h.union;
                  rest = rest₁ h;
                  among = λ z m. h.among z (Memᴰ.tail m);
                  comes = sym (variants-apart h.v o h.vs all h.ms met d) ∙ h.comes;
                }

        -- too large
        pub meet-large : r ≡ Err TooLarge → OuterJoined s₀ s₁ outer variants mark n₀ (Err TooLarge)
        meet-large k = record { below = below_then i.below below₁; joins = λ o all ms w. go (ahead (i.comes o all ms w)) }
          where
            go : {o : Ty} {all : List Ty} {G : Option (List Ty)} → Ahead o all G → Joins s₁ mark G (Err TooLarge)
            go {o} {all} h =
                let d = large-of s₁ (mark + n) (judged h.v o) (subst (λ (z : Unified). Answered (judged h.v o) s₁ (mark + n) z) k (variant-answer h)) in
                subst (λ (G : Option (List Ty)). Joins s₁ mark G (Err TooLarge)) (sym (variants-large h.v o h.vs all h.ms met d) ∙ h.comes) refl

        -- an answer joins the running union
        module _ {end : ℕ} (k : r ≡ Ok end) where
          made : {o : Ty} {all : List Ty} {G : Option (List Ty)} (h : Ahead o all G) → (t : Ty) × (judged h.v o ≡ done t) × TypeAt s₁ (mark + n) end t
          made {o} h = answer-done (judged h.v o) (subst (λ (z : Unified). Answered (judged h.v o) s₁ (mark + n) z) k (variant-answer h))

          pub answer-bounds : (mark ≤ end) × (mark ≤ length s₁)
          answer-bounds = let (t, f, a) = made (ahead now) in (omega (arith, a.ordered), omega (arith, a.ordered, a.inside))

          front-of : {o : Ty} {all ms : List Ty} → UnionAt s outer variants mark n (o ∷ []) all ms → TypesAt (take (length s₁ - mark) (drop mark s₁)) 0 n ms
          front-of w = part-types s₁ mark 0 n (omega arith) refl (union₁ w).running.at

          new-of : {t : Ty} → TypeAt s₁ (mark + n) end t → TypeAt (take (length s₁ - mark) (drop mark s₁)) n (end - mark) t
          new-of a = part_type s₁ mark n (end - mark) refl (omega (arith, a.ordered)) a

          pub answer-placing : Placing (take (length s₁ - mark) (drop mark s₁)) n (end - mark)
          answer-placing = let h = ahead now in let (t, f, a) = made h in record { members = h.ms; front = front-of h.union; new = record { ty = t; at = new-of a } }

          module _ {s₂ : Bytes} (p : Bytes) {q : StdOption ℕ} (l : length p ≡ length (take (length s₁ - mark) (drop mark s₁))) (w : s₂ ≡ take mark s₁ ++ (p ++ drop (length s₁ - mark) (drop mark s₁)))
              (j : AddedOpened (take (length s₁ - mark) (drop mark s₁)) p n (end - mark) q) where
            below₂ : Below s₁ s₂ mark
            below₂ = back_below s₁ mark answer-bounds.1 p l w

            answer-grows : {t : Ty} {o : Ty} {all ms : List Ty} → UnionAt s outer variants mark n (o ∷ []) all ms → TypeAt s₁ (mark + n) end t → Grows s₂ mark (add (opened t) ms) q
            answer-grows {t} {ms = ms} x a =
                let z = j ms t (front-of x) (new-of a) in
                grows (opened t) ms z.front (back-types s₁ mark answer-bounds.1 p l w mark (mark + length (lines_of (inserts (opened t) ms))) (omega arith) refl z.front) z.answer

            pub took : {m : ℕ} → q ≡ Some m → MeetInv s₀ outer variants mark n₀ s₂ ve m true
            took {m} y = record { some = i.some; below = below_then i.below (below_then below₁ below₂); comes = λ o all ms x. go (ahead (i.comes o all ms x)) }
              where
                go₂ : {o : Ty} {all : List Ty} {G : Option (List Ty)} (h : Ahead o all G) (t : Ty) → judged h.v o ≡ done t → (ls : List Ty) × (add (opened t) h.ms ≡ some ls) × RunningAt s₂ mark m ls
                    → VariantsFor s₂ outer variants mark ve m true o all G
                go₂ {o} {all} h t f (ls, d, x) =
                    record {
                      vs = h.vs;
                      ms = ls;
                      union =
                          union-on (union₁ h.union) below₂ (union₁ h.union).outers_at h.union.outers_below (λ y m. m) h.union.outers_plain x
                          (subst MembersIf d (add-members (opened-plain t (fine-answer (first-one h) (outer-at h.union) f)) h.union.members));
                      rest = below-types below₂ h.union.variants_at.below (rest₁ h);
                      among = λ z m. h.among z (Memᴰ.tail m);
                      comes = sym (variants-done h.v o h.vs all h.ms met f d) ∙ h.comes;
                    }

                go : {o : Ty} {all : List Ty} {G : Option (List Ty)} → Ahead o all G → VariantsFor s₂ outer variants mark ve m true o all G
                go h = let (t, f, a) = made h in go₂ h t f (grows-len (add (opened t) h.ms) (answer-grows h.union a) y)

            pub took-over : q ≡ None → OuterJoined s₀ s₂ outer variants mark n₀ (Err TooLarge)
            took-over y = record { below = below_then i.below (below_then below₁ below₂); joins = λ o all ms x. go (ahead (i.comes o all ms x)) }
              where
                go : {o : Ty} {all : List Ty} {G : Option (List Ty)} → Ahead o all G → Joins s₂ mark G (Err TooLarge)
                go {o} {all} h =
                    let (t, f, a) = made h in
                    let d = grows-over s₂ mark (add (opened t) h.ms) (answer-grows h.union a) y in
                    subst (λ (G : Option (List Ty)). Joins s₂ mark G (Err TooLarge)) (sym (variants-over h.v o h.vs all h.ms met f d) ∙ h.comes) refl

  -- ### No variant is left

  module _ (over : variants.to ≤ next) where
    -- what comes of it then
    last : {o : Ty} {all : List Ty} {G : Option (List Ty)} (h : VariantsFor s outer variants mark next n met o all G) → run_variants judged all o [] met h.ms ≡ G
    last {o} {all} h = ap (λ (vs : List Ty). run_variants judged all o vs met h.ms) (sym (no-types h.vs (omega (arith, types_long h.rest)))) ∙ h.comes

    -- a variant took it
    pub meet-done : met ≡ true → OuterJoined s₀ s outer variants mark n₀ (Ok n)
    unfolding run_variants
    meet-done b = record { below = i.below; joins = λ o all ms u. go (i.comes o all ms u) }
      where
        go : {o : Ty} {all : List Ty} {G : Option (List Ty)} → VariantsFor s outer variants mark next n met o all G → Joins s mark G (Ok n)
        go {o} {all} h =
            subst (λ (G : Option (List Ty)). Joins s mark G (Ok n)) (ap (λ (c : Bool). run_variants judged all o [] c h.ms) (sym b) ∙ last h) (h.union.running, h.union.members)

    -- none did: the variants and it join
    pub meet-widening : Widening s variants outer mark n
    meet-widening =
        let h = now in
        record {
          first = record { members = h.ms; types = i.some.all; running = h.union.running; new = h.union.variants_at; room = h.union.room_for_two };
          type = i.some.type;
          new = few-outer h.union;
        }

    pub meet-widened : met ≡ false → {s₁ : Bytes} {k : StdOption ℕ} → Widened s s₁ variants outer mark n k → {r : Unified} → r ≡ ok_or k TooLarge → OuterJoined s₀ s₁ outer variants mark n₀ r
    unfolding run_variants
    meet-widened b {s₁} {k} w {r} e = record { below = below_then i.below w.below; joins = λ o all ms u. go (i.comes o all ms u) }
      where
        each : (G : Option (List Ty)) (j : StdOption ℕ) → Grows s₁ mark G j → MembersIf G → Joins s₁ mark G (ok_or j TooLarge)
        each none (Some j) g m = absurd g
        each none None g m = refl
        each (some ls) (Some j) g m = (g, m)
        each (some ls) None g m = absurd g

        go : {o : Ty} {all : List Ty} {G : Option (List Ty)} → VariantsFor s outer variants mark next n met o all G → Joins s₁ mark G r
        go {o} {all} h =
            subst (λ (G : Option (List Ty)). Joins s₁ mark G r) (ap (λ (c : Bool). run_variants judged all o [] c h.ms) (sym b) ∙ last h)
            (subst (λ (x : Unified). Joins s₁ mark (widen all o h.ms) x) (sym e)
            (each (widen all o h.ms) k (w.grows h.ms all o h.union.running h.union.variants_at (few-outer h.union)) (widen-members o h.union.all_plain (all_head h.union.outers_plain) h.union.members)))

-- ## Each outer type does

-- the outer types os are left, from `next` on, and what comes of that is the run R
pub record OutersFor (s : Bytes) (outers variants : Span) (mark next n : ℕ) (all : List Ty) (R : Run) : Type 0 where
  pub os : List Ty
  pub ms : List Ty
  pub union : UnionAt s (span next outers.to) variants mark n os all ms
  pub comes : run_members judged all os ms ≡ R

pub record OutersInv (s₀ : Bytes) (outers variants : Span) (mark : ℕ) (s : Bytes) (next n : ℕ) : Type 0 where
  pub some : SomeOuters s₀ outers variants mark
  pub below : Below s₀ s mark
  pub comes : (os all : List Ty) → UnionAt s₀ outers variants mark 0 os all [] → OutersFor s outers variants mark next n all (run_members judged all os [])

module _ {s₀ : Bytes} {outers variants : Span} {mark : ℕ} {s : Bytes} {next n : ℕ} (i : OutersInv s₀ outers variants mark s next n) where
  at-now : OutersFor s outers variants mark next n i.some.all (run_members judged i.some.all i.some.types [])
  at-now = i.comes i.some.types i.some.all i.some.union

  record OuterAhead (all : List Ty) (R : Run) : Type 0 where
    o : Ty
    os : List Ty
    ms : List Ty
    union : UnionAt s (span next outers.to) variants mark n (o ∷ os) all ms
    comes : run_members judged all (o ∷ os) ms ≡ R

  module _ (less : next < outers.to) where
    outer-ahead : {all : List Ty} {R : Run} → OutersFor s outers variants mark next n all R → OuterAhead all R
    unfolding lines_of
    outer-ahead {all} {R} h = go h.os h.union h.comes
      where
        go : (os : List Ty) → UnionAt s (span next outers.to) variants mark n os all h.ms → run_members judged all os h.ms ≡ R → OuterAhead all R
        go [] u c = absurd (omega (arith, types_long u.outers_at))
        go (o ∷ os) u c = record { o = o; os = os; ms = h.ms; union = u; comes = c }

    pub outer-type : TypeFrom s next
    outer-type = first-type (outer-ahead at-now).union.outers_at

    module _ {oe : ℕ} (e : EndsAt s next oe) where
      pub outers-less : outers.to - oe < outers.to - next
      outers-less = let l = first-less (outer-ahead at-now).union.outers_at e in omega arith

      first-outer : {all : List Ty} {R : Run} (h : OuterAhead all R) → UnionAt s (span next oe) variants mark n (h.o ∷ []) all h.ms
      first-outer h =
          let u = h.union in
          union-on u (below-same s mark) (as-types (first_is u.outers_at e)) (omega (arith, first-less u.outers_at e, u.outers_below)) (λ y m. first-among (Memᴰ.eq_of_singleton m)) (also (all_head u.outers_plain) empty)
          u.running u.members
        where
          first-among : {y : Ty} → y ≡ h.o → Memᴰ y (h.o ∷ h.os)
          first-among q = Memᴰ.head q

      pub outer-some : SomeOuter s (span next oe) variants mark n
      outer-some = let h = outer-ahead at-now in record { type = h.o; all = i.some.all; members = h.ms; union = first-outer h }

      module _ {s₁ : Bytes} {r : Unified} (j : OuterJoined s s₁ (span next oe) variants mark n r) where
        pub outers-apart : {d : UnifyError} → r ≡ Err d → UnionAnswer s₀ s₁ outers variants mark (Err d)
        unfolding run_members
        outers-apart {d} k = record { below = below_then i.below j.below; answer = λ os all u. go (outer-ahead (i.comes os all u)) }
          where
            over : (all os : List Ty) (G : Option (List Ty)) → Joins s₁ mark G (Err d) → Answered (given G large (λ l. run_members judged all os l)) s₁ mark (Err d)
            over all os none q = subst (λ (x : UnifyError). Answered large s₁ mark (Err x)) (sym q) tt
            over all os (some ls) q = absurd q

            go : {all : List Ty} {R : Run} → OuterAhead all R → Answered R s₁ mark (Err d)
            go {all} h =
                subst (λ (R : Run). Answered R s₁ mark (Err d)) h.comes
                (over all h.os (run_union_with judged all h.o h.ms) (subst (λ (x : Unified). Joins s₁ mark (run_union_with judged all h.o h.ms) x) k (j.joins h.o all h.ms (first-outer h))))

        pub outers-again : {m : ℕ} → r ≡ Ok m → OutersInv s₀ outers variants mark s₁ oe m
        unfolding run_members
        outers-again {m} k = record { some = i.some; below = below_then i.below j.below; comes = λ os all u. go (outer-ahead (i.comes os all u)) }
          where
            joined : (G : Option (List Ty)) → Joins s₁ mark G (Ok m) → (ls : List Ty) × (G ≡ some ls) × RunningAt s₁ mark m ls × Members ls
            joined none q = absurd q
            joined (some ls) q = (ls, refl, q.0, q.1)

            go : {all : List Ty} {R : Run} → OuterAhead all R → OutersFor s₁ outers variants mark oe m all R
            go {all} h =
                let (ls, d, x, y) = joined (run_union_with judged all h.o h.ms) (subst (λ (x : Unified). Joins s₁ mark (run_union_with judged all h.o h.ms) x) k (j.joins h.o all h.ms (first-outer h))) in
                record {
                  os = h.os;
                  ms = ls;
                  union = union-on h.union j.below (rest-is h.union.outers_at e) h.union.outers_below (λ z m. Memᴰ.tail m) (all_tail h.union.outers_plain) x y;
                  comes = ap (λ (G : Option (List Ty)). given G large (λ l. run_members judged all h.os l)) (sym d) ∙ h.comes;
                }

  -- no outer type is left
  module _ (over : outers.to ≤ next) where
    pub outers-union : SomeUnion s mark n
    outers-union = let h = at-now in record { members = h.ms; at = h.union.running.at; room = omega (arith, h.union.room_for_two, h.union.running.fit) }

    pub outers-closed : {s₁ : Bytes} {r : Unified} → ClosedUnion s s₁ mark n r → UnionAnswer s₀ s₁ outers variants mark r
    unfolding run_members
    outers-closed {s₁} {r} c = record { below = below_then i.below c.below; answer = λ os all u. go (i.comes os all u) }
      where
        go : {all : List Ty} {R : Run} → OutersFor s outers variants mark next n all R → Answered R s₁ mark r
        go {all} h =
            subst (λ (R : Run). Answered R s₁ mark r) (ap (λ (os : List Ty). run_members judged all os h.ms) (sym (no-types h.os (omega (arith, types_long h.union.outers_at)))) ∙ h.comes)
            (c.answer h.ms h.union.running.at)
