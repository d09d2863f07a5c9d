-- Types join the running union, where it stands. Assumes nothing.
use Rattle.std.specs.Prelude.{Option as StdOption, Some, None}
use mathlib.Core.Path.{◌≡◌, refl, sym, subst}
use mathlib.Core.List.{List, [], ◌∷◌, ◌++◌}
use mathlib.Core.Option.{Option, none, some}
use mathlib.Core.Bool.{false}
use Prim.Native.Nat.{ℕ, ◌+◌, ◌-◌, ◌≤◌}
use native.Mathlib.Omega.{arith}
use lib.ListN.{length, take, drop}
use lib.Seq.{slice, sets}
use Rattle.semantics.specs.Bytes.{Bytes}
use Rattle.semantics.specs.Ty.{Ty, line, inserts, too_large}
use Rattle.ty.specs.Parts.{lines_of, TypeAt, TypeFrom, EndsAt}
use Rattle.ty.specs.Union.{TypesAt, Adding, AddedAll}
use Rattle.ty.proofs.KindLaws.{two_at}
use Rattle.ty.proofs.Members.{first-from, first_at, others-at}
use Rattle.ty.proofs.UnionEnds.{type-long}
use Rattle.unify_run.specs.Run.{given, add, widen}
use Rattle.unify_run.proofs.Size.{small-sound}
use Rattle.unify.specs.Work.{span, Operand, Below}
use Rattle.unify.specs.declared.Span.{Span}
use Rattle.unify.specs.Variants.{Plain, RunningAt, FewAt, Joining, Grows, Joined, Widening, Widened}
use Rattle.unify.proofs.Marks.{below_then, below-types, part-types, back_below, back-types, below-sets, copied-before, copied-types}
use Rattle.unify.proofs.UnionRun.{grows}

-- ## The first of the types that stand at a place

module _ {s : Bytes} {a e : ℕ} {t : Ty} {ts : List Ty} (g : TypesAt s a e (t ∷ ts)) where
  pub first-type : TypeFrom s a
  first-type = record { ty = t; rest = lines_of ts ++ drop e s; is = first-from g }

  module _ {m : ℕ} (h : EndsAt s a m) where
    first_end : a + length (line t) ≡ m
    first_end = sym (h t (lines_of ts ++ drop e s) (first-from g))

    pub first_is : TypeAt s a m t
    first_is = subst (λ (k : ℕ). TypeAt s a k t) first_end (first_at g)

    pub rest-is : TypesAt s m e ts
    rest-is = subst (λ (k : ℕ). TypesAt s k e ts) first_end (others-at g)

    pub first-less : (a + 2 ≤ m) × (m ≤ e)
    first-less = (two_at s a m t first_is, rest-is.ordered)

    pub first-operand : {mark : ℕ} → e ≤ mark → Plain t → Operand s (span a m) mark t
    first-operand b p = record { at = first_is; below = omega (arith, first-less); regular = p.regular; small = p.small }

-- a type that is not too large is short
pub small-long : {s : Bytes} {a e : ℕ} {t : Ty} → TypeAt s a e t → too_large t ≡ false → e ≤ a + 1024
small-long {s} {a} {e} {t} g h = omega (arith, type-long g, (small-sound t h).0)

-- ## Types join the running union

module _ {s : Bytes} {a : Span} {mark n : ℕ} (j : Joining s a mark n) where
  pub join-room : mark + n + (a.to - a.from) ≤ length s
  join-room = omega (arith, j.room, j.running.fit, j.new.few)

-- k bytes of types, copied behind the members
copied-running : {s s₁ : Bytes} (from k : ℕ) {mark n : ℕ} {ms : List Ty} → s₁ ≡ sets s (mark + n) (slice from (from + k) s) → RunningAt s mark n ms → TypesAt s₁ mark (mark + n) ms
copied-running {s} from k w r = copied-before (slice from (from + k) s) w (omega arith) r.at

copied-new : {s s₁ : Bytes} (a : Span) {mark : ℕ} (n k : ℕ) {ts : List Ty} → k ≡ a.to - a.from → s₁ ≡ sets s (mark + n) (slice a.from (a.from + k) s) → mark + n + k ≤ length s → FewAt s a mark ts
    → TypesAt s₁ (mark + n) (mark + n + k) ts
copied-new {s} a n k {ts} e w h f = copied-types k w h (subst (λ (i : ℕ). TypesAt s a.from i ts) (omega (arith, f.at.ordered, e)) f.at)

module _ {s s₁ : Bytes} {a : Span} {mark n k : ℕ} (e : k ≡ a.to - a.from) (w : s₁ ≡ sets s (mark + n) (slice a.from (a.from + k) s)) where
  module _ (j : Joining s a mark n) (l : length s₁ ≡ length s) where
    join-fits : mark + n + k ≤ length s
    join-fits = omega (arith, join-room j, e)

    pub join-adding : Adding (take (length s₁ - mark) (drop mark s₁)) n (n + k)
    join-adding =
        record {
          members = j.members;
          types = j.types;
          front = part-types s₁ mark 0 n (omega arith) refl (copied-running a.from k w j.running);
          new = part-types s₁ mark n (n + k) refl (omega arith) (copied-new a n k e w join-fits j.new);
        }

    pub joined-law : {s₂ : Bytes} (p : Bytes) {r : StdOption ℕ} → length p ≡ length (take (length s₁ - mark) (drop mark s₁)) → s₂ ≡ take mark s₁ ++ (p ++ drop (length s₁ - mark) (drop mark s₁))
        → AddedAll (take (length s₁ - mark) (drop mark s₁)) p n (n + k) r → Joined s s₂ a mark n r
    joined-law {s₂} p {r} lp d x =
        record {
          below = below_then (subst (λ (v : Bytes). Below s v mark) (sym w) (below-sets s mark (mark + n) (slice a.from (a.from + k) s) (omega arith))) (back_below s₁ mark low p lp d);
          grows = λ ms ts f g.
              let z = x ms ts (part-types s₁ mark 0 n (omega arith) refl (copied-running a.from k w f)) (part-types s₁ mark n (n + k) refl (omega arith) (copied-new a n k e w join-fits g)) in
              grows ts ms z.front (back-types s₁ mark low p lp d mark (mark + length (lines_of (inserts ts ms))) (omega arith) refl z.front) z.answer;
        }
      where
        low : mark ≤ length s₁
        low = omega (arith, j.room, l)

-- ## The variants and the outer type join

pub grows-len : {s : Bytes} {mark : ℕ} {r : StdOption ℕ} {k : ℕ} (o : Option (List Ty)) → Grows s mark o r → r ≡ Some k → (ms : List Ty) × (o ≡ some ms) × RunningAt s mark k ms
grows-len {s} {mark} {r} {k} o g e = go o (subst (Grows s mark o) e g)
  where
    go : (q : Option (List Ty)) → Grows s mark q (Some k) → (ms : List Ty) × (q ≡ some ms) × RunningAt s mark k ms
    go none h = absurd h
    go (some ms) h = (ms, refl, h)

pub grows-over : (s : Bytes) (mark : ℕ) {r : StdOption ℕ} (o : Option (List Ty)) → Grows s mark o r → r ≡ None → o ≡ none
grows-over s mark {r} o g e = go o (subst (Grows s mark o) e g)
  where
    go : (q : Option (List Ty)) → Grows s mark q None → q ≡ none
    go none h = refl
    go (some ms) h = absurd h

pub few_on : {s s' : Bytes} {a : Span} {mark : ℕ} {ts : List Ty} → Below s s' mark → FewAt s a mark ts → FewAt s' a mark ts
few_on b f = record { at = below-types b f.below f.at; below = f.below; few = f.few }

module _ {s s₁ : Bytes} {variants outer : Span} {mark n : ℕ} {r : StdOption ℕ} (j : Joined s s₁ variants mark n r) where
  pub widen-again : Widening s variants outer mark n → (k : ℕ) → r ≡ Some k → Joining s₁ outer mark k
  widen-again q k e = go (grows-len (add q.first.types q.first.members) (j.grows q.first.members q.first.types q.first.running q.first.new) e)
    where
      go : (l : List Ty) × (add q.first.types q.first.members ≡ some l) × RunningAt s₁ mark k l → Joining s₁ outer mark k
      go (l, d, h) = record { members = l; types = q.type ∷ []; running = h; new = few_on j.below q.new; room = omega (arith, q.first.room, j.below.long) }

  pub widened-both : {s₂ : Bytes} {r₂ : StdOption ℕ} (k : ℕ) → r ≡ Some k → Joined s₁ s₂ outer mark k r₂ → Widened s s₂ variants outer mark n r₂
  unfolding widen
  widened-both {s₂} {r₂} k e h = record { below = below_then j.below h.below; grows = λ ms all t f g y. go ms all t y (grows-len (add all ms) (j.grows ms all f g) e) }
    where
      go : (ms all : List Ty) (t : Ty) → FewAt s outer mark (t ∷ []) → (l : List Ty) × (add all ms ≡ some l) × RunningAt s₁ mark k l → Grows s₂ mark (widen all t ms) r₂
      go ms all t y (l, d, x) = subst (λ q. Grows s₂ mark (given q none (add (t ∷ []))) r₂) (sym d) (h.grows l (t ∷ []) x (few_on j.below y))

  pub widened-over : r ≡ None → Widened s s₁ variants outer mark n None
  unfolding widen
  widened-over e = record { below = j.below; grows = λ ms all t f g y. go ms all t (grows-over s₁ mark (add all ms) (j.grows ms all f g) e) }
    where
      go : (ms all : List Ty) (t : Ty) → add all ms ≡ none → Grows s₁ mark (widen all t ms) None
      go ms all t d = subst (λ q. Grows s₁ mark (given q none (add (t ∷ []))) None) (sym d) tt
