-- Two lists: `unify_lists`. Assumes nothing.
use Rattle.std.specs.Prelude.{Ok, Err}
use mathlib.Core.Path.{◌≡◌, sym, ◌∙◌, ap, subst}
use mathlib.Core.List.{[], ◌∷◌, ◌++◌}
use mathlib.Core.Bool.{Bool, true, false, cond, ◌||◌}
use Prim.Native.Nat.{ℕ, suc, ◌+◌, ◌-◌, ◌*◌, ◌/◌, ◌≤◌}
use native.Mathlib.Omega.{arith}
use lib.ListN.{length, take, drop}
use lib.Seq.{slice, sets}
use Rattle.semantics.specs.Bytes.{Bytes}
use Rattle.semantics.specs.Ty.{Ty, t_list, line, line_to, nesting, is_union, regular}
use Rattle.text.proofs.Laws.{take-slice, drop-slice, slice-join, copied}
use Rattle.ty.specs.Parts.{TypeAt}
use Rattle.ty.proofs.KindLaws.{two_at}
use Rattle.unify_run.specs.Run.{Run, done, checked, on_done}
use Rattle.unify_run.proofs.Size.{small-sound, small-true, element-inside}
use Rattle.unify.specs.Work.{Unified, span, Operand, PartReady, slots, judged, Answered, Unifies, Below}
use Rattle.unify.specs.Made.{SomeMade, Tested}
use Rattle.unify.specs.Lists.{SomeLists, ListsAnswer}
use Rattle.unify.specs.declared.Span.{Span}
use Rattle.unify.specs.declared.UnifyError.{UnifyError}
use Rattle.unify.proofs.Marks.{operand_less, below_then, below_less, below-sets, below-operand}
use Rattle.unify.proofs.PartAnswers.{slots-one, answer-done, apart-too}

-- the element of a list that stands there
element-at : {s : Bytes} {a : Span} {mark : ℕ} {x : Ty} → Operand s a mark (t_list x) → Operand s (span (a.from + 2) a.to) mark x
unfolding line line_to regular
element-at {s} {a} {mark} {x} o =
    let i = element-inside x in
    let m = small-sound (t_list x) o.small in
    record {
      at = record { ordered = two_at s a.from a.to (t_list x) o.at; inside = o.at.inside; is = sym (drop-slice 2 a.from a.to s) ∙ ap (drop 2) o.at.is };
      below = o.below;
      regular = o.regular;
      small = small-true x (omega arith);
    }

slots-lists : (t u : Ty) → 1 + slots t u ≤ slots (t_list t) (t_list u)
unfolding slots nesting is_union
slots-lists t u = go (nesting t) (nesting u) (is_union t || is_union u)
  where
    go : (x y : ℕ) (z : Bool) → 1 + (2 * (x + y) + cond z 1 0 - 1) / 3 ≤ (2 * (suc x + suc y) + 0 - 1) / 3
    go x y true = omega arith
    go x y false = omega arith

list-head : {s : Bytes} {a e : ℕ} {x : Ty} → TypeAt s a e (t_list x) → slice a (a + 2) s ≡ 74 ∷ 44 ∷ []
unfolding line line_to
list-head {s} {a} {e} {x} f = sym (take-slice 2 a e s (two_at s a e (t_list x) f)) ∙ ap (take 2) f.is

-- an element behind the head
list-whole : {s : Bytes} {mark end : ℕ} {v : Ty} → slice mark (mark + 2) s ≡ 74 ∷ 44 ∷ [] → TypeAt s (mark + 2) end v → TypeAt s mark end (t_list v)
unfolding line line_to
list-whole {s} {mark} {end} {v} head h =
    record {
      ordered = omega (arith, h.ordered);
      inside = h.inside;
      is = sym (slice-join mark (mark + 2) end s (omega arith) h.ordered) ∙ ap (λ (l : Bytes). l ++ slice (mark + 2) end s) head ∙ ap (λ (l : Bytes). 74 ∷ 44 ∷ l) h.is;
    }

pub list-long : {s : Bytes} {a : Span} {mark : ℕ} {x : Ty} → Operand s a mark (t_list x) → a.from + 2 ≤ a.to
list-long {s} {a} {mark} {x} o = two_at s a.from a.to (t_list x) o.at

pub lists-room : {s : Bytes} {a b : Span} {mark : ℕ} → SomeLists s a b mark → (a.from + 2 ≤ mark) × (mark + 1024 ≤ length s)
lists-room p = (omega (arith, list-long p.first, p.first.below), omega (arith, p.room, slots-one (t_list p.left) (t_list p.right)))

module _ {s s₁ : Bytes} {a b : Span} {mark : ℕ} (p : SomeLists s a b mark) (w : s₁ ≡ sets s mark (slice a.from (a.from + 2) s)) where
  below₁ : Below s s₁ mark
  below₁ = subst (λ (x : Bytes). Below s x mark) (sym w) (below-sets s mark mark (slice a.from (a.from + 2) s) (omega arith))

  part : {c : Span} {x : Ty} → Operand s c mark (t_list x) → Operand s₁ (span (c.from + 2) c.to) (mark + 2) x
  part o = operand_less (omega arith) (below-operand below₁ (element-at o))

  -- the two elements
  module _ {x y : Span} (ex : x ≡ span (a.from + 2) a.to) (ey : y ≡ span (b.from + 2) b.to) where
    first-part : {t : Ty} → Operand s a mark (t_list t) → Operand s₁ x (mark + 2) t
    first-part o = rw ex (part o)

    second-part : {t : Ty} → Operand s b mark (t_list t) → Operand s₁ y (mark + 2) t
    second-part o = rw ey (part o)

    pub lists-part : PartReady s₁ x y (mark + 2) mark
    lists-part =
        record {
          left = p.left;
          right = p.right;
          first = first-part p.first;
          second = second-part p.second;
          above = omega arith;
          within = omega arith;
          room = omega (arith, p.room, slots-lists p.left p.right, below₁.long);
        }

    module _ {s₂ : Bytes} {r : Unified} (u : Unifies s₁ s₂ x y (mark + 2) r) where
      below₂ : Below s s₂ mark
      below₂ = below_then below₁ (below_less (omega arith) u.below)

      head : slice mark (mark + 2) s₂ ≡ 74 ∷ 44 ∷ []
      head =
          let (i, j) = lists-room p in
          ap (drop mark) u.below.kept
          ∙ ap (slice mark (mark + 2)) w
          ∙ copied s a.from mark 2 (omega arith) (omega arith)
          ∙ list-head p.first.at

      each : (x y : Ty) → Operand s a mark (t_list x) → Operand s b mark (t_list y) → Answered (judged x y) s₂ (mark + 2) r
      each t w o q = u.answer t w (first-part o) (second-part q)

      pub lists-apart : {e : UnifyError} → r ≡ Err e → ListsAnswer s s₂ a b mark (Err e)
      lists-apart {e} k =
          record {
            below = below₂;
            answer = λ x y o q. apart-too s₂ (mark + 2) mark e (judged x y) (λ v. checked (t_list v)) (subst (λ (z : Unified). Answered (judged x y) s₂ (mark + 2) z) k (each x y o q));
          }

      module _ {end : ℕ} (k : r ≡ Ok end) where
        made : (x y : Ty) → Operand s a mark (t_list x) → Operand s b mark (t_list y) → (t : Ty) × (judged x y ≡ done t) × TypeAt s₂ (mark + 2) end t
        made x y o q = answer-done (judged x y) (subst (λ (z : Unified). Answered (judged x y) s₂ (mark + 2) z) k (each x y o q))

        pub lists-made : SomeMade s₂ mark end
        lists-made = let (t, e, h) = made p.left p.right p.first p.second in record { ty = t_list t; at = list-whole head h }

        pub lists-done : {q : Unified} → Tested s₂ mark end q → ListsAnswer s s₂ a b mark q
        lists-done {q} h = record { below = below₂; answer = λ x y o z. go x y (made x y o z) }
          where
            go : (x y : Ty) → (t : Ty) × (judged x y ≡ done t) × TypeAt s₂ (mark + 2) end t → Answered (on_done (judged x y) (λ v. checked (t_list v))) s₂ mark q
            go x y (t, e, f) = subst (λ (R : Run). Answered (on_done R (λ v. checked (t_list v))) s₂ mark q) (sym e) (h (t_list t) (list-whole head f))
