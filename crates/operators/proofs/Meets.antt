-- Two operands that meet: what `unify` says of them, and ends by that. Assumes nothing.
use Prim.Native.Nat.{ℕ, suc, ◌+◌, ◌-◌, ◌*◌, ◌/◌, ◌≤◌}
use native.Mathlib.Omega.{arith}
use mathlib.Core.Path.{◌≡◌, refl, sym, ap, ◌∙◌, subst}
use mathlib.Core.List.{List, []}
use mathlib.Core.Bool.{Bool, true, false, cond, ◌||◌}
use lib.ListN.{length, drop, get_or}
use lib.Seq.{length-sets}
use Rattle.semantics.specs.Bytes.{Bytes}
use Rattle.semantics.specs.Ty.{Ty, base, t_bool, t_list, line, line_to, regular, nesting, is_union}
use Rattle.semantics.specs.Unify.{unify}
use Rattle.semantics.specs.Walk.{Fault, comparison}
use Rattle.text.proofs.Laws.{drop-slice}
use Rattle.ty.specs.Parts.{TypeAt}
use Rattle.ty.specs.Read.{kind_of}
use Rattle.ty.proofs.KindLaws.{kind_at, two_at}
use Rattle.unify_run.specs.Run.{Run, done, mismatch, large, verdict}
use Rattle.unify_run.proofs.Size.{small-sound, small-true, element-inside}
use Rattle.unify.specs.Work.{Unified, span, Operand, Ready, Answered, Unifies, slots}
use Rattle.unify.specs.declared.Span.{Span}
use Rattle.unify.specs.declared.UnifyError.TheVariants.{Mismatch, TooLarge}
use Rattle.std.specs.Prelude.{Ok, Err}
use Rattle.walk_run.specs.Run.{Told, told, too_much, or_much, end_op}
use Rattle.exprs.specs.State.{Fine}
use Rattle.exprs.specs.declared.state.Accumulator.{Accumulator}
use Rattle.report.specs.Report.{faults_text, Adds}
use Rattle.report.specs.declared.Report.{Report}
use Rattle.report.proofs.ReportLaws.{adds_none}
use Rattle.std.specs.declared.option.Option.TheVariants.{Some, None}
use Rattle.exprs.specs.End.{Ends, Settles, TwoAt, SomeTwo}
use Rattle.operators.specs.Helpers.{SomeKinds}
use Rattle.exprs.proofs.States.{first_at, second_at}

-- ## The operands of two types that are kept

module _ {a b : Ty} {s : Bytes} {st : Accumulator} (h : TwoAt a b s st) where
  pub left-operand : Operand s (span 0 st.len) (st.len + st.second) a
  left-operand =
      let f = h.at.fine.0 in
      record { at = first_at h.at; below = omega arith; regular = f.regular; small = f.small }

  pub right_operand : Operand s (span st.len (st.len + st.second)) (st.len + st.second) b
  right_operand =
      let f = h.at.fine.1 in
      record { at = second_at h.at; below = omega arith; regular = f.regular; small = f.small }

  pub left-kind : kind_of a ≡ get_or s 0 0
  left-kind = sym (kind_at s 0 st.len a (first_at h.at))

  pub right-kind : kind_of b ≡ get_or s st.len 0
  right-kind = sym (kind_at s st.len (st.len + st.second) b (second_at h.at))

pub two_ready : {s : Bytes} {st : Accumulator} → SomeTwo s st → Ready s (span 0 st.len) (span st.len (st.len + st.second)) (st.len + st.second)
two_ready p = record { left = p.left; right = p.right; first = left-operand p.at; second = right_operand p.at; room = p.at.room }

pub two-kinds : {s : Bytes} {st : Accumulator} → SomeTwo s st → SomeKinds (get_or s 0 0) (get_or s st.len 0)
two-kinds p = record { first = record { ty = p.left; is = left-kind p.at }; second = record { ty = p.right; is = right-kind p.at } }

pub two-inside : {s : Bytes} {st : Accumulator} → SomeTwo s st → (2 ≤ st.len) × (st.len + 2 ≤ st.len + st.second) × (st.len + st.second ≤ length s)
two-inside {s} {st} p =
    let f = first_at p.at.at in
    let g = second_at p.at.at in
    (omega (arith, two_at s 0 st.len p.left f), two_at s st.len (st.len + st.second) p.right g, g.inside)

-- ## What the answer says of the run

module _ (s : Bytes) (m : ℕ) where
  of-done : {e : ℕ} (R : Run) → Answered R s m (Ok e) → (t : Ty) × (R ≡ done t) × TypeAt s m e t
  of-done (done t) h = (t, refl, h)
  of-done (mismatch x y) h = absurd h
  of-done large h = absurd h

  of-apart : (i j : Span) (R : Run) → Answered R s m (Err (Mismatch i j)) → (x : Ty) × (y : Ty) × (R ≡ mismatch x y)
  of-apart i j (done t) h = absurd h
  of-apart i j (mismatch x y) h = (x, y, refl)
  of-apart i j large h = absurd h

  of-large : (R : Run) → Answered R s m (Err TooLarge) → R ≡ large
  of-large (done t) h = absurd h
  of-large (mismatch x y) h = absurd h
  of-large large h = refl

  module _ {u : Unified} (R : Run) (h : Answered R s m u) where
    pub done-run : {e : ℕ} → u ≡ Ok e → (t : Ty) × (R ≡ done t) × TypeAt s m e t
    done-run q = of-done R (subst (λ (x : Unified). Answered R s m x) q h)

    pub apart-run : {i j : Span} → u ≡ Err (Mismatch i j) → (x : Ty) × (y : Ty) × (R ≡ mismatch x y)
    apart-run {i} {j} q = of-apart i j R (subst (λ (x : Unified). Answered R s m x) q h)

    pub large-run : u ≡ Err TooLarge → R ≡ large
    large-run q = of-large R (subst (λ (x : Unified). Answered R s m x) q h)

-- where the answer of some operands ends
pub done-inside : {s s' : Bytes} {a b : Span} {m e : ℕ} {r : Unified} → Ready s a b m → Unifies s s' a b m r → r ≡ Ok e → (m ≤ e) × (e ≤ length s')
done-inside {s} {s'} {a} {b} {m} {e} {r} p u q =
    let (t, w, f) = done-run s' m (verdict (unify p.left p.right)) (u.answer p.left p.right p.first p.second) q in
    (f.ordered, f.inside)

-- ## Ends

adds-long : {fs : List Fault} {y y' : Report} → Adds fs y y' → length y'.writer.now.out.now ≡ length y.writer.now.out.now
adds-long {fs} {y} a = ap length a.text ∙ length-sets y.writer.now.out.now y.writer.now.fill (faults_text fs)

-- too large
pub ends-large : {x : Told} {fs : List Fault} {s s' : Bytes} {y y' : Report} → x ≡ too_much → length s' ≡ length s → Adds fs y y' → Ends x s s' y y' None
ends-large e l a = rw e (record { answer = tt; long = l; as_long = adds-long a })

-- what a helper settled over a text that is as long
pub ends-settled : {t : Ty} {fs : List Fault} {x : Told} {s s₁ s' : Bytes} {y y' : Report} {r : ℕ} → Settles t s₁ s' r → x ≡ told t fs → length s₁ ≡ length s → Adds fs y y' → Ends x s s' y y' (Some r)
ends-settled {t} {fs} {x} {s} {s₁} {s'} {y} {y'} {r} h e l a =
    let w = h fs y y' a in
    rw e (record { answer = w.answer; long = w.long ∙ l; as_long = w.as_long })

-- ## A comparison

compared : (a b : Ty) (R : Run) → verdict (unify a b) ≡ R → end_op comparison a b ≡ or_much R (λ t. told (base t_bool) []) (told (base t_bool) [])
unfolding end_op
compared a b R e = ap (λ (x : Run). or_much x (λ t. told (base t_bool) []) (told (base t_bool) [])) e

module _ {s s₁ : Bytes} {st : Accumulator} {u : Unified} (w : Unifies s s₁ (span 0 st.len) (span st.len (st.len + st.second)) (st.len + st.second) u) {a b : Ty} (h : TwoAt a b s st) where
  told-run : Answered (verdict (unify a b)) s₁ (st.len + st.second) u
  told-run = w.answer a b (left-operand h) (right_operand h)

  pub compared-done : {s' : Bytes} {y : Report} {r e : ℕ} → u ≡ Ok e → Settles (base t_bool) s₁ s' r → Ends (end_op comparison a b) s s' y y (Some r)
  compared-done q g =
      let (t, p, f) = done-run s₁ (st.len + st.second) (verdict (unify a b)) told-run q in
      ends-settled g (compared a b (done t) p) w.below.long adds_none

  pub compared-apart : {s' : Bytes} {y : Report} {r : ℕ} {i j : Span} → u ≡ Err (Mismatch i j) → Settles (base t_bool) s₁ s' r → Ends (end_op comparison a b) s s' y y (Some r)
  compared-apart q g =
      let (x, y, p) = apart-run s₁ (st.len + st.second) (verdict (unify a b)) told-run q in
      ends-settled g (compared a b (mismatch x y) p) w.below.long adds_none

  pub compared-large : {y : Report} → u ≡ Err TooLarge → Ends (end_op comparison a b) s s₁ y y None
  compared-large {y} q =
      let p = large-run s₁ (st.len + st.second) (verdict (unify a b)) told-run q in
      ends-large (compared a b large p) w.below.long (adds_none {r = y})

-- ## The element of a list

pub list-inner : {s : Bytes} {a e : ℕ} {t : Ty} → TypeAt s a e (t_list t) → TypeAt s (a + 2) e t
unfolding line line_to
list-inner {s} {a} {e} {t} h =
    record { ordered = two_at s a e (t_list t) h; inside = h.inside; is = sym (drop-slice 2 a e s) ∙ ap (drop 2) h.is }

pub slots-element : (a t : Ty) → slots a t ≤ slots a (t_list t)
unfolding slots nesting is_union
slots-element a t = go (nesting a) (nesting t) (is_union a) (is_union t)
  where
    go : (n m : ℕ) (x y : Bool) → (2 * (n + m) + cond (x || y) 1 0 - 1) / 3 ≤ (2 * (n + suc m) + cond (x || false) 1 0 - 1) / 3
    go n m true true = omega arith
    go n m true false = omega arith
    go n m false true = omega arith
    go n m false false = omega arith

pub fine-element : {t : Ty} → Fine (t_list t) → Fine t
unfolding regular
fine-element {t} f =
    let i = element-inside t in
    let l = small-sound (t_list t) f.small in
    record { regular = f.regular; small = small-true t (omega arith, omega arith) }
