-- Answers that need no inner one: `tested`, `closed`, `copied`, and a line that is given. Assumes nothing.
use Rattle.std.specs.Prelude.{Option as StdOption, Some, None, Ok, Err}
use mathlib.Core.Path.{◌≡◌, sym, ◌∙◌}
use mathlib.Core.List.{List, []}
use mathlib.Core.Bool.{Bool, true, false, not, false≢true}
use Prim.Native.Nat.{ℕ, ◌+◌, ◌-◌, ◌≤◌}
use native.Mathlib.Omega.{arith}
use lib.ListN.{length, take, drop}
use lib.Seq.{slice, sets}
use Rattle.semantics.specs.Bytes.{Bytes}
use Rattle.semantics.specs.Ty.{Ty, line, joined, too_large}
use Rattle.text.proofs.Laws.{part_slice}
use Rattle.ty.specs.Parts.{TypeAt, TypeFrom}
use Rattle.ty.specs.Made.{made}
use Rattle.ty.specs.Union.{TypesAt, Closed}
use Rattle.ty.proofs.Lent.{types-front, put_back, type_up}
use Rattle.ty.proofs.UnionEnds.{type-long}
use Rattle.unify_run.specs.Run.{done, unless, checked}
use Rattle.unify_run.proofs.Size.{small-sound}
use Rattle.unify.specs.Work.{Answered, Below}
use Rattle.unify.specs.Made.{SomeMade, Tested, SomeUnion, ClosedUnion}
use Rattle.unify.specs.Flat.{SomeOperand, Copied}
use Rattle.unify.specs.declared.Span.{Span}
use Rattle.unify.specs.declared.UnifyError.TheVariants.{TooLarge}
use Rattle.unify.proofs.Marks.{below-sets, written_type, put-below}

-- ## `tested`

pub made-line : {s : Bytes} {mark end : ℕ} → SomeMade s mark end → TypeFrom (take (end - mark) (drop mark s)) 0
unfolding line
made-line {s} {mark} {end} p = record { ty = p.ty; rest = []; is = part_slice mark end s ∙ p.at.is }

module _ {s : Bytes} {mark end : ℕ} (b : Bool) (h : (t : Ty) → take (end - mark) (drop mark s) ≡ line t → b ≡ not (too_large t)) where
  pub tested-fits : b ≡ true → Tested s mark end (Ok end)
  unfolding checked
  tested-fits e t f = go (too_large t) (sym e ∙ h t (part_slice mark end s ∙ f.is))
    where
      go : (c : Bool) → true ≡ not c → Answered (unless c (done t)) s mark (Ok end)
      go true q = absurd (false≢true (sym q))
      go false q = f

  pub tested-large : b ≡ false → Tested s mark end (Err TooLarge)
  unfolding checked
  tested-large e t f = go (too_large t) (sym e ∙ h t (part_slice mark end s ∙ f.is))
    where
      go : (c : Bool) → false ≡ not c → Answered (unless c (done t)) s mark (Err TooLarge)
      go true q = tt
      go false q = absurd (false≢true q)

-- ## `closed`

module _ {s : Bytes} (t : Bytes) {mark n : ℕ} (p : SomeUnion s mark n) (r : StdOption ℕ) (l : length t ≡ length (take (length s - mark) (drop mark s)))
    (g : Closed (take (length s - mark) (drop mark s)) t n r) where
  inside : mark ≤ length s
  inside = omega (arith, p.room)

  pub closed-short : {k : ℕ} → r ≡ Some k → mark + k ≤ length s
  closed-short {k} e =
      let c = g p.members (types-front p.at) in
      let o = c.text.within in
      let q = p.room in
      go (too_large (joined p.members)) (sym e ∙ c.answer)
    where
      go : (b : Bool) → Some k ≡ made b (length (line (joined p.members))) → mark + k ≤ length s
      go true q = absurd (let z : ◌≡◌ {A = ℕ} 0 1 = cc in omega arith)
      go false q =
          let c = g p.members (types-front p.at) in
          let m : k ≡ length (line (joined p.members)) = cc in
          omega (arith, c.text.within, p.room)

  pub closed-done : {k : ℕ} → r ≡ Some k → ClosedUnion s (put_back s mark t) mark n (Ok (mark + k))
  unfolding checked
  closed-done {k} e = record { below = put-below s t mark inside l; answer = λ ms f. go ms f (too_large (joined ms)) (sym e ∙ (g ms (types-front f)).answer) }
    where
      go : (ms : List Ty) (f : TypesAt s mark (mark + n) ms) (b : Bool) → Some k ≡ made b (length (line (joined ms))) → Answered (unless b (done (joined ms))) (put_back s mark t) mark (Ok (mark + k))
      go ms f true q = absurd (let z : ◌≡◌ {A = ℕ} 0 1 = cc in omega arith)
      go ms f false q =
          let m : k ≡ length (line (joined ms)) = cc in
          rw m (type_up s t mark inside l (g ms (types-front f)).text.front)

  pub closed-large : r ≡ None → ClosedUnion s (put_back s mark t) mark n (Err TooLarge)
  unfolding checked
  closed-large e = record { below = put-below s t mark inside l; answer = λ ms f. go ms (too_large (joined ms)) (sym e ∙ (g ms (types-front f)).answer) }
    where
      go : (ms : List Ty) (b : Bool) → None ≡ made b (length (line (joined ms))) → Answered (unless b (done (joined ms))) (put_back s mark t) mark (Err TooLarge)
      go ms true q = tt
      go ms false q = absurd (let z : ◌≡◌ {A = ℕ} 0 1 = cc in omega arith)

-- ## `copied`

pub operand-room : {s : Bytes} {a : Span} {mark : ℕ} → SomeOperand s a mark → (a.from ≤ a.to) × (a.to ≤ mark) × (mark ≤ length s) × (mark + (a.to - a.from) ≤ length s)
operand-room {s} {a} {mark} p =
    let o = p.at in
    let l = type-long o.at in
    let m = small-sound p.ty o.small in
    let r = p.room in
    (o.at.ordered, o.below, omega arith, omega arith)

pub copied-answer : {s s' : Bytes} {a : Span} {mark n : ℕ} → SomeOperand s a mark → n ≡ a.to - a.from → s' ≡ sets s mark (slice a.from (a.from + n) s) → Copied s s' a mark (mark + n)
copied-answer {s} {s'} {a} {mark} {n} p e w =
    let r = operand-room p in
    let z : a.from + n ≡ a.to = omega (arith, e) in
    rw (w, z) (record { below = below-sets s mark mark (slice a.from a.to s) (omega arith); answer = λ t o. go t o.at })
  where
    go : (t : Ty) → TypeAt s a.from a.to t → TypeAt (sets s mark (slice a.from a.to s)) mark (mark + n) t
    go t f =
        let r = operand-room p in
        let l = type-long f in
        let z : n ≡ length (line t) = omega (arith, e) in
        rw (f.is, z) (written_type s mark t (omega arith))

-- ## A line that is given

pub written-answer : (s : Bytes) {s' : Bytes} (mark : ℕ) (w : Bytes) → s' ≡ sets s mark w → (t : Ty) → line t ≡ w → mark + length w ≤ length s → TypeAt s' mark (mark + length w) t
written-answer s {s'} mark w e t l n = let z : mark + length (line t) ≤ length s = rw l n in rw (e, ← l) (written_type s mark t z)

pub written_below : (s : Bytes) {s' : Bytes} (mark : ℕ) (w : Bytes) → s' ≡ sets s mark w → Below s s' mark
written_below s {s'} mark w e = rw e (below-sets s mark mark w (omega arith))
