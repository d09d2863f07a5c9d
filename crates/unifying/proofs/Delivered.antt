-- What `deliver` writes: the line of an answer, or the two lines that do not unify. Assumes nothing.
use Prim.Native.Nat.{ℕ, ◌+◌, ◌-◌, ◌≤◌}
use native.Mathlib.Omega.{arith}
use mathlib.Core.Path.{◌≡◌, sym, ap, ap₂, subst, ◌∙◌}
use mathlib.Core.List.{◌++◌}
use lib.ListN.{length, take, drop, length-append}
use lib.Seq.{sets}
use Rattle.semantics.specs.Bytes.{Bytes}
use Rattle.semantics.specs.Ty.{Ty, line}
use Rattle.semantics.specs.Calls.{written}
use Rattle.text.proofs.Laws.{part_slice, sets-append, sets-parts}
use Rattle.ty.specs.Parts.{TypeAt}
use Rattle.unify_run.specs.Run.{Run, done, mismatch, large}
use Rattle.std.specs.Prelude.{Result, Ok, Err}
use Rattle.unify.specs.Work.{Unified, Answered}
use Rattle.unify.specs.declared.Span.{Span}
use Rattle.unify.specs.declared.UnifyError.TheVariants.{Mismatch}
use Rattle.unifying.specs.declared.NotUnified.{NotUnified}
use Rattle.unifying.specs.declared.NotUnified.TheVariants.{Mismatch as Parted}
use Rattle.unifying.specs.Told.{ShortRun, SomeAnswer, Told, Tells}

-- the part that `&work[a..e]` is
part-line : (s : Bytes) (a e : ℕ) (t : Ty) → TypeAt s a e t → take (e - a) (drop a s) ≡ line t
part-line s a e t p = part_slice a e s ∙ p.is

-- a text at the front
pub written_at : (out x : Bytes) → length x ≤ length out → sets out 0 x ≡ written x out
written_at out x h =
    let z : 0 + length x ≡ length x = omega arith in
    sets-parts out 0 x (omega arith) ∙ ap (λ (k : ℕ). x ++ drop k out) z

module _ (s : Bytes) (mark : ℕ) (u : Unified) (out : Bytes) (p : SomeAnswer s mark u out) where
  -- ## An answer

  pub tells-done : (e n : ℕ) (out' : Bytes) → u ≡ Ok e → n ≡ 0 + length (take (e - mark) (drop mark s)) → out' ≡ sets out 0 (take (e - mark) (drop mark s))
      → Tells s mark u out out' (Ok n)
  tells-done e n out' eq en eo R a h = go R (subst (λ (v : Unified). Answered R s mark v) eq a) h
    where
      go : (R : Run) → Answered R s mark (Ok e) → ShortRun R → Told R out out' (Ok n)
      go (done t) a h =
          let l : take (e - mark) (drop mark s) ≡ line t = part-line s mark e t a in
          let k : n ≡ length (line t) = en ∙ omega (arith, ap length l) in
          record {
            call = ap (λ (j : ℕ). ok j) k;
            output = eo ∙ ap (sets out 0) l ∙ written_at out (line t) (omega (arith, p.room, h));
          }
        where
          ok : ℕ → Result ℕ NotUnified
          ok j = Ok j
      go (mismatch x y) a h = absurd a
      go large a h = absurd a

  -- ## Two lines

  pub tells-apart : (i j : Span) (n m : ℕ) (out₁ out' : Bytes) → u ≡ Err (Mismatch i j)
      → n ≡ 0 + length (take (i.to - i.from) (drop i.from s)) → out₁ ≡ sets out 0 (take (i.to - i.from) (drop i.from s))
      → m ≡ n + length (take (j.to - j.from) (drop j.from s)) → out' ≡ sets out₁ n (take (j.to - j.from) (drop j.from s))
      → Tells s mark u out out' (Err (Parted n (m - n)))
  tells-apart i j n m out₁ out' eq en e₁ em e₂ R x h = go R (subst (λ (v : Unified). Answered R s mark v) eq x) h
    where
      go : (R : Run) → Answered R s mark (Err (Mismatch i j)) → ShortRun R → Told R out out' (Err (Parted n (m - n)))
      go (done t) x h = absurd x
      go (mismatch v w) x h =
          let lv : take (i.to - i.from) (drop i.from s) ≡ line v = part-line s i.from i.to v x.0.at in
          let lw : take (j.to - j.from) (drop j.from s) ≡ line w = part-line s j.from j.to w x.1.at in
          let kn : n ≡ length (line v) = en ∙ omega (arith, ap length lv) in
          let km : m - n ≡ length (line w) = omega (arith, em, ap length lw) in
          let k0 : n ≡ 0 + length (line v) = omega (arith, kn) in
          record {
            call = ap₂ both kn km;
            output = e₂ ∙ ap₂ (λ (o : Bytes) (k : Bytes). sets o n k) (e₁ ∙ ap (sets out 0) lv) lw
                ∙ ap (λ (j : ℕ). sets (sets out 0 (line v)) j (line w)) k0
                ∙ sym (sets-append out 0 (line v) (line w))
                ∙ written_at out (line v ++ line w) (omega (arith, length-append (line v) (line w), p.room, h.0, h.1));
          }
        where
          both : ℕ → ℕ → Result ℕ NotUnified
          both k l = Err (Parted k l)
      go large x h = absurd x
