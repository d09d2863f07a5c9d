-- What the answer of a pair of parts says, and the room that it has. Assumes nothing.
use Prim.Native.Nat.{ℕ, ◌+◌, ◌-◌, ◌*◌, ◌≤◌}
use native.Mathlib.Nat.{le-div_iff_mul-le}
use native.Mathlib.Omega.{arith}
use mathlib.Core.Path.{◌≡◌, refl}
use mathlib.Core.Bool.{cond, ◌||◌}
use Rattle.semantics.specs.Bytes.{Bytes}
use Rattle.semantics.specs.Ty.{Ty, nesting, is_union}
use Rattle.ty.proofs.Lines.{nesting-pos}
use Rattle.ty.specs.Parts.{TypeAt}
use Rattle.unify_run.specs.Run.{Run, done, mismatch, large, on_done}
use Rattle.std.specs.Prelude.{Ok, Err}
use Rattle.unify.specs.declared.UnifyError.{UnifyError}
use Rattle.unify.specs.declared.UnifyError.TheVariants.{Mismatch, TooLarge}
use Rattle.unify.specs.Work.{Answered, slots}

-- ## Room

pub slots-one : (t u : Ty) → 1 ≤ slots t u
unfolding slots
slots-one t u =
    (le-div_iff_mul-le {k = 3} {x = 1} {y = 2 * (nesting t + nesting u) + cond (is_union t || is_union u) 1 0 - 1} (omega arith)).1
    (omega (arith, nesting-pos t, nesting-pos u))

-- what an answer says of the run
pub answer-done : {s : Bytes} {m e : ℕ} (R : Run) → Answered R s m (Ok e) → (t : Ty) × (R ≡ done t) × TypeAt s m e t
answer-done (done t) a = (t, refl, a)
answer-done (mismatch x y) a = absurd a
answer-done large a = absurd a

-- no answer to a part is none to the whole
pub apart-too : (s : Bytes) (m n : ℕ) (e : UnifyError) (R : Run) (f : Ty → Run) → Answered R s m (Err e) → Answered (on_done R f) s n (Err e)
apart-too s m n (Mismatch p q) (done t) f h = absurd h
apart-too s m n (Mismatch p q) (mismatch x y) f h = h
apart-too s m n (Mismatch p q) large f h = absurd h
apart-too s m n TooLarge (done t) f h = absurd h
apart-too s m n TooLarge (mismatch x y) f h = absurd h
apart-too s m n TooLarge large f h = tt
