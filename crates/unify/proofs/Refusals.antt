-- `o.ok_or(UnifyError::TooLarge)?`: what was there, and what is returned. Assumes nothing.
use Rattle.std.specs.Prelude.{Option as StdOption, Some, None, Ok, Err}
use Rattle.std.specs.Option.{ok_or}
use Prim.Native.Nat.{ℕ}
use mathlib.Core.Path.{◌≡◌, refl, sym, ◌∙◌, ap}
use Rattle.unify.specs.declared.UnifyError.{UnifyError}
use Rattle.unify.specs.declared.UnifyError.TheVariants.{TooLarge}
use Rattle.unify.specs.Work.{Unified}

pub was_there : (r : StdOption ℕ) {q : Unified} {k : ℕ} → q ≡ ok_or r TooLarge → q ≡ Ok k → r ≡ Some k
was_there r {q} {k} e w = go r (sym e ∙ w)
  where
    go : (o : StdOption ℕ) → ◌≡◌ {A = Unified} (ok_or o TooLarge) (Ok k) → o ≡ Some k
    go (Some n) p = let z : n ≡ k = cc in ap (λ (j : ℕ). Some j) z
    go None p = cc

-- the error that is passed on
pub passed_on : {z : Unified} {d : UnifyError} → (x : UnifyError) × (z ≡ Err x) × (x ≡ d) → z ≡ Err d
passed_on (x, e, f) = e ∙ ap (λ (y : UnifyError). Err y) f

pub too_large : (r : StdOption ℕ) (z : Unified) {q : Unified} {d : UnifyError} → q ≡ ok_or r TooLarge → q ≡ Err d → (x : UnifyError) × (z ≡ Err x) × (x ≡ d) → (r ≡ None) × (z ≡ Err TooLarge)
too_large r z {q} {d} e w p = go r (sym e ∙ w)
  where
    go : (o : StdOption ℕ) → ◌≡◌ {A = Unified} (ok_or o TooLarge) (Err d) → (o ≡ None) × (z ≡ Err TooLarge)
    go (Some n) k = absurd (cc)
    go None k = let y : d ≡ TooLarge = cc in (refl, passed_on p ∙ ap (λ (y : UnifyError). Err y) y)
