-- What `ok_or` says of its option, and `checked_add` of its sum. Assumes nothing.
use mathlib.Core.Path.{◌≡◌, refl, subst}
use Prim.Native.Nat.{ℕ}
use Rattle.std.specs.Prelude.{Option, Some, None, Ok, Err, SomeIff}
use Rattle.std.specs.Option.{ok_or}

pub absent : {A E : Type 0} (o : Option A) (e d : E) → Err d ≡ ok_or o e → (o ≡ None) × (d ≡ e)
absent None e d h = (refl, cc)
absent (Some x) e d h = absurd (cc)

pub present : {A E : Type 0} (o : Option A) (e : E) (x : A) → Ok x ≡ ok_or o e → o ≡ Some x
present None e x h = absurd (cc)
present (Some y) e x h = cc

pub over : (o : Option ℕ) (P : Type 0) (v : ℕ) → o ≡ None → SomeIff o P v → P → ⊥
over o P v e h = subst (λ (x : Option ℕ). SomeIff x P v) e h

pub within : (o : Option ℕ) (x : ℕ) (P : Type 0) (v : ℕ) → o ≡ Some x → SomeIff o P v → P × (x ≡ v)
within o x P v e h = subst (λ (y : Option ℕ). SomeIff y P v) e h
