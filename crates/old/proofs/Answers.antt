-- What an answer of `ty` says, and how long a type is where it stands. Assumes nothing.
use mathlib.Core.Path.{◌≡◌, refl, sym, ◌∙◌, ap}
use mathlib.Core.Bool.{Bool, true, false}
use Prim.Native.Nat.{ℕ, ◌+◌}
use native.Mathlib.Omega.{arith}
use lib.ListN.{length}
use lib.Seq.{length-slice}
use Rattle.std.specs.Prelude.{Option, Some, None}
use Rattle.std.proofs.lemmas.Option.{none-some, same_Some}
use Rattle.semantics.specs.Bytes.{Bytes}
use Rattle.semantics.specs.Ty.{Ty, line}
use Rattle.ty.specs.Parts.{TypeAt}
use Rattle.ty.specs.Made.{made as made_grown}

pub grown-len : (b : Bool) (l k : ℕ) (g : Option ℕ) → g ≡ made_grown b l → g ≡ Some k → (b ≡ false) × (l ≡ k)
grown-len true l k g e f = absurd (none-some k (sym e ∙ f))
grown-len false l k g e f = (refl, same_Some l k (sym e ∙ f))

pub grown-large : (b : Bool) (l : ℕ) (g : Option ℕ) → g ≡ made_grown b l → g ≡ None → b ≡ true
grown-large true l g e f = refl
grown-large false l g e f = absurd (none-some l (sym f ∙ e))

pub type-long : {w : Bytes} {a e : ℕ} {t : Ty} → TypeAt w a e t → a + length (line t) ≡ e
type-long {w} {a} {e} {t} f = omega (arith, f.ordered, f.inside, length-slice a e w f.inside, ap length f.is)
