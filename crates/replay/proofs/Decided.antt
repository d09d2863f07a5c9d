-- Answers made from a fact. Assumes nothing.
use Rattle.std.proofs.Common.{Bool, true, false, sym}
use mathlib.Core.Bool.{false≢true}
use Rattle.replaying.specs.Judged.{Decides}

module _ {P : Type 0} where
  pub holds : P → Decides true P
  holds p = record { yes = λ e. p; no = λ e. absurd (false≢true (sym e)) }

  pub fails : (P → ⊥) → Decides false P
  fails d = record { yes = λ e. absurd (false≢true e); no = λ e. d }

-- facts that hold together are decided alike
pub decides : {P Q : Type 0} {r : Bool} → (P → Q) → (Q → P) → Decides r P → Decides r Q
decides f g d = record { yes = λ e. f (d.yes e); no = λ e q. d.no e (g q) }

pub both : {P Q : Type 0} {r : Bool} → P → Decides r Q → Decides r (P × Q)
both p = decides (λ q. (p, q)) (λ a. a.1)
