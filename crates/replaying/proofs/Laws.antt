-- What is said of answers. Assumes nothing.
use Rattle.std.proofs.Common.{◌≡◌, refl, ℕ, sym, ◌∙◌}
use mathlib.Core.Bool.{Bool, true, false, ◌&&◌, false≢true}
use borrow.Author.Tests.{eqb-true}
use lib.Dec.{eqb}
use Rattle.replaying.specs.Judged.{Decides, Judges, judged}
use Rattle.replaying.specs.declared.answer.Answer.{Answer}
use Rattle.replaying.specs.declared.answer.Verdict.{Verdict}
use Rattle.replaying.specs.declared.answer.Verdict.TheVariants.{Same, Differs}

-- what a derived `==` of two answers says
pub alike : (a b : Answer) → (eqb a.number b.number && (eqb a.first b.first && eqb a.second b.second)) ≡ true → a ≡ b
alike a b e =
    let r = and-two (eqb a.number b.number) (eqb a.first b.first && eqb a.second b.second) e in
    let p = eqb-true a.number b.number (and_one (eqb a.number b.number) (eqb a.first b.first && eqb a.second b.second) e) in
    let q = eqb-true a.first b.first (and_one (eqb a.first b.first) (eqb a.second b.second) r) in
    let s = eqb-true a.second b.second (and-two (eqb a.first b.first) (eqb a.second b.second) r) in
    rebuild p q s
  where
    and_one : (x y : Bool) → (x && y) ≡ true → x ≡ true
    and_one true y h = refl
    and_one false y h = h

    and-two : (x y : Bool) → (x && y) ≡ true → y ≡ true
    and-two true y h = h
    and-two false y h = absurd (false≢true h)

    rebuild : {i j k l m n : ℕ} → i ≡ l → j ≡ m → k ≡ n → ◌≡◌ {A = Answer} (record { number = i; first = j; second = k }) (record { number = l; first = m; second = n })
    rebuild p q s = cc

-- a verdict on a fact that is decided
pub judges : (r : Bool) (v : Verdict) (P : Type 0) → v ≡ judged r → Decides r P → Judges v P
judges true v P e d = record { same = λ f. d.yes refl; differs = λ f. absurd (apart (sym e ∙ f)) }
  where
    apart : Same ≡ Differs → ⊥
    apart x = cc
judges false v P e d = record { same = λ f. absurd (apart (sym e ∙ f)); differs = λ f. d.no refl }
  where
    apart : Differs ≡ Same → ⊥
    apart x = cc
