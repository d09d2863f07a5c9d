-- A refusal at the front of the output is what is printed. Assumes nothing.
use Prim.Native.Nat.{ℕ, ◌+◌, ◌≤◌}
use native.Mathlib.Omega.{arith}
use mathlib.Core.Path.{◌≡◌, refl, ap, ◌∙◌}
use lib.ListN.{length, take, drop}
use lib.Seq.{sets-eq, take_at}
use Rattle.semantics.specs.Bytes.{Bytes, text}
use Rattle.semantics.specs.Calls.{refused_text}
use Rattle.report.specs.Report.{Appends, NumbersLine, numbers_text}

front-text : (t out out' : Bytes) (r : ℕ) → Appends t out out' 0 r → r ≤ length out → take r out' ≡ t
front-text t out out' r a h =
    ap (take r) (a.text ∙ sets-eq t out 0 (omega (arith, a.end))) ∙ take_at t (drop (0 + length t) out) r (omega (arith, a.end))

word-long : length (text "refused,") ≡ 8
unfolding text
word-long = refl

refused-is : (n m : ℕ) → numbers_text (text "refused,") n m ≡ refused_text n m
unfolding refused_text
refused-is n m = refl

pub refusal-printed : (n m room : ℕ) (t out out' : Bytes) (r : ℕ) → NumbersLine (text "refused,") n m out out' 0 r → 64 ≤ room → length out ≡ room → refused_text n m ≡ t
    → (r ≤ room) × (take r out' ≡ t)
refusal-printed n m room t out out' r w h l e =
    let s : r ≤ length out = omega (arith, w.short, word-long) in
    (omega arith, front-text (numbers_text (text "refused,") n m) out out' r w.appended s ∙ refused-is n m ∙ e)
