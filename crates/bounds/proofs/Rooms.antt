-- Room for a unification at the depth where it is made. Assumes nothing.
use mathlib.Core.Path.{◌≡◌, refl}
use mathlib.Core.Bool.{Bool, true, false, cond, ◌||◌}
use Prim.Native.Nat.{ℕ, ◌+◌, ◌-◌, ◌*◌, ◌≤◌}
use native.Mathlib.Omega.{arith}
use native.Mathlib.Nat.{mul-div-le}
use lib.Dec.{ltb}
use lib.ListN.{length}
use borrow.Author.Tests.{ltb-false}
use Rattle.semantics.specs.Limits.{type_limit, nesting_limit}
use Rattle.semantics.specs.Ty.{Ty, line, nesting, too_large, is_union}
use Rattle.semantics.proofs.Regular.{Regular}
use Rattle.unify.specs.Work.{slots}
use Rattle.walk_run.specs.Depth.{levels}
use Rattle.walk_run.proofs.Levels.{nesting-levels}

bit : (b : Bool) → cond {A = ℕ} b 1 0 ≤ 1
bit true = omega arith
bit false = omega arith

-- three slots to twice the nesting
pub slots-few : (a b : Ty) → 3 * slots a b ≤ 2 * (nesting a + nesting b)
unfolding slots
slots-few a b =
    let u : ℕ = cond (is_union a || is_union b) 1 0 in
    omega (arith, bit (is_union a || is_union b), mul-div-le (2 * (nesting a + nesting b) + u - 1) 3)

-- d levels of depth are left
pub slots-fit : (d : ℕ) (a b : Ty) → 1 ≤ d → nesting a ≤ 32 → nesting b ≤ 32 → nesting a ≤ 2 * d → nesting b ≤ 2 * d → 2048 + 1024 * slots a b ≤ 1024 * (d + 40)
slots-fit d a b p ha hb ka kb = omega (arith, slots-few a b)

pub not-deep : (t : Ty) → too_large t ≡ false → nesting t ≤ 32
unfolding too_large
not-deep t e = go (ltb type_limit (length (line t))) (ltb nesting_limit (nesting t)) refl e
  where
    go : (b c : Bool) → ltb nesting_limit (nesting t) ≡ c → b || c ≡ false → nesting t ≤ 32
    go true c f k = absurd (let z : ◌≡◌ {A = ℕ} 0 1 = cc in omega arith)
    go false true f k = absurd (let z : ◌≡◌ {A = ℕ} 0 1 = cc in omega arith)
    go false false f k = omega (arith, ltb-false nesting_limit (nesting t) f)

pub low-fit : (d : ℕ) (a b : Ty) → 1 ≤ d → Regular a → Regular b → too_large a ≡ false → too_large b ≡ false → levels a ≤ d - 1 → levels b ≤ d - 1
    → 2048 + 1024 * slots a b ≤ 1024 * (d + 40)
low-fit d a b p ra rb ta tb la lb =
    slots-fit d a b p (not-deep a ta) (not-deep b tb) (omega (arith, nesting-levels a ra)) (omega (arith, nesting-levels b rb))
