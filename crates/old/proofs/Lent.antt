-- What stands before a part of the work area that was lent. Assumes nothing.
use mathlib.Core.Path.{◌≡◌, ◌∙◌}
use Prim.Native.Nat.{ℕ, ◌-◌, ◌≤◌}
use native.Mathlib.Omega.{arith}
use lib.ListN.{length, take, drop}
use Rattle.semantics.specs.Bytes.{Bytes}
use Rattle.ty.proofs.Lent.{put_back, put-long, slice-before}
use Rattle.old.specs.Make.{Acc, opening, listed, mapped, united, AccAt}

module _ (s t : Bytes) (k : ℕ) (h : k ≤ length s) (l : length t ≡ length (take (length s - k) (drop k s))) where
  long : length (put_back s k t) ≡ length s
  long = put-long s t k h l

  pub acc-stays : (a : Acc) → AccAt a s k → AccAt a (put_back s k t) k
  acc-stays opening (x, y, z) = (x, omega (arith, long), slice-before s t k h l 2 (omega arith) ∙ z)
  acc-stays (listed u) f = record { ordered = f.ordered; inside = omega (arith, f.inside, long); is = slice-before s t k h l k (omega arith) ∙ f.is }
  acc-stays (mapped fs) f = record { ordered = f.ordered; inside = omega (arith, f.inside, long); is = slice-before s t k h l k (omega arith) ∙ f.is }
  acc-stays (united ms) f = record { ordered = f.ordered; inside = omega (arith, f.inside, long); is = slice-before s t k h l k (omega arith) ∙ f.is }
