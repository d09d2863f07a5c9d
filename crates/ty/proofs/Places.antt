-- Places in a text: what stands behind a part that is known. Assumes nothing.
use mathlib.Core.Path.{◌≡◌, sym, ◌∙◌, ap}
use mathlib.Core.List.{[], ◌∷◌, ◌++◌}
use Prim.Native.Nat.{ℕ, ◌+◌, ◌<◌}
use native.Mathlib.Omega.{arith}
use lib.ListN.{length, take, drop, get_or, length-drop, length-append}
use lib.Seq.{slice, drop-drop, drop-append_seam, take-append_seam, get_or-drop, get_or-append_seam}
use Rattle.text.proofs.Laws.{take-drop}
use Rattle.semantics.specs.Bytes.{Bytes}

module _ (s : Bytes) (q : ℕ) where
  -- behind the part f that stands at q
  pub past : (f y : Bytes) → drop q s ≡ f ++ y → drop (q + length f) s ≡ y
  past f y e = sym (drop-drop (length f) q s) ∙ ap (drop (length f)) e ∙ drop-append_seam f y

  pub byte_past : (f y : Bytes) (b : ℕ) → drop q s ≡ f ++ (b ∷ y) → get_or s (q + length f) 0 ≡ b
  byte_past f y b e = sym (get_or-drop q s (length f) 0) ∙ ap (λ (l : Bytes). get_or l (length f) 0) e ∙ get_or-append_seam f b y 0

  pub byte_at : (y : Bytes) (b : ℕ) → drop q s ≡ b ∷ y → get_or s q 0 ≡ b
  byte_at y b e = let z : q + 0 ≡ q = omega arith in rw z at (byte_past [] y b e)

  pub room : (y : Bytes) → drop q s ≡ y → 0 < length y → q + length y ≡ length s
  room y e h = omega (arith, length-drop q s, ap length e)

  pub room-past : (f y : Bytes) → drop q s ≡ f ++ y → 0 < length f → q + length f + length y ≡ length s
  room-past f y e h = omega (arith, room (f ++ y) e (omega (arith, length-append f y)), length-append f y)

  -- the part itself
  pub part : (f y : Bytes) → drop q s ≡ f ++ y → slice q (q + length f) s ≡ f
  part f y e = sym (take-drop (length f) q s) ∙ ap (take (length f)) e ∙ take-append_seam f y
