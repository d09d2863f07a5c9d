-- When a field is a name, by its digits. Assumes nothing.
use Prim.Native.Nat.{ℕ, ◌%◌}
use mathlib.Core.Path.{◌≡◌, refl, ap, ◌∙◌}
use mathlib.Core.Bool.{Bool, true, false, cond}
use lib.Dec.{eqb, leb}
use lib.ListN.{length, length-map}
use Rattle.std.specs.Prelude.{Result, Ok, Err}
use Rattle.semantics.specs.Bytes.{Bytes, unhex}
use Rattle.semantics.specs.declared.refusals.Refusal.{Refusal}
use Rattle.semantics.specs.declared.refusals.Refusal.TheVariants.{BadlyWritten, OutOfRange}
use Rattle.text.specs.Text.{digit_of, is_found, named_of}
use Rattle.text.proofs.Words.{unhex-all, unhex-bad}

-- the same, by the length of the field
abbrev pub told : Bool → ℕ → Result (Unit {0}) Refusal
told hex n = cond hex (cond (eqb (n % 2) 0) (cond (leb n 510) (Ok tt) (Err OutOfRange)) (Err BadlyWritten)) (Err BadlyWritten)

pub named-told : (s : Bytes) → named_of (unhex s) ≡ told (is_found (unhex s)) (length s)
unfolding named_of
named-told s = go (is_found (unhex s)) refl
  where
    go : (b : Bool) → is_found (unhex s) ≡ b → named_of (unhex s) ≡ told b (length s)
    go true e = ap named_of (unhex-all s e) ∙ ap (λ (n : ℕ). told true n) (length-map s digit_of)
    go false e = ap named_of (unhex-bad s e)

pub no-hex : (s : Bytes) → is_found (unhex s) ≡ false → named_of (unhex s) ≡ Err BadlyWritten
no-hex s e = named-told s ∙ ap (λ (b : Bool). told b (length s)) e

pub odd : (s : Bytes) → eqb (length s % 2) 0 ≡ false → named_of (unhex s) ≡ Err BadlyWritten
odd s e = named-told s ∙ go (is_found (unhex s))
  where
    go : (b : Bool) → told b (length s) ≡ Err BadlyWritten
    go true = rw e
    go false = refl
