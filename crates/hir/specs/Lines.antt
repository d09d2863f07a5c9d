-- An accepted sheet under a cursor: which heads stand where, and how they hang together.
use Rattle.std.specs.Prelude.{◌≡◌, List, [], ◌∷◌, ◌++◌, true, ℕ, suc, ◌≤◌}
use Rattle.semantics.specs.Bytes.{Bytes}
use Rattle.semantics.specs.Sheet.{Head, variable_of, rank, place, ok, Want, fits, beyond, under}
pub use Rattle.line.specs.Known.{LineAt}

-- the lines from p up to q say these heads
pub data Lines (s : Bytes) : ℕ → List Head → ℕ → Type 0 where
  no_line : {p : ℕ} → Lines s p [] p
  a_line : {p q r : ℕ} {h : Head} {hs : List Head} → LineAt s p h q → Lines s q hs r → Lines s p (h ∷ hs) r

-- the heads from the first list meet the wants one after the other, each with all that hangs under it, and leave the second list:
-- arity and places of children, and the depth at each
pub data Met : List Want → List Head → List Head → Type 0 where
  all_met : {hs : List Head} → Met [] hs hs
  meets : {w : Want} {ws : List Want} {h : Head} {hs ks : List Head} → fits w (rank (place h)) ≡ true → beyond w h ≡ ok h
      → Met (under w h ++ ws) hs ks → Met (w ∷ ws) (h ∷ hs) ks

-- bindings of strictly ascending variables, none below v and each below w
pub data Ascends : ℕ → List Head → ℕ → Type 0 where
  no_binding : {v : ℕ} → Ascends v [] v
  ascends : {v w : ℕ} {h : Head} {hs : List Head} → rank (place h) ≡ 1 → v ≤ variable_of h → Ascends (suc (variable_of h)) hs w → Ascends v (h ∷ hs) w
