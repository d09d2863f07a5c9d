-- Buffers that are filled with one byte. Assumes nothing.
use Rattle.std.proofs.Common.{◌≡◌, ℕ, zero, suc, ◌-◌, ◌<◌, ◌≤◌, Bool, true, false, ◌∷◌, ◌++◌, length, get_or, take, drop, replicate, sym, refl, ap, ◌∙◌, arith, length-append, ext_get_or, drop_at}
use lib.ListN.{length-replicate, get_or-replicate}
use Rattle.semantics.specs.Bytes.{Bytes}
use Rattle.std.specs.Bool.{MatchBool}
use Rattle.std.specs.List.{AllWithin, HoldsAt}
use Rattle.replaying.specs.Judged.{Decides}
use Rattle.replay.specs.Stored.{filled}
use Rattle.replay.proofs.Decided.{holds, fails, decides}

-- ## One byte

pub all_alike : (s : Bytes) (b : ℕ) → ((k : ℕ) → k < length s → get_or s k 0 ≡ b) → Decides true (s ≡ replicate (length s) b)
all_alike s b h = holds (ext_get_or 0 s (replicate (length s) b) (sym (length-replicate (length s) b)) (λ k l. h k l ∙ sym (get_or-replicate (length s) k b 0 l)))

pub one-unlike : (s : Bytes) (b i : ℕ) → i < length s → (get_or s i 0 ≡ b → ⊥) → Decides false (s ≡ replicate (length s) b)
one-unlike s b i l d = fails λ e. d (ap (λ (t : Bytes). get_or t i 0) e ∙ get_or-replicate (length s) i b 0 l)

-- what `all` says
pub all-decides : (s : Bytes) (b : ℕ) (r : Bool) → MatchBool r (AllWithin (λ x. x ≡ b) s 0 (length s)) ((k : ℕ) × (k < length s) × HoldsAt (λ x. x ≡ b → ⊥) s k) → Decides r (s ≡ replicate (length s) b)
all-decides s b true h = all_alike s b (λ k l. h k 0 (omega arith) l)
all-decides s b false h = one-unlike s b h.0 h.1 (h.2 0)

pub take-replicate : (k n b : ℕ) → k ≤ n → take k (replicate n b) ≡ replicate k b
take-replicate zero n b h = refl
take-replicate (suc k) zero b h = absurd (omega arith)
take-replicate (suc k) (suc n) b h = ap (λ (l : Bytes). b ∷ l) (take-replicate k n b (omega arith))

-- ## A text and then one byte

pub rest-decides : (s t rest : Bytes) (b : ℕ) {r : Bool} → s ≡ t ++ rest → Decides r (rest ≡ replicate (length rest) b) → Decides r (s ≡ filled t (length s) b)
rest-decides s t rest b e = decides to from
  where
    n : length s - length t ≡ length rest
    n = omega (arith, ap length e, length-append t rest)

    to : rest ≡ replicate (length rest) b → s ≡ filled t (length s) b
    to q = e ∙ ap (λ (x : Bytes). t ++ x) (q ∙ ap (λ (k : ℕ). replicate k b) (sym n))

    from : s ≡ filled t (length s) b → rest ≡ replicate (length rest) b
    from q =
        sym (drop_at t rest (length t) refl)
        ∙ ap (drop (length t)) (sym e ∙ q)
        ∙ drop_at t (replicate (length s - length t) b) (length t) refl
        ∙ ap (λ (k : ℕ). replicate k b) n

pub other_front : (s t : Bytes) (b : ℕ) → ((rest : Bytes) → s ≡ t ++ rest → ⊥) → Decides false (s ≡ filled t (length s) b)
other_front s t b d = fails λ e. d (replicate (length s - length t) b) e
