-- A call's answer beside the stored one. Assumes nothing.
use Rattle.std.proofs.Common.{◌≡◌, ℕ, Bool, false, length, replicate, ap, ap₂, ◌∙◌}
use Rattle.semantics.specs.Bytes.{Bytes}
use Rattle.semantics.specs.Calls.{Settled}
use Rattle.replaying.specs.Judged.{Decides}
use Rattle.replaying.specs.declared.answer.Answer.{Answer}
use Rattle.replay.specs.Stored.{filled, work_byte, out_byte, left_by, stored_by}
use Rattle.replay.proofs.Decided.{fails, decides}

module _ (work out expected : Bytes) (a want : Answer) where
  abbrev Stored : Type 0
  Stored = left_by a work out ≡ stored_by want (length work) (length out) expected

  abbrev Left : Type 0
  Left = (work ≡ replicate (length work) (work_byte want.number)) × (out ≡ filled expected (length out) (out_byte want.number))

  answer-of : Stored → a ≡ want
  answer-of e = alike (ap (λ (x : Settled). x.number) e) (ap (λ (x : Settled). x.first) e) (ap (λ (x : Settled). x.second) e)
    where
      alike : {i j k l m n : ℕ} → i ≡ l → j ≡ m → k ≡ n → ◌≡◌ {A = Answer} (record { number = i; first = j; second = k }) (record { number = l; first = m; second = n })
      alike p q r = cc

  pub other-answer : (a ≡ want → ⊥) → Decides false Stored
  other-answer d = fails λ e. d (answer-of e)

  pub same-answer : {r : Bool} → a ≡ want → Decides r Left → Decides r Stored
  same-answer p = decides (λ l. ap (λ (x : Answer). left_by x work out) p ∙ ap₂ (λ (x y : Bytes). left_by want x y) l.0 l.1) (λ e. (ap (λ (x : Settled). x.work) e, ap (λ (x : Settled). x.out) e))

-- the call's definition gives what it left, and the buffers kept their lengths
pub told : {r : Bool} {U : Settled} {a want : Answer} (w o e w' o' : Bytes) → left_by a w' o' ≡ U → length w' ≡ length w → length o' ≡ length o
    → Decides r (left_by a w' o' ≡ stored_by want (length w') (length o') e)
    → Decides r (U ≡ stored_by want (length w) (length o) e)
told w o e w' o' t k l j = rw (t, k, l) at j
