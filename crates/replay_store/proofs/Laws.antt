-- An answer beside the stored one, and a front with zeros behind it. Assumes nothing.
use Rattle.std.proofs.Common.{◌≡◌, ℕ, zero, suc, ◌+◌, ◌-◌, ◌≤◌, Bool, false, ◌∷◌, ◌++◌, length, take, drop, sym, refl, ap, ap₂, ◌∙◌, subst, arith}
use mathlib.Core.Bool.{false≢true}
use lib.ListN.{length-replicate}
use lib.Seq.{sets, sets-eq, take-append-add}
use Rattle.semantics.specs.Bytes.{Bytes, same}
use Rattle.semantics.proofs.Order.{same-eq, same_refl}
use Rattle.stores.specs.Catalogue.{Kept}
use Rattle.catalogue.specs.Stands.{looked_as}
use Rattle.stores.proofs.Stored.{blank}
use Rattle.replaying.specs.declared.answer.Answer.{Answer}
use Rattle.replaying.specs.declared.answer.Verdict.{Verdict}
use Rattle.replaying.specs.Judged.{Decides, Judges}
use Rattle.replay_store.specs.declared.Call.{Call}
use Rattle.replay_store.specs.Agrees.{Agrees, kept_of, padded}

apart : (s t : Bytes) → same s t ≡ false → s ≡ t → ⊥
apart s t f e = false≢true (sym f ∙ ap (same s) (sym e) ∙ same_refl s)

-- ## The numbers and the bytes

pub kept-so : (a want : Answer) (s after : Bytes) (r : Bool) → a ≡ want → r ≡ same s after → Decides r (kept_of a s ≡ kept_of want after)
kept-so a want s after r e q =
    record {
      yes = λ t. ap₂ (λ (x : Answer) (y : Bytes). kept_of x y) e (same-eq (sym q ∙ t));
      no = λ f k. apart s after (sym q ∙ f) (ap (λ (x : Kept). x.store) k);
    }

pub looked-so : (n u m v : ℕ) (t line : Bytes) (r : Bool) → n ≡ m → u ≡ v → r ≡ same t line → (s : Bytes) → Decides r (looked_as n u t s ≡ looked_as m v line s)
looked-so n u m v t line r p q e s =
    record {
      yes = λ w. rw (p, q) (ap (λ (x : Bytes). looked_as m v x s) (same-eq (sym e ∙ w)));
      no = λ f z. apart t line (sym e ∙ f) (ap (λ (x : Kept). x.told.text) z);
    }

-- ## A front, and zeros behind it

take-zeros : (k n : ℕ) → k ≤ n → take k (blank n) ≡ blank k
take-zeros zero n h = refl
take-zeros (suc k) zero h = absurd (omega arith)
take-zeros (suc k) (suc n) h = ap (λ (l : Bytes). 0 ∷ l) (take-zeros k n (omega arith))

drop-zeros : (k n : ℕ) → k ≤ n → drop k (blank n) ≡ blank (n - k)
drop-zeros zero n h = let e : n ≡ n - 0 = omega arith in ap blank e
drop-zeros (suc k) zero h = absurd (omega arith)
drop-zeros (suc k) (suc n) h = let e : n - k ≡ suc n - suc k = omega arith in drop-zeros k n (omega arith) ∙ ap blank e

blank-long : (n : ℕ) → length (blank n) ≡ n
blank-long n = length-replicate {A = ℕ} n 0

front-padded : (t : Bytes) (m n : ℕ) → length t ≤ n → n ≤ m → take n (sets (blank m) 0 t) ≡ padded t n
front-padded t m n h l =
    let k = length t in
    let z : 0 + k ≡ k = omega arith in
    let e : sets (blank m) 0 t ≡ t ++ blank (m - k)
    = sets-eq t (blank m) 0 (omega (arith, blank-long m)) ∙ ap (λ (x : ℕ). t ++ drop x (blank m)) z ∙ ap (λ (x : Bytes). t ++ x) (drop-zeros k m (omega arith)) in
    let p : n ≡ k + (n - k) = omega arith in
    ap (take n) e ∙ ap (λ (x : ℕ). take x (t ++ blank (m - k))) p ∙ take-append-add t (blank (m - k)) (n - k) ∙ ap (λ (x : Bytes). t ++ x) (take-zeros (n - k) (m - k) (omega arith))

pub lent : (v : Verdict) (call : Call) (front after s x : Bytes) (size : ℕ) (want : Answer) → length front ≤ size → length after ≤ size → size ≤ 65537 → s ≡ sets (blank 65537) 0 front → x ≡ sets (blank 65537) 0 after
    → Judges v (Agrees call (take size s) want (take size x)) → Judges v (Agrees call (padded front size) want (padded after size))
lent v call front after s x size want f a b p q j =
    let y : take size s ≡ padded front size = ap (take size) p ∙ front-padded front 65537 size f b in
    let z : take size x ≡ padded after size = ap (take size) q ∙ front-padded after 65537 size a b in
    subst (λ (w : Bytes). Judges v (Agrees call w want (padded after size))) y (subst (λ (w : Bytes). Judges v (Agrees call (take size s) want w)) z j)
