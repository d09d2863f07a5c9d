-- What is said of a call is its answer. Assumes nothing.
use Rattle.std.proofs.Common.{◌≡◌, sym, ◌∙◌, ap, subst, Bool, true, false, ℕ, ◌+◌, ◌≤◌, length, arith, None}
use borrow.Author.Tests.{eq-eqb, ne_eqb}
use Rattle.semantics.specs.Bytes.{Bytes, text}
use Rattle.semantics.specs.Refusals.{number_of}
use Rattle.semantics.specs.declared.refusals.Refused.{Refused}
use Rattle.semantics.proofs.Refusing.{above_none}
use Rattle.report.specs.Report.{Appends, numbers_text}
use Rattle.stores.specs.Catalogue.{Ask, Kept, store_call}
use Rattle.catalogue.specs.Stands.{refused_by}
use Rattle.typestore.specs.Answers.{done_text, said_text, said_number, answer_text, Refuses, Answers}
use Rattle.typestore.specs.declared.answer.Said.{Said}

abbrev by : Bool → Bytes → ℕ → ℕ → Bytes
by b t n place = elim b [ true ↦ t | false ↦ numbers_text (text "refused,") n place ]

module _ (t out out' : Bytes) (f n place : ℕ) where
  said-done : n ≡ 0 → Appends t out out' 0 f → Appends (said_text t n place) out out' 0 f
  said-done e p = subst (λ (b : Bool). Appends (by b t n place) out out' 0 f) (sym (eq-eqb n 0 e)) p

  said-refused : (n ≡ 0 → ⊥) → Appends (numbers_text (text "refused,") n place) out out' 0 f → Appends (said_text t n place) out out' 0 f
  said-refused e p = subst (λ (b : Bool). Appends (by b t n place) out out' 0 f) (sym (ne_eqb n 0 e)) p

-- an accepted call, whose text is t
pub accepted : (a : Ask) (s s' out out' : Bytes) (k : Kept) (t : Bytes) (f : ℕ) → k ≡ store_call s a → s' ≡ k.store → k.told.number ≡ 0 → t ≡ done_text a k.told → Appends t out out' 0 f → f ≤ length s + 64
    → Answers a s s' out out' (record { refusal = None; length = f })
accepted a s s' out out' k t f e p n d w b =
    record {
      number = sym n ∙ ap (λ (x : Kept). x.told.number) e;
      store = p ∙ ap (λ (x : Kept). x.store) e;
      text = subst (λ (x : Kept). Appends (answer_text a x.told) out out' 0 f) e (said-done (done_text a k.told) out out' f k.told.number k.told.first n (subst (λ (x : Bytes). Appends x out out' 0 f) d w));
      short = b;
    }

pub refused : (a : Ask) (s s' out out' : Bytes) (w : Refused) (r : Said) → refused_by w s' ≡ store_call s a → Refuses w out out' r → Answers a s s' out out' r
refused a s s' out out' w r e p =
    let k = refused_by w s' in
    record {
      number = ap said_number p.why ∙ ap (λ (x : Kept). x.told.number) e;
      store = ap (λ (x : Kept). x.store) e;
      text = subst (λ (x : Kept). Appends (answer_text a x.told) out out' 0 r.length) e (said-refused (done_text a k.told) out out' r.length (number_of w.why) w.place (above_none w.why) p.text);
      short = let h = p.short in omega arith;
    }
