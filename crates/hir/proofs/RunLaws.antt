-- Wants one after the other are read one after the other; a sheet's reading is the reading of its wants. Assumes nothing.
use mathlib.Core.Path.{◌≡◌, refl, sym, ◌∙◌, ap}
use mathlib.Core.List.{List, [], ◌∷◌, ◌++◌, append_assoc, append-nil}
use Prim.Native.Nat.{ℕ, suc}
use Rattle.semantics.specs.Bytes.{Bytes}
use Rattle.semantics.specs.Sheet.{Head, Read, bad, ok, Want, under, read_line, add, carry, check}
use Rattle.hir.specs.Run.{Run, stopped, passed, before, carry_on, at_end, run, behind, and_go, add_all, finish}

-- ## Heads before a reading

pub behind-none : (r : Run) → behind [] r ≡ r
unfolding behind
behind-none (stopped c n) = refl
behind-none (passed hs n ls) = refl

pub behind-append : (hs ks : List Head) (r : Run) → behind hs (behind ks r) ≡ behind (hs ++ ks) r
unfolding behind
behind-append hs ks (stopped c n) = refl
behind-append hs ks (passed js n ls) = ap (λ (x : List Head). passed x n ls) (sym (append_assoc hs ks js))

pub before-behind : (h : Head) (r : Run) → before h r ≡ behind (h ∷ []) r
unfolding before behind
before-behind h (stopped c n) = refl
before-behind h (passed hs n ls) = refl

behind-cons : (h : Head) (hs : List Head) (r : Run) → before h (behind hs r) ≡ behind (h ∷ hs) r
unfolding before behind
behind-cons h hs (stopped c n) = refl
behind-cons h hs (passed ks n ls) = refl

before-go : (h : Head) (r : Run) (k : ℕ → List Bytes → Run) → before h (and_go r k) ≡ and_go (before h r) k
unfolding before and_go
before-go h (stopped c n) k = refl
before-go h (passed hs n ls) k = behind-cons h hs (k n ls)

-- ## The wants `a ++ b` are `a`, and then `b` on what is left

pub run-append : (ls : List Bytes) (a b : List Want) (n : ℕ) → run (a ++ b) n ls ≡ and_go (run a n ls) (λ m ms. run b m ms)
unfolding run and_go at_end carry_on
run-append [] [] b n = sym (behind-none (run b n []))
run-append [] (w ∷ a) b n = refl
run-append (l ∷ []) [] b n = sym (behind-none (run b n (l ∷ [])))
run-append (l ∷ []) (w ∷ a) b n = refl
run-append (l ∷ l' ∷ ls) [] b n = sym (behind-none (run b n (l ∷ l' ∷ ls)))
run-append (l ∷ l' ∷ ls) (w ∷ a) b n = go (λ h. run-append (l' ∷ ls) (under w h ++ a) b (suc n)) (read_line w l)
  where
    go : ((h : Head) → run ((under w h ++ a) ++ b) (suc n) (l' ∷ ls) ≡ and_go (run (under w h ++ a) (suc n) (l' ∷ ls)) (λ m ms. run b m ms))
        → (r : Read) → carry_on n r (λ h. run (under w h ++ (a ++ b)) (suc n) (l' ∷ ls)) ≡ and_go (carry_on n r (λ h. run (under w h ++ a) (suc n) (l' ∷ ls))) (λ m ms. run b m ms)
    go ih (bad c) = refl
    go ih (ok h) = ap (before h) (ap (λ (x : List Want). run x (suc n) (l' ∷ ls)) (sym (append_assoc (under w h) a b)) ∙ ih h) ∙ before-go h (run (under w h ++ a) (suc n) (l' ∷ ls)) (λ m ms. run b m ms)

-- ## A sheet's reading

finish-before : (h : Head) (r : Run) → add h (finish r) ≡ finish (before h r)
unfolding finish before add add_all
finish-before h (stopped c n) = refl
finish-before h (passed hs n ls) = refl

pub check-run : (ls : List Bytes) (ws : List Want) (n : ℕ) → check ws n ls ≡ finish (run ws n ls)
unfolding check run at_end finish add_all carry_on carry
check-run [] [] n = refl
check-run [] (w ∷ ws) n = refl
check-run (l ∷ []) [] n = refl
check-run (l ∷ []) (w ∷ ws) n = refl
check-run (l ∷ l' ∷ ls) [] n = refl
check-run (l ∷ l' ∷ ls) (w ∷ ws) n = go (λ h. check-run (l' ∷ ls) (under w h ++ ws) (suc n)) (read_line w l)
  where
    go : ((h : Head) → check (under w h ++ ws) (suc n) (l' ∷ ls) ≡ finish (run (under w h ++ ws) (suc n) (l' ∷ ls)))
        → (r : Read) → carry n r (λ h. check (under w h ++ ws) (suc n) (l' ∷ ls)) ≡ finish (carry_on n r (λ h. run (under w h ++ ws) (suc n) (l' ∷ ls)))
    go ih (bad c) = refl
    go ih (ok h) = ap (add h) (ih h) ∙ finish-before h (run (under w h ++ ws) (suc n) (l' ∷ ls))

pub run_none : (ls : List Bytes) (n : ℕ) → run [] n ls ≡ passed [] n ls
unfolding run at_end
run_none [] n = refl
run_none (l ∷ []) n = refl
run_none (l ∷ l' ∷ ls) n = refl

pub behind-passed : (hs : List Head) (n : ℕ) (ls : List Bytes) → behind hs (passed [] n ls) ≡ passed hs n ls
unfolding behind
behind-passed hs n ls = ap (λ (x : List Head). passed x n ls) (append-nil hs)
