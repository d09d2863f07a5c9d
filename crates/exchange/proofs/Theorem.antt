-- The theorem over the call. Assumes nothing.
use mathlib.Core.Path.{◌≡◌, refl, sym, ◌∙◌, ap, ap₂}
use mathlib.Core.List.{◌++◌, append_assoc}
use mathlib.Core.Option.{none, some}
use mathlib.Core.Bool.{Bool, true, false, ◌&&◌, not, false≢true}
use Prim.Native.Nat.{ℕ, ◌+◌}
use native.Mathlib.Nat.{add_comm}
use lib.ListN.{length, take, drop, length-append}
use lib.Seq.{slice, take-append-add, take-append_seam, drop-append_seam, drop-append-add}
use lib.Dec.{eqb, ltb}
use Rattle.semantics.specs.Bytes.{Bytes}
use Rattle.semantics.specs.Limits.{work_size, unify_output}
use Rattle.semantics.specs.Ty.{Ty, line, nesting, regular, too_large, type_line}
use Rattle.semantics.specs.Unify.{Answer, agreed, Unified, unify}
use Rattle.semantics.specs.Unify as U
use Rattle.semantics.specs.Calls.{Settled, zeros, cleared, answered, parted, untouched, any_large, unify_answer, unify_types, unify_call}
use Rattle.semantics.proofs.Reader.{read-sound}
use Rattle.semantics.proofs.Regular.{regular-sound}
use Rattle.unify_run.specs.Run.{Run, done, mismatch, large, unless, verdict, run_unify}
use Rattle.unify_run.specs.Run as R
use Rattle.unify_run.proofs.Theorem.{run-unify}
use Rattle.exchange.specs.Exchange.{union_free, turned, exchanged, enough, UnifyExchange}
use Rattle.exchange.proofs.Runs.{swap, run-swap}

-- what a run settles
abbrev settled_by : Run → Bytes → Bytes → Settled
settled_by (done t) work out = answered (line t) work out
settled_by (mismatch a b) work out = parted (line a) (line b) work out
settled_by large work out = cleared 6 0 work out

settled-by : (u : Unified) (work out : Bytes) → elim (any_large u.tests) [ true ↦ cleared 6 0 work out | false ↦ unify_answer u.answer work out ] ≡ settled_by (verdict u) work out
unfolding verdict unify_answer
settled-by u work out = go (any_large u.tests) u.answer
  where
    go : (c : Bool) (r : Answer) → elim c [ true ↦ cleared 6 0 work out | false ↦ unify_answer r work out ] ≡ settled_by (unless c (R.answered r)) work out
    go true r = refl
    go false (U.agreed t) = refl
    go false (U.mismatch a b) = refl

-- two texts at the start of a buffer change places
turned-parted : (a b work out : Bytes) → parted b a work out ≡ turned (parted a b work out)
turned-parted a b work out = ap (λ (o : Bytes). record { number = 9; first = length b; second = length a; work = zeros work; out = o }) (places (drop (length (b ++ a)) out) (drop (length (a ++ b)) out) rest)
  where
    rest : drop (length (b ++ a)) out ≡ drop (length (a ++ b)) out
    rest = ap (λ (k : ℕ). drop k out) (length-append b a ∙ add_comm (length b) (length a) ∙ sym (length-append a b))

    places : (r s : Bytes) → r ≡ s → (b ++ a) ++ r ≡ slice (length a) (length a + length b) ((a ++ b) ++ s) ++ (take (length a) ((a ++ b) ++ s) ++ drop (length a + length b) ((a ++ b) ++ s))
    places r s e = rw (e, append_assoc, append_assoc, take-append-add, take-append_seam, drop-append_seam, take-append_seam, drop-append-add, drop-append_seam)

settled-swap : (r : Run) (work out : Bytes) → settled_by (swap r) work out ≡ exchanged (settled_by r work out)
unfolding exchanged
settled-swap (done t) work out = refl
settled-swap (mismatch a b) work out = turned-parted (line a) (line b) work out
settled-swap large work out = refl

both_ways : (t u : Ty) (work out : Bytes) → regular t ≡ true → regular u ≡ true → too_large t ≡ false → too_large u ≡ false → union_free t ≡ true → union_free u ≡ true
    → unify_types (some u) (some t) work out ≡ exchanged (unify_types (some t) (some u) work out)
unfolding unify_types
both_ways t u work out p q l m f g =
    let one = run-unify t u (regular-sound t p) (regular-sound u q) l m in
    let other = run-unify u t (regular-sound u q) (regular-sound t p) m l in
    let k = nesting t + nesting u in
    settled-by (unify u t) work out
    ∙ ap (λ r. settled_by r work out) (sym other ∙ ap (λ (j : ℕ). run_unify j u t) (add_comm (nesting u) (nesting t)) ∙ run-swap k t u f g ∙ ap swap one)
    ∙ settled-swap (verdict (unify t u)) work out
    ∙ ap exchanged (sym (settled-by (unify t u) work out))

-- ## The call, by the tests of its buffers

-- the two tests, and what is settled where neither 2 nor 7 is
abbrev by_buffers : Bool → Bool → Settled → Bytes → Bytes → Settled
by_buffers fits short s work out = elim fits [ true ↦ elim short [ true ↦ cleared 7 0 work out | false ↦ s ] | false ↦ untouched 2 work out ]

exchanged-buffers : (c d : Bool) (s s' : Settled) (work out : Bytes) → s' ≡ exchanged s → by_buffers c d s' work out ≡ exchanged (by_buffers c d s work out)
exchanged-buffers false d s s' work out e = unfold exchanged in refl
exchanged-buffers true true s s' work out e = unfold exchanged in refl
exchanged-buffers true false s s' work out e = e

exchanged-lines : (a b work out : Bytes) {t u : Ty} → type_line a ≡ some t → type_line b ≡ some u → union_free t ≡ true → union_free u ≡ true
    → unify_call b a work out ≡ exchanged (unify_call a b work out)
unfolding unify_call
exchanged-lines a b work out {t = t} {u = u} p q f g =
    exchanged-buffers (eqb (length work) work_size) (ltb (length out) unify_output) (unify_types (type_line a) (type_line b) work out) (unify_types (type_line b) (type_line a) work out) work out
    (rw (p, q) (both_ways t u work out (read-sound a t p).1 (read-sound b u q).1 (read-sound a t p).2 (read-sound b u q).2 f g))

-- with buffers that are long enough the two texts decide
decided : (a b work out : Bytes) → enough work out ≡ true → unify_call a b work out ≡ unify_types (type_line a) (type_line b) work out
unfolding unify_call enough
decided a b work out = go (eqb (length work) work_size) (ltb (length out) unify_output) (unify_types (type_line a) (type_line b) work out)
  where
    go : (c d : Bool) (s : Settled) → (c && not d) ≡ true → by_buffers c d s work out ≡ s
    go false d s e = absurd (false≢true e)
    go true true s e = absurd (false≢true e)
    go true false s e = refl

-- with others the texts are not looked at
exchanged-lent : (a b work out : Bytes) → enough work out ≡ false → unify_call b a work out ≡ unify_call a b work out
unfolding unify_call enough
exchanged-lent a b work out =
    go (eqb (length work) work_size) (ltb (length out) unify_output) (unify_types (type_line b) (type_line a) work out) (unify_types (type_line a) (type_line b) work out)
  where
    go : (c d : Bool) (s s' : Settled) → (c && not d) ≡ false → by_buffers c d s work out ≡ by_buffers c d s' work out
    go false d s s' e = refl
    go true true s s' e = refl
    go true false s s' e = absurd (false≢true (sym e))

-- the first text is no type line; the first is one and the second is not
first-none : (a b work out : Bytes) → type_line a ≡ none → enough work out ≡ true → unify_call a b work out ≡ cleared 8 1 work out
unfolding unify_types
first-none a b work out p e = decided a b work out e ∙ ap (λ x. unify_types x (type_line b) work out) p

second_none : (a b work out : Bytes) {t : Ty} → type_line a ≡ some t → type_line b ≡ none → enough work out ≡ true → unify_call a b work out ≡ cleared 8 2 work out
unfolding unify_types
second_none a b work out p q e = decided a b work out e ∙ ap₂ (λ x y. unify_types x y work out) p q

pub unify-exchange : UnifyExchange
unify-exchange =
    record {
      lines = exchanged-lines;
      one_line = λ a b work out p q e. (second_none a b work out p q e, first-none b a work out q e);
      no_line = λ a b work out p q e. (first-none a b work out p e, first-none b a work out q e);
      lent = exchanged-lent;
    }
