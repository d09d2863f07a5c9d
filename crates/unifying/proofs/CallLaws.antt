-- The call that unifies two type lines: what it requires of its parts, and what its outcome is. Assumes nothing.
use Prim.Native.Nat.{ℕ, ◌+◌, ◌-◌, ◌*◌, ◌/◌, ◌≤◌, ◌<◌}
use native.Mathlib.Nat.{div-lt_iff_lt-mul}
use native.Mathlib.Omega.{arith}
use mathlib.Core.Path.{◌≡◌, refl, sym, ap, ap₂, subst, ◌∙◌}
use mathlib.Core.Option.{Option, none, some}
use mathlib.Core.Bool.{Bool, true, false, cond, ◌||◌}
use lib.Dec.{eqb, ltb}
use lib.ListN.{length, replicate}
use lib.Seq.{sets, slice, length-sets}
use borrow.Author.Tests.{eq-eqb, ne_eqb, lt-ltb, le-ltb}
use Rattle.semantics.specs.Limits.{type_limit, nesting_limit, work_size, unify_output}
use Rattle.semantics.specs.Bytes.{Bytes}
use Rattle.semantics.specs.Ty.{Ty, line, nesting, is_union, regular, too_large, type_line}
use Rattle.semantics.specs.Unify.{Answer, unify}
use Rattle.semantics.specs.Calls.{Settled, untouched, cleared, answered, parted, any_large, unify_answer, unify_types, unify_call}
use Rattle.semantics.proofs.Reader.{read-sound}
use Rattle.semantics.proofs.Regular.{regular-sound}
use Rattle.text.specs.Text.{is_found}
use Rattle.text.proofs.Laws.{slice-below, slice-sets}
use Rattle.ty.proofs.Sizes.{large-no}
use Rattle.unify_run.specs.Run.{Run, done, mismatch, large, unless, verdict}
use Rattle.unify_run.specs.Run.{answered as ran}
use Rattle.unify_run.proofs.Answers.{Fine, FineRun, unify-fine}
use Rattle.std.specs.Prelude.{Result, Ok, Err}
use Rattle.unify.specs.Work.{Unified, span, Operand, Ready, Answered, Unifies, slots}
use Rattle.semantics.specs.Refusals.{number_of}
use Rattle.semantics.specs.declared.refusals.Refusal.{Refusal}
use Rattle.semantics.specs.declared.refusals.Refusal.TheVariants.{WrongSize, OutputTooShort, NoTypeLine}
use Rattle.semantics.specs.declared.refusals.Refused.{Refused as Why}
use Rattle.unifying.specs.declared.NotUnified.{NotUnified}
use Rattle.unifying.specs.declared.NotUnified.TheVariants.{Mismatch, Refused}
use Rattle.unifying.specs.Call.{settled, settled_by}
use Rattle.unifying.specs.Told.{refused_by, ShortRun, SomeAnswer, told_by, told_to, Tells, Delivers, Settles}

-- ## Refusals

abbrev Both : Settled → Bytes → Bytes → Bytes → Refusal → ℕ → Type 0
Both U work out out' why n = Settles U work out out' (Err (refused_by why n))

settles-cleared : (U : Settled) (work out out' : Bytes) (why : Refusal) (n : ℕ) → U ≡ cleared (number_of why) n work out → Both U work out out' why n
settles-cleared U work out out' why n e =
    record {
      told = λ w o. ap (λ (x : Settled). settled_by x.number x.first x.second w o) (sym e);
      cleared = ap (λ (x : Settled). x.work) e;
      output = ap (λ (x : Settled). x.out) e;
    }

-- the call by its two tests of lengths
chosen : Bytes → Bytes → Bytes → Bytes → Bool → Bool → Settled
chosen a b work out c d =
    elim c [
      | true ↦ elim d [ true ↦ cleared 7 0 work out | false ↦ unify_types (type_line a) (type_line b) work out ]
      | false ↦ untouched 2 work out
    ]

call-chosen : (a b work out : Bytes) → unify_call a b work out ≡ chosen a b work out (eqb (length work) work_size) (ltb (length out) unify_output)
unfolding unify_call chosen
call-chosen a b work out = refl

pub call-untouched : (a b work out : Bytes) → (length work ≡ work_size → ⊥) → settled (Err (refused_by WrongSize 0)) work out ≡ unify_call a b work out
unfolding chosen
call-untouched a b work out h =
    sym (call-chosen a b work out ∙ ap (λ (c : Bool). chosen a b work out c (ltb (length out) unify_output)) (ne_eqb (length work) work_size h))

module _ (a b work out : Bytes) (size : length work ≡ work_size) where
  by-room : (d : Bool) → ltb (length out) unify_output ≡ d → unify_call a b work out ≡ chosen a b work out true d
  by-room d e = call-chosen a b work out ∙ ap₂ (chosen a b work out) (eq-eqb (length work) work_size size) e

  pub settles-short : (out' : Bytes) → length out < unify_output → Both (unify_call a b work out) work out out' OutputTooShort 0
  unfolding chosen
  settles-short out' h =
      settles-cleared (unify_call a b work out) work out out' OutputTooShort 0
      (by-room true (lt-ltb (length out) unify_output h))

  module _ (room : unify_output ≤ length out) where
    call-types : unify_call a b work out ≡ unify_types (type_line a) (type_line b) work out
    unfolding chosen
    call-types = by-room false (le-ltb (length out) unify_output room)

    pub settles-first : (out' : Bytes) (h : Bool) → h ≡ is_found (type_line a) → h ≡ false → Both (unify_call a b work out) work out out' NoTypeLine 1
    unfolding unify_types
    settles-first out' h e n =
        settles-cleared (unify_call a b work out) work out out' NoTypeLine 1 (call-types ∙ go (type_line a) h e n)
      where
        go : (o : Option Ty) (h : Bool) → h ≡ is_found o → h ≡ false → unify_types o (type_line b) work out ≡ cleared 8 1 work out
        go none h e n = refl
        go (some t) h e n = absurd (let z : true ≡ false = rw e at n in let y : ◌≡◌ {A = ℕ} 0 1 = cc in omega arith)

-- ## The two types

-- a line that was read
pub record Line (s : Bytes) : Type 0 where
  pub ty : Ty
  pub read : type_line s ≡ some ty
  pub is : line ty ≡ s
  pub regular : regular ty ≡ true
  pub small : too_large ty ≡ false

pub line_read : (s : Bytes) (h : Bool) → h ≡ is_found (type_line s) → h ≡ true → Line s
line_read s h e n = go (type_line s) refl h e n
  where
    go : (o : Option Ty) → type_line s ≡ o → (h : Bool) → h ≡ is_found o → h ≡ true → Line s
    go none eq h e n = absurd (let z : false ≡ true = rw e at n in let y : ◌≡◌ {A = ℕ} 0 1 = cc in omega arith)
    go (some t) eq h e n = let r = read-sound s t eq in record { ty = t; read = eq; is = r.0; regular = r.1; small = r.2 }

pub settles-second : (a b work out : Bytes) → length work ≡ work_size → unify_output ≤ length out → Line a → (out' : Bytes) (h : Bool) → h ≡ is_found (type_line b) → h ≡ false
    → Both (unify_call a b work out) work out out' NoTypeLine 2
unfolding unify_types
settles-second a b work out size room l out' h e n =
    settles-cleared (unify_call a b work out) work out out' NoTypeLine 2
    (call-types a b work out size room ∙ ap (λ (o : Option Ty). unify_types o (type_line b) work out) l.read ∙ go (type_line b) h e n)
  where
    go : (o : Option Ty) (h : Bool) → h ≡ is_found o → h ≡ false → unify_types (some l.ty) o work out ≡ cleared 8 2 work out
    go none h e n = refl
    go (some t) h e n = absurd (let z : true ≡ false = rw e at n in let y : ◌≡◌ {A = ℕ} 0 1 = cc in omega arith)

-- ## Unified in the work area

few-slots : (t u : Ty) → nesting t ≤ nesting_limit → nesting u ≤ nesting_limit → slots t u ≤ 42
unfolding slots
few-slots t u p q = go (is_union t || is_union u)
  where
    bound : (c : Bool) → cond c 1 0 ≤ 1
    bound true = omega arith
    bound false = omega arith

    go : (c : Bool) → (2 * (nesting t + nesting u) + cond c 1 0 - 1) / 3 ≤ 42
    go c =
        let h : (2 * (nesting t + nesting u) + cond c 1 0 - 1) / 3 < 43 =
        (div-lt_iff_lt-mul {k = 3} {x = 2 * (nesting t + nesting u) + cond c 1 0 - 1} {y = 43} (omega arith)).1 (omega (arith, bound c)) in
        omega arith

line-short : {s : Bytes} (l : Line s) → (length s ≤ type_limit) × (nesting l.ty ≤ nesting_limit)
line-short {s} l = let p = large-no l.ty l.small in (omega (arith, p.0, ap length l.is), p.1)

fine-line : {s : Bytes} (l : Line s) → Fine l.ty
fine-line l = (regular-sound l.ty l.regular, l.small)

fine-short : (R : Run) → FineRun R → ShortRun R
fine-short (done t) p = (large-no t p.1).0
fine-short (mismatch x y) p = ((large-no x p.0.1).0, (large-no y p.1.1).0)
fine-short large p = tt

-- the outcome of a run
settled_of : Run → Bytes → Bytes → Settled
settled_of (done t) work out = answered (line t) work out
settled_of (mismatch x y) work out = parted (line x) (line y) work out
settled_of large work out = cleared 6 0 work out

types-run : (t u : Ty) (work out : Bytes) → unify_types (some t) (some u) work out ≡ settled_of (verdict (unify t u)) work out
unfolding verdict unify_types unify_answer settled_of
types-run t u work out = go (any_large (unify t u).tests) (unify t u).answer
  where
    go : (c : Bool) (x : Answer) → elim c [ true ↦ cleared 6 0 work out | false ↦ unify_answer x work out ] ≡ settled_of (unless c (ran x)) work out
    go true x = refl
    go false (Answer.agreed v) = refl
    go false (Answer.mismatch v w) = refl

settles-told : (R : Run) (work out out' : Bytes) → out' ≡ told_to R out → Settles (settled_of R work out) work out out' (told_by R)
unfolding settled_of
settles-told (done t) work out out' e = record { told = λ w o. refl; cleared = refl; output = e }
settles-told (mismatch x y) work out out' e = record { told = λ w o. refl; cleared = refl; output = e }
settles-told large work out out' e = record { told = λ w o. refl; cleared = refl; output = refl }

module _ (a b work : Bytes) (size : length work ≡ work_size) (l : Line a) (k : Line b) (s₁ s₂ : Bytes) (m mark : ℕ)
    (em : m ≡ 0 + length a) (e₁ : s₁ ≡ sets work 0 a) (ek : mark ≡ m + length b) (e₂ : s₂ ≡ sets s₁ m b) where
  long₁ : length s₁ ≡ work_size
  long₁ = ap length e₁ ∙ length-sets work 0 a ∙ size

  long₂ : length s₂ ≡ work_size
  long₂ = ap length e₂ ∙ length-sets s₁ m b ∙ long₁

  first_at : slice 0 m s₂ ≡ a
  first_at =
      ap (slice 0 m) e₂ ∙ slice-below 0 m s₁ m b (omega arith) ∙ ap (slice 0 m) e₁ ∙ ap (λ (j : ℕ). slice 0 j (sets work 0 a)) em
      ∙ slice-sets work 0 a (omega (arith, (line-short l).0))

  second_at : slice m mark s₂ ≡ b
  second_at = ap (slice m mark) e₂ ∙ ap (λ (j : ℕ). slice m j (sets s₁ m b)) ek ∙ slice-sets s₁ m b (omega (arith, long₁, (line-short l).0, (line-short k).0))

  first-operand : Operand s₂ (span 0 m) mark l.ty
  first-operand =
      record {
        at = record { ordered = omega arith; inside = omega (arith, long₂, (line-short l).0); is = first_at ∙ sym l.is };
        below = omega arith;
        regular = l.regular;
        small = l.small;
      }

  second-operand : Operand s₂ (span m mark) mark k.ty
  second-operand =
      record {
        at = record { ordered = omega arith; inside = omega (arith, long₂, (line-short l).0, (line-short k).0); is = second_at ∙ sym k.is };
        below = omega arith;
        regular = k.regular;
        small = k.small;
      }

  pub call-ready : Ready s₂ (span 0 m) (span m mark) mark
  call-ready =
      let p = line-short l in
      let q = line-short k in
      record {
        left = l.ty;
        right = k.ty;
        first = first-operand;
        second = second-operand;
        room = omega (arith, long₂, few-slots l.ty k.ty p.1 q.1);
      }

  -- the answer, and its lines are not too long
  the-run : Run
  the-run = verdict (unify l.ty k.ty)

  run_short : ShortRun the-run
  unfolding the-run
  run_short = fine-short (verdict (unify l.ty k.ty)) (unify-fine l.ty k.ty (fine-line l) (fine-line k))

  module _ (s' : Bytes) (u : Unified) (p : Unifies s₂ s' (span 0 m) (span m mark) mark u) (out : Bytes) (room : unify_output ≤ length out) where
    the-answer : Answered the-run s' mark u
    unfolding the-run
    the-answer = p.answer l.ty k.ty first-operand second-operand

    pub some-answer : SomeAnswer s' mark u out
    some-answer = record { run = the-run; answered = the-answer; short = run_short; room = room }

    pub settles-unified : (out' : Bytes) (r : Result ℕ NotUnified) → Tells s' mark u out out' r → Settles (unify_call a b work out) work out out' r
    unfolding the-run
    settles-unified out' r tells =
        let e : unify_call a b work out ≡ settled_of the-run work out =
        call-types a b work out size room ∙ ap₂ (λ (x y : Option Ty). unify_types x y work out) l.read k.read ∙ types-run l.ty k.ty work out in
        let q = tells the-run the-answer run_short in
        rw (e, q.call) (settles-told the-run work out out' q.output)

-- ## The whole call

module _ {U : Settled} {work out out₁ : Bytes} (work' : Bytes) {w : Bytes} {r : Result ℕ NotUnified} (p : Settles U work out out₁ r) (long : length work' ≡ length work) (e : w ≡ replicate (length work') 0) where
  whole : (o : Bytes) → o ≡ U.out → settled r w o ≡ U
  whole o eo =
      let z : w ≡ U.work = e ∙ ap (λ (j : ℕ). replicate j 0) long ∙ sym p.cleared in
      p.told w o ∙ ap₂ (λ (x y : Bytes). settled_by U.number U.first U.second x y) z eo

  delivers : {q : Result ℕ NotUnified} → r ≡ q → Delivers q U out out₁
  delivers k = subst (λ (x : Result ℕ NotUnified). Delivers x U out out₁) k p.output

  -- an answer is in the output
  pub whole-done : {n : ℕ} → r ≡ Ok n → settled r w out₁ ≡ U
  whole-done k = whole out₁ (delivers k)

  pub whole-parted : {x y : ℕ} → r ≡ Err (Mismatch x y) → settled r w out₁ ≡ U
  whole-parted k = whole out₁ (delivers k)

  -- or it is cleared
  pub whole-refused : {why : Why} → r ≡ Err (Refused why) → length out₁ ≡ length out → (o : Bytes) → o ≡ replicate (length out₁) 0 → settled r w o ≡ U
  whole-refused k lo o eo = whole o (eo ∙ ap (λ (j : ℕ). replicate j 0) lo ∙ sym (delivers k))
