-- Operators: their numbers, what two operands are asked, the type that arithmetic comes to. Assumes nothing.
use Prim.Native.Nat.{ℕ, ◌+◌, ◌-◌, ◌≤◌, ◌<◌}
use native.Mathlib.Omega.{arith}
use borrow.Author.Tests.{lt-ltb, le-ltb, ne_eqb}
use mathlib.Core.Path.{◌≡◌, refl, sym, ap, ◌∙◌}
use mathlib.Core.List.{[], ◌∷◌, ◌++◌}
use mathlib.Core.Bool.{Bool, true, false}
use lib.Dec.{ltb}
use lib.ListN.{length, take, get_or}
use lib.Seq.{slice, sets, length-sets, length-slice}
use Rattle.semantics.specs.Bytes.{Bytes}
use Rattle.semantics.specs.Ty.{Base, t_bool, t_unknown, Ty, base, t_list, t_map, t_node, t_relationship, t_union, letter, line_to, line, matches, regular, nesting, too_large, is_union}
use Rattle.semantics.specs.Unify.{unify}
use Rattle.semantics.specs.Walk.{Fault, Need, a_number, a_string, a_bool, meets, fault_of, require, numeric, Op, arithmetic, comparison, equality, boolean, string, concat, op, op_faults, unary_type, unary_faults}
use Rattle.text.proofs.Laws.{slice-take, slice-sets}
use Rattle.ty.specs.Parts.{TypeAt}
use Rattle.ty.specs.Read.{kind_of}
use Rattle.ty.proofs.KindLaws.{kind_at}
use Rattle.builtins.specs.Rows.{Returned}
use Rattle.builtins.proofs.Laws.{front-line}
use Rattle.unify_run.specs.Run.{Run, verdict}
use Rattle.unify.specs.Work.{Unified, span, Operand, Ready, Answered, Unifies, slots}
use Rattle.unify.specs.declared.Span.{Span}
use Rattle.unify.specs.declared.UnifyError.TheVariants.{Mismatch, TooLarge}
use Rattle.std.specs.Prelude.{Ok, Err}
use Rattle.walk_run.specs.Run.{kept, told, or_much, end_op}
use Rattle.exprs.specs.declared.state.Accumulator.{Accumulator}
use Rattle.report.specs.Report.{faults_text, Adds, HasRoom}
use Rattle.report.specs.declared.Report.{Report}
use Rattle.report.proofs.ReportLaws.{adds_none, adds_then, fault-short}
use Rattle.std.specs.declared.option.Option.{Option}
use Rattle.std.specs.declared.option.Option.TheVariants.{Some, None}
use Rattle.exprs.specs.End.{Puts, Ends, Settles, Countable, KeptAt, TwoAt}
use Rattle.operators.specs.Helpers.{NumericKind, SomeKinds, TwoAsked, Computed}
use Rattle.exprs.proofs.Fronts.{put-base, put-any, settle}
use Rattle.exprs.proofs.States.{kept_at}
use Rattle.operators.proofs.Meets.{left-kind, right-kind, done-run, apart-run, large-run, ends-large, ends-settled}

-- ## The operators' kinds

-- `op` by the tests that it makes
abbrev op_by : Bool → Bool → Bool → Bool → Bool → Op
op_by a b c d e =
    elim a [ true ↦ arithmetic | false ↦ elim b [ true ↦ equality | false ↦ elim c [ true ↦ comparison | false ↦ elim d [ true ↦ boolean | false ↦ elim e [ true ↦ string | false ↦ concat ] ] ] ] ]

module _ (k : ℕ) where
  by_tests : (a b c d e : Bool) → ltb k 6 ≡ a → ltb k 8 ≡ b → ltb k 12 ≡ c → ltb k 15 ≡ d → ltb k 19 ≡ e → op k ≡ op_by a b c d e
  unfolding op
  by_tests a b c d e p q r s t = rw (← p, ← q, ← r, ← s, ← t)

  pub op-arithmetic : k < 6 → arithmetic ≡ op k
  op-arithmetic h = sym (by_tests true (ltb k 8) (ltb k 12) (ltb k 15) (ltb k 19) (lt-ltb k 6 h) refl refl refl refl)

  pub op-equality : 6 ≤ k → k < 8 → equality ≡ op k
  op-equality g h = sym (by_tests false true (ltb k 12) (ltb k 15) (ltb k 19) (le-ltb k 6 g) (lt-ltb k 8 h) refl refl refl)

  pub op-comparison : 8 ≤ k → k < 12 → comparison ≡ op k
  op-comparison g h = sym (by_tests false false true (ltb k 15) (ltb k 19) (le-ltb k 6 (omega arith)) (le-ltb k 8 g) (lt-ltb k 12 h) refl refl)

  pub op-boolean : 12 ≤ k → k < 15 → boolean ≡ op k
  op-boolean g h = sym (by_tests false false false true (ltb k 19) (le-ltb k 6 (omega arith)) (le-ltb k 8 (omega arith)) (le-ltb k 12 g) (lt-ltb k 15 h) refl)

  pub op-string : 15 ≤ k → k < 19 → string ≡ op k
  op-string g h = sym (by_tests false false false false true (le-ltb k 6 (omega arith)) (le-ltb k 8 (omega arith)) (le-ltb k 12 (omega arith)) (le-ltb k 15 g) (lt-ltb k 19 h))

  pub op-concat : 19 ≤ k → concat ≡ op k
  op-concat g = sym (by_tests false false false false false (le-ltb k 6 (omega arith)) (le-ltb k 8 (omega arith)) (le-ltb k 12 (omega arith)) (le-ltb k 15 (omega arith)) (le-ltb k 19 g))

-- ## What two operands are asked

require-short : (k : Need) (u : Ty) → (length (faults_text (require k u)) ≤ 128) × (length (require k u) ≤ 1)
unfolding require
require-short k u = go (meets k u)
  where
    go : (b : Bool) → (length (faults_text (elim b [ true ↦ [] | false ↦ fault_of k u ∷ [] ])) ≤ 128) × (length {A = Fault} (elim b [ true ↦ [] | false ↦ fault_of k u ∷ [] ]) ≤ 1)
    go true = (unfold faults_text in omega arith, omega arith)
    go false = (fault-short (fault_of k u), omega arith)

-- room for the second
pub asked-room : (k : Need) {a b : ℕ} {r r' : Report} → SomeKinds a b → Countable r → ((u : Ty) → kind_of u ≡ a → Adds (require k u) r r') → HasRoom r'
asked-room k s n h =
    let x = h s.first.ty s.first.is in
    let y = require-short k s.first.ty in
    record { fill = omega (arith, x.end, n.fill); faults = omega (arith, x.count, n.faults) }

pub asked-two : (k : Need) {a b : ℕ} {r r' r'' : Report} → ((u : Ty) → kind_of u ≡ a → Adds (require k u) r r') → ((u : Ty) → kind_of u ≡ b → Adds (require k u) r' r'')
    → TwoAsked k a b r r''
asked-two k h g u v e f = adds_then (h u e) (g v f)

-- ## The type that arithmetic goes on with

numeric-base : (t : Ty) → (b : Base) × (numeric t ≡ base b)
unfolding numeric meets matches
numeric-base (base b) = go (meets a_number (base b))
  where
    go : (x : Bool) → (c : Base) × (elim x [ true ↦ base b | false ↦ base t_unknown ] ≡ base c)
    go true = (b, refl)
    go false = (t_unknown, refl)
numeric-base (t_list t) = (t_unknown, refl)
numeric-base (t_map fs) = (t_unknown, refl)
numeric-base (t_node ls) = (t_unknown, refl)
numeric-base (t_relationship n) = (t_unknown, refl)
numeric-base (t_union ts) = (t_unknown, refl)

kind-letter : (t : Ty) (b : Base) → t ≡ base b → kind_of t ≡ letter b
unfolding kind_of
kind-letter t b e = ap kind_of e

pub put-numeric : {s s' : Bytes} {x r : ℕ} (t : Ty) → x ≡ kind_of (numeric t) → 2 ≤ length s → Puts (x ∷ 44 ∷ []) s s' r → Returned s s' (numeric t) r
put-numeric t e h p =
    let (b, q) = numeric-base t in
    rw q (put-base b (sym (e ∙ kind-letter (numeric t) b q)) h p)

-- ## A unary operator

pub one-kind : {s : Bytes} {st : Accumulator} {t : Ty} → KeptAt (kept t) s st → kind_of t ≡ get_or s 0 0
one-kind {s} {st} {t} h = sym (kind_at s 0 st.len t (kept_at h))

module _ {s s' : Bytes} {y y' : Report} {st : Accumulator} (k : ℕ) {t : Ty} (h : KeptAt (kept t) s st) where
  pub unary-minus : {x len : ℕ} → k ≡ 0 → NumericKind (get_or s 0 0) x → Puts (x ∷ 44 ∷ []) s s' len → ((u : Ty) → kind_of u ≡ get_or s 0 0 → Adds (require a_number u) y y')
      → Ends (told (unary_type k t) (unary_faults k t)) s s' y y' (Some len)
  unfolding unary_type unary_faults
  unary-minus e q p a = rw e (settle (put-numeric t (q.is t (one-kind h)) (omega (arith, h.wide)) p) (require a_number t) y y' (a t (one-kind h)))

  pub unary-not : {r : ℕ} → (k ≡ 0 → ⊥) → Settles (base t_bool) s s' r → ((u : Ty) → kind_of u ≡ get_or s 0 0 → Adds (require a_bool u) y y')
      → Ends (told (unary_type k t) (unary_faults k t)) s s' y y' (Some r)
  unfolding unary_type unary_faults
  unary-not {r} e g a = rw (ne_eqb k 0 e, unary_type, unary_faults) (g (require a_bool t) y y' (a t (one-kind h)))

-- ## Arithmetic

-- a type of one letter is an operand
module _ {s : Bytes} {a e mark : ℕ} (b : Base) where
  base-operand : a ≤ e → e ≤ mark → e ≤ length s → slice a e s ≡ letter b ∷ 44 ∷ [] → Operand s (span a e) mark (base b)
  unfolding line line_to regular too_large nesting
  base-operand o l i w = record { at = record { ordered = o; inside = i; is = w }; below = l; regular = refl; small = refl }

module _ {s s₁ : Bytes} {x y r : ℕ} (h : 8192 ≤ length s) (p : Puts (x ∷ 44 ∷ y ∷ 44 ∷ []) s s₁ r) where
  pair-long : length s₁ ≡ length s
  pair-long = ap length p.text ∙ length-sets s 0 (x ∷ 44 ∷ y ∷ 44 ∷ [])

  pair-front : take 4 s₁ ≡ x ∷ 44 ∷ y ∷ 44 ∷ []
  pair-front = ap (take 4) p.text ∙ slice-sets s 0 (x ∷ 44 ∷ y ∷ 44 ∷ []) (omega arith)

  left-numeric : (u : Ty) → x ≡ kind_of (numeric u) → Operand s₁ (span 0 2) 4 (numeric u)
  left-numeric u e =
      let (b, q) = numeric-base u in
      let z : x ≡ letter b = e ∙ kind-letter (numeric u) b q in
      rw q (base-operand b (omega arith) (omega arith) (omega (arith, pair-long)) (sym (slice-take 0 2 4 s₁ (omega arith)) ∙ ap (λ (l : Bytes). slice 0 2 l) pair-front ∙ ap (λ (k : ℕ). k ∷ 44 ∷ []) z))

  right-numeric : (u : Ty) → y ≡ kind_of (numeric u) → Operand s₁ (span 2 4) 4 (numeric u)
  right-numeric u e =
      let (b, q) = numeric-base u in
      let z : y ≡ letter b = e ∙ kind-letter (numeric u) b q in
      rw q (base-operand b (omega arith) (omega arith) (omega (arith, pair-long)) (sym (slice-take 2 4 4 s₁ (omega arith)) ∙ ap (λ (l : Bytes). slice 2 4 l) pair-front ∙ ap (λ (k : ℕ). k ∷ 44 ∷ []) z))

  module _ {a b : ℕ} (ks : SomeKinds a b) (i : NumericKind a x) (j : NumericKind b y) where
    pub pair-ready : Ready s₁ (span 0 2) (span 2 4) 4
    pair-ready =
        let u = ks.first.ty in
        let v = ks.second.ty in
        record {
          left = numeric u;
          right = numeric v;
          first = left-numeric u (i.is u ks.first.is);
          second = right-numeric v (j.is v ks.second.is);
          room = omega (arith, pair-long, slots-numeric u v);
        }
      where
        slots-base : (b c : Base) → slots (base b) (base c) ≡ 1
        slots-base b c = unfold slots nesting is_union in refl

        slots-numeric : (u v : Ty) → slots (numeric u) (numeric v) ≡ 1
        slots-numeric u v =
            let (b, q) = numeric-base u in
            let (c, w) = numeric-base v in
            rw (q, w) (slots-base b c)

    module _ {s₂ : Bytes} {o : Unified} (w : Unifies s₁ s₂ (span 0 2) (span 2 4) 4 o) where
      run_of : (u v : Ty) → kind_of u ≡ a → kind_of v ≡ b → Answered (verdict (unify (numeric u) (numeric v))) s₂ 4 o
      run_of u v e f = w.answer (numeric u) (numeric v) (left-numeric u (i.is u e)) (right-numeric v (j.is v f))

      long : length s₂ ≡ length s
      long = w.below.long ∙ pair-long

      pub computed-done : {e : ℕ} {s₃ : Bytes} → o ≡ Ok e → s₃ ≡ sets s₂ 0 (slice 4 (4 + (e - 4)) s₂) → Computed a b s s₃ (Some (e - 4))
      computed-done {e} {s₃} q c u v d f fs n n' ad =
          let (t, z, y) = done-run s₂ 4 (verdict (unify (numeric u) (numeric v))) (run_of u v d f) q in
          ends-settled (settle (copied t y)) (ap (λ (R : Run). or_much R (λ t. told t fs) (told (base t_unknown) fs)) z) long ad
        where
          copied : (t : Ty) → TypeAt s₂ 4 e t → Returned s₂ s₃ t (e - 4)
          copied t y =
              let o = y.ordered in
              let l : length (line t) ≡ e - 4 = sym (ap length y.is) ∙ length-slice 4 e s₂ y.inside in
              let n : 4 + (e - 4) ≡ e = omega arith in
              let x : s₃ ≡ sets s₂ 0 (line t) = c ∙ ap (λ (k : ℕ). sets s₂ 0 (slice 4 k s₂)) n ∙ ap (sets s₂ 0) y.is in
              rw (x, ← l) (front-line s₂ t (omega (arith, l, y.inside)))

      pub computed-apart : {i' j' : Span} {len : ℕ} {s₃ : Bytes} → o ≡ Err (Mismatch i' j') → Puts (80 ∷ 44 ∷ []) s₂ s₃ len → Computed a b s s₃ (Some len)
      unfolding letter
      computed-apart q c u v d f fs n n' ad =
          let (x, y, z) = apart-run s₂ 4 (verdict (unify (numeric u) (numeric v))) (run_of u v d f) q in
          ends-settled (settle (put-base t_unknown refl (omega (arith, long)) c)) (ap (λ (R : Run). or_much R (λ t. told t fs) (told (base t_unknown) fs)) z) long ad

      pub computed-large : o ≡ Err TooLarge → Computed a b s s₂ None
      computed-large q u v d f fs n n' ad =
          let z = large-run s₂ 4 (verdict (unify (numeric u) (numeric v))) (run_of u v d f) q in
          ends-large (ap (λ (R : Run). or_much R (λ t. told t fs) (told (base t_unknown) fs)) z) long ad

-- ## A binary operator

module _ {s s' : Bytes} {y : Report} {st : Accumulator} {o : Op} {a b : Ty} (h : TwoAt a b s st) where
  pub binary-arithmetic : {y' : Report} {r : Option ℕ} → o ≡ arithmetic → TwoAsked a_number (get_or s 0 0) (get_or s st.len 0) y y' → Computed (get_or s 0 0) (get_or s st.len 0) s s' r
      → Ends (end_op o a b) s s' y y' r
  unfolding end_op op_faults
  binary-arithmetic {y'} e k c = rw e (c a b (left-kind h) (right-kind h) (require a_number a ++ require a_number b) y y' (k a b (left-kind h) (right-kind h)))

  pub binary-equality : {r : ℕ} → o ≡ equality → Settles (base t_bool) s s' r → Ends (end_op o a b) s s' y y (Some r)
  unfolding end_op
  binary-equality e g = rw e (g [] y y adds_none)

  pub binary-boolean : {y' : Report} {r : ℕ} → o ≡ boolean → TwoAsked a_bool (get_or s 0 0) (get_or s st.len 0) y y' → Settles (base t_bool) s s' r → Ends (end_op o a b) s s' y y' (Some r)
  unfolding end_op op_faults
  binary-boolean {y'} e k g = rw e (g (require a_bool a ++ require a_bool b) y y' (k a b (left-kind h) (right-kind h)))

  pub binary-string : {y' : Report} {r : ℕ} → o ≡ string → TwoAsked a_string (get_or s 0 0) (get_or s st.len 0) y y' → Settles (base t_bool) s s' r → Ends (end_op o a b) s s' y y' (Some r)
  unfolding end_op op_faults
  binary-string {y'} e k g = rw e (g (require a_string a ++ require a_string b) y y' (k a b (left-kind h) (right-kind h)))

pub binary-concat : {s s' : Bytes} {y : Report} {len : ℕ} {o : Op} (a b : Ty) → o ≡ concat → 2 ≤ length s → Puts (65 ∷ 44 ∷ []) s s' len → Ends (end_op o a b) s s' y y (Some len)
unfolding end_op
binary-concat {y = y} a b e h p = rw e (settle (put-any h p) [] y y adds_none)

pub binary-comparison : {s s' : Bytes} {y : Report} {r : Option ℕ} {o : Op} (a b : Ty) → o ≡ comparison → Ends (end_op comparison a b) s s' y y r → Ends (end_op o a b) s s' y y r
binary-comparison a b e h = rw e h
