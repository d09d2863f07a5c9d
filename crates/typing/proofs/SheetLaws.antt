-- The call that types a sheet: what its parts require, and what its outcome is. Assumes nothing.
use Prim.Native.Nat.{ℕ, ◌+◌, ◌≤◌, ◌<◌}
use native.Mathlib.Omega.{arith}
use mathlib.Core.Path.{◌≡◌, refl, sym, ap, ap₂, subst, ◌∙◌}
use mathlib.Core.List.{List, ◌∷◌, ◌++◌}
use mathlib.Core.Option.{Option, none, some}
use mathlib.Core.Bool.{Bool, true, false}
use lib.Dec.{eqb, ltb}
use lib.ListN.{length, take, drop}
use lib.Seq.{sets, take-append_seam}
use borrow.Author.Tests.{eq-eqb, ne_eqb, lt-ltb, le-ltb, ltb-false}
use Rattle.semantics.specs.Limits.{sheet_limit, depth_limit, work_size}
use Rattle.semantics.specs.Bytes.{Bytes}
use Rattle.semantics.specs.Sheet.{Head, Sheet, refused, heads, sheet}
use Rattle.semantics.specs.Walk.{Top, env_of, walk, results, all_tests, typing}
use Rattle.semantics.specs.Calls.{first_large, report, Outcome, refusal, accepted, limited, judged, outcome, refused_text, outcome_text, sheet_text, Settled, zeros, written, untouched, cleared, answered, settled, sheet_call}
use Rattle.semantics.proofs.Causes.{FineSheet, sheet-fine}
use Rattle.hir.specs.Lines.{Lines, no_line, a_line}
use Rattle.hir.specs.Check.{Laid}
use Rattle.hir.specs.declared.valid.Outline.{Outline}
use Rattle.hir.proofs.BindLaws.{kind-type}
use Rattle.tops.specs.Tops.{out_tops}
use Rattle.tops.proofs.TopsLaws.{laid_out, stand-start}
use Rattle.infer.specs.Steps.{EnvAs}
use Rattle.infer.specs.Statement.{StatementAt, StatementAsk, MadeAs, Reported}
use Rattle.infer.specs.declared.step.Env.{Env as Binds}
use Rattle.hir.specs.declared.valid.Next.{Next}
use Rattle.infer.specs.declared.walk.TooLarge.{TooLarge}
use Rattle.std.specs.Prelude.{Result, Ok, Err, is_err}
use Rattle.semantics.specs.Refusals.{number_of}
use Rattle.semantics.specs.declared.refusals.Refused.{Refused}
use Rattle.semantics.specs.declared.refusals.Refusal.TheVariants.{TypeTooLarge, OutputTooShort}
use Rattle.unifying.specs.Call.{settled_by}
use Rattle.typing.specs.Typed.{settled_as, Types}
use Rattle.unifying.proofs.Delivered.{written_at}

-- ## The call by its tests

-- the two tests of lengths
chosen : Bytes → Bytes → Bytes → Bool → Bool → Settled
chosen s work out c d = elim c [ true ↦ untouched 1 work out | false ↦ elim d [ true ↦ settled (outcome s) work out | false ↦ untouched 2 work out ] ]

call-chosen : (s work out : Bytes) → sheet_call s work out ≡ chosen s work out (ltb sheet_limit (length s)) (eqb (length work) work_size)
unfolding sheet_call chosen
call-chosen s work out = refl

-- the test of the output's length
roomed : Bytes → Bytes → Bytes → Bool → Settled
roomed b work out c = elim c [ true ↦ cleared 7 0 work out | false ↦ answered b work out ]

settled-roomed : (ts : List Top) (work out : Bytes) → settled (accepted ts) work out ≡ roomed (report ts) work out (ltb (length out) (length (report ts)))
unfolding settled roomed
settled-roomed ts work out = refl

-- the tests of types
by-clauses : Option ℕ → List Top → Outcome
by-clauses none ts = accepted ts
by-clauses (some l) ts = refusal 6 l

limited-is : (t : Option ℕ) (hs : List Head) → limited t hs ≡ by-clauses t (typing hs)
unfolding limited by-clauses
limited-is none hs = refl
limited-is (some l) hs = refl

-- ## Lengths

pub call_long : (s work out : Bytes) → sheet_limit < length s → settled_by 1 0 0 work out ≡ sheet_call s work out
unfolding chosen
call_long s work out h =
    sym (call-chosen s work out ∙ ap (λ (c : Bool). chosen s work out c (eqb (length work) work_size)) (lt-ltb sheet_limit (length s) h))

pub call-sized : (s work out : Bytes) → length s ≤ sheet_limit → (length work ≡ work_size → ⊥) → settled_by 2 0 0 work out ≡ sheet_call s work out
unfolding chosen
call-sized s work out h n =
    sym (call-chosen s work out ∙ ap₂ (chosen s work out) (le-ltb sheet_limit (length s) h) (ne_eqb (length work) work_size n))

call-outcome : (s work out : Bytes) → length s ≤ sheet_limit → length work ≡ work_size → sheet_call s work out ≡ settled (outcome s) work out
unfolding chosen
call-outcome s work out h e = call-chosen s work out ∙ ap₂ (chosen s work out) (le-ltb sheet_limit (length s) h) (eq-eqb (length work) work_size e)

-- ## Refusals

pub types-refused : (s work out : Bytes) → (length s ≤ sheet_limit) × (length work ≡ work_size) → (out' : Bytes) (r : Refused) → sheet depth_limit s ≡ refused (number_of r.why) r.place
    → Types (sheet_call s work out) work out out' (Err r)
unfolding outcome judged settled
types-refused s work out ask out' r e =
    sym (call-outcome s work out ask.0 ask.1 ∙ ap (λ (x : Sheet). settled (judged x) work out) e)

-- ## An accepted sheet

lines-on : {s : Bytes} {p q : ℕ} {hs : List Head} → Lines s p hs q → p + length hs ≤ q
lines-on no_line = omega arith
lines-on (a_line a x) = omega (arith, a.on, lines-on x)

abbrev binds_of : Outline → Binds
binds_of o = record { from = o.from; to = o.to }

abbrev cur_of : Outline → Next
cur_of o = record { at = o.to; line = o.line }

module _ (s : Bytes) (o : Outline) (l : Laid depth_limit s o) where
  abbrev the_heads : List Head
  the_heads = l.head ∷ (l.binds ++ l.rest)

  env-as : EnvAs s (binds_of o) (env_of the_heads)
  env-as =
      record {
        binds = record { heads = l.binds; lines = l.bound; top = l.top; ascending = l.ascending; inside = omega (arith, lines-on l.below) };
        same = kind-type depth_limit s o l;
      }

  at-clauses : length s ≤ sheet_limit → StatementAt depth_limit s (cur_of o)
  at-clauses h =
      record {
        rest = l.rest;
        lines = l.below;
        standing = stand-start depth_limit s o l;
        above = omega (arith, l.line, l.first.on, lines-on l.bound);
        room = omega arith;
      }

  the-test : Option ℕ
  the-test = first_large (all_tests (walk (env_of the_heads) o.line.0 l.rest))

  the-tops : List Top
  the-tops = out_tops (env_of the_heads) o.line.0 l.rest

  -- the outcome by what the clauses come to
  outcome-is : outcome s ≡ by-clauses the-test the-tops
  unfolding outcome judged the-test the-tops
  outcome-is =
      let x = laid_out depth_limit s o l in
      let n = sym l.line in
      ap judged l.same
      ∙ limited-is (first_large (all_tests (results the_heads))) the_heads
      ∙ ap₂ by-clauses
      (ap first_large x.1 ∙ ap (λ (k : ℕ). first_large (all_tests (walk (env_of the_heads) k l.rest))) n)
      (x.0 ∙ ap (λ (k : ℕ). out_tops (env_of the_heads) k l.rest) n)

pub statement-ask : (s work : Bytes) → (length s ≤ sheet_limit) × (length work ≡ work_size) → (o : Outline) → Laid depth_limit s o → StatementAsk depth_limit s (binds_of o) (cur_of o) work
statement-ask s work ask o l =
    record { at = at-clauses s o l ask.0; env = env_of (the_heads s o l); bound = env-as s o l; room = omega (arith, ask.1) }

module _ (s work out : Bytes) (ask : (length s ≤ sheet_limit) × (length work ≡ work_size)) (o : Outline) (laid : Laid depth_limit s o)
    (work' out' : Bytes) (m : Result ℕ TooLarge) (p : Reported depth_limit s (binds_of o) (cur_of o) work work' out out' m) where
  test : Option ℕ
  test = the-test s o laid

  tops : List Top
  tops = the-tops s o laid

  made_as : MadeAs test tops out out' m
  unfolding test tops the-test the-tops at-clauses
  made_as = p.made (at-clauses s o laid ask.0) (env_of (the_heads s o laid)) (env-as s o laid)

  by-test : sheet_call s work out ≡ settled (by-clauses test tops) work out
  unfolding test tops
  by-test = call-outcome s work out ask.0 ask.1 ∙ ap (λ (x : Outcome). settled x work out) (outcome-is s o laid)

  pub types-large : (l : TooLarge) → m ≡ Err l → Types (sheet_call s work out) work out out' (Err (record { why = TypeTooLarge; place = l.0.0 }))
  unfolding by-clauses settled
  types-large l em = sym (by-test ∙ go test (subst (MadeAs test tops out out') em made_as))
    where
      go : (t : Option ℕ) → MadeAs t tops out out' (Err l) → settled (by-clauses t tops) work out ≡ cleared 6 l.0.0 work out
      go none x = absurd x
      go (some k) x = ap (λ (j : ℕ). cleared 6 j work out) (sym x)

  -- the report was made
  record Reports (n : ℕ) : Type 0 where
    pub long : n ≡ length (report tops)
    pub output : out' ≡ sets out 0 (report tops)
    pub call : sheet_call s work out ≡ roomed (report tops) work out (ltb (length out) (length (report tops)))

  reports : (n : ℕ) → m ≡ Ok n → Reports n
  unfolding by-clauses
  reports n em = go test refl (subst (MadeAs test tops out out') em made_as)
    where
      go : (t : Option ℕ) → test ≡ t → MadeAs t tops out out' (Ok n) → Reports n
      go none et x =
          record {
            long = x.0;
            output = x.1;
            call = by-test ∙ ap (λ (t : Option ℕ). settled (by-clauses t tops) work out) et ∙ settled-roomed tops work out;
          }
      go (some k) et x = absurd x

  pub types-short : (n : ℕ) → m ≡ Ok n → length out' < n → Types (sheet_call s work out) work out out' (Err (record { why = OutputTooShort; place = 0 }))
  unfolding roomed
  types-short n em h =
      let b = report tops in
      let w = reports n em in
      let g : length out < length b = omega (arith, w.long, p.as_long) in
      sym (w.call ∙ ap (roomed b work out) (lt-ltb (length out) (length b) g))

  pub types-made : (n : ℕ) → m ≡ Ok n → n ≤ length out' → Types (sheet_call s work out) work out out' (Ok n)
  unfolding roomed
  types-made n em h =
      let b = report tops in
      let w = reports n em in
      let g : length b ≤ length out = omega (arith, w.long, p.as_long) in
      let e : sheet_call s work out ≡ answered b work out = w.call ∙ ap (roomed b work out) (le-ltb (length out) (length b) g) in
      made-by n out' w.long (w.output ∙ written_at out b g) (sym e)
    where
      made-by : (k : ℕ) (o : Bytes) → k ≡ length (report tops) → o ≡ written (report tops) out → answered (report tops) work out ≡ sheet_call s work out → settled_as (Ok k) (zeros work) o ≡ sheet_call s work out
      made-by k o l f x = rw (l, f) x

-- ## The whole call

-- it is refused, and the output cleared
pub call-refused : (U : Settled) (work out out₁ : Bytes) (r : Result ℕ Refused) → Types U work out out₁ r → (w o : Bytes) → w ≡ zeros work → o ≡ zeros out → (b : Bool) → b ≡ is_err r → b ≡ true → settled_as r w o ≡ U
call-refused U work out out₁ (Ok n) p w o e f b v t = absurd (let z : true ≡ false = sym t ∙ v in let y : ◌≡◌ {A = ℕ} 0 1 = cc in omega arith)
call-refused U work out out₁ (Err r) p w o e f b v t = rw (e, f) p

-- or not
pub call-answered : (U : Settled) (work out out₁ : Bytes) (r : Result ℕ Refused) → Types U work out out₁ r → (w : Bytes) → w ≡ zeros work → (b : Bool) → b ≡ is_err r → b ≡ false → settled_as r w out₁ ≡ U
call-answered U work out out₁ (Ok n) p w e b v t = rw e p
call-answered U work out out₁ (Err r) p w e b v t = absurd (let z : false ≡ true = sym t ∙ v in let y : ◌≡◌ {A = ℕ} 0 1 = cc in omega arith)

-- ## For callers

-- the text of a sheet by its tests
texted : ℕ → Bytes → Bool → Bytes
texted room s c = elim c [ true ↦ refused_text 1 0 | false ↦ outcome_text room (outcome s) ]

text-texted : (room : ℕ) (s : Bytes) → sheet_text room s ≡ texted room s (ltb sheet_limit (length s))
unfolding sheet_text texted
text-texted room s = refl

-- this text is printed of an outcome: the report, which lies inside the output, or the refusal
pub record Prints (t out : Bytes) (x : Settled) : Type 0 where
  pub inside : x.number ≡ 0 → x.first ≤ length out
  pub report : x.number ≡ 0 → take x.first x.out ≡ t
  pub refusal : (x.number ≡ 0 → ⊥) → refused_text x.number x.first ≡ t

prints-refusal : (out : Bytes) (x : Settled) → (x.number ≡ 0 → ⊥) → Prints (refused_text x.number x.first) out x
prints-refusal out x n =
    record {
      inside = λ z. absurd (n z);
      report = λ z. absurd (n z);
      refusal = λ _. refl;
    }

call-text : (s work out : Bytes) → length work ≡ work_size → Prints (sheet_text (length out) s) out (sheet_call s work out)
unfolding chosen texted outcome judged limited settled roomed outcome_text
call-text s work out sized =
    let c = ltb sheet_limit (length s) in
    let e = call-chosen s work out ∙ ap (chosen s work out c) (eq-eqb (length work) work_size sized) in
    subst (λ (t : Bytes). Prints t out (sheet_call s work out)) (sym (text-texted (length out) s)) (subst (Prints (texted (length out) s c) out) (sym e) (by_length c))
  where
    by-room : (b : Bytes) (c : Bool) → ltb (length out) (length b) ≡ c → Prints (elim c [ true ↦ refused_text 7 0 | false ↦ b ]) out (roomed b work out c)
    by-room b true e = prints-refusal out (cleared 7 0 work out) (λ z. omega arith)
    by-room b false e =
        record {
          inside = λ _. ltb-false (length out) (length b) e;
          report = λ _. take-append_seam b (drop (length b) out);
          refusal = λ n. absurd (n refl);
        }

    by-test : (t : Option ℕ) (hs : List Head) → Prints (outcome_text (length out) (limited t hs)) out (settled (limited t hs) work out)
    by-test none hs = by-room (report (typing hs)) (ltb (length out) (length (report (typing hs)))) refl
    by-test (some n) hs = prints-refusal out (cleared 6 n work out) (λ z. omega arith)

    by-sheet : (q : Sheet) → FineSheet q → Prints (outcome_text (length out) (judged q)) out (settled (judged q) work out)
    by-sheet (refused c n) f = prints-refusal out (cleared c n work out) (λ z. omega (arith, f.0))
    by-sheet (heads hs) f = by-test (first_large (all_tests (results hs))) hs

    by_length : (c : Bool) → Prints (texted (length out) s c) out (chosen s work out c true)
    by_length true = prints-refusal out (untouched 1 work out) (λ z. omega arith)
    by_length false = by-sheet (sheet depth_limit s) (sheet-fine depth_limit s)

pub call-prints : (s work out work' out' : Bytes) (n first second : ℕ) → length work ≡ work_size → settled_by n first second work' out' ≡ sheet_call s work out
    → Prints (sheet_text (length out) s) out (settled_by n first second work' out')
call-prints s work out work' out' n first second sized e = subst (Prints (sheet_text (length out) s) out) (sym e) (call-text s work out sized)
