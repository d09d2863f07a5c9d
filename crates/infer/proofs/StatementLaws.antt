-- The clauses under a cursor: what stands before each line to which the report comes, and what a line makes of it. Assumes nothing.
use mathlib.Core.Path.{◌≡◌, refl, sym, ◌∙◌, ap, subst}
use mathlib.Core.List.{List, [], ◌∷◌, ◌++◌, append_assoc, append-nil}
use mathlib.Core.Option.{Option, none, some}
use mathlib.Core.Bool.{Bool, true, false, ◌||◌}
use Prim.Native.Nat.{ℕ, suc, ◌+◌, ◌-◌, ◌*◌, ◌≤◌, ◌<◌, ◌^◌}
use native.Mathlib.Decide.{dec_lt}
use native.Mathlib.Omega.{arith}
use lib.Dec.{ltb}
use lib.ListN.{length, take, drop, length-append}
use lib.Seq.{slice, sets, length-sets}
use borrow.Author.Tests.{ltb-false}
use Rattle.semantics.specs.Limits.{type_limit, nesting_limit}
use Rattle.semantics.specs.Bytes.{Bytes, split}
use Rattle.semantics.specs.Ty.{Ty, line, nesting, too_large}
use Rattle.semantics.specs.Sheet.{Word, Head, expression_place, at, row, rank, place, arity}
use Rattle.semantics.specs.Walk.{Env, Res, Top, walk, all_tests}
use Rattle.semantics.specs.Calls.{first_large, fault_count, top_line, report}
use Rattle.semantics.proofs.All.{all_take}
use Rattle.walk_run.specs.Run.{judged_by, judged}
use Rattle.walk_run.proofs.Steps.{first, first-append}
use Rattle.walk_run.proofs.Fine.{step-fine, walk_fine}
use Rattle.text.specs.Text.{Ends}
use Rattle.line.specs.Words.{word_of}
use Rattle.line.specs.declared.words.Word.{Word as Coded}
use Rattle.line.specs.Line.{HeadIs, Named}
use Rattle.line.specs.Known.{KnownAs}
use Rattle.line.specs.Opening.{WordIs, FirstWord, OpensAs, BehindAs}
use Rattle.line.specs.declared.opening.Opening.{Opening}
use Rattle.line.proofs.LineLaws.{split-some}
use Rattle.line.proofs.OpeningLaws.{behind-ends}
use Rattle.line.specs.Known.{FineAt}
use Rattle.line.specs.declared.line.Head.{Head as Seen}
use Rattle.hir.specs.Lines.{LineAt, Lines, no_line, a_line}
use Rattle.line.proofs.KnownLaws.{same_place}
use Rattle.hir.specs.Check.{class_of}
use Rattle.hir.proofs.PlaceLaws.{class-is}
use Rattle.tops.specs.Tops.{top_of, out_tops}
use Rattle.tops.specs.Standing.{Standing, Typed}
use Rattle.tops.proofs.TopsLaws.{stand-some, stand-end, out-end, stand-skip, stand-expr}
use Rattle.ty.specs.Parts.{TypeAt}
use Rattle.report.specs.Report.{faults_text, type_text, tops_text, end_text, Appends, Adds}
use Rattle.report.specs.declared.Report.{Report}
use Rattle.report.proofs.ReportLaws.{◌▹◌, adds-text, tops-append, count-append, report-parts}
use Rattle.bounds.proofs.Growth.{tree-faults}
use Rattle.infer.specs.Steps.{EnvAs}
use Rattle.infer.specs.Walks.{result_of, Behind, WalkedAs, Walked, ExprAt, ExprAsk, ExprWalked}
use Rattle.infer.specs.Statement.{StatementAt, MadeAs}
use Rattle.infer.specs.declared.step.Env.{Env as Binds}
use Rattle.hir.specs.declared.valid.Next.{Next}
use Rattle.infer.specs.declared.walk.Walk.{Walk}
use Rattle.infer.specs.declared.walk.TooLarge.{TooLarge}
use Rattle.std.specs.Prelude.{Result, Ok, Err, Option as Maybe, Some, None}

-- ## Lines

-- each line has at least one byte
lines-few : {s : Bytes} {p r : ℕ} {hs : List Head} → Lines s p hs r → p + length hs ≤ r
lines-few no_line = omega arith
lines-few (a_line a ls) = omega (arith, a.on, lines-few ls)

-- the line at p and those behind it
record Ahead (s : Bytes) (p : ℕ) (hs : List Head) (r : ℕ) : Type 0 where
  head : Head
  tail : List Head
  next : ℕ
  is : hs ≡ head ∷ tail
  line : LineAt s p head next
  lines : Lines s next tail r

look : {s : Bytes} {p r : ℕ} {hs : List Head} → Lines s p hs r → 0 < length hs → Ahead s p hs r
look no_line l = absurd (omega arith)
look (a_line {q = q} {h = h} {hs = hs} a ls) l = record { head = h; tail = hs; next = q; is = refl; line = a; lines = ls }

-- ## Types

-- an accepted type is short
short : (t : Ty) → too_large t ≡ false → length (line t) ≤ 1024
unfolding too_large
short t e = go (ltb type_limit (length (line t))) refl e
  where
    go : (b : Bool) → ltb type_limit (length (line t)) ≡ b → b || ltb nesting_limit (nesting t) ≡ false → length (line t) ≤ 1024
    go true f k = absurd (let z : ◌≡◌ {A = ℕ} 0 1 = cc in omega arith)
    go false f k = omega (arith, ltb-false type_limit (length (line t)) f)

-- its line is two bytes and a line feed longer
type-long : (t : Ty) → length (type_text t) ≡ length (line t) + 3
unfolding top_line
type-long t = omega (arith, length-append (line t) (10 ∷ []))

-- a tree whose tests are fine has an accepted type
result-short : (env : Env) (n : ℕ) (h : Head) (hs : List Head) → first_large (result_of env n h hs).tests ≡ none → length (line (result_of env n h hs).ty) ≤ 1024
result-short env n h hs e = short (result_of env n h hs).ty ((step-fine env n h (all_take (arity h) (walk_fine env (suc n) hs))).1 e)

-- ## What a walk says

-- what is appended leaves the length as it is
pub as_long : {a o o' : Bytes} {f f' : ℕ} → Appends a o o' f f' → length o' ≡ length o
as_long {a} {o} {o'} {f} p = ap length p.text ∙ length-sets o f a

-- the type, the faults and the cursor
record Told (r : Res) (work' : Bytes) (y z : Report) (B : Next → Type 0) (len : ℕ) (c : Next) : Type 0 where
  pub fine : first_large r.tests ≡ none
  pub type : TypeAt work' 0 len r.ty
  pub adds : Adds r.faults y z
  pub behind : B c

told : (r : Res) (work' : Bytes) (y z : Report) (B : Next → Type 0) (len : ℕ) (c : Next) → WalkedAs (judged r) work' y z B (Ok (record { len = len; cur = c })) → Told r work' y z B len c
unfolding judged
told r work' y z B len c x = go (first_large r.tests) refl x
  where
    go : (o : Option ℕ) → first_large r.tests ≡ o → WalkedAs (judged_by o r) work' y z B (Ok (record { len = len; cur = c })) → Told r work' y z B len c
    go none e w = record { fine = e; type = w.0; adds = w.1; behind = w.2 }
    go (some l) e w = absurd w

-- or the line of a type that is too large
halts : (r : Res) (work' : Bytes) (y z : Report) (B : Next → Type 0) (i : TooLarge) → WalkedAs (judged r) work' y z B (Err i) → first_large r.tests ≡ some i.0.0
unfolding judged
halts r work' y z B i x = go (first_large r.tests) refl x
  where
    go : (o : Option ℕ) → first_large r.tests ≡ o → WalkedAs (judged_by o r) work' y z B (Err i) → first_large r.tests ≡ some i.0.0
    go none e w = absurd w
    go (some l) e w = e ∙ ap some (sym w)

-- ## Before a line

-- the heads that are left, the top expressions so far, and what they came to
pub record Mid (levels : ℕ) (s : Bytes) (env : Env) (n : ℕ) (rest : List Head) (out₀ : Bytes) (c : Next) (y : Report) (types : ℕ) : Type 0 where
  pub hs : List Head
  pub lines : Lines s c.at hs (length s)
  pub standing : Standing levels hs
  pub above : c.line.0 ≤ c.at + 1
  pub room : length s < 65536
  pub ts : List Top
  pub tops : out_tops env n rest ≡ ts ++ out_tops env c.line.0 hs
  pub tests : first_large (all_tests (walk env n rest)) ≡ first_large (all_tests (walk env c.line.0 hs))
  pub text : Appends (tops_text ts) out₀ y.writer.now.out.now 0 y.writer.now.fill
  pub faults : y.faults ≡ fault_count ts
  pub count : types ≡ length ts
  pub few : types + length hs ≤ 65536
  pub small : y.writer.now.fill + 2048 * length hs ≤ 2048 * 65536
  pub rare : y.faults + 2048 * length hs ≤ 2048 * 65536

-- before the first
pub mid_start : {levels : ℕ} {s : Bytes} {c : Next} {out : Bytes} (a : StatementAt levels s c) (env : Env) (y : Report) → y.writer.now.out.now ≡ out → y.writer.now.fill ≡ 0 → y.faults ≡ 0 → Mid levels s env c.line.0 a.rest out c y 0
unfolding tops_text fault_count
mid_start {s = s} {c = c} a env y o f z =
    let l : length a.rest ≤ 65536 = omega (arith, lines-few a.lines, a.room) in
    record {
      hs = a.rest;
      lines = a.lines;
      standing = a.standing;
      above = a.above;
      room = a.room;
      ts = [];
      tops = refl;
      tests = refl;
      text = record { text = o; end = f };
      faults = z;
      count = refl;
      few = omega arith;
      small = omega arith;
      rare = omega arith;
    }

module _ {levels : ℕ} {s : Bytes} {env : Env} {n : ℕ} {rest : List Head} {out₀ : Bytes} {c : Next} {y : Report} {types : ℕ} (m : Mid levels s env n rest out₀ c y types) where
  pub mid-inside : c.at < length s
  mid-inside = omega (arith, lines-few m.lines, stand-some m.hs m.standing)

  pub mid-fine : FineAt s c.at
  mid-fine = let a = look m.lines (stand-some m.hs m.standing) in record { head = a.head; next = a.next; line = a.line }

  pub mid-below : c.line.0 ≤ length s + 1
  mid-below = omega (arith, m.above, mid-inside)

  pub mid-fill : y.writer.now.fill + 64 < 2 ^ 64
  mid-fill = omega (arith, m.small)

  pub mid-types : types + 1 < 2 ^ 64
  mid-types = omega (arith, m.few)

-- ## A line that is passed by its word and its LF alone

-- the word, if the line is fine
opened-word : {s : Bytes} {p q : ℕ} {h : Head} {r : Opening} → LineAt s p h q → OpensAs s p r → Named r.word h.word
opened-word {s} {p} {q} {h} {r} a o = go (split 10 (drop q s)) (split-some 10 (drop q s)) (subst (FirstWord r.word) a.stands o.word)
  where
    go : (ls : List Bytes) → 0 < length ls → FirstWord r.word (a.text ∷ ls) → Named r.word h.word
    go [] l w = absurd (omega arith)
    go (m ∷ ls) l w = subst (WordIs r.word) a.says w

-- and where the next line starts
opened-next : {s : Bytes} {p q n : ℕ} {h : Head} {r : Opening} → LineAt s p h q → OpensAs s p r → BehindAs s r.from n → n ≡ q
opened-next {s} {p} {q} {n} a o b = go (behind-ends o b) (dec_lt b.end (length s))
  where
    go : Ends 10 s p b.end → Dec (b.end < length s) → n ≡ q
    go e (yes l) =
        let same : slice p b.end s ∷ split 10 (drop (b.end + 1) s) ≡ a.text ∷ split 10 (drop q s) = sym (e.more l) ∙ a.stands in
        b.next ∙ same_place s (b.end + 1) q (omega arith) a.inside (cc)
    go e (no l) =
        let same : slice p b.end s ∷ [] ≡ a.text ∷ split 10 (drop q s) = sym (e.last (omega arith)) ∙ a.stands in
        absurd (omega (arith, ap length same, split-some 10 (drop q s)))

-- ## The line at the cursor

module _ {levels : ℕ} {s : Bytes} {env : Env} {n : ℕ} {rest : List Head} {out₀ : Bytes} {c : Next} {y : Report} {types : ℕ} (m : Mid levels s env n rest out₀ c y types) where
  here : Ahead s c.at m.hs (length s)
  here = look m.lines (stand-some m.hs m.standing)

  stands : Standing levels (here.head ∷ here.tail)
  stands = subst (Standing levels) here.is m.standing

  long-is : length m.hs ≡ suc (length here.tail)
  long-is = ap length here.is

  tops-here : out_tops env n rest ≡ m.ts ++ out_tops env c.line.0 (here.head ∷ here.tail)
  tops-here = m.tops ∙ ap (λ (l : List Head). m.ts ++ out_tops env c.line.0 l) here.is

  tests-here : first_large (all_tests (walk env n rest)) ≡ first_large (all_tests (walk env c.line.0 (here.head ∷ here.tail)))
  tests-here = m.tests ∙ ap (λ (l : List Head). first_large (all_tests (walk env c.line.0 l))) here.is

  pub mid-line : c.line.0 < 4294967295
  mid-line = omega (arith, m.above, m.room, mid-inside m)

  -- ## By its word

  pub mid-word : {r : Opening} → OpensAs s c.at r → r.word ≡ None → ⊥
  mid-word o e = subst (λ (x : Maybe Coded). Named x here.head.word) e (opened-word here.line o)

  module _ {r : Opening} (o : OpensAs s c.at r) {w : Coded} (worded : r.word ≡ Some w) where
    rank-here : rank (row (word_of w)).place ≡ rank (place here.head)
    rank-here = ap (λ (v : Word). rank (row v).place) (subst (λ (x : Maybe Coded). Named x here.head.word) worded (opened-word here.line o))

    -- the class is that of the line when it is read
    pub mid-class : (k : Seen) → KnownAs s c.at k → class_of (Ok k) ≡ rank (row (word_of w)).place
    mid-class k x = class-is s k here.head (x here.head here.next here.line).1 ∙ sym rank-here

    -- the end
    pub mid-end : rank (row (word_of w)).place ≡ 3 → {out' : Bytes} {f : ℕ} → Appends (end_text types y.faults) y.writer.now.out.now out' y.writer.now.fill f
        → MadeAs (first_large (all_tests (walk env n rest))) (out_tops env n rest) out₀ out' (Ok f)
    mid-end e {out'} {f} v =
        let three = sym rank-here ∙ e in
        let none_left = stand-end here.head here.tail stands three in
        let o = out-end env c.line.0 here.head three in
        let tops : out_tops env n rest ≡ m.ts = tops-here ∙ ap (λ (l : List Head). m.ts ++ out_tops env c.line.0 (here.head ∷ l)) none_left ∙ ap (λ (l : List Top). m.ts ++ l) o.0 ∙ append-nil m.ts in
        let tests : first_large (all_tests (walk env n rest)) ≡ none = tests-here ∙ ap (λ (l : List Head). first_large (all_tests (walk env c.line.0 (here.head ∷ l)))) none_left ∙ ap first_large o.1 ∙ unfold first_large in refl in
        let whole : Appends (tops_text m.ts ++ end_text types y.faults) out₀ out' 0 f = m.text ▹ v in
        let parts : tops_text m.ts ++ end_text types y.faults ≡ report m.ts = cc (report-parts m.ts, m.faults, m.count) in
        let long : f ≡ length (report m.ts) = omega (arith, whole.end, ap length parts) in
        rw (tests, tops) (long, whole.text ∙ ap (sets out₀ 0) parts)

    -- a line that is stepped over
    pub mid-skip : (rank (row (word_of w)).place ≡ 3 → ⊥) → (rank (row (word_of w)).place ≡ 13 → ⊥) → (c' : Next) → BehindAs s r.from c'.at × (c'.line.0 ≡ c.line.0 + 1) → Mid levels s env n rest out₀ c' y types
    mid-skip a b c' p =
        let t = stand-skip env c.line.0 here.head here.tail stands (λ e. b (rank-here ∙ e)) (λ e. a (rank-here ∙ e)) in
        let l : suc c.line.0 ≡ c'.line.0 = omega (arith, p.1) in
        let q : here.next ≡ c'.at = sym (opened-next here.line o p.0) in
        record {
          hs = here.tail;
          lines = subst (λ (i : ℕ). Lines s i here.tail (length s)) q here.lines;
          standing = t.next;
          above = omega (arith, q, l, m.above, here.line.on);
          room = m.room;
          ts = m.ts;
          tops = tops-here ∙ ap (λ (l : List Top). m.ts ++ l) (t.tops ∙ ap (λ (i : ℕ). out_tops env i here.tail) l);
          tests = tests-here ∙ ap first_large (t.tests ∙ ap (λ (i : ℕ). all_tests (walk env i here.tail)) l);
          text = m.text;
          faults = m.faults;
          count = m.count;
          few = omega (arith, m.few, long-is);
          small = omega (arith, m.small, long-is);
          rare = omega (arith, m.rare, long-is);
        }

  -- ## Read with its fields

  module _ (k : Seen) (x : KnownAs s c.at k) where
    seen : HeadIs s k here.head × (k.next ≡ here.next)
    seen = let r = x here.head here.next here.line in (r.1, r.0)

    rank_is : class_of (Ok k) ≡ rank (place here.head)
    rank_is = class-is s k here.head seen.0

    -- an expression
    module _ (e : class_of (Ok k) ≡ 13) where
      tree : Typed levels env c.line.0 here.head here.tail (result_of env c.line.0 here.head here.tail)
      tree = stand-expr env c.line.0 here.head here.tail stands (sym rank_is ∙ e)

      expr-at : ExprAt s k c levels
      expr-at =
          record {
            tree =
                record {
                  head = here.head;
                  under = here.tail;
                  rest = tree.left;
                  next = here.next;
                  line = here.line;
                  lines = here.lines;
                  met = tree.met;
                  above = m.above;
                  room = omega (arith, m.room);
                };
            is = seen.0;
            next = seen.1;
          }

      pub mid-ask : (b : Binds) (work : Bytes) → EnvAs s b env → 1024 * (levels + 40) ≤ length work → ExprAsk s b k c levels work y
      unfolding expr-at
      mid-ask b work v l =
          record {
            at = expr-at;
            env = env;
            bound = v;
            room = omega arith;
            count = record { fill = omega (arith, m.small, long-is); faults = omega (arith, m.rare, long-is) };
          }

      bound-faults : let r = result_of env c.line.0 here.head here.tail in
          (length (faults_text r.faults) + 512 + 1024 * length tree.left ≤ 1024 * suc (length here.tail)) × (length r.faults + 4 + 8 * length tree.left ≤ 8 * suc (length here.tail))
      unfolding rank
      bound-faults = tree-faults env c.line.0 here.head here.tail tree.left (at expression_place levels) (omega arith) tree.met

      module _ {b : Binds} (v : EnvAs s b env) {work work' : Bytes} {z : Report} {w : Result Walk TooLarge} (g : ExprWalked s b k c levels work work' y z w) where
        abbrev res : Res
        res = result_of env c.line.0 here.head here.tail

        walked : Walked env s c.line.0 here.head here.tail tree.left work work' y z w
        unfolding here expr-at tree
        walked = g expr-at env v

        pub mid-long : length work' ≡ length work
        mid-long = walked.long

        pub mid-as-long : length z.writer.now.out.now ≡ length y.writer.now.out.now
        mid-as-long = walked.as_long

        -- too large
        pub mid-large : (i : TooLarge) → w ≡ Err i → (o : Bytes) → MadeAs (first_large (all_tests (walk env n rest))) (out_tops env n rest) out₀ o (Err i)
        mid-large i f o =
            let h : first_large res.tests ≡ some i.0.0 = halts res work' y z (Behind env s c.line.0 here.head here.tail tree.left) i (subst (λ (u : Result Walk TooLarge). WalkedAs (judged res) work' y z (Behind env s c.line.0 here.head here.tail tree.left) u) f walked.answer) in
            let more = all_tests (walk env (c.line.0 + tree.lines) tree.left) in
            let t : first_large (all_tests (walk env n rest)) ≡ some i.0.0 = tests-here ∙ ap first_large tree.tests ∙ first-append res.tests more ∙ ap (λ (q : Option ℕ). first q (first_large more)) h in
            rw t refl

        module _ {len : ℕ} {c' : Next} (f : w ≡ Ok (record { len = len; cur = c' })) where
          says : Told res work' y z (Behind env s c.line.0 here.head here.tail tree.left) len c'
          says = told res work' y z (Behind env s c.line.0 here.head here.tail tree.left) len c' (subst (λ (u : Result Walk TooLarge). WalkedAs (judged res) work' y z (Behind env s c.line.0 here.head here.tail tree.left) u) f walked.answer)

          pub mid_len : len ≤ length work'
          mid_len = says.type.inside

          type-short : length (line res.ty) ≤ 1024
          type-short = result-short env c.line.0 here.head here.tail says.fine

          pub mid-room : z.writer.now.fill + length (take len work') + 3 < 2 ^ 64
          mid-room = omega (arith, type-short, ap length says.type.is, says.adds.end, bound-faults.0, m.small, long-is)

          pub mid-on : c.line.0 < c'.line.0
          mid-on = omega (arith, says.behind.count, bound-faults.0)

          pub mid-kept : (y' : Report) → ((u : Ty) → take len work' ≡ line u → Appends (type_text u) z.writer.now.out.now y'.writer.now.out.now z.writer.now.fill y'.writer.now.fill) → length y'.writer.now.out.now ≡ length y.writer.now.out.now
          mid-kept y' d = as_long (d res.ty says.type.is) ∙ mid-as-long

          pub mid-typed : (y' : Report) → ((u : Ty) → take len work' ≡ line u → Appends (type_text u) z.writer.now.out.now y'.writer.now.out.now z.writer.now.fill y'.writer.now.fill) → y'.faults ≡ z.faults
              → Mid levels s env n rest out₀ c' y' (types + 1)
          unfolding tops_text fault_count
          mid-typed y' f p =
              let d : Appends (type_text res.ty) z.writer.now.out.now y'.writer.now.out.now z.writer.now.fill y'.writer.now.fill = f res.ty says.type.is in
              let l : c.line.0 + tree.lines ≡ c'.line.0 = omega (arith, says.behind.count, tree.long) in
              let t : Top = top_of res in
              let ts = m.ts ++ (t ∷ []) in
              let whole : Appends (tops_text m.ts ++ (faults_text res.faults ++ type_text res.ty)) out₀ y'.writer.now.out.now 0 y'.writer.now.fill = m.text ▹ (adds-text says.adds ▹ d) in
              let parts : tops_text m.ts ++ (faults_text res.faults ++ type_text res.ty) ≡ tops_text ts = ap (λ (q : Bytes). tops_text m.ts ++ (faults_text res.faults ++ q)) (sym (append-nil (type_text res.ty))) ∙ sym (tops-append m.ts (t ∷ [])) in
              let fill : y'.writer.now.fill ≡ y.writer.now.fill + length (faults_text res.faults) + (length (line res.ty) + 3) = omega (arith, d.end, says.adds.end, type-long res.ty) in
              let faulted : y'.faults ≡ y.faults + length res.faults = omega (arith, p, says.adds.count) in
              record {
                hs = tree.left;
                lines = says.behind.lines;
                standing = tree.next;
                above = says.behind.above;
                room = m.room;
                ts = ts;
                tops =
                    tops-here
                    ∙ ap (λ (l : List Top). m.ts ++ l) (tree.tops ∙ ap (λ (j : ℕ). t ∷ out_tops env j tree.left) l)
                    ∙ sym (append_assoc m.ts (t ∷ []) (out_tops env c'.line.0 tree.left));
                tests =
                    tests-here
                    ∙ ap first_large tree.tests
                    ∙ first-append res.tests (all_tests (walk env (c.line.0 + tree.lines) tree.left))
                    ∙ ap (λ (q : Option ℕ). first q (first_large (all_tests (walk env (c.line.0 + tree.lines) tree.left)))) says.fine
                    ∙ ap (λ (j : ℕ). first_large (all_tests (walk env j tree.left))) l;
                text = record { text = whole.text ∙ ap (sets out₀ 0) parts; end = omega (arith, whole.end, ap length parts) };
                faults = omega (arith, faulted, m.faults, count-append m.ts (t ∷ []));
                count = omega (arith, m.count, length-append m.ts (t ∷ []));
                few = omega (arith, m.few, long-is, bound-faults.0);
                small = omega (arith, fill, type-short, bound-faults.0, m.small, long-is);
                rare = omega (arith, faulted, bound-faults.1, m.rare, long-is);
              }

-- ## The loop

-- fewer line numbers are left
pub less : (k a b : ℕ) → a < b → a ≤ k + 1 → k + 2 - b < k + 2 - a
less k a b h l = omega arith

-- whatever stands at the first cursor: the loop is before a line
pub record Going (levels : ℕ) (s : Bytes) (b : Binds) (c₀ : Next) (work₀ work out₀ : Bytes) (y₀ : Report) (c : Next) (y : Report) (types : ℕ) : Type 0 where
  pub long : length work ≡ length work₀
  pub as_long : length y.writer.now.out.now ≡ length out₀
  pub keeps : y.writer.ghost_name ≡ y₀.writer.ghost_name
  pub keeps_out : y.writer.now.out.ghost_name ≡ y₀.writer.now.out.ghost_name
  pub mid : (a : StatementAt levels s c₀) (env : Env) → EnvAs s b env → Mid levels s env c₀.line.0 a.rest out₀ c y types
