-- The loop of `check_pattern` on plain values. Assumes nothing.
use mathlib.Core.Path.{◌≡◌, refl, sym, ◌∙◌, ap, subst}
use mathlib.Core.List.{List, [], ◌∷◌, ◌++◌, append-nil, append_assoc, map}
use mathlib.Core.Option.{Option, none}
use Prim.Native.Nat.{ℕ, suc, ◌+◌, ◌-◌, ◌*◌, ◌≤◌, ◌<◌}
use native.Mathlib.Omega.{arith}
use lib.ListN.{length, take, drop, set, length-set, length-map, length-append}
use lib.Seq.{take-add}
use Rattle.semantics.specs.Bytes.{Bytes}
use Rattle.semantics.specs.Ty.{Ty, base, t_unknown}
use Rattle.semantics.specs.Sheet.{Head, Place, first_place, binding_place, clause_place, end_place, projection_place, set_item_place, remove_item_place, label_place, parts_place, part_place, element_place, entry_place, item_place, expression_place, Role, silent, rule, roles, arity, rank, place, Want, at, wanted, deeper, under}
use Rattle.semantics.specs.Walk.{Env, Res, Fault, type_of, step, walk, all_tests}
use Rattle.semantics.specs.Calls.{first_large}
use Rattle.line.specs.Line.{HeadIs}
use Rattle.line.specs.Known.{KnownAs}
use Rattle.line.specs.declared.line.Head.{Head as Seen}
use Rattle.hir.specs.Check.{KidsAs}
use Rattle.hir.specs.declared.valid.Kids.{Kids as Hung}
use Rattle.hir.specs.Lines.{Lines, no_line, a_line, Met, all_met, meets}
use Rattle.hir.proofs.LinesLaws.{Inner, AllIn, one_in, inner-under}
use Rattle.report.proofs.ReportLaws.{adds_none, adds_then}
use Rattle.report.specs.Report.{faults_text, Adds}
use Rattle.report.specs.declared.Report.{Report}
use Rattle.walk_run.specs.Run.{Ran, halted, typed, judged, all_faults}
use Rattle.walk_run.proofs.Fine.{step_by_lem}
use Rattle.walk_run.proofs.Steps.{first, first-append}
use Rattle.bounds.proofs.Growth.{tree-faults}
use Rattle.infer.specs.Steps.{EnvAs}
use Rattle.infer.specs.declared.step.Env.{Env as Binds}
use Rattle.infer.specs.Walks.{TreeAt, result_of, Counting, Behind, WalkedAs, Walked, ExprAt, ExprAsk, ExprWalked}
use Rattle.hir.specs.declared.valid.Next.{Next}
use Rattle.infer.specs.declared.walk.Walk.{Walk}
use Rattle.infer.specs.declared.walk.TooLarge.{TooLarge}
use Rattle.std.specs.Prelude.{Result, Ok, Err}
use Rattle.infer.proofs.WalkTable.{passes_at}
use Rattle.infer.proofs.WalkTrees.{lines-in, FirstLine, first-line, no-wants, First, first-met, met-rank, kids-many, walk_first, tree-ends, tree-shorter, judged-none, judged-some, faults-append, tests-append, passes_on}
use Rattle.infer.proofs.WalkSmall.{text-long, adds-long, unknown-front, kids-arity}
use Rattle.infer.proofs.WalkTurn.{wanted-at, DoneAs, walked-done, walked-large}
use borrow.Author.Tests.{ne_eqb}

-- ## Wants of one depth

pub data AllAt (d : ℕ) : List Want → Type 0 where
  none_at : AllAt d []
  one_at : {q : Place} {ws : List Want} → 3 < rank q → AllAt d ws → AllAt d (at q d ∷ ws)

at-append : {d : ℕ} {a b : List Want} → AllAt d a → AllAt d b → AllAt d (a ++ b)
at-append none_at y = y
at-append (one_at i x) y = one_at i (at-append x y)

in_all : {w : Want} {ws : List Want} → AllIn (w ∷ ws) → Inner w × AllIn ws
in_all (one_in i is) = (i, is)

roles-at : (d : ℕ) (ps : List Role) → AllIn (map (wanted d) ps) → AllAt d (map (wanted d) ps)
roles-at d [] x = none_at
roles-at d (p ∷ ps) x =
    let i = in_all x in
    subst (λ (w : Want). AllAt d (w ∷ map (wanted d) ps)) (sym (wanted-at d p)) (one_at (subst Inner (wanted-at d p) i.0) (roles-at d ps i.1))

pub record FirstAt (d : ℕ) (ws : List Want) : Type 0 where
  pub place : Place
  pub rest : List Want
  pub same : ws ≡ at place d ∷ rest
  pub inside : 3 < rank place
  pub others : AllAt d rest

first_at : {d : ℕ} {ws : List Want} → AllAt d ws → 0 < length ws → FirstAt d ws
first_at none_at l = absurd (omega arith)
first_at (one_at {q = q} {ws = ws} i x) l = record { place = q; rest = ws; same = refl; inside = i; others = x }

no-wants-left : (ws : List Want) → length ws ≡ 0 → ws ≡ []
no-wants-left [] e = refl
no-wants-left (w ∷ ws) e = absurd (omega arith)

-- no more trees than lines, no more lines than bytes
met-short : {ws : List Want} {hs ks : List Head} → Met ws hs ks → length ws ≤ length hs
met-short all_met = omega arith
met-short (meets {w = w} {ws = ws} {h = h} f g m) = omega (arith, met-short m, length-append (under w h) ws)

lines-few : {s : Bytes} {p r : ℕ} {hs : List Head} → Lines s p hs r → p + length hs ≤ r
lines-few no_line = omega arith
lines-few (a_line a l) = omega (arith, a.on, lines-few l)

pub rank-expr : (q : Place) → rank q ≡ 13 → q ≡ expression_place
unfolding rank
rank-expr first_place e = absurd (omega arith)
rank-expr binding_place e = absurd (omega arith)
rank-expr clause_place e = absurd (omega arith)
rank-expr end_place e = absurd (omega arith)
rank-expr projection_place e = absurd (omega arith)
rank-expr set_item_place e = absurd (omega arith)
rank-expr remove_item_place e = absurd (omega arith)
rank-expr label_place e = absurd (omega arith)
rank-expr parts_place e = absurd (omega arith)
rank-expr part_place e = absurd (omega arith)
rank-expr element_place e = absurd (omega arith)
rank-expr entry_place e = absurd (omega arith)
rank-expr item_place e = absurd (omega arith)
rank-expr expression_place e = refl

pub deeper-same : (q : Place) (d : ℕ) → (rank q ≡ 13 → ⊥) → deeper (at q d) ≡ d
deeper-same q d n = rw (ne_eqb (rank q) 13 n)

silent-type : (env : Env) (n : ℕ) (h : Head) (rs : List Res) → rule h ≡ silent → (step env n h rs).ty ≡ base t_unknown
unfolding type_of
silent-type env n h rs e = ap (λ (x : Res). x.ty) (step_by_lem env n h silent e rs)

-- ## After some lines of a tree that is no expression: `todo` trees are left

pub record PatLoop (s : Bytes) (depth here : ℕ) (hd : Head) (hs ks : List Head) (env : Env) (y₀ : Report) (c : Next) (y : Report) (todo : ℕ) : Type 0 where
  pub heads : List Head
  pub wants : List Want
  pub faults : List Fault
  pub many : length wants ≡ todo
  pub lines : Lines s c.at heads (length s)
  pub met : Met wants heads ks
  pub inner : AllAt depth wants
  pub count : c.line.0 + length heads ≡ here + suc (length hs)
  pub above : c.line.0 ≤ c.at + 1
  pub room : length s < 4294967294
  pub same : (result_of env here hd hs).faults ≡ faults ++ all_faults (take todo (walk env c.line.0 heads))
  pub tests : first_large (result_of env here hd hs).tests ≡ first_large (all_tests (take todo (walk env c.line.0 heads)))
  pub adds : Adds faults y₀ y
  pub text : length (faults_text faults) + 2048 * length heads ≤ 2048 * suc (length hs)
  pub few : length faults + 2048 * length heads ≤ 2048 * suc (length hs)

pub pat-start : {s : Bytes} {p : Place} {depth : ℕ} {c : Next} (t : TreeAt (at p depth) s c) → 3 < rank p → (env : Env) (y : Report)
    → PatLoop s depth c.line.0 t.head t.under t.rest env y c y 1
unfolding all_faults all_tests faults_text
pat-start {s} {p} {depth} {c} t i env y =
    let n = c.line.0 in
    let r = result_of env n t.head t.under in
    let w : take 1 (walk env n (t.head ∷ t.under)) ≡ r ∷ [] = walk_first env n 0 t.head t.under in
    record {
      heads = t.head ∷ t.under;
      wants = at p depth ∷ [];
      faults = [];
      many = refl;
      lines = a_line t.line t.lines;
      met = t.met;
      inner = one_at i none_at;
      count = refl;
      above = t.above;
      room = t.room;
      same = sym (append-nil r.faults) ∙ ap all_faults (sym w);
      tests = ap first_large (sym (append-nil r.tests) ∙ ap all_tests (sym w));
      adds = adds_none;
      text = omega arith;
      few = omega arith;
    }

module _ {s : Bytes} {depth here : ℕ} {hd : Head} {hs ks : List Head} {env : Env} {y₀ : Report} {c : Next} {y : Report} {todo : ℕ}
    (L : PatLoop s depth here hd hs ks env y₀ c y todo) where
  pub pat-inside : c.at ≤ length s
  pat-inside = lines-in L.lines

  pub pat-todo : todo ≤ length s
  pat-todo = omega (arith, L.many, met-short L.met, lines-few L.lines)

  pub pat-line : c.line.0 ≤ length s + 1
  pat-line = omega (arith, L.above, pat-inside)

  module _ (more : 0 < todo) where
    pub pat-at : FirstAt depth L.wants
    pat-at = first_at L.inner (omega (arith, L.many))

    pub pat-first : First (at pat-at.place depth) pat-at.rest L.heads ks
    pat-first = first-met (subst (λ (x : List Want). Met x L.heads ks) pat-at.same L.met)

    pub pat-next : FirstLine s c.at pat-first.head pat-first.under (length s)
    pat-next = first-line (subst (λ (x : List Head). Lines s c.at x (length s)) pat-first.same L.lines)

    pub pat-read : (g : Seen) → KnownAs s c.at g → HeadIs s g pat-first.head × (g.next ≡ pat-next.next)
    pat-read g r = let x = r pat-first.head pat-next.next pat-next.line in (x.1, x.0)

    pat-rest : length pat-at.rest ≡ todo - 1
    pat-rest = omega (arith, L.many, ap length pat-at.same)

    pat-suc : todo ≡ suc (todo - 1)
    pat-suc = omega arith

    abbrev pub pat_res : Res
    pat_res = result_of env c.line.0 pat-first.head pat-first.under

    pat-results : take todo (walk env c.line.0 L.heads) ≡ pat_res ∷ take (todo - 1) (drop (arity pat-first.head) (walk env (suc c.line.0) pat-first.under))
    pat-results =
        ap (λ (m : ℕ). take m (walk env c.line.0 L.heads)) pat-suc
        ∙ ap (λ (x : List Head). take (suc (todo - 1)) (walk env c.line.0 x)) pat-first.same
        ∙ walk_first env c.line.0 (todo - 1) pat-first.head pat-first.under

    -- an expression
    module _ (g : Seen) (read : KnownAs s c.at g) where
      module _ (is : rank (place pat-first.head) ≡ 13) where
        pat-met : Met (at expression_place depth ∷ []) (pat-first.head ∷ pat-first.under) pat-first.behind
        pat-met =
            subst (λ (q : Place). Met (at q depth ∷ []) (pat-first.head ∷ pat-first.under) pat-first.behind) (rank-expr pat-at.place (sym (met-rank pat-first.met) ∙ is)) pat-first.met

        abbrev pat_expr : ExprAt s g c depth
        pat_expr =
            record {
              tree = record {
                head = pat-first.head;
                under = pat-first.under;
                rest = pat-first.behind;
                next = pat-next.next;
                line = pat-next.line;
                lines = pat-next.lines;
                met = pat-met;
                above = L.above;
                room = L.room;
              };
              is = (pat-read g read).0;
              next = (pat-read g read).1;
            }

        pub pat-ask : {b : Binds} {work : Bytes} → EnvAs s b env → 1024 * (depth + 40) ≤ length work → Counting y₀ (suc (length hs)) → ExprAsk s b g c depth work y
        pat-ask u room n =
            record {
              at = pat_expr;
              env = env;
              bound = u;
              room = room;
              count = record {
                fill = omega (arith, n.fill, L.adds.end, L.text, ap length pat-first.same);
                faults = omega (arith, n.faults, L.adds.count, L.few, ap length pat-first.same);
              };
            }

        module _ {b : Binds} (u : EnvAs s b env) {work work' : Bytes} {z : Report} {a : Result Walk TooLarge} (W : ExprWalked s b g c depth work work' y z a) where
          pat-walked : Walked env s c.line.0 pat-first.head pat-first.under pat-first.behind work work' y z a
          pat-walked = W pat_expr env u

          pub pat-long : length work' ≡ length work
          pat-long = pat-walked.long

          pub pat-out : length z.writer.now.out.now ≡ length y₀.writer.now.out.now
          pat-out = pat-walked.as_long ∙ adds-long L.adds

          pat-tests : first_large (result_of env here hd hs).tests
              ≡ first (first_large pat_res.tests) (first_large (all_tests (take (todo - 1) (drop (arity pat-first.head) (walk env (suc c.line.0) pat-first.under)))))
          unfolding all_tests
          pat-tests = L.tests ∙ ap (λ (x : List Res). first_large (all_tests x)) pat-results ∙ first-append pat_res.tests _

          pub pat-large : (m : TooLarge) → a ≡ Err m → judged (result_of env here hd hs) ≡ halted m.0.0
          pat-large m e =
              judged-some (result_of env here hd hs) m.0.0
              (pat-tests ∙ ap (λ (o : Option ℕ). first o (first_large (all_tests (take (todo - 1) (drop (arity pat-first.head) (walk env (suc c.line.0) pat-first.under))))))
              (walked-large pat_res work' y z _ a m pat-walked.answer e))

          module _ {len : ℕ} {c' : Next} (e : a ≡ Ok (record { len = len; cur = c' })) where
            pat-done : DoneAs pat_res work' y z (Behind env s c.line.0 pat-first.head pat-first.under pat-first.behind) len c'
            pat-done = walked-done pat_res work' y z _ a len c' pat-walked.answer e

            pub pat-down : suc c.line.0 ≤ c'.line.0
            pat-down = omega (arith, pat-done.behind.count, tree-shorter pat-at.inside pat-first.met)

            pub pat-on : PatLoop s depth here hd hs ks env y₀ c' z (todo - 1)
            unfolding all_faults
            pat-on =
                let b = pat-done.behind in
                let t = tree-faults env c.line.0 pat-first.head pat-first.under pat-first.behind (at pat-at.place depth) pat-at.inside pat-first.met in
                let la = ap length pat-first.same in
                record {
                  heads = pat-first.behind;
                  wants = pat-at.rest;
                  faults = L.faults ++ pat_res.faults;
                  many = pat-rest;
                  lines = b.lines;
                  met = pat-first.rest;
                  inner = pat-at.others;
                  count = omega (arith, b.count, L.count, la);
                  above = b.above;
                  room = L.room;
                  same = L.same ∙ ap (λ (x : List Res). L.faults ++ all_faults x) (pat-results ∙ ap (λ (x : List Res). pat_res ∷ take (todo - 1) x) b.walked)
                      ∙ sym (append_assoc L.faults pat_res.faults (all_faults (take (todo - 1) (walk env c'.line.0 pat-first.behind))));
                  tests = pat-tests
                      ∙ ap (λ (o : Option ℕ). first o (first_large (all_tests (take (todo - 1) (drop (arity pat-first.head) (walk env (suc c.line.0) pat-first.under)))))) pat-done.none
                      ∙ ap (λ (x : List Res). first_large (all_tests (take (todo - 1) x))) b.walked;
                  adds = adds_then L.adds pat-done.adds;
                  text = omega (arith, L.text, t.0, la, text-long L.faults pat_res.faults);
                  few = omega (arith, L.few, t.1, la, length-append L.faults pat_res.faults);
                }

      -- a line that passes on what hangs under it
      module _ (isn't : rank (place pat-first.head) ≡ 13 → ⊥) {kk : Hung} (hung : KidsAs g kk) where
        pass-arity : kk.all ≡ arity pat-first.head
        pass-arity = kids-arity s g pat-first.head kk (pat-read g read).0 hung

        pass-many : (n : ℕ) → length (take (arity pat-first.head) (walk env n pat-first.under)) ≡ arity pat-first.head
        pass-many n = kids-many pat-at.inside pat-first.met env n

        pass_on : (pat_res.faults ≡ all_faults (take (arity pat-first.head) (walk env (suc c.line.0) pat-first.under)))
            × (pat_res.tests ≡ all_tests (take (arity pat-first.head) (walk env (suc c.line.0) pat-first.under)))
        pass_on = passes_on env c.line.0 pat-first.head _ (passes_at pat-first.head isn't) (pass-many (suc c.line.0))

        pass-take : (n : ℕ) → take (arity pat-first.head) (walk env n pat-first.under) ++ take (todo - 1) (drop (arity pat-first.head) (walk env n pat-first.under))
            ≡ take (todo - 1 + kk.all) (walk env n pat-first.under)
        pass-take n =
            let e : arity pat-first.head + (todo - 1) ≡ todo - 1 + kk.all = omega (arith, pass-arity) in
            sym (take-add (arity pat-first.head) (todo - 1) (walk env n pat-first.under))
            ∙ ap (λ (m : ℕ). take m (walk env n pat-first.under)) e

        pass-level : (rank pat-at.place ≡ 13 → ⊥)
        pass-level e = isn't (met-rank pat-first.met ∙ e)

        pass-wants : under (at pat-at.place depth) pat-first.head ≡ map (wanted depth) (roles pat-first.head)
        pass-wants =
            (inner-under (at pat-at.place depth) pat-first.head pat-at.inside pat-first.fits).0
            ∙ ap (λ (d : ℕ). map (wanted d) (roles pat-first.head)) (deeper-same pat-at.place depth pass-level)

        pub pass-room : c.line.0 < 4294967295
        pass-room = omega (arith, pat-line, L.room)

        pub pass : (c' : Next) → (c'.at ≡ g.next) × (c'.line.0 ≡ c.line.0 + 1) → PatLoop s depth here hd hs ks env y₀ c' y (todo - 1 + kk.all)
        unfolding all_faults all_tests arity
        pass c' e =
            let d = depth in
            let ps = roles pat-first.head in
            let la = ap length pat-first.same in
            let n : suc c.line.0 ≡ c'.line.0 = omega (arith, e.1) in
            let i = (inner-under (at pat-at.place d) pat-first.head pat-at.inside pat-first.fits).1 in
            record {
              heads = pat-first.under;
              wants = map (wanted d) ps ++ pat-at.rest;
              faults = L.faults;
              many = omega (arith, length-append (map (wanted d) ps) pat-at.rest, length-map ps (wanted d), pass-arity, pat-rest);
              lines = subst (λ (x : ℕ). Lines s x pat-first.under (length s)) (sym (pat-read g read).1 ∙ sym e.0) pat-next.lines;
              met = subst (λ (x : List Want). Met (x ++ pat-at.rest) pat-first.under ks) pass-wants pat-first.whole;
              inner = at-append (roles-at d ps (subst AllIn pass-wants i)) pat-at.others;
              count = omega (arith, e.1, L.count, la);
              above = omega (arith, e.0, e.1, L.above, (pat-read g read).1, pat-next.line.on);
              room = L.room;
              same = L.same ∙ ap (λ (x : List Res). L.faults ++ all_faults x) pat-results
                  ∙ ap (λ (x : List Fault). L.faults ++ (x ++ all_faults (take (todo - 1) (drop (arity pat-first.head) (walk env (suc c.line.0) pat-first.under))))) pass_on.0
                  ∙ ap (λ (x : List Fault). L.faults ++ x) (sym (faults-append (take (arity pat-first.head) (walk env (suc c.line.0) pat-first.under)) (take (todo - 1) (drop (arity pat-first.head) (walk env (suc c.line.0) pat-first.under)))) ∙ ap all_faults (pass-take (suc c.line.0)))
                  ∙ ap (λ (m : ℕ). L.faults ++ all_faults (take (todo - 1 + kk.all) (walk env m pat-first.under))) n;
              tests = L.tests ∙ ap (λ (x : List Res). first_large (all_tests x)) pat-results
                  ∙ ap (λ (x : List (ℕ × Ty)). first_large (x ++ all_tests (take (todo - 1) (drop (arity pat-first.head) (walk env (suc c.line.0) pat-first.under))))) pass_on.1
                  ∙ ap first_large (sym (tests-append (take (arity pat-first.head) (walk env (suc c.line.0) pat-first.under)) (take (todo - 1) (drop (arity pat-first.head) (walk env (suc c.line.0) pat-first.under)))) ∙ ap all_tests (pass-take (suc c.line.0)))
                  ∙ ap (λ (m : ℕ). first_large (all_tests (take (todo - 1 + kk.all) (walk env m pat-first.under)))) n;
              adds = L.adds;
              text = omega (arith, L.text, la);
              few = omega (arith, L.few, la);
            }

  -- ## At the end

  module _ (over : todo ≤ 0) where
    pat-heads : L.heads ≡ ks
    pat-heads = no-wants (subst (λ (x : List Want). Met x L.heads ks) (no-wants-left L.wants (omega (arith, L.many))) L.met)

    pat-zero : todo ≡ 0
    pat-zero = omega arith

    pub pat-end : (work_e work : Bytes) {p : Place} → rule hd ≡ silent → Met (at p depth ∷ []) (hd ∷ hs) ks → 3 < rank p → 2 ≤ length work → length work ≡ length work_e
        → Walked env s here hd hs ks work_e (set (set work 0 80) 1 44) y₀ y (Ok (record { len = 2; cur = c }))
    unfolding all_faults all_tests first_large
    pat-end work_e work {p} e m i l w =
        let r = result_of env here hd hs in
        let f : r.faults ≡ L.faults = L.same ∙ ap (λ (n : ℕ). L.faults ++ all_faults (take n (walk env c.line.0 L.heads))) pat-zero ∙ append-nil L.faults in
        let o : first_large r.tests ≡ none = L.tests ∙ ap (λ (n : ℕ). first_large (all_tests (take n (walk env c.line.0 L.heads)))) pat-zero in
        let t : r.ty ≡ base t_unknown = silent-type env here hd (take (arity hd) (walk env (suc here) hs)) e in
        let n : c.line.0 + length ks ≡ here + suc (length hs) = omega (arith, L.count, ap length pat-heads) in
        let j : judged r ≡ typed (base t_unknown) L.faults = judged-none r o ∙ ap (λ (x : Ty). typed x r.faults) t ∙ ap (typed (base t_unknown)) f in
        record {
          answer = subst (λ (v : Ran). WalkedAs v (set (set work 0 80) 1 44) y₀ y (Behind env s here hd hs ks) (Ok (record { len = 2; cur = c }))) (sym j) (
            unknown-front work l,
            L.adds,
            record {
              lines = subst (λ (x : List Head). Lines s c.at x (length s)) pat-heads L.lines;
              count = n;
              above = L.above;
              walked = tree-ends i m env here c.line.0 n;
            },
          );
          long = length-set (set work 0 80) 1 44 ∙ length-set work 0 80 ∙ w;
          as_long = adds-long L.adds;
        }
