-- `infer_expr` around a child, and at its end. Assumes nothing.
use mathlib.Core.Path.{◌≡◌, refl, sym, ◌∙◌, ap, subst}
use mathlib.Core.List.{List, [], ◌++◌, append-nil, map}
use mathlib.Core.Option.{Option, none, some}
use Prim.Native.Nat.{ℕ, suc, ◌+◌, ◌-◌, ◌*◌, ◌≤◌, ◌<◌}
use native.Mathlib.Omega.{arith}
use native.Mathlib.Numerals.{add-one}
use lib.ListN.{length, take, drop, length-append, length-drop, drop_of_length-le}
use lib.Seq.{slice, length-take-le}
use Rattle.std.specs.Option.{ok_or}
use Rattle.semantics.specs.Bytes.{Bytes, hex}
use Rattle.semantics.specs.Sheet.{Head, Role, Typing, rule, roles, arity, wanted}
use Rattle.semantics.specs.Walk.{Env, Fault, walk}
use Rattle.semantics.proofs.All.{empty}
use Rattle.line.specs.Known.{KnownAs}
use Rattle.line.specs.Known.{FineAt}
use Rattle.line.specs.declared.line.Head.{Head as Seen}
use Rattle.line.specs.declared.line.HirId.{HirId}
use Rattle.exprs.specs.End.{EndedAs, Countable}
use Rattle.exprs.specs.declared.rule.Rule.{Rule}
use Rattle.exprs.specs.declared.role.Role.{Role as CodeRole}
use Rattle.std.specs.declared.option.Option.{Option as Optional}
use Rattle.std.specs.declared.option.Option.TheVariants.{Some, None}
use Rattle.hir.specs.Check.{KidsAs}
use Rattle.hir.specs.declared.valid.Kids.{Kids as Hung}
use Rattle.text.proofs.Laws.{back}
use Rattle.ty.proofs.Sizes.{large-no}
use Rattle.unify.proofs.UnionJoins.{small-long}
use Rattle.hir.specs.Lines.{Lines, Met}
use Rattle.ty.specs.Parts.{TypeAt}
use Rattle.report.proofs.ReportLaws.{adds_then}
use Rattle.report.specs.Report.{Adds}
use Rattle.report.specs.declared.Report.{Report}
use Rattle.walk_run.specs.Run.{Kept, empty, over, kept, both, items, last, entries, arms, start, child, end, Told, told, too_much, passed, after, kids, Ran, halted, concluded, judged}
use Rattle.exprs.specs.State.{behind as behind_of, StAs, Fine, FineKept}
use Rattle.exprs.specs.declared.state.Accumulator.{Accumulator}
use Rattle.exprs.specs.Rules.{typing_rule, child_role}
use Rattle.infer.specs.Steps.{Before, StepAt, SomeStep, SteppedAs, Steps, SteppedBy, EnvAs, EndAt, SomeEnd, EndedBy}
use Rattle.infer.specs.declared.step.Env.{Env as Binds}
use Rattle.infer.specs.Walks.{result_of, Counting, Behind, WalkedAs, Walked, AnyAsk, AnyWalked}
use Rattle.hir.specs.declared.valid.Next.{Next}
use Rattle.infer.specs.declared.walk.Walk.{Walk}
use Rattle.infer.specs.declared.walk.TooLarge.{TooLarge}
use Rattle.std.specs.Prelude.{Result, Ok, Err}
use Rattle.infer.proofs.WalkTable.{typing_of, KidsOf, kids-at}
use Rattle.infer.proofs.WalkTrees.{no-wants, tree-ends}
use Rattle.infer.proofs.WalkKept.{form-before, form-whole, weak, before-weak, fine-weak, child-weak, leaves}
use Rattle.infer.proofs.WalkSmall.{adds-long, type-behind, child-room, low-weak, end-room, spelt-name, asks-kids, kids-arity, kids-small}
use Rattle.infer.proofs.WalkLoop.{Base, expr-in, base-pos, base-typed, base-passed, Loop}
use Rattle.infer.proofs.WalkTurn.{DoneAs, walked-done, walked-large, role_at, loop-len, turn-first, turn-line, turn-read, turn_any, turn-ask, turn_res, turn-halted, turn-large, turn-fine, turn_level, turn-name, turn_on, turn-countable}

-- ## What an expression comes to

-- its type at the end; or, where that is too large, its line
abbrev pub ended : Optional ℕ → HirId → Next → Result Walk TooLarge
ended (Some n) here c = Ok (record { len = n; cur = c })
ended None here c = Err (record { 0 = here })

-- what `ok_or` makes of what may be too large
pub ok-some : {A E : Type 0} (o : Optional A) (d : E) (x : A) → ok_or o d ≡ Ok x → o ≡ Some x
ok-some (Some y) d x e = cc
ok-some None d x e = cc

pub ok-none : {A E : Type 0} (o : Optional A) (d x : E) → ok_or o d ≡ Err x → (o ≡ None) × (x ≡ d)
ok-none (Some y) d x e = cc
ok-none None d x e = (refl, cc)

-- ## The step after a child

pub record SteppedOn (o : Option Kept) (s : Bytes) (A : Type 0) (st : Accumulator) : Type 0 where
  pub kept : Kept
  pub same : o ≡ some kept
  pub state : StAs kept s st
  pub fine : FineKept kept
  pub adds : A

stepped-on : (o : Option Kept) (s : Bytes) (A : Type 0) (a : Optional Accumulator) (st : Accumulator) → SteppedAs o s A a → a ≡ Some st → SteppedOn o s A st
stepped-on none s A a st x e = absurd (subst (SteppedAs none s A) e x)
stepped-on (some k) s A a st x e = let z = subst (SteppedAs (some k) s A) e x in record { kept = k; same = refl; state = z.0; fine = z.1; adds = z.2 }

stepped-large : (o : Option Kept) (s : Bytes) (A : Type 0) (a : Optional Accumulator) → SteppedAs o s A a → a ≡ None → o ≡ none
stepped-large none s A a x e = refl
stepped-large (some k) s A a x e = absurd (subst (SteppedAs (some k) s A) e x)

behind-small : (k : Kept) → FineKept k → behind_of k ≤ 1024
unfolding behind_of
behind-small empty f = omega arith
behind-small over f = omega arith
behind-small (kept t) f = omega arith
behind-small (both s t) f = (large-no t f.1.small).0
behind-small (items e) f = omega arith
behind-small (last none) f = omega arith
behind-small (last (some t)) f = (large-no t f.small).0
behind-small (entries fs) f = omega arith
behind-small (arms ms) f = omega arith

-- the part that is lent to a child, and the work area when it is back
pub part-long : (work : Bytes) (k : ℕ) → length (take (length work - k) (drop k work)) ≡ length work - k
part-long work k = length-take-le (length work - k) (drop k work) (simp length-drop (omega arith))

abbrev pub Lent : Bytes → ℕ → Bytes
Lent work k = take (length work - k) (drop k work)

abbrev pub Back : Bytes → ℕ → Bytes → Bytes
Back work k ys = take k work ++ (ys ++ drop (length work - k) (drop k work))

abbrev pub Held : Accumulator → Accumulator → Type 0
Held st st' = (st'.len ≡ st.len) × (st'.second ≡ 0) × (st'.over ≡ st.over)

module _ {s : Bytes} {b : Binds} {h : Seen} {here depth : ℕ} {hd : Head} {hs ks : List Head} (B : Base s h here depth hd hs ks)
    {env : Env} (u : EnvAs s b env) {y₀ : Report} {work : Bytes} {c : Next} {y : Report} {st : Accumulator} {j : ℕ}
    (L : Loop s depth here hd hs ks env y₀ work c y st j) (room : 1024 * (depth + 40) ≤ length work) where
  -- the line is through with its children
  abbrev qq : Typing
  qq = typing_of (rule hd)

  kids-known : KidsOf qq (roles hd)
  kids-known = kids-at hd qq (base-typed B)

  pub len-inside : st.len ≤ length work
  len-inside = omega (arith, loop-len B L)

  module _ {kk : Hung} (hung : KidsAs h kk) where
    pub all-arity : kk.all ≡ arity hd
    all-arity = kids-arity s h hd kk B.is hung

    module _ (more : j < kk.all) where
      pub less : j < arity hd
      less = omega (arith, all-arity, more)

      pub role-asks : (h.count < 65536) × (h.flag < 4) × (j < 1048576)
      role-asks = let a = asks-kids s h hd B.is in (omega (arith, a.0), omega (arith, a.1), omega (arith, kids-small s h hd kk B.is hung, more))

      -- its line is one of the tree's
      pub child-known : FineAt s c.at
      child-known = record { head = (turn-first B L less).head; next = (turn-line B L less).next; line = (turn-line B L less).line }

      module _ (k : Seen) (read : KnownAs s c.at k) where
        pub child-ask : Counting y₀ (suc (length hs)) → AnyAsk s b k c (depth - 1) (Lent work st.len) y
        child-ask n = turn-ask B L less b k read u (Lent work st.len) (omega (arith, part-long work st.len, len-inside, room)) n

        pub child-name : {x : Bytes} → x ≡ slice k.name k.stop s → x ≡ map hex (turn-first B L less).head.name
        child-name z = z ∙ spelt-name (turn-read B L less k read).0

        pub stop-inside : k.stop ≤ length s
        stop-inside = (turn-read B L less k read).0.within

        module _ {ys : Bytes} {z : Report} {a : Result Walk TooLarge} (W : AnyWalked s b k c (depth - 1) (Lent work st.len) ys y z a) where
          child-walked : Walked env s c.line.0 (turn-first B L less).head (turn-first B L less).under (turn-first B L less).behind (Lent work st.len) ys y z a
          child-walked = W (turn_any B L less k read) env u

          -- it was too large
          pub child-large : (m : TooLarge) → a ≡ Err m → judged (result_of env here hd hs) ≡ halted m.0.0
          child-large m e = turn-halted B L less m.0.0 (walked-large (turn_res B L less) ys y z _ a m child-walked.answer e)

          back_is : Back work st.len ys ≡ take st.len work ++ ys
          back_is = back work ys st.len len-inside child-walked.long

          pub back_long : length (Back work st.len ys) ≡ length work
          back_long = omega (arith, ap length back_is, length-append (take st.len work) ys, length-take-le st.len work len-inside, child-walked.long, part-long work st.len, len-inside)

          pub child-long : (length (Back work st.len ys) ≡ length work) × (length z.writer.now.out.now ≡ length y₀.writer.now.out.now)
          child-long = (back_long, child-walked.as_long ∙ adds-long L.adds)

          module _ {len : ℕ} {c' : Next} (e : a ≡ Ok (record { len = len; cur = c' })) where
            child-done : DoneAs (turn_res B L less) ys y z (Behind env s c.line.0 (turn-first B L less).head (turn-first B L less).under (turn-first B L less).behind) len c'
            child-done = walked-done (turn_res B L less) ys y z _ a len c' child-walked.answer e

            pub child-countable : Counting y₀ (suc (length hs)) → Countable z
            child-countable n = turn-countable B L less z child-done.adds n

            module _ {st' : Accumulator} (held : Held st st') {x : Bytes} (spelt : x ≡ map hex (turn-first B L less).head.name) where
              before_child : Before qq L.kept
              unfolding arity
              before_child = form-before qq (length (roles hd)) j (roles hd) L.kept kids-known refl less L.form

              child-fine : Fine (turn_res B L less).ty
              child-fine = turn-fine B L less child-done.none

              pub step-at : StepAt qq (role_at hd j) (weak L.kept) (turn_res B L less).ty (turn-first B L less).head.name (Back work st.len ys) st' len x
              step-at =
                  let t = (turn_res B L less).ty in
                  let n : len ≤ 1024 = small-long child-done.type child-fine.small in
                  let m = loop-len B L in
                  record {
                    before = before-weak qq L.kept before_child;
                    at = record {
                      state = subst (λ (w : Bytes). StAs (weak L.kept) w st') (sym back_is) (leaves qq L.kept work ys st st' before_child L.state len-inside held);
                      fine = fine-weak L.kept L.fine;
                      child = subst (λ (w : Bytes). TypeAt w st'.len (st'.len + len) t) (sym back_is)
                          (subst (λ (p : ℕ). TypeAt (take st.len work ++ ys) p (p + len) t) (sym held.0) (type-behind work ys st.len len t len-inside child-done.type));
                      good = child-fine;
                    };
                    room = child-room qq depth (weak L.kept) t (Back work st.len ys) (st'.len + len) (base-pos B) (fine-weak L.kept L.fine) (low-weak (depth - 1) L.kept L.low) child-fine
                        (turn_level B L less) (omega (arith, held.0, n, m)) (omega (arith, back_long, room));
                    wide = omega (arith, back_long, room);
                    spelt = spelt;
                  }

              module _ {rl : Rule} {ro : CodeRole} (ruled : rl ≡ typing_rule qq) (played : ro ≡ child_role (role_at hd j)) where
                pub some-step : SomeStep rl ro (Back work st.len ys) st' len x
                some-step =
                    record { typing = qq; role = role_at hd j; kept = weak L.kept; ty = (turn_res B L less).ty; name = (turn-first B L less).head.name; rule_is = ruled; role_is = played; at = step-at }

                module _ {work'' : Bytes} {y'' : Report} {d : Optional Accumulator} (S : SteppedBy rl ro (Back work st.len ys) work'' st' len x z y'' d) where
                  steps : Steps (child qq (role_at hd j) (weak L.kept) (turn-first B L less).head.name (turn_res B L less).ty) (role_at hd j) (turn_res B L less).ty (Back work st.len ys) work'' z y'' d
                  steps = S qq (role_at hd j) (weak L.kept) (turn_res B L less).ty (turn-first B L less).head.name ruled played step-at

                  step_same : child qq (role_at hd j) (weak L.kept) (turn-first B L less).head.name (turn_res B L less).ty ≡ child qq (role_at hd j) L.kept (turn_res B L less).name (turn_res B L less).ty
                  step_same = child-weak qq (role_at hd j) L.kept (turn-first B L less).head.name (turn_res B L less).name (turn_res B L less).ty before_child (turn-name B L less)

                  pub step-long : length work'' ≡ length work
                  step-long = steps.long ∙ back_long

                  pub step-out : length y''.writer.now.out.now ≡ length y₀.writer.now.out.now
                  step-out = steps.as_long ∙ adds-long child-done.adds ∙ adds-long L.adds

                  pub step-large : d ≡ None → judged (result_of env here hd hs) ≡ halted here
                  step-large f = turn-large B L less child-done.none (sym step_same ∙ stepped-large _ work'' _ d steps.answer f)

                  pub step-on : {st'' : Accumulator} → d ≡ Some st'' → Loop s depth here hd hs ks env y₀ work'' c' y'' st'' (j + 1)
                  step-on {st''} f =
                      let o = stepped-on _ work'' _ d st'' steps.answer f in
                      subst (λ (n : ℕ). Loop s depth here hd hs ks env y₀ work'' c' y'' st'' n) (sym (add-one j))
                      (turn_on B L less o.kept c' z y'' work'' st'' child-done.none child-done.behind child-done.adds o.adds (sym step_same ∙ o.same) o.state o.fine)

    -- ## After the last child

    module _ (over : kk.all ≤ j) where
      end_none : drop j (roles hd) ≡ []
      unfolding arity
      end_none = drop_of_length-le (roles hd) {i = j} (omega (arith, all-arity, over))

      end-heads : L.heads ≡ ks
      end-heads = no-wants (subst (λ (ps : List Role). Met (map (wanted (depth - 1)) ps) L.heads ks) end_none L.met)

      end-at : EndAt qq L.kept hd s h work st
      unfolding arity
      end-at =
          record {
            ruled = base-typed B;
            head = B.is;
            state = L.state;
            fine = L.fine;
            whole = form-whole qq j (roles hd) L.kept kids-known (omega (arith, all-arity, over, L.upto)) L.form;
            room = end-room depth L.kept work (st.len + st.second) (base-pos B) L.fine L.low (omega (arith, loop-len B L, L.state.second, behind-small L.kept L.fine)) room;
            wide = omega (arith, room);
            variable = B.variable;
          }

      pub some_end : Counting y₀ (suc (length hs)) → SomeEnd s b h work st y
      some_end n =
          record {
            typing = qq;
            kept = L.kept;
            head = hd;
            env = env;
            at = end-at;
            bound = u;
            count = record { fill = omega (arith, n.fill, L.adds.end, L.text); faults = omega (arith, n.faults, L.adds.count, L.few) };
          }

      end-passed : kids here qq (start qq) (roles hd) (take (arity hd) (walk env (suc here) hs)) ≡ passed L.kept (L.faults ++ [])
      unfolding kids
      end-passed = L.same ∙ ap (λ (ps : List Role). after L.faults (kids here qq L.kept ps (take (length ps) (walk env c.line.0 L.heads)))) end_none

      end-behind : Behind env s here hd hs ks c
      end-behind =
          let n : c.line.0 + length ks ≡ here + suc (length hs) = omega (arith, L.count, ap length end-heads) in
          record {
            lines = subst (λ (x : List Head). Lines s c.at x (length s)) end-heads L.lines;
            count = n;
            above = L.above;
            walked = tree-ends (expr-in depth) B.met env here c.line.0 n;
          }

      pub end-walked : {work_e work' : Bytes} {z : Report} {e : Optional ℕ} (i : HirId) → i.0 ≡ here → EndedBy s b h work work' st y z e → length work ≡ length work_e
          → Walked env s here hd hs ks work_e work' y₀ z (ended e i c)
      end-walked {work_e} {work'} {z} {e} i same E l =
          let x = E qq L.kept hd env end-at u in
          record {
            answer = subst (λ (v : Ran). WalkedAs v work' y₀ z (Behind env s here hd hs ks) (ended e i c)) (sym (base-passed B env L.kept (L.faults ++ []) end-passed))
                (go (end qq env hd L.kept) e x.answer);
            long = x.long ∙ l;
            as_long = x.as_long ∙ adds-long L.adds;
          }
        where
          go : (v : Told) (e : Optional ℕ) → EndedAs v work' y z e → WalkedAs (concluded here v (L.faults ++ [])) work' y₀ z (Behind env s here hd hs ks) (ended e i c)
          go (told t gs) (Some r) a =
              (a.0, subst (λ (x : List Fault). Adds (x ++ gs) y₀ z) (sym (append-nil L.faults)) (adds_then L.adds a.1), end-behind)
          go (told t gs) None a = absurd a
          go too_much (Some r) a = absurd a
          go too_much None a = same

-- the answer of a line that is stopped
pub stopped-walked : {env : Env} {s : Bytes} {n : ℕ} {h : Head} {hs ks : List Head} {work work' : Bytes} {y z : Report} (m : TooLarge) → judged (result_of env n h hs) ≡ halted m.0.0
    → length work' ≡ length work → length z.writer.now.out.now ≡ length y.writer.now.out.now → Walked env s n h hs ks work work' y z (Err m)
stopped-walked {env} {s} {n} {h} {hs} {ks} {work} {work'} {y} {z} m e l o =
    record { answer = subst (λ (v : Ran). WalkedAs v work' y z (Behind env s n h hs ks) (Err m)) (sym e) refl; long = l; as_long = o }
