-- The walks with loops, at the values that their code has. Assumes nothing.
use mathlib.Core.Path.{◌≡◌, refl, sym, ◌∙◌, ap, subst}
use mathlib.Core.List.{List, [], ◌∷◌}
use Prim.Native.Nat.{ℕ, suc, ◌+◌, ◌-◌, ◌*◌, ◌≤◌, ◌<◌}
use native.Mathlib.Omega.{arith}
use lib.ListN.{length, get_or}
use lib.Seq.{slice}
use Rattle.semantics.specs.Bytes.{Bytes}
use Rattle.semantics.specs.Sheet.{Word, Head, Place, Typing, rank, row, rule, roles, arity, place, at, plain}
use Rattle.semantics.specs.Walk.{Env}
use Rattle.line.specs.Words.{word_of}
use Rattle.line.specs.Line.{HeadIs}
use Rattle.line.specs.Known.{KnownAs}
use Rattle.line.specs.Known.{FineAt}
use Rattle.line.specs.declared.line.Head.{Head as Seen}
use Rattle.line.specs.declared.line.HirId.{HirId}
use Rattle.hir.specs.Check.{KidsAs}
use Rattle.hir.specs.declared.valid.Kids.{Kids}
use Rattle.hir.specs.Check.{class_of}
use Rattle.hir.proofs.PlaceLaws.{class-is}
use Rattle.report.specs.declared.Report.{Report}
use Rattle.walk_run.specs.Run.{start}
use Rattle.exprs.specs.State.{StAs, FineKept}
use Rattle.exprs.specs.declared.state.Accumulator.{Accumulator}
use Rattle.exprs.specs.End.{Countable, Puts}
use Rattle.exprs.specs.declared.rule.Rule.{Rule}
use Rattle.exprs.specs.declared.role.Role.{Role as CodeRole}
use Rattle.std.specs.declared.option.Option.{Option}
use Rattle.std.specs.declared.option.Option.TheVariants.{Some, None}
use Rattle.exprs.specs.Rules.{typing_rule, line_rule, child_role}
use Rattle.infer.specs.Steps.{SomeStep, SteppedBy, EnvAs, SomeEnd, EndedBy}
use Rattle.infer.specs.declared.step.Env.{Env as Binds}
use Rattle.infer.specs.Walks.{TreeAt, ExprAsk, ExprWalked, AnyAsk, AnyWalked, PatternAsk, PatternWalked}
use Rattle.hir.specs.declared.valid.Next.{Next}
use Rattle.infer.specs.declared.walk.Walk.{Walk}
use Rattle.infer.specs.declared.walk.TooLarge.{TooLarge}
use Rattle.std.specs.Prelude.{Result, Ok, Err}
use Rattle.infer.proofs.WalkTable.{typing_of}
use Rattle.infer.proofs.WalkSmall.{asks-kids, kids-small, rule-number}
use Rattle.infer.proofs.WalkLoop.{Base, expr-base, base-pos, base-typed, Loop, loop-start}
use Rattle.infer.proofs.WalkTurn.{loop-inside}
use Rattle.infer.proofs.WalkInfer.{Lent, Back, Held, len-inside, less, role-asks, child-known, child-ask, child-name, stop-inside, child-large, child-countable, some-step, step-long, step-out, step-large, step-on, some_end, ended, end-walked, stopped-walked, child-long}
use Rattle.infer.proofs.WalkPattern.{PatLoop, pat-start, pat-inside, pat-todo, pat-line, pat-first, pat-next, pat-read, pat-ask, pat-long, pat-out, pat-large, pat-down, pat-on, pass, pass-room, pat-end}

-- ## What other functions say

abbrev pub RuleAs : Seen → Rule → Type 0
RuleAs h r = r ≡ line_rule (row (word_of h.word)).rule

abbrev pub RoleAs : Seen → ℕ → CodeRole → Type 0
RoleAs h j r = (s : Bytes) (hd : Head) → HeadIs s h hd → j < arity hd → r ≡ child_role (get_or (roles hd) j plain)

abbrev pub StartAs : Rule → Bytes → Bytes → Accumulator → Type 0
StartAs rl work_e work st = (length work ≡ length work_e) × ((q : Typing) → rl ≡ typing_rule q → StAs (start q) work st × FineKept (start q))

abbrev pub Past : Next → ℕ → ℕ → Type 0
Past c next line = (c.at ≡ next) × (c.line.0 ≡ line + 1)

-- ## `infer_expr`

pub record InferInv (s : Bytes) (b : Binds) (h : Seen) (depth : ℕ) (work₀ : Bytes) (here : HirId) (y₀ : Report) (work : Bytes) (c : Next) (y : Report) (st : Accumulator) (j : ℕ) : Type 0 where
  pub all : (hd : Head) (hs ks : List Head) (env : Env) → Base s h here.0 depth hd hs ks → EnvAs s b env → Loop s depth here.0 hd hs ks env y₀ work c y st j
  pub long : length work ≡ length work₀
  pub as_long : length y.writer.now.out.now ≡ length y₀.writer.now.out.now
  pub keeps : y.writer.ghost_name ≡ y₀.writer.ghost_name
  pub keeps_out : y.writer.now.out.ghost_name ≡ y₀.writer.now.out.ghost_name

module _ {s : Bytes} {b : Binds} {h : Seen} {cur : Next} {depth : ℕ} {work_e : Bytes} {y₀ : Report} (x : ExprAsk s b h cur depth work_e y₀) where
  pub infer-kids : (h.count ≤ 9999) × (h.flag ≤ 3)
  infer-kids = asks-kids s h x.at.tree.head x.at.is

  pub infer-past : cur.line.0 < 4294967295
  infer-past = omega (arith, x.at.tree.above, x.at.tree.line.on, x.at.tree.line.inside, x.at.tree.room)

  pub infer-wide : 1024 ≤ length work_e
  infer-wide = omega (arith, x.room)

  pub infer-pos : 1 ≤ depth
  infer-pos = base-pos (expr-base x.at)

  pub infer-start : {work : Bytes} {c : Next} {st : Accumulator} {rl : Rule} → Past c h.next cur.line.0 → RuleAs h rl → StartAs rl work_e work st
      → InferInv s b h depth work cur.line y₀ work c y₀ st 0
  infer-start {work} {c} {st} {rl} p r a =
      record {
        all = λ hd hs ks env B u. loop-start B env work y₀ c st p (a.1 (typing_of (rule hd)) (rule-number hd (typing_of (rule hd)) rl (base-typed B) (r ∙ ap (λ (v : Word). line_rule (row v).rule) B.is.word)));
        long = refl;
        as_long = refl;
        keeps = refl;
        keeps_out = refl;
      }

  module _ {work₀ work : Bytes} {c : Next} {y : Report} {st : Accumulator} {j : ℕ} (i : InferInv s b h depth work₀ cur.line y₀ work c y st j) (l₀ : length work₀ ≡ length work_e) where
    infer-loop : Loop s depth cur.line.0 x.at.tree.head x.at.tree.under x.at.tree.rest x.env y₀ work c y st j
    infer-loop = i.all x.at.tree.head x.at.tree.under x.at.tree.rest x.env (expr-base x.at) x.bound

    infer-room : 1024 * (depth + 40) ≤ length work
    infer-room = omega (arith, x.room, l₀, i.long)

    pub infer-inside : c.at ≤ length s
    infer-inside = loop-inside (expr-base x.at) infer-loop

    pub infer-len : st.len ≤ length work
    infer-len = len-inside (expr-base x.at) x.bound infer-loop infer-room

    module _ {kk : Kids} (hung : KidsAs h kk) where
      module _ (more : j < kk.all) where
        pub infer-role : (h.count < 65536) × (h.flag < 4) × (j < 1048576)
        infer-role = role-asks (expr-base x.at) x.bound infer-loop infer-room hung more

        pub infer-fine : FineAt s c.at
        infer-fine = child-known (expr-base x.at) x.bound infer-loop infer-room hung more

        module _ (k : Seen) (read : KnownAs s c.at k) where
          pub infer-child : AnyAsk s b k c (depth - 1) (Lent work st.len) y
          infer-child = child-ask (expr-base x.at) x.bound infer-loop infer-room hung more k read x.count

          pub infer-stop : k.stop ≤ length s
          infer-stop = stop-inside (expr-base x.at) x.bound infer-loop infer-room hung more k read

          module _ {ys : Bytes} {z : Report} {a : Result Walk TooLarge} (W : AnyWalked s b k c (depth - 1) (Lent work st.len) ys y z a) where
            -- the child was too large
            pub infer-out : length z.writer.now.out.now ≡ length y₀.writer.now.out.now
            infer-out = (child-long (expr-base x.at) x.bound infer-loop infer-room hung more k read W).1

            pub infer-back : length (Back work st.len ys) ≡ length work_e
            infer-back = (child-long (expr-base x.at) x.bound infer-loop infer-room hung more k read W).0 ∙ i.long ∙ l₀

            pub infer-halt : (m : TooLarge) → a ≡ Err m → ExprWalked s b h cur depth work_e (Back work st.len ys) y₀ z (Err m)
            infer-halt m e ζ env u =
                let B = expr-base ζ in
                stopped-walked m (child-large B u (i.all ζ.tree.head ζ.tree.under ζ.tree.rest env B u) infer-room hung more k read W m e) infer-back infer-out

            module _ {len : ℕ} {c' : Next} (e : a ≡ Ok (record { len = len; cur = c' })) {st' : Accumulator} (held : Held st st') {name : Bytes} (spelt : name ≡ slice k.name k.stop s)
                {rl : Rule} {ro : CodeRole} (ruled : RuleAs h rl) (played : RoleAs h j ro) where
              ruled-as : {hd : Head} {hs ks : List Head} → Base s h cur.line.0 depth hd hs ks → rl ≡ typing_rule (typing_of (rule hd))
              ruled-as {hd} B = rule-number hd (typing_of (rule hd)) rl (base-typed B) (ruled ∙ ap (λ (v : Word). line_rule (row v).rule) B.is.word)

              pub infer-step : SomeStep rl ro (Back work st.len ys) st' len name × Countable z
              infer-step =
                  let B = expr-base x.at in (
                    some-step B x.bound infer-loop infer-room hung more k read W e held (child-name B x.bound infer-loop infer-room hung more k read spelt) (ruled-as B)
                        (played s x.at.tree.head B.is (less B x.bound infer-loop infer-room hung more)),
                    child-countable B x.bound infer-loop infer-room hung more k read W e x.count,
                  )

              module _ {work'' : Bytes} {y'' : Report} {d : Option Accumulator} (S : SteppedBy rl ro (Back work st.len ys) work'' st' len name z y'' d) where
                pub infer-after : (length work'' ≡ length work) × (length y''.writer.now.out.now ≡ length y₀.writer.now.out.now)
                infer-after =
                    let B = expr-base x.at in
                    let n = child-name B x.bound infer-loop infer-room hung more k read spelt in
                    let r = played s x.at.tree.head B.is (less B x.bound infer-loop infer-room hung more) in
                    (step-long B x.bound infer-loop infer-room hung more k read W e held n (ruled-as B) r S, step-out B x.bound infer-loop infer-room hung more k read W e held n (ruled-as B) r S)

                -- what is kept is too large
                pub infer-large : d ≡ None → ExprWalked s b h cur depth work_e work'' y₀ y'' (Err (record { 0 = cur.line }))
                infer-large f ζ env u =
                    let B = expr-base ζ in
                    let L = i.all ζ.tree.head ζ.tree.under ζ.tree.rest env B u in
                    stopped-walked (record { 0 = cur.line })
                    (step-large B u L infer-room hung more k read W e held (child-name B u L infer-room hung more k read spelt) (ruled-as B)
                    (played s ζ.tree.head B.is (less B u L infer-room hung more)) S f)
                    (infer-after.0 ∙ i.long ∙ l₀) infer-after.1

                pub infer-on : {st'' : Accumulator} → d ≡ Some st'' → y''.writer.ghost_name ≡ y.writer.ghost_name → y''.writer.now.out.ghost_name ≡ y.writer.now.out.ghost_name → InferInv s b h depth work₀ cur.line y₀ work'' c' y'' st'' (j + 1)
                infer-on f n o =
                    record {
                      all = λ hd hs ks env B u. let L = i.all hd hs ks env B u in
                          step-on B u L infer-room hung more k read W e held (child-name B u L infer-room hung more k read spelt) (ruled-as B)
                          (played s hd B.is (less B u L infer-room hung more)) S f;
                      long = infer-after.0 ∙ i.long;
                      as_long = infer-after.1;
                      keeps = n ∙ i.keeps;
                      keeps_out = o ∙ i.keeps_out;
                    }

      module _ (over : kk.all ≤ j) where
        pub infer-finish : SomeEnd s b h work st y
        infer-finish = some_end (expr-base x.at) x.bound infer-loop infer-room hung over x.count

        infer-end : {work' : Bytes} {z : Report} {e : Option ℕ} → EndedBy s b h work work' st y z e → ExprWalked s b h cur depth work_e work' y₀ z (ended e cur.line c)
        infer-end E ζ env u =
            let B = expr-base ζ in
            end-walked B u (i.all ζ.tree.head ζ.tree.under ζ.tree.rest env B u) infer-room hung over cur.line refl E (i.long ∙ l₀)

        module _ {work' : Bytes} {z : Report} {e : Option ℕ} (E : EndedBy s b h work work' st y z e) where
          pub infer-typed : {r : ℕ} → e ≡ Some r → ExprWalked s b h cur depth work_e work' y₀ z (Ok (record { len = r; cur = c }))
          infer-typed q = subst (λ (x : Option ℕ). ExprWalked s b h cur depth work_e work' y₀ z (ended x cur.line c)) q (infer-end E)

          pub infer-untyped : e ≡ None → ExprWalked s b h cur depth work_e work' y₀ z (Err (record { 0 = cur.line }))
          infer-untyped q = subst (λ (x : Option ℕ). ExprWalked s b h cur depth work_e work' y₀ z (ended x cur.line c)) q (infer-end E)

-- ## `check_pattern`

pub record PatternInv (s : Bytes) (b : Binds) (depth : ℕ) (work₀ : Bytes) (c₀ : Next) (y₀ : Report) (work : Bytes) (c : Next) (y : Report) (todo : ℕ) : Type 0 where
  pub all : (p : Place) (t : TreeAt (at p depth) s c₀) → 3 < rank p → (env : Env) → EnvAs s b env → PatLoop s depth c₀.line.0 t.head t.under t.rest env y₀ c y todo
  pub long : length work ≡ length work₀
  pub as_long : length y.writer.now.out.now ≡ length y₀.writer.now.out.now
  pub keeps : y.writer.ghost_name ≡ y₀.writer.ghost_name
  pub keeps_out : y.writer.now.out.ghost_name ≡ y₀.writer.now.out.ghost_name

pub pattern-start : {s : Bytes} {b : Binds} {depth : ℕ} {work : Bytes} {c : Next} {y : Report} → PatternInv s b depth work c y work c y 1
pattern-start {y = y} = record { all = λ p t i env u. pat-start t i env y; long = refl; as_long = refl; keeps = refl; keeps_out = refl }

module _ {s : Bytes} {b : Binds} {c₀ : Next} {depth : ℕ} {work₀ : Bytes} {y₀ : Report} (x : PatternAsk s b c₀ depth work₀ y₀) {work : Bytes} {c : Next} {y : Report} {todo : ℕ}
    (i : PatternInv s b depth work₀ c₀ y₀ work c y todo) where
  pattern-loop : PatLoop s depth c₀.line.0 x.at.tree.head x.at.tree.under x.at.tree.rest x.env y₀ c y todo
  pattern-loop = i.all x.at.place x.at.tree x.at.inside x.env x.bound

  pub pattern-inside : c.at ≤ length s
  pattern-inside = pat-inside pattern-loop

  pub pattern-line : c.line.0 ≤ length s + 1
  pattern-line = pat-line pattern-loop

  pub pattern-todo : todo < 4294967294
  pattern-todo = omega (arith, pat-todo pattern-loop, x.at.tree.room)

  pub pattern-room : 1024 ≤ length work
  pattern-room = omega (arith, x.room, i.long)

  pub pattern-fine : 0 < todo → FineAt s c.at
  pattern-fine more = record { head = (pat-first pattern-loop more).head; next = (pat-next pattern-loop more).next; line = (pat-next pattern-loop more).line }

  module _ (more : 0 < todo) (g : Seen) (read : KnownAs s c.at g) where
    pattern-class : {hd : Head} {hs ks : List Head} {env : Env} (L : PatLoop s depth c₀.line.0 hd hs ks env y₀ c y todo) → class_of (Ok g) ≡ rank (place (pat-first L more).head)
    pattern-class L = class-is s g (pat-first L more).head (pat-read L more g read).0

    module _ (is : class_of (Ok g) ≡ 13) where
      is_at : {hd : Head} {hs ks : List Head} {env : Env} (L : PatLoop s depth c₀.line.0 hd hs ks env y₀ c y todo) → rank (place (pat-first L more).head) ≡ 13
      is_at L = sym (pattern-class L) ∙ is

      pub pattern-ask : ExprAsk s b g c depth work y
      pattern-ask = pat-ask pattern-loop more g read (is_at pattern-loop) x.bound (omega (arith, x.room, i.long)) x.count

      module _ {work' : Bytes} {z : Report} {a : Result Walk TooLarge} (W : ExprWalked s b g c depth work work' y z a) where
        pub pattern-long : length work' ≡ length work₀
        pattern-long = pat-long pattern-loop more g read (is_at pattern-loop) x.bound W ∙ i.long

        pub pattern-out : length z.writer.now.out.now ≡ length y₀.writer.now.out.now
        pattern-out = pat-out pattern-loop more g read (is_at pattern-loop) x.bound W

        pub pattern-stop : (m : TooLarge) → a ≡ Err m → PatternWalked s b c₀ depth work₀ work' y₀ z (Err m)
        pattern-stop m e ζ env u =
            let L = i.all ζ.place ζ.tree ζ.inside env u in
            stopped-walked m (pat-large L more g read (is_at L) u W m e) pattern-long pattern-out

        module _ {len : ℕ} {c' : Next} (e : a ≡ Ok (record { len = len; cur = c' })) where
          pub pattern-down : suc c.line.0 ≤ c'.line.0
          pattern-down = pat-down pattern-loop more g read (is_at pattern-loop) x.bound W e

          pub pattern-on : z.writer.ghost_name ≡ y.writer.ghost_name → z.writer.now.out.ghost_name ≡ y.writer.now.out.ghost_name → PatternInv s b depth work₀ c₀ y₀ work' c' z (todo - 1)
          pattern-on n o = record { all = λ p t q env u. let L = i.all p t q env u in pat-on L more g read (is_at L) u W e; long = pattern-long; as_long = pattern-out; keeps = n ∙ i.keeps; keeps_out = o ∙ i.keeps_out }

    pub pattern-kids : (g.count ≤ 9999) × (g.flag ≤ 3)
    pattern-kids = asks-kids s g (pat-first pattern-loop more).head (pat-read pattern-loop more g read).0

    pub pattern-small : {kk : Kids} → KidsAs g kk → kk.all < 131072
    pattern-small {kk} = kids-small s g (pat-first pattern-loop more).head kk (pat-read pattern-loop more g read).0

    module _ (isn't : class_of (Ok g) ≡ 13 → ⊥) {kk : Kids} (hung : KidsAs g kk) where
      pub pattern-past : c.line.0 < 4294967295
      pattern-past = pass-room pattern-loop more g read (λ e. isn't (pattern-class pattern-loop ∙ e)) hung

      pub pattern-pass : (c' : Next) → Past c' g.next c.line.0 → PatternInv s b depth work₀ c₀ y₀ work c' y (todo - 1 + kk.all)
      pattern-pass c' f =
          record { all = λ p t q env u. let L = i.all p t q env u in pass L more g read (λ e. isn't (pattern-class L ∙ e)) hung c' f; long = i.long; as_long = i.as_long; keeps = i.keeps; keeps_out = i.keeps_out }

  pub pattern-end : todo ≤ 0 → {work' : Bytes} {len : ℕ} → Puts (80 ∷ 44 ∷ []) work work' len → PatternWalked s b c₀ depth work₀ work' y₀ y (Ok (record { len = len; cur = c }))
  pattern-end over p ζ env u =
      rw (p.text, p.end) (pat-end (i.all ζ.place ζ.tree ζ.inside env u) over work₀ work ζ.passes ζ.tree.met ζ.inside (omega (arith, pattern-room)) i.long)
