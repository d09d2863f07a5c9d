-- The loop of `infer_expr` on plain values: what is known after j children, and what a child more makes of it. Assumes nothing.
use mathlib.Core.Path.{◌≡◌, refl, sym, ◌∙◌, ap, subst}
use mathlib.Core.List.{List, [], ◌∷◌, map}
use mathlib.Core.Option.{some}
use Prim.Native.Nat.{ℕ, suc, ◌+◌, ◌-◌, ◌*◌, ◌≤◌, ◌<◌}
use native.Mathlib.Omega.{arith}
use lib.ListN.{length, take, drop}
use Rattle.semantics.specs.Bytes.{Bytes}
use Rattle.semantics.specs.Sheet.{Head, expression_place, Role, Rule, rule, roles, arity, rank, place, at, wanted, deeper, var_word, variable_of}
use Rattle.semantics.specs.Walk.{Env, Res, Fault, walk}
use Rattle.semantics.proofs.All.{All, all_take}
use Rattle.line.specs.Line.{HeadIs}
use Rattle.line.specs.declared.line.Head.{Head as Seen}
use Rattle.hir.specs.Lines.{Lines, Met}
use Rattle.hir.proofs.LinesLaws.{Inner, AllIn, inner-under}
use Rattle.report.proofs.ReportLaws.{adds_none}
use Rattle.report.specs.Report.{faults_text, Adds}
use Rattle.report.specs.declared.Report.{Report}
use Rattle.walk_run.specs.Run.{Kept, start, end, Kids, stopped, passed, after, kids, halted, concluded, closed, run_step, judged}
use Rattle.walk_run.specs.Depth.{levels}
use Rattle.walk_run.proofs.Fine.{walk_fine}
use Rattle.walk_run.proofs.Theorem.{step_run}
use Rattle.exprs.specs.State.{StAs, FineKept}
use Rattle.exprs.specs.declared.state.Accumulator.{Accumulator}
use Rattle.bounds.proofs.Heights.{depth-fits, children-low}
use Rattle.infer.specs.Walks.{result_of, ExprAt}
use Rattle.hir.specs.declared.valid.Next.{Next}
use Rattle.infer.proofs.WalkTable.{typing_of, typed_at}
use Rattle.infer.proofs.WalkTrees.{met-fits, met-rank, met-under, kids-many}
use Rattle.infer.proofs.WalkKept.{Form, form-start, LowKept, low-start}
use Rattle.infer.proofs.WalkSmall.{after_none}
use Rattle.infer.proofs.EndLaws.{variable-read}

-- ## An expression's line, and what hangs under it

pub record Base (s : Bytes) (h : Seen) (here depth : ℕ) (hd : Head) (hs ks : List Head) : Type 0 where
  pub is : HeadIs s h hd
  pub lines : Lines s h.next hs (length s)
  pub met : Met (at expression_place depth ∷ []) (hd ∷ hs) ks
  pub above : here ≤ h.next
  pub room : length s < 4294967294
  pub variable : hd.word ≡ var_word → hd.var ≡ some (variable_of hd)

pub expr-base : {s : Bytes} {h : Seen} {c : Next} {depth : ℕ} (a : ExprAt s h c depth) → Base s h c.line.0 depth a.tree.head a.tree.under a.tree.rest
expr-base {s} a =
    record {
      is = a.is;
      lines = subst (λ (x : ℕ). Lines s x a.tree.under (length s)) (sym a.next) a.tree.lines;
      met = a.tree.met;
      above = omega (arith, a.tree.above, a.tree.line.on, a.next);
      room = a.tree.room;
      variable = variable-read a.tree.line;
    }

pub expr-in : (e : ℕ) → Inner (at expression_place e)
unfolding rank
expr-in e = omega arith

expr-deeper : (e : ℕ) → deeper (at expression_place e) ≡ e - 1
unfolding rank
expr-deeper e = refl

expr_rank : rank expression_place ≡ 13
unfolding rank
expr_rank = refl

module _ {s : Bytes} {h : Seen} {here depth : ℕ} {hd : Head} {hs ks : List Head} (B : Base s h here depth hd hs ks) where
  pub base-rank : rank (place hd) ≡ 13
  base-rank = met-rank B.met ∙ expr_rank

  pub base-pos : 1 ≤ depth
  base-pos = depth-fits expression_place depth hd expr_rank (met-fits B.met).1

  pub base-typed : rule hd ≡ Rule.typed (typing_of (rule hd))
  base-typed = typed_at hd base-rank

  -- the wants under it
  pub base-under : Met (map (wanted (depth - 1)) (roles hd)) hs ks
  base-under = subst (λ (x : ℕ). Met (map (wanted x) (roles hd)) hs ks) (expr-deeper depth) (met-under (expr-in depth) B.met)

  pub base-in : AllIn (map (wanted (depth - 1)) (roles hd))
  base-in =
      let u = inner-under (at expression_place depth) hd (expr-in depth) (met-fits B.met).0 in
      subst AllIn (u.0 ∙ ap (λ (x : ℕ). map (wanted x) (roles hd)) (expr-deeper depth)) u.1

  -- what the line comes to, as the code runs
  pub base-run : (env : Env) → judged (result_of env here hd hs)
      ≡ closed here (kids here (typing_of (rule hd)) (start (typing_of (rule hd))) (roles hd) (take (arity hd) (walk env (suc here) hs))) (end (typing_of (rule hd)) env hd)
  unfolding run_step
  base-run env =
      step_run env here hd (typing_of (rule hd)) base-typed (take (arity hd) (walk env (suc here) hs)) (all_take (arity hd) (walk_fine env (suc here) hs))
      (kids-many (expr-in depth) B.met env (suc here))

  -- stopped among its children
  pub base-stopped : (env : Env) (l : ℕ) → kids here (typing_of (rule hd)) (start (typing_of (rule hd))) (roles hd) (take (arity hd) (walk env (suc here) hs)) ≡ stopped l
      → judged (result_of env here hd hs) ≡ halted l
  base-stopped env l e = base-run env ∙ ap (λ (x : Kids). closed here x (end (typing_of (rule hd)) env hd)) e

  -- or through with them
  pub base-passed : (env : Env) (k : Kept) (fs : List Fault)
      → kids here (typing_of (rule hd)) (start (typing_of (rule hd))) (roles hd) (take (arity hd) (walk env (suc here) hs)) ≡ passed k fs
      → judged (result_of env here hd hs) ≡ concluded here (end (typing_of (rule hd)) env hd k) fs
  base-passed env k fs e = base-run env ∙ ap (λ (x : Kids). closed here x (end (typing_of (rule hd)) env hd)) e

-- ## After j children

abbrev left : List Role → Env → ℕ → List Head → List Res
left ps env n hs = take (length ps) (walk env n hs)

pub record Loop (s : Bytes) (depth here : ℕ) (hd : Head) (hs ks : List Head) (env : Env) (y₀ : Report) (work : Bytes) (c : Next) (y : Report) (st : Accumulator) (j : ℕ) : Type 0 where
  pub heads : List Head
  pub kept : Kept
  pub faults : List Fault
  pub upto : j ≤ arity hd
  pub lines : Lines s c.at heads (length s)
  pub met : Met (map (wanted (depth - 1)) (drop j (roles hd))) heads ks
  pub inner : AllIn (map (wanted (depth - 1)) (drop j (roles hd)))
  pub count : c.line.0 + length heads ≡ here + suc (length hs)
  pub above : c.line.0 ≤ c.at + 1
  pub same : kids here (typing_of (rule hd)) (start (typing_of (rule hd))) (roles hd) (take (arity hd) (walk env (suc here) hs))
      ≡ after faults (kids here (typing_of (rule hd)) kept (drop j (roles hd)) (left (drop j (roles hd)) env c.line.0 heads))
  pub low_kids : All (λ r. levels r.ty ≤ depth - 1) (left (drop j (roles hd)) env c.line.0 heads)
  pub state : StAs kept work st
  pub fine : FineKept kept
  pub form : Form (typing_of (rule hd)) j kept
  pub low : LowKept (depth - 1) kept
  pub adds : Adds faults y₀ y
  pub text : length (faults_text faults) + 2048 * length heads ≤ 2048 * length hs
  pub few : length faults + 2048 * length heads ≤ 2048 * length hs

pub loop-start : {s : Bytes} {h : Seen} {here depth : ℕ} {hd : Head} {hs ks : List Head} → Base s h here depth hd hs ks → (env : Env) (work : Bytes) (y : Report) (c : Next) (st : Accumulator)
    → (c.at ≡ h.next) × (c.line.0 ≡ here + 1) → StAs (start (typing_of (rule hd))) work st × FineKept (start (typing_of (rule hd)))
    → Loop s depth here hd hs ks env y work c y st 0
unfolding arity faults_text
loop-start {s} {h} {here} {depth} {hd} {hs} {ks} B env work y c st e a =
    let q = typing_of (rule hd) in
    let n : suc here ≡ c.line.0 = omega (arith, e.1) in
    record {
      heads = hs;
      kept = start q;
      faults = [];
      upto = omega arith;
      lines = subst (λ (x : ℕ). Lines s x hs (length s)) (sym e.0) B.lines;
      met = base-under B;
      inner = base-in B;
      count = omega (arith, e.1);
      above = omega (arith, e.0, e.1, B.above);
      same = ap (λ (x : ℕ). kids here q (start q) (roles hd) (take (length (roles hd)) (walk env x hs))) n ∙ sym (after_none _);
      low_kids = subst (λ (x : ℕ). All (λ r. levels r.ty ≤ depth - 1) (take (length (roles hd)) (walk env x hs))) n
          (subst (λ (x : ℕ). All (λ r. levels r.ty ≤ x) (take (length (roles hd)) (walk env (suc here) hs))) (omega (arith, base-pos B))
          (children-low env here depth hd hs ks B.met));
      state = a.0;
      fine = a.1;
      form = form-start q;
      low = low-start (depth - 1) q;
      adds = adds_none;
      text = omega arith;
      few = omega arith;
    }
