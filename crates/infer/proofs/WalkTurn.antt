-- A turn of `infer_expr`'s loop. Assumes nothing.
use mathlib.Core.Path.{◌≡◌, refl, sym, ◌∙◌, ap, subst}
use mathlib.Core.List.{List, [], ◌∷◌, ◌++◌, map}
use mathlib.Core.Option.{Option, none, some}
use Prim.Native.Nat.{ℕ, suc, ◌+◌, ◌-◌, ◌*◌, ◌≤◌, ◌<◌}
use native.Mathlib.Omega.{arith}
use lib.ListN.{length, get_or, take, drop, length-append}
use lib.Seq.{drop-cons}
use Rattle.semantics.specs.Bytes.{Bytes}
use Rattle.semantics.specs.Sheet.{Head, Place, expression_place, entry_place, Role, plain, condition, answer, inner, Typing, mapping, entering, rule, roles, arity, rank, Want, at, wanted}
use Rattle.semantics.specs.Walk.{Env, Res, Fault, asked, step, walk}
use Rattle.semantics.specs.Calls.{first_large}
use Rattle.semantics.proofs.All.{All, also, all_drop}
use Rattle.semantics.proofs.Regular.{regular-true}
use Rattle.line.specs.Line.{HeadIs}
use Rattle.line.specs.Known.{KnownAs}
use Rattle.line.specs.declared.line.Head.{Head as Seen}
use Rattle.exprs.specs.End.{Countable}
use Rattle.hir.specs.Lines.{Lines, Met}
use Rattle.hir.proofs.LinesLaws.{Inner, AllIn, one_in}
use Rattle.ty.specs.Parts.{TypeAt}
use Rattle.unify_run.specs.Run.{given}
use Rattle.report.proofs.ReportLaws.{adds_then, faults-short}
use Rattle.report.specs.Report.{Adds}
use Rattle.report.specs.declared.Report.{Report}
use Rattle.walk_run.specs.Run.{Kept, start, child, Kids, stopped, after, halt_at, kids, Ran, halted, judged}
use Rattle.walk_run.specs.Depth.{levels}
use Rattle.walk_run.proofs.Fine.{FineRes, walk_fine}
use Rattle.walk_run.proofs.Silent.{entering-run}
use Rattle.exprs.specs.State.{StAs, Fine, FineKept}
use Rattle.exprs.specs.declared.state.Accumulator.{Accumulator}
use Rattle.bounds.proofs.Growth.{tree-faults, asked-few}
use Rattle.infer.specs.Steps.{EnvAs}
use Rattle.infer.specs.declared.step.Env.{Env as Binds}
use Rattle.infer.specs.Walks.{result_of, Counting, Behind, WalkedAs, AnyAt, AnyAsk}
use Rattle.hir.specs.declared.valid.Next.{Next}
use Rattle.infer.specs.declared.walk.Walk.{Walk}
use Rattle.infer.specs.declared.walk.TooLarge.{TooLarge}
use Rattle.std.specs.Prelude.{Result, Ok, Err}
use Rattle.infer.proofs.WalkTable.{typing_of, entering-at, entry-arity, KidsOf, kids-at}
use Rattle.infer.proofs.WalkTrees.{lines-in, FirstLine, first-line, First, first-met, met-rank, kids-many, walk_first, judged-none, judged-some}
use Rattle.infer.proofs.WalkKept.{Form, if_kept, form-step, LowKept, low_step, place-small}
use Rattle.infer.proofs.WalkSmall.{text-long, after_two}
use Rattle.infer.proofs.WalkLoop.{Base, base-pos, base-typed, base-stopped, Loop}

-- ## Small facts

all_first : {A : Type 0} {P : A → Type 0} {x : A} {xs : List A} → All P (x ∷ xs) → P x
all_first (also p ps) = p

all_rest : {A : Type 0} {P : A → Type 0} {x : A} {xs : List A} → All P (x ∷ xs) → All P xs
all_rest (also p ps) = ps

in-first : {w : Want} {ws : List Want} → AllIn (w ∷ ws) → Inner w × AllIn ws
in-first (one_in i is) = (i, is)

one_only : (rs : List Res) → length rs ≡ 1 → (r : Res) × (rs ≡ r ∷ [])
one_only [] e = absurd (omega arith)
one_only (r ∷ []) e = (r, refl)
one_only (r ∷ r' ∷ rs) e = absurd (omega arith)

pub result-fine : (env : Env) (n : ℕ) (h : Head) (hs : List Head) → FineRes (result_of env n h hs)
unfolding walk
result-fine env n h hs = all_first (walk_fine env n (h ∷ hs))

-- the place that a role wants
abbrev pub placed : Role → Place
placed plain = expression_place
placed condition = expression_place
placed answer = expression_place
placed (inner q) = q

pub wanted-at : (d : ℕ) (p : Role) → wanted d p ≡ at (placed p) d
wanted-at d plain = refl
wanted-at d condition = refl
wanted-at d answer = refl
wanted-at d (inner q) = refl

-- ## Children run

halt-some : (o : Option ℕ) (l : ℕ) (x : Kids) → o ≡ some l → halt_at o x ≡ stopped l
halt-some none l x e = absurd (let z : ◌≡◌ {A = ℕ} 0 1 = cc in omega arith)
halt-some (some m) l x e = let z : m ≡ l = cc in ap stopped z

halt-none : (o : Option ℕ) (x : Kids) → o ≡ none → halt_at o x ≡ x
halt-none none x e = refl
halt-none (some m) x e = absurd (let z : ◌≡◌ {A = ℕ} 0 1 = cc in omega arith)

given-none : (o : Option Kept) (n : ℕ) (fs : List Fault) (f : Kept → Kids) → o ≡ none → after fs (given o (stopped n) f) ≡ stopped n
given-none none n fs f e = refl
given-none (some k) n fs f e = absurd (let z : ◌≡◌ {A = ℕ} 0 1 = cc in omega arith)

given-some : (o : Option Kept) (n : ℕ) (k : Kept) (fs : List Fault) (f : Kept → Kids) → o ≡ some k → after fs (given o (stopped n) f) ≡ after fs (f k)
given-some none n k fs f e = absurd (let z : ◌≡◌ {A = ℕ} 0 1 = cc in omega arith)
given-some (some i) n k fs f e = let z : i ≡ k = cc in ap (λ (x : Kept). after fs (f x)) z

module _ (n : ℕ) (q : Typing) (k : Kept) (p : Role) (ps : List Role) (r : Res) (rs : List Res) where
  kids-halted : (l : ℕ) → first_large r.tests ≡ some l → kids n q k (p ∷ ps) (r ∷ rs) ≡ stopped l
  unfolding kids
  kids-halted l e = halt-some (first_large r.tests) l _ e

  kids-large : first_large r.tests ≡ none → child q p k r.name r.ty ≡ none → kids n q k (p ∷ ps) (r ∷ rs) ≡ stopped n
  unfolding kids
  kids-large e d = halt-none (first_large r.tests) _ e ∙ given-none (child q p k r.name r.ty) n (r.faults ++ asked p r.ty) _ d

  kids-on : (i : Kept) → first_large r.tests ≡ none → child q p k r.name r.ty ≡ some i → kids n q k (p ∷ ps) (r ∷ rs) ≡ after (r.faults ++ asked p r.ty) (kids n q i ps rs)
  unfolding kids
  kids-on i e d = halt-none (first_large r.tests) _ e ∙ given-some (child q p k r.name r.ty) n i (r.faults ++ asked p r.ty) (λ x. kids n q x ps rs) d

-- ## What a walk's answer says

pub record DoneAs (r : Res) (work' : Bytes) (y z : Report) (B : Next → Type 0) (len : ℕ) (c : Next) : Type 0 where
  pub none : first_large r.tests ≡ none
  pub type : TypeAt work' 0 len r.ty
  pub adds : Adds r.faults y z
  pub behind : B c

pub walked-done : (r : Res) (work' : Bytes) (y z : Report) (B : Next → Type 0) (a : Result Walk TooLarge) (len : ℕ) (c : Next) → WalkedAs (judged r) work' y z B a → a ≡ Ok (record { len = len; cur = c })
    → DoneAs r work' y z B len c
walked-done r work' y z B a len c w e = go (first_large r.tests) refl
  where
    go : (o : Option ℕ) → first_large r.tests ≡ o → DoneAs r work' y z B len c
    go none f =
        let x = subst (λ (j : Ran). WalkedAs j work' y z B (Ok (record { len = len; cur = c }))) (judged-none r f) (subst (WalkedAs (judged r) work' y z B) e w) in
        record { none = f; type = x.0; adds = x.1; behind = x.2 }
    go (some l) f = absurd (subst (λ (j : Ran). WalkedAs j work' y z B (Ok (record { len = len; cur = c }))) (judged-some r l f) (subst (WalkedAs (judged r) work' y z B) e w))

pub walked-large : (r : Res) (work' : Bytes) (y z : Report) (B : Next → Type 0) (a : Result Walk TooLarge) (m : TooLarge) → WalkedAs (judged r) work' y z B a → a ≡ Err m
    → first_large r.tests ≡ some m.0.0
walked-large r work' y z B a m w e = go (first_large r.tests) refl
  where
    go : (o : Option ℕ) → first_large r.tests ≡ o → o ≡ some m.0.0
    go none f = absurd (subst (λ (j : Ran). WalkedAs j work' y z B (Err m)) (judged-none r f) (subst (WalkedAs (judged r) work' y z B) e w))
    go (some l) f = ap some (sym (subst (λ (j : Ran). WalkedAs j work' y z B (Err m)) (judged-some r l f) (subst (WalkedAs (judged r) work' y z B) e w)))

-- ## A child more

abbrev pub role_at : Head → ℕ → Role
role_at hd j = get_or (roles hd) j plain

module _ {s : Bytes} {h : Seen} {here depth : ℕ} {hd : Head} {hs ks : List Head} (B : Base s h here depth hd hs ks)
    {env : Env} {y₀ : Report} {work : Bytes} {c : Next} {y : Report} {st : Accumulator} {j : ℕ} (L : Loop s depth here hd hs ks env y₀ work c y st j) where
  pub loop-inside : c.at ≤ length s
  loop-inside = lines-in L.lines

  pub loop-len : st.len ≤ 1024
  loop-len = omega (arith, L.state.len, place-small L.kept L.fine)

  module _ (lt : j < arity hd) where
    turn-split : drop j (roles hd) ≡ role_at hd j ∷ drop (suc j) (roles hd)
    unfolding arity
    turn-split = drop-cons (roles hd) j plain lt

    pub turn-first : First (at (placed (role_at hd j)) (depth - 1)) (map (wanted (depth - 1)) (drop (suc j) (roles hd))) L.heads ks
    turn-first =
        let d = depth - 1 in
        first-met (subst (λ (x : Want). Met (x ∷ map (wanted d) (drop (suc j) (roles hd))) L.heads ks) (wanted-at d (role_at hd j))
        (subst (λ (ps : List Role). Met (map (wanted d) ps) L.heads ks) turn-split L.met))

    turn-inner : Inner (wanted (depth - 1) (role_at hd j)) × AllIn (map (wanted (depth - 1)) (drop (suc j) (roles hd)))
    turn-inner = in-first (subst (λ (ps : List Role). AllIn (map (wanted (depth - 1)) ps)) turn-split L.inner)

    pub turn_in : 3 < rank (placed (role_at hd j))
    turn_in = subst Inner (wanted-at (depth - 1) (role_at hd j)) turn-inner.0

    pub turn-line : FirstLine s c.at turn-first.head turn-first.under (length s)
    turn-line = first-line (subst (λ (x : List Head). Lines s c.at x (length s)) turn-first.same L.lines)

    pub turn-read : (k : Seen) → KnownAs s c.at k → HeadIs s k turn-first.head × (k.next ≡ turn-line.next)
    turn-read k r = let x = r turn-first.head turn-line.next turn-line.line in (x.1, x.0)

    abbrev pub turn_any : (k : Seen) → KnownAs s c.at k → AnyAt s k c (depth - 1)
    turn_any k r =
        record {
          place = placed (role_at hd j);
          inside = turn_in;
          tree = record {
            head = turn-first.head;
            under = turn-first.under;
            rest = turn-first.behind;
            next = turn-line.next;
            line = turn-line.line;
            lines = turn-line.lines;
            met = turn-first.met;
            above = L.above;
            room = B.room;
          };
          is = (turn-read k r).0;
          next = (turn-read k r).1;
        }

    pub turn-ask : (b : Binds) (k : Seen) (r : KnownAs s c.at k) → EnvAs s b env → (part : Bytes) → 1024 * (depth + 40) ≤ length part + st.len → Counting y₀ (suc (length hs))
        → AnyAsk s b k c (depth - 1) part y
    turn-ask b k r u part room n =
        record {
          at = turn_any k r;
          env = env;
          bound = u;
          room = omega (arith, loop-len, base-pos B);
          count = record {
            fill = omega (arith, n.fill, L.adds.end, L.text, ap length turn-first.same);
            faults = omega (arith, n.faults, L.adds.count, L.few, ap length turn-first.same);
          };
        }

    -- its result
    abbrev pub turn_res : Res
    turn_res = result_of env c.line.0 turn-first.head turn-first.under

    turn-left : take (length (drop j (roles hd))) (walk env c.line.0 L.heads)
        ≡ turn_res ∷ take (length (drop (suc j) (roles hd))) (drop (arity turn-first.head) (walk env (suc c.line.0) turn-first.under))
    turn-left =
        ap (λ (ps : List Role). take (length ps) (walk env c.line.0 L.heads)) turn-split
        ∙ ap (λ (x : List Head). take (suc (length (drop (suc j) (roles hd)))) (walk env c.line.0 x)) turn-first.same
        ∙ walk_first env c.line.0 (length (drop (suc j) (roles hd))) turn-first.head turn-first.under

    turn_low : All (λ r. levels r.ty ≤ depth - 1)
        (turn_res ∷ take (length (drop (suc j) (roles hd))) (drop (arity turn-first.head) (walk env (suc c.line.0) turn-first.under)))
    turn_low = subst (All (λ r. levels r.ty ≤ depth - 1)) turn-left L.low_kids

    turn-same : kids here (typing_of (rule hd)) (start (typing_of (rule hd))) (roles hd) (take (arity hd) (walk env (suc here) hs))
        ≡ after L.faults (kids here (typing_of (rule hd)) L.kept (role_at hd j ∷ drop (suc j) (roles hd))
        (turn_res ∷ take (length (drop (suc j) (roles hd))) (drop (arity turn-first.head) (walk env (suc c.line.0) turn-first.under))))
    turn-same =
        L.same
        ∙ ap (λ (rs : List Res). after L.faults (kids here (typing_of (rule hd)) L.kept (drop j (roles hd)) rs)) turn-left
        ∙ ap (λ (ps : List Role). after L.faults (kids here (typing_of (rule hd)) L.kept ps
        (turn_res ∷ take (length (drop (suc j) (roles hd))) (drop (arity turn-first.head) (walk env (suc c.line.0) turn-first.under))))) turn-split

    -- the child was too large
    pub turn-halted : (l : ℕ) → first_large turn_res.tests ≡ some l → judged (result_of env here hd hs) ≡ halted l
    turn-halted l e =
        base-stopped B env l (turn-same ∙ ap (after L.faults) (kids-halted here (typing_of (rule hd)) L.kept (role_at hd j) (drop (suc j) (roles hd)) turn_res _ l e))

    -- what is kept is too large
    pub turn-large : first_large turn_res.tests ≡ none → child (typing_of (rule hd)) (role_at hd j) L.kept turn_res.name turn_res.ty ≡ none → judged (result_of env here hd hs) ≡ halted here
    turn-large e d =
        base-stopped B env here (turn-same ∙ ap (after L.faults) (kids-large here (typing_of (rule hd)) L.kept (role_at hd j) (drop (suc j) (roles hd)) turn_res _ e d))

    pub turn-fine : first_large turn_res.tests ≡ none → Fine turn_res.ty
    turn-fine e = let f = result-fine env c.line.0 turn-first.head turn-first.under in record { regular = regular-true turn_res.ty f.0; small = f.1 e }

    pub turn_level : levels turn_res.ty ≤ depth - 1
    turn_level = all_first turn_low

    -- the name that an entry has
    pub turn-name : typing_of (rule hd) ≡ mapping → turn-first.head.name ≡ turn_res.name
    unfolding rank
    turn-name e =
        let n = c.line.0 in
        let f = turn-first.head in
        let a : KidsOf mapping (roles hd) = subst (λ (q : Typing). KidsOf q (roles hd)) e (kids-at hd (typing_of (rule hd)) (base-typed B)) in
        let p : role_at hd j ≡ inner entry_place = all_first (subst (All (λ x. x ≡ inner entry_place)) turn-split (all_drop j a)) in
        let k : rule f ≡ entering = entering-at f (met-rank turn-first.met ∙ ap (λ (x : Role). rank (placed x)) p) in
        let o = one_only (take (arity f) (walk env (suc n) turn-first.under)) (kids-many turn_in turn-first.met env (suc n) ∙ entry-arity f k) in
        sym (ap (λ (x : List Res). (step env n f x).name) o.1 ∙ (entering-run env n f k o.0).0)

    -- a child more is kept
    pub turn_on : (i : Kept) (c' : Next) (y' y'' : Report) (work'' : Bytes) (st'' : Accumulator) → first_large turn_res.tests ≡ none
        → Behind env s c.line.0 turn-first.head turn-first.under turn-first.behind c'
        → Adds turn_res.faults y y' → Adds (asked (role_at hd j) turn_res.ty) y' y''
        → child (typing_of (rule hd)) (role_at hd j) L.kept turn_res.name turn_res.ty ≡ some i
        → StAs i work'' st'' → FineKept i
        → Loop s depth here hd hs ks env y₀ work'' c' y'' st'' (suc j)
    turn_on i c' y' y'' work'' st'' e b a₁ a₂ d w f =
        let q = typing_of (rule hd) in
        let p = role_at hd j in
        let gs = turn_res.faults ++ asked p turn_res.ty in
        let t = tree-faults env c.line.0 turn-first.head turn-first.under turn-first.behind (at (placed p) (depth - 1)) turn_in turn-first.met in
        let la = ap length turn-first.same in
        let fl = faults-short (asked p turn_res.ty) in
        let af = asked-few p turn_res.ty in
        record {
          heads = turn-first.behind;
          kept = i;
          faults = L.faults ++ gs;
          upto = lt;
          lines = b.lines;
          met = turn-first.rest;
          inner = turn-inner.1;
          count = omega (arith, b.count, L.count, la);
          above = b.above;
          same = turn-same
              ∙ ap (after L.faults) (kids-on here q L.kept p (drop (suc j) (roles hd)) turn_res (take (length (drop (suc j) (roles hd))) (drop (arity turn-first.head) (walk env (suc c.line.0) turn-first.under))) i e d
              ∙ ap (λ (x : List Res). after gs (kids here q i (drop (suc j) (roles hd)) (take (length (drop (suc j) (roles hd))) x))) b.walked)
              ∙ after_two L.faults gs (kids here q i (drop (suc j) (roles hd)) (take (length (drop (suc j) (roles hd))) (walk env c'.line.0 turn-first.behind)));
          low_kids = subst (λ (x : List Res). All (λ r. levels r.ty ≤ depth - 1) (take (length (drop (suc j) (roles hd))) x)) b.walked (all_rest turn_low);
          state = w;
          fine = f;
          form = if_kept (Form q (suc j)) (child q p L.kept turn_res.name turn_res.ty) i (form-step q p j L.kept turn_res.name turn_res.ty L.form) d;
          low = if_kept (LowKept (depth - 1)) (child q p L.kept turn_res.name turn_res.ty) i (low_step (depth - 1) q p L.kept turn_res.name turn_res.ty L.low turn_level) d;
          adds = adds_then L.adds (adds_then a₁ a₂);
          text = omega (arith, L.text, t.0, la, fl, af, text-long L.faults gs, text-long turn_res.faults (asked p turn_res.ty));
          few = omega (arith, L.few, t.1, la, af, length-append L.faults gs, length-append turn_res.faults (asked p turn_res.ty));
        }

    pub turn-countable : (y' : Report) → Adds turn_res.faults y y' → Counting y₀ (suc (length hs)) → Countable y'
    turn-countable y' a n =
        let t = tree-faults env c.line.0 turn-first.head turn-first.under turn-first.behind (at (placed (role_at hd j)) (depth - 1)) turn_in turn-first.met in
        let la = ap length turn-first.same in
        record { fill = omega (arith, n.fill, L.adds.end, L.text, a.end, t.0, la); faults = omega (arith, n.faults, L.adds.count, L.few, a.count, t.1, la) }
