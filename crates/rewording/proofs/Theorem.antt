-- Demand 3, proved: the claims of specs/Reword.antt.
use mathlib.Core.Path.{◌≡◌, refl, sym, ◌∙◌, ap}
use mathlib.Core.List.{List, [], ◌∷◌, ◌++◌, map as map_l, Memᴰ}
use mathlib.Core.Bool.{Bool, true, false}
use mathlib.Core.Logic.{inl, inr}
use mathlib.Core.Option.{Option, none, some}
use Prim.Native.Nat.{ℕ, ◌+◌, ◌*◌}
use native.Mathlib.Omega.{arith}
use lib.ListN.{length, take, drop, length-append}
use lib.Seq.{take-append_seam}
use lib.Dec.{eqb, ltb}
use Rattle.semantics.specs.Limits.{sheet_limit, depth_limit, work_size}
use Rattle.semantics.specs.Bytes.{Bytes}
use Rattle.semantics.specs.Sheet.{bin_word, case_word, map_word, key_word, Head, num, row, rank, place, low, Sheet, refused, heads, sheet}
use Rattle.semantics.specs.Walk.{Fault, Top, Env, env_of, bound, bound_by, results, all_tops, typing}
use Rattle.semantics.specs.Calls.{top_line, report, Outcome, refusal, accepted, limited, judged, outcome, settled, sheet_call, Settled, untouched, cleared, answered}
use Rattle.semantics.proofs.All.{All, empty, also}
use Rattle.semantics.proofs.Causes.{FineSheet, sheet-fine}
use Rattle.semantics.proofs.RegularWalk.{RegularTop, typing-regular}
use Rattle.rewording.specs.Reword.{mk, Line, Keep, reworded, renumber, Exchange, operands, arms, entries, Reword, Chain, here, link, Reports, type_lines, pieces, Each, no_more, more, Agree, CanonicalLine, DemandThree, Alike, same_line, other}
use Rattle.rewording.proofs.Congruence.{each-refl, each_append, Rel, Respects, TopLike, Same, same_ok, eq-ok, all-tops, Alike as WalkAlike, walk_after, exchange-like}
use Rattle.rewording.proofs.Unread.{results-alike}
use Rattle.rewording.proofs.Renumber.{renumber-agrees}
use Rattle.rewording.proofs.Operands.{operands-like}
use Rattle.rewording.proofs.Exchanges.{case-arity, case_step, map-arity, entries-step, key-whole, entries-whole}
use Rattle.rewording.proofs.Unions.{unions-canonical}
use Rattle.rewording.proofs.Lines.{report-types, reports-agree}

-- ## One rewording of a whole sheet

tops-refl : {S : Rel} → Respects S → (ts : List Top) → Each (TopLike S) ts ts
tops-refl ok ts = each-refl (λ t. record { ty = refl; faults = ok.self t.faults }) ts

bound-front : (pre : List Head) (x y : List Head) → bound x ≡ bound y → bound (pre ++ x) ≡ bound (pre ++ y)
unfolding bound
bound-front [] x y e = e
bound-front (h ∷ pre) x y e = ap (bound_by (rank (place h)) h.var (num h 0)) (bound-front pre x y e)

typing-like : {S : Rel} (ok : Respects S) (pre x y : List Head) → bound x ≡ bound y → ((env : Env) → WalkAlike ok env x y) → Each (TopLike S) (typing (pre ++ x)) (typing (pre ++ y))
unfolding typing results
typing-like ok pre x y e f = rw (bound-front pre x y e) (all-tops ok (walk_after ok (env_of (pre ++ y)) pre x y (f (env_of (pre ++ y))) 1 1))

one_line : {h k : Head} → Line h k → (pre post : List Head) → Each Alike (pre ++ (h ∷ post)) (pre ++ (k ∷ post))
one_line l pre post = each_append (each-refl (λ h. same_line) pre) (more (other l) (each-refl (λ h. same_line) post))

keep-agrees : {S : Rel} (ok : Respects S) {hs ks : List Head} → Keep hs ks → Each (TopLike S) (typing hs) (typing ks)
keep-agrees ok (reworded pre post {h} {k} l) =
    let e : typing (pre ++ (h ∷ post)) ≡ typing (pre ++ (k ∷ post)) = unfold typing in (ap all_tops (results-alike (one_line l pre post))) in
    rw e (tops-refl ok (typing (pre ++ (k ∷ post))))
keep-agrees ok (renumber f bs body e inj) = renumber-agrees ok f bs body e inj

exchange-agrees : {hs ks : List Head} → Exchange hs ks → Each (TopLike Same) (typing hs) (typing ks)
unfolding bound bound_by row rank
exchange-agrees (operands pre post x y ns u v) =
    typing-like same_ok pre (mk bin_word none ns [] ∷ (x ++ (y ++ post))) (mk bin_word none ns [] ∷ (y ++ (x ++ post))) refl (λ env. operands-like env ns x y post u v)
exchange-agrees (arms pre post s x m y f c i j u v w t le) =
    let h = mk case_word none (f ∷ c ∷ []) [] in
    typing-like same_ok pre (h ∷ (s ++ (x ++ (m ++ (y ++ post))))) (h ∷ (s ++ (y ++ (m ++ (x ++ post))))) refl
    (λ env. exchange-like env h s x m y post (low f + 2 * i) 2 (2 * j) 2 u v w t (case-arity f c i j le) (case_step env f c i j s x m y u v w t le))
exchange-agrees (entries pre post s x m y e a b ns ms es c u v w t r d ec) =
    let h = mk map_word none (c ∷ []) [] in
    let X = mk key_word none [] a ∷ x in
    let Y = mk key_word none [] b ∷ y in
    let p : c ≡ length ns + (1 + (length ms + (1 + length es))) = ec ∙ simp length-append (omega arith) in
    typing-like same_ok pre (h ∷ (s ++ (X ++ (m ++ (Y ++ (e ++ post)))))) (h ∷ (s ++ (Y ++ (m ++ (X ++ (e ++ post)))))) refl
    (λ env. exchange-like env h s X m Y (e ++ post) (length ns) 1 (length ms) 1 (entries-whole u) (key-whole a v) (entries-whole w) (key-whole b t)
    (map-arity c (length ns) (length ms) (length es) p) (entries-step env a b c s x m y ns ms es u v w t d p))

reword-agrees : (hs ks : List Head) → Reword hs ks → Each (TopLike Same) (typing hs) (typing ks)
reword-agrees hs ks (inl k) = keep-agrees same_ok k
reword-agrees hs ks (inr x) = exchange-agrees x

-- ## A list of them

each-trans : {S : Rel} → ((a b c : List Fault) → S a b → S b c → S a c) → {xs ys zs : List Top} → Each (TopLike S) xs ys → Each (TopLike S) ys zs → Each (TopLike S) xs zs
each-trans tr no_more no_more = no_more
each-trans tr (more p ps) (more q qs) = more (record { ty = p.ty ∙ q.ty; faults = tr _ _ _ p.faults q.faults }) (each-trans tr ps qs)

chain-agrees : {S : Rel} (ok : Respects S) → ((a b c : List Fault) → S a b → S b c → S a c) → {X : List Head → List Head → Type 0}
    → ((hs ks : List Head) → X hs ks → Each (TopLike S) (typing hs) (typing ks))
    → {s t : Bytes} → Chain X s t → (hs ks : List Head) → sheet depth_limit s ≡ heads hs → sheet depth_limit t ≡ heads ks → Each (TopLike S) (typing hs) (typing ks)
chain-agrees ok tr f (here s) hs ks p q = let e : hs ≡ ks = cc in rw e (tops-refl ok (typing ks))
chain-agrees ok tr f (link {hs = hs'} {ks = ks'} a b x c) hs ks p q =
    let e : hs ≡ hs' = cc in
    rw e (each-trans tr (f hs' ks' x) (chain-agrees ok tr f c ks' ks b q))

-- ## The reports

-- the report of a sheet that was read
limited-tops : (hs : List Head) (o : Option ℕ) (ts : List Top) → limited o hs ≡ accepted ts → ts ≡ typing hs
unfolding limited
limited-tops hs none ts e = let f : accepted (typing hs) ≡ accepted ts = e in cc
limited-tops hs (some n) ts e = let f : refusal 6 n ≡ accepted ts = e in cc

accepted-tops : (s : Bytes) (ts : List Top) → outcome s ≡ accepted ts → (hs : List Head) × (sheet depth_limit s ≡ heads hs) × (ts ≡ typing hs)
unfolding outcome
accepted-tops s ts e = go (sheet depth_limit s) refl e
  where
    go : (q : Sheet) → sheet depth_limit s ≡ q → judged q ≡ accepted ts → (hs : List Head) × (sheet depth_limit s ≡ heads hs) × (ts ≡ typing hs)
    go (refused c n) p e = unfold judged in (let f : refusal c n ≡ accepted ts = e in let z : ◌≡◌ {A = ℕ} 0 1 = cc in absurd (omega arith))
    go (heads hs) p e = (hs, p, unfold judged in limited-tops hs _ ts e)

-- the top expressions that an accepted sheet's report tells
pub record Shown (s x : Bytes) : Type 0 where
  pub tops : List Top
  pub outcome : outcome s ≡ accepted tops
  pub text : x ≡ report tops

accepted-is : (s x : Bytes) → Shown s x → (hs : List Head) × (sheet depth_limit s ≡ heads hs) × (x ≡ report (typing hs))
accepted-is s x w = let (hs, p, e) = accepted-tops s w.tops w.outcome in (hs, p, w.text ∙ ap report e)

-- no refusal has the number 0
limited-cause : (o : Option ℕ) (hs : List Head) (c n : ℕ) → limited o hs ≡ refusal c n → c ≡ 0 → ⊥
unfolding limited
limited-cause none hs c n e z = let f : accepted (typing hs) ≡ refusal c n = e in let y : ◌≡◌ {A = ℕ} 0 1 = cc in omega arith
limited-cause (some m) hs c n e z = let f : refusal 6 m ≡ refusal c n = e in let y : 6 ≡ c = cc in omega arith

outcome-cause : (s : Bytes) (c n : ℕ) → outcome s ≡ refusal c n → c ≡ 0 → ⊥
unfolding outcome
outcome-cause s c n e z = go (sheet depth_limit s) (sheet-fine depth_limit s) e
  where
    go : (q : Sheet) → FineSheet q → judged q ≡ refusal c n → ⊥
    go (refused d m) h e = unfold judged in (let f : refusal d m ≡ refusal c n = e in let y : d ≡ c = cc in omega (arith, h.0))
    go (heads hs) h e = unfold judged in limited-cause _ hs c n e z

-- how the sheet call comes to its answer
sheet-too-long : (s work out : Bytes) → ltb sheet_limit (length s) ≡ true → sheet_call s work out ≡ untouched 1 work out
unfolding sheet_call
sheet-too-long s work out p = rw (p, sheet_call)

work-wrong : (s work out : Bytes) → ltb sheet_limit (length s) ≡ false → eqb (length work) work_size ≡ false → sheet_call s work out ≡ untouched 2 work out
unfolding sheet_call
work-wrong s work out p q = rw (p, q, sheet_call)

called : (s work out : Bytes) (o : Outcome) → ltb sheet_limit (length s) ≡ false → eqb (length work) work_size ≡ true → outcome s ≡ o → sheet_call s work out ≡ settled o work out
unfolding sheet_call
called s work out o p q e = rw (p, q, sheet_call) (ap (λ z. settled z work out) e)

too_short : (ts : List Top) (work out : Bytes) → ltb (length out) (length (report ts)) ≡ true → settled (accepted ts) work out ≡ cleared 7 0 work out
unfolding settled
too_short ts work out p = rw (p, settled)

long-enough : (ts : List Top) (work out : Bytes) → ltb (length out) (length (report ts)) ≡ false → settled (accepted ts) work out ≡ answered (report ts) work out
unfolding settled
long-enough ts work out p = rw (p, settled)

-- what an accepted call shows of its outcome
shows : (s x work out : Bytes) (o : Outcome) (c : Settled) → outcome s ≡ o → c ≡ settled o work out → c.number ≡ 0 → x ≡ take c.first c.out → Shown s x
shows s x work out (refusal d m) c e k n t =
    let f : settled (refusal d m) work out ≡ cleared d m work out = unfold settled in refl in
    let z : d ≡ 0 = sym (ap (λ (y : Settled). y.number) (k ∙ f)) ∙ n in
    absurd (outcome-cause s d m e z)
shows s x work out (accepted ts) c e k n t = go (ltb (length out) (length (report ts))) refl
  where
    go : (b : Bool) → ltb (length out) (length (report ts)) ≡ b → Shown s x
    go true p = let z : ◌≡◌ {A = ℕ} 7 0 = sym (ap (λ (w : Settled). w.number) (k ∙ too_short ts work out p)) ∙ n in absurd (omega arith)
    go false p =
        let f : c ≡ answered (report ts) work out = k ∙ long-enough ts work out p in
        record {
          tops = ts;
          outcome = e;
          text = t ∙ ap (λ (w : Settled). take w.first w.out) f ∙ take-append_seam (report ts) (drop (length (report ts)) out);
        }

pub reports-outcome : {s x : Bytes} → Reports s x → Shown s x
reports-outcome {s} {x} r = go r.work r.out (ltb sheet_limit (length s)) (eqb (length r.work) work_size) refl refl r.accepts r.text
  where
    go : (work out : Bytes) (a b : Bool) → ltb sheet_limit (length s) ≡ a → eqb (length work) work_size ≡ b
        → (sheet_call s work out).number ≡ 0 → x ≡ take (sheet_call s work out).first (sheet_call s work out).out → Shown s x
    go work out true b p q n t = let z : ◌≡◌ {A = ℕ} 1 0 = sym (ap (λ (w : Settled). w.number) (sheet-too-long s work out p)) ∙ n in absurd (omega arith)
    go work out false false p q n t = let z : ◌≡◌ {A = ℕ} 2 0 = sym (ap (λ (w : Settled). w.number) (work-wrong s work out p q)) ∙ n in absurd (omega arith)
    go work out false true p q n t = shows s x work out (outcome s) (sheet_call s work out) refl (called s work out (outcome s) p q refl) n t

-- ## The claims

top-canonical : {ts : List Top} → All RegularTop ts → (l : Bytes) → Memᴰ l (map_l (λ (t : Top). top_line t.ty) ts) → CanonicalLine l
top-canonical empty l i = elim i [ ]
top-canonical (also {x = t} p ps) l (Memᴰ.head e) = record { ty = t.ty; is = e; unions = λ us w. unions-canonical t.ty us w p }
top-canonical (also p ps) l (Memᴰ.tail i) = top-canonical ps l i

union-claim : {s x : Bytes} → Reports s x → (l : Bytes) → Memᴰ l (type_lines (pieces x)) → CanonicalLine l
union-claim {s} {x} r l i =
    let (hs, a, e) = accepted-is s x (reports-outcome r) in
    let f : type_lines (pieces x) ≡ map_l (λ (t : Top). top_line t.ty) (typing hs) = ap (λ (z : Bytes). type_lines (pieces z)) e ∙ report-types (typing hs) in
    top-canonical (typing-regular hs) l (rw f at i)

agree-claim : {s t x y : Bytes} → Chain Reword s t → Reports s x → Reports t y → Agree x y
agree-claim {s} {t} {x} {y} c p q =
    let (hs, a, e) = accepted-is s x (reports-outcome p) in
    let (ks, b, f) = accepted-is t y (reports-outcome q) in
    rw (e, f) (reports-agree (chain-agrees same_ok (λ a b c u v t. u t ∙ v t) reword-agrees c hs ks a b))

tops-eq : {ts us : List Top} → Each (TopLike (◌≡◌ {A = List Fault})) ts us → ts ≡ us
tops-eq no_more = refl
tops-eq (more {x = t} {y = u} p ps) = let e : t ≡ u = λ i. record { faults = p.faults i; ty = p.ty i } in let f = tops-eq ps in cc

equal-claim : {s t x y : Bytes} → Chain Keep s t → Reports s x → Reports t y → x ≡ y
equal-claim {s} {t} {x} {y} c p q =
    let (hs, a, e) = accepted-is s x (reports-outcome p) in
    let (ks, b, f) = accepted-is t y (reports-outcome q) in
    e ∙ ap report (tops-eq (chain-agrees eq-ok (λ a b c u v. u ∙ v) (λ hs ks k. keep-agrees eq-ok k) c hs ks a b)) ∙ sym f

pub demand-three : DemandThree
demand-three = record { agree = agree-claim; equal = equal-claim; unions = union-claim }
