-- Laws for a walk over an accepted sheet. Assumes nothing.
use mathlib.Core.Path.{◌≡◌, refl, sym, ◌∙◌, ap, subst}
use mathlib.Core.List.{List, [], ◌∷◌, ◌++◌, append_assoc, append-nil, map}
use mathlib.Core.Option.{Option, none, some}
use mathlib.Core.Bool.{Bool, true, false, ◌&&◌}
use Prim.Native.Nat.{ℕ, suc, ◌+◌, ◌≤◌, ◌<◌}
use native.Mathlib.Omega.{arith}
use lib.Dec.{eqb, ltb}
use lib.ListN.{length, drop, length-drop, length-append}
use borrow.Author.Tests.{eqb-true, ltb-true}
use lib.Seq.{drop-drop}
use Rattle.semantics.specs.Bytes.{Bytes, front, split}
use Rattle.semantics.specs.Sheet.{kids, Word, Place, projection_place, set_item_place, remove_item_place, label_place, parts_place, part_place, element_place, entry_place, item_place, expression_place, Role, plain, condition, answer, inner, present, arm_roles, deeper, Head, variable_of, rank, place, row, Read, bad, ok, and_then, Field, variable, letter, Value, wrong, number, variable_v, value, into, fill, bare, words, word_in, Want, first, clauses, bindings, at, wanted, fits, beyond, under, after, roles, arity, read_line, Sheet, refused, heads, add, check, sheet}
use Rattle.semantics.specs.Walk.{Env, walk}
use Rattle.semantics.proofs.All.{All, empty, also}
use Rattle.semantics.proofs.Words.{holds, named, each, kids-each}
use Rattle.semantics.proofs.Split.{split-inj}
use Rattle.line.specs.Line.{Plain, unknown, known, word_says, pieces_say, line_says, placed}
use Rattle.line.proofs.ReadLaws.{placed-line, fill-word}
use Rattle.line.proofs.LineLaws.{split-some}
use Rattle.line.proofs.KnownLaws.{bind-fields}
use Rattle.line.proofs.FillLaws.{Says, says, faulty, a_letter, a_variable, value-at}
use Rattle.hir.specs.Run.{Run, stopped, passed, before, carry_on, at_end, run, add_all, finish}
use Rattle.hir.proofs.RunLaws.{check-run}
use Rattle.hir.proofs.CheckLaws.{after_none}
use Rattle.hir.specs.Lines.{LineAt, Lines, no_line, a_line, Met, all_met, meets}

-- ## Where the next line starts

abbrev pub Next : Bytes → Bytes → List Bytes → Type 0
Next t l ms = (split 10 (drop (suc (length l)) t) ≡ ms) × (suc (length l) ≤ length t)

pub front-some : (x : ℕ) (ps : List Bytes) (l m : Bytes) (ms : List Bytes) → 0 < length ps → front x ps ≡ l ∷ m ∷ ms → (p : Bytes) × (ps ≡ p ∷ m ∷ ms) × (l ≡ x ∷ p)
unfolding front
front-some x [] l m ms h e = absurd (omega arith)
front-some x (p ∷ ps) l m ms h e = (p, cc, cc)

pub next-line : (t l m : Bytes) (ms : List Bytes) → split 10 t ≡ l ∷ m ∷ ms → Next t l (m ∷ ms)
unfolding split
next-line [] l m ms e = absurd (let z : ◌≡◌ {A = ℕ} 1 (suc (suc (length ms))) = ap length e in omega arith)
next-line (x ∷ t) l m ms e = go (next-line t) (eqb x 10) e
  where
    go : ((l m : Bytes) (ms : List Bytes) → split 10 t ≡ l ∷ m ∷ ms → Next t l (m ∷ ms)) → (b : Bool) → elim b [ true ↦ [] ∷ split 10 t | false ↦ front x (split 10 t) ] ≡ l ∷ m ∷ ms → Next (x ∷ t) l (m ∷ ms)
    go ih true e =
        let n : [] ≡ l = cc in
        let d : split 10 t ≡ m ∷ ms = cc in
        rw (← n) (d, omega arith)
    go ih false e =
        let f = front-some x (split 10 t) l m ms (split-some 10 t) e in
        let n = ih f.0 m ms f.1 in
        rw f.2 (n.0, omega (arith, n.1))

-- of a sheet's lines
pub line-next : (s : Bytes) (p : ℕ) (l m : Bytes) (ms : List Bytes) → p ≤ length s → split 10 (drop p s) ≡ l ∷ m ∷ ms
    → (q : ℕ) × (split 10 (drop q s) ≡ m ∷ ms) × (p < q) × (q ≤ length s)
line-next s p l m ms h e =
    let n = next-line (drop p s) l m ms e in
    (p + suc (length l), ap (split 10) (sym (drop-drop (suc (length l)) p s)) ∙ n.0, omega arith, omega (arith, n.1, length-drop p s))

-- ## A line that is read says its head

no_ok : (c : ℕ) (h : Head) → bad c ≡ ok h → ⊥
no_ok c h e = let z : ◌≡◌ {A = ℕ} 0 1 = cc in omega arith

-- the fields that the head was read from
said-fill : (l : Bytes) (v : Word) (h : Head) → line_says l ≡ known v (ok h) → (fs : List Bytes) × (fill (bare v) (row v).fields fs ≡ ok h)
unfolding line_says pieces_say word_says
said-fill l v h e = by-pieces (split 44 l) e
  where
    by_count : (u : Word) (fs : List Bytes) (b : Bool) → elim b [ true ↦ fill (bare u) (row u).fields fs | false ↦ bad 3 ] ≡ ok h → fill (bare u) (row u).fields fs ≡ ok h
    by_count u fs true d = d
    by_count u fs false d = absurd (no_ok 3 h d)

    by_word : (o : Option Word) (fs : List Bytes) → word_says o fs ≡ known v (ok h) → (gs : List Bytes) × (fill (bare v) (row v).fields gs ≡ ok h)
    by_word none fs d = absurd (let z : ◌≡◌ {A = ℕ} 0 1 = cc in omega arith)
    by_word (some u) fs d =
        let uv : u ≡ v = cc in
        let f : elim (eqb (length fs) (length (row u).fields)) [ true ↦ fill (bare u) (row u).fields fs | false ↦ bad 3 ] ≡ ok h = cc in
        (fs, rw uv at (by_count u fs (eqb (length fs) (length (row u).fields)) f))

    by-pieces : (ps : List Bytes) → pieces_say ps ≡ known v (ok h) → (gs : List Bytes) × (fill (bare v) (row v).fields gs ≡ ok h)
    by-pieces [] d = absurd (let z : ◌≡◌ {A = ℕ} 0 1 = cc in omega arith)
    by-pieces (x ∷ fs) d = by_word (word_in x words) fs d

said-word : (l : Bytes) (v : Word) (h : Head) → line_says l ≡ known v (ok h) → v ≡ h.word
said-word l v h e = let f = said-fill l v h e in fill-word v f.0 h f.1

beyond-same : (w : Want) (i h : Head) → beyond w i ≡ ok h → i ≡ h
unfolding beyond
beyond-same (first d) i h e = cc
beyond-same (clauses d) i h e = cc
beyond-same (bindings v d) i h e = go (eqb (rank (place i)) 1 && ltb (variable_of i) v) e
  where
    go : (b : Bool) → elim b [ true ↦ bad 3 | false ↦ ok i ] ≡ ok h → i ≡ h
    go true d = absurd (no_ok 3 h d)
    go false d = cc
beyond-same (at q k) i h e = go (eqb (rank q) 13 && eqb k 0) e
  where
    go : (b : Bool) → elim b [ true ↦ bad 5 | false ↦ ok i ] ≡ ok h → i ≡ h
    go true d = absurd (no_ok 5 h d)
    go false d = cc

-- a line that is read where it stands
pub record Told (w : Want) (l : Bytes) (h : Head) : Type 0 where
  pub says : line_says l ≡ known h.word (ok h)
  pub fits : fits w (rank (place h)) ≡ true
  pub beyond : beyond w h ≡ ok h

pub read_told : (w : Want) (l : Bytes) (h : Head) → read_line w l ≡ ok h → Told w l h
unfolding placed
read_told w l h e = by (line_says l) refl (sym (placed-line w l) ∙ e)
  where
    fine : (v : Word) (i : Head) → line_says l ≡ known v (ok i) → fits w (rank (row v).place) ≡ true → beyond w i ≡ ok h → Told w l h
    fine v i d f b =
        let ih : i ≡ h = beyond-same w i h b in
        let vi : v ≡ i.word = said-word l v i d in
        let vh : v ≡ h.word = vi ∙ ap (λ (x : Head). x.word) ih in
        record {
          says = d ∙ cc (ih, vh);
          fits = ap (λ (x : Word). fits w (rank (row x).place)) (sym vh) ∙ f;
          beyond = ap (beyond w) (sym ih) ∙ b;
        }

    by-fit : (v : Word) (r : Read) → line_says l ≡ known v r → (b : Bool) → fits w (rank (row v).place) ≡ b → elim b [ true ↦ and_then r (beyond w) | false ↦ bad 3 ] ≡ ok h → Told w l h
    by-fit v (bad c) d true f k = absurd (no_ok c h k)
    by-fit v (ok i) d true f k = fine v i d f k
    by-fit v r d false f k = absurd (no_ok 3 h k)

    by : (x : Plain) → line_says l ≡ x → placed w x ≡ ok h → Told w l h
    by unknown d k = absurd (no_ok 3 h k)
    by (known v r) d k = by-fit v r d (fits w (rank (row v).place)) refl k

-- ## Where the wants are met

no-pass : (c n : ℕ) (hs : List Head) (m : ℕ) (ms : List Bytes) → stopped c n ≡ passed hs m ms → ⊥
no-pass c n hs m ms e = let z : ◌≡◌ {A = ℕ} 0 1 = cc in omega arith

-- the heads read stand from p to q and meet the wants
pub record Passed (s : Bytes) (p : ℕ) (ws : List Want) (n : ℕ) (hs : List Head) (m : ℕ) (ms : List Bytes) : Type 0 where
  pub end : ℕ
  pub lines : Lines s p hs end
  pub left : split 10 (drop end s) ≡ ms
  pub inside : end ≤ length s
  pub met : Met ws hs []
  pub count : m ≡ n + length hs

before-passed : (h : Head) (r : Run) (hs : List Head) (m : ℕ) (ms : List Bytes) → before h r ≡ passed hs m ms → (ks : List Head) × (hs ≡ h ∷ ks) × (r ≡ passed ks m ms)
unfolding before
before-passed h (stopped c n) hs m ms e = absurd (no-pass c n hs m ms e)
before-passed h (passed ks n ls) hs m ms e = (ks, cc, cc)

here : (s : Bytes) (p n : ℕ) (ls : List Bytes) (hs : List Head) (m : ℕ) (ms : List Bytes) → p ≤ length s → split 10 (drop p s) ≡ ls → passed [] n ls ≡ passed hs m ms → Passed s p [] n hs m ms
here s p n ls hs m ms i d e =
    let z : [] ≡ hs = cc in
    let nm : n ≡ m = cc in
    let lm : ls ≡ ms = cc in
    rw (← z) (record { end = p; lines = no_line; left = d ∙ lm; inside = i; met = all_met; count = omega (arith, nm) })

pub passed_lines : (ls : List Bytes) (s : Bytes) (p : ℕ) (ws : List Want) (n : ℕ) (hs : List Head) (m : ℕ) (ms : List Bytes)
    → p ≤ length s → split 10 (drop p s) ≡ ls → run ws n ls ≡ passed hs m ms → Passed s p ws n hs m ms
unfolding run at_end carry_on
passed_lines [] s p [] n hs m ms i d e = here s p n [] hs m ms i d e
passed_lines [] s p (w ∷ ws) n hs m ms i d e = absurd (no-pass 3 n hs m ms e)
passed_lines (l ∷ []) s p [] n hs m ms i d e = here s p n (l ∷ []) hs m ms i d e
passed_lines (l ∷ []) s p (w ∷ ws) n hs m ms i d e = absurd (no-pass 3 n hs m ms e)
passed_lines (l ∷ l' ∷ ls) s p [] n hs m ms i d e = here s p n (l ∷ l' ∷ ls) hs m ms i d e
passed_lines (l ∷ l' ∷ ls) s p (w ∷ ws) n hs m ms i d e =
    go (λ q h ks iq dq eq. passed_lines (l' ∷ ls) s q (under w h ++ ws) (suc n) ks m ms iq dq eq) (read_line w l) refl e
  where
    go : ((q : ℕ) (h : Head) (ks : List Head) → q ≤ length s → split 10 (drop q s) ≡ l' ∷ ls → run (under w h ++ ws) (suc n) (l' ∷ ls) ≡ passed ks m ms
        → Passed s q (under w h ++ ws) (suc n) ks m ms)
        → (r : Read) → read_line w l ≡ r → carry_on n r (λ h. run (under w h ++ ws) (suc n) (l' ∷ ls)) ≡ passed hs m ms → Passed s p (w ∷ ws) n hs m ms
    go ih (bad c) f k = absurd (no-pass c n hs m ms k)
    go ih (ok h) f k =
        let b = before-passed h (run (under w h ++ ws) (suc n) (l' ∷ ls)) hs m ms k in
        let q = line-next s p l l' ls i d in
        let x = ih q.0 h b.0 q.3 q.1 b.2 in
        let t = read_told w l h f in
        let a : LineAt s p h q.0 = record { text = l; stands = d ∙ ap (λ (y : List Bytes). l ∷ y) (sym q.1); says = t.says; on = q.2; inside = q.3 } in
        rw b.1 (record { end = x.end; lines = a_line a x.lines; left = x.left; inside = x.inside; met = meets t.fits t.beyond x.met; count = omega (arith, x.count) })

-- ## The whole sheet

add-to : (ks : List Head) (q : Sheet) (hs : List Head) → add_all ks q ≡ heads hs → (js : List Head) × (q ≡ heads js) × (hs ≡ ks ++ js)
unfolding add_all add
add-to [] q hs e = (hs, e, refl)
add-to (k ∷ ks) q hs e = go (add-to ks q) (add_all ks q) refl e
  where
    go : ((is : List Head) → add_all ks q ≡ heads is → (js : List Head) × (q ≡ heads js) × (is ≡ ks ++ js)) → (r : Sheet) → add_all ks q ≡ r → add k r ≡ heads hs
        → (js : List Head) × (q ≡ heads js) × (hs ≡ (k ∷ ks) ++ js)
    go ih (refused c n) d f = absurd (let z : ◌≡◌ {A = ℕ} 0 1 = cc in omega arith)
    go ih (heads is) d f =
        let r = ih is d in
        let m : k ∷ is ≡ hs = cc in
        (r.0, r.1, sym m ∙ ap (λ (x : List Head). k ∷ x) r.2)

last : (ls : List Bytes) (n : ℕ) (js : List Head) → check [] n ls ≡ heads js → (ls ≡ [] ∷ []) × (js ≡ [])
unfolding check
last [] n js e = absurd (let z : ◌≡◌ {A = ℕ} 0 1 = cc in omega arith)
last ([] ∷ []) n js e = (refl, cc)
last ((c ∷ cs) ∷ []) n js e = absurd (let z : ◌≡◌ {A = ℕ} 0 1 = cc in omega arith)
last (l ∷ l' ∷ ls) n js e = absurd (let z : ◌≡◌ {A = ℕ} 0 1 = cc in omega arith)

pub finish-heads : (r : Run) (hs : List Head) → finish r ≡ heads hs → (n : ℕ) × (r ≡ passed hs n ([] ∷ []))
unfolding finish
finish-heads (stopped c n) hs e = absurd (let z : ◌≡◌ {A = ℕ} 0 1 = cc in omega arith)
finish-heads (passed ks n ls) hs e =
    let a = add-to ks (check [] n ls) hs e in
    let l = last ls n a.0 a.1 in
    (n, cc (l.0, a.2 ∙ ap (λ (x : List Head). ks ++ x) l.1 ∙ append-nil ks))

-- an accepted sheet: its heads stand in it from the start to the end, and meet what is wanted
pub sheet-lines : (d : ℕ) (s : Bytes) (hs : List Head) → sheet d s ≡ heads hs → Lines s 0 hs (length s) × Met (first d ∷ []) hs []
unfolding sheet split
sheet-lines d s hs e =
    let f = finish-heads (run (first d ∷ []) 1 (split 10 s)) hs (sym (check-run (split 10 s) (first d ∷ []) 1) ∙ e) in
    let p = passed_lines (split 10 s) s 0 (first d ∷ []) 1 hs f.0 ([] ∷ []) (omega arith) refl f.1 in
    let z : drop p.end s ≡ [] = split-inj 10 (drop p.end s) [] p.left in
    let q : p.end ≡ length s = omega (arith, p.inside, length-drop p.end s, ap length z) in
    (rw q at p.lines, p.met)

-- ## Trees

met-head : {w x : Want} {a : List Want} {hs ks : List Head} → w ≡ x → Met (w ∷ a) hs ks → Met (x ∷ a) hs ks
met-head {a = a} {hs = hs} {ks = ks} e m = subst (λ (y : Want). Met (y ∷ a) hs ks) e m

met-parts : {ws : List Want} {hs ks : List Head} → Met ws hs ks → (a b : List Want) → ws ≡ a ++ b → (js : List Head) × Met a hs js × Met b js ks
met-parts {hs = hs} all_met [] b e = (hs, all_met, rw (← e) all_met)
met-parts all_met (x ∷ a) b e = absurd (let z : ◌≡◌ {A = ℕ} 0 1 = cc in omega arith)
met-parts {hs = is} (meets f g m) [] b e = (is, all_met, rw (← e) (meets f g m))
met-parts (meets {w = w} {ws = ws} {h = h} f g m) (x ∷ a) b e =
    let wx : w ≡ x = cc in
    let r : ws ≡ a ++ b = cc in
    let p = met-parts m (under w h ++ a) b (ap (λ (y : List Want). under w h ++ y) r ∙ sym (append_assoc (under w h) a b)) in
    (p.0, met-head wx (meets f g p.1), p.2)

-- wants one after the other are met one after the other
pub met-split : (a b : List Want) (hs ks : List Head) → Met (a ++ b) hs ks → (js : List Head) × Met a hs js × Met b js ks
met-split a b hs ks m = met-parts m a b refl

-- a want inside a clause
abbrev pub Inner : Want → Type 0
Inner (first d) = ⊥
Inner (clauses d) = ⊥
Inner (bindings v d) = ⊥
Inner (at q d) = 3 < rank q

pub data AllIn : List Want → Type 0 where
  none_in : AllIn []
  one_in : {w : Want} {ws : List Want} → Inner w → AllIn ws → AllIn (w ∷ ws)

all_in : {a b : List Want} → AllIn a → AllIn b → AllIn (a ++ b)
all_in none_in y = y
all_in (one_in i x) y = one_in i (all_in x y)

-- a role whose want is inside a clause
abbrev Good : Role → Type 0
Good p = (d : ℕ) → Inner (wanted d p)

good_role : Role → Bool
good_role plain = true
good_role condition = true
good_role answer = true
good_role (inner q) = ltb 3 (rank q)

good-true : (p : Role) → good_role p ≡ true → Good p
unfolding good_role rank
good-true plain e d = omega arith
good-true condition e d = omega arith
good-true answer e d = omega arith
good-true (inner q) e d = ltb-true 3 (rank q) e

roles-in : (v : Word) (ns : List ℕ) → All Good (kids (row v).under ns)
unfolding good_role each row rank
roles-in v ns = kids-each good_role good-true (row v).under (holds (λ (v : Word). each good_role (named (row v).under)) refl v) ns

wants-in : {ps : List Role} (d : ℕ) → All Good ps → AllIn (map (wanted d) ps)
wants-in d empty = none_in
wants-in d (also i x) = one_in (i d) (wants-in d x)

-- a line inside a clause: nothing follows it but what hangs under it
inner-rank : (w : Want) (h : Head) → Inner w → fits w (rank (place h)) ≡ true → 3 < rank (place h)
unfolding fits
inner-rank (at q d) h i e = omega (arith, eqb-true (rank (place h)) (rank q) e)
inner-rank (first _) h i e = elim i [ ]
inner-rank (clauses _) h i e = elim i [ ]
inner-rank (bindings _ _) h i e = elim i [ ]

pub inner-under : (w : Want) (h : Head) → Inner w → fits w (rank (place h)) ≡ true → (under w h ≡ map (wanted (deeper w)) (roles h)) × AllIn (under w h)
unfolding under roles
inner-under w h i e =
    let u : under w h ≡ map (wanted (deeper w)) (roles h) = ap (λ (x : List Want). map (wanted (deeper w)) (roles h) ++ x) (after_none (deeper w) h (inner-rank w h i e)) ∙ append-nil (map (wanted (deeper w)) (roles h)) in
    (u, rw u (wants-in (deeper w) (roles-in h.word h.nums)))

length-map' : (f : Role → Want) (ps : List Role) → length (map f ps) ≡ length ps
length-map' f [] = refl
length-map' f (p ∷ ps) = ap suc (length-map' f ps)

-- the results after the trees that meet some wants are the results of what they leave: where a whole tree ends
pub met-walk : {ws : List Want} {hs ks : List Head} → AllIn ws → Met ws hs ks → (env : Env) (n : ℕ)
    → (m : ℕ) × (length hs ≡ m + length ks) × (drop (length ws) (walk env n hs) ≡ walk env (n + m) ks)
unfolding walk arity
met-walk {hs = hs} i all_met env n = let z : n ≡ n + 0 = omega arith in (0, omega arith, ap (λ (x : ℕ). walk env x hs) z)
met-walk {ks = ks} (one_in i is) (meets {w = w} {ws = ws} {h = h} {hs = hs} f g m) env n =
    let u = inner-under w h i f in
    let r = met-walk (all_in u.1 is) m env (suc n) in
    let l : length (under w h ++ ws) ≡ arity h + length ws = omega (arith, length-append (under w h) ws, ap length u.0, length-map' (wanted (deeper w)) (roles h)) in
    let nm : suc n + r.0 ≡ n + suc r.0 = omega arith in
    (suc r.0, omega (arith, r.1), drop-drop (length ws) (arity h) (walk env (suc n) hs) ∙ ap (λ (x : ℕ). drop x (walk env (suc n) hs)) (sym l) ∙ r.2 ∙ ap (λ (x : ℕ). walk env x ks) nm)

-- ## A binding has a variable

letter-var : (k h : Head) (xs : List Bytes) → fill k (letter ∷ []) xs ≡ ok h → h.var ≡ k.var
unfolding fill
letter-var k h [] e = absurd (no_ok 3 h e)
letter-var k h (x ∷ xs) e = go (value letter k.nums x) (rw (value-at letter k.nums x) (says letter _ x)) xs e
  where
    go : (v : Value) → Says letter x v → (xs : List Bytes) → into k v (λ i. fill i [] xs) ≡ ok h → h.var ≡ k.var
    go (wrong c) (faulty p) xs d = absurd (no_ok c h d)
    go (number n) (a_letter p) [] d = let q : record { word = k.word; var = k.var; nums = k.nums ++ (n ∷ []); name = k.name } ≡ h = cc in ap (λ (y : Head). y.var) (sym q)
    go (number n) (a_letter p) (y ∷ ys) d = absurd (no_ok 3 h d)
    go (variable_v _) x5 xs d = elim x5 [ ]
    go (Rattle.semantics.specs.Sheet.name_v _) x6 xs d = elim x6 [ ]
    go (Rattle.semantics.specs.Sheet.alias_v _) x7 xs d = elim x7 [ ]

variable-var : (k h : Head) (xs : List Bytes) → fill k (variable ∷ letter ∷ []) xs ≡ ok h → (v : ℕ) × (h.var ≡ some v)
unfolding fill
variable-var k h [] e = absurd (no_ok 3 h e)
variable-var k h (x ∷ xs) e = go (value variable k.nums x) (rw (value-at variable k.nums x) (says variable _ x)) e
  where
    go : (v : Value) → Says variable x v → into k v (λ i. fill i (letter ∷ []) xs) ≡ ok h → (u : ℕ) × (h.var ≡ some u)
    go (wrong c) (faulty p) d = absurd (no_ok c h d)
    go (variable_v (some u)) (a_variable p) d = (u, letter-var _ h xs d)
    go (number _) x5 d = elim x5 [ ]
    go (variable_v none) x7 d = elim x7 [ ]
    go (Rattle.semantics.specs.Sheet.name_v _) x7 d = elim x7 [ ]
    go (Rattle.semantics.specs.Sheet.alias_v _) x8 d = elim x8 [ ]

pub bind-var : (s : Bytes) (p q : ℕ) (h : Head) → LineAt s p h q → rank (place h) ≡ 1 → (v : ℕ) × (h.var ≡ some v)
bind-var s p q h a e =
    let f = said-fill a.text h.word h a.says in
    variable-var (bare h.word) h f.0 (rw (bind-fields h.word e) at f.1)
